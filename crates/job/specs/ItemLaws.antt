-- The items that fields are, one at a time.
use Rattle.std.specs.Prelude.{ℕ, zero, suc, ◌+◌, ◌*◌, ◌/◌, ◌<◌, ◌≤◌, ◌≡◌, refl, List, [], ◌∷◌, length, get_or, drop}
use Rattle.std.proofs.Common.{arith, sym, ap, ◌∙◌}
use Rattle.std.proofs.lemmas.List.{drop_more, length-drop}
use Rattle.rules.specs.declared.Item.{Item}
use Rattle.rules.specs.Sense.{sense_of}
use Rattle.rules.specs.Fields.{le32, fields_in, field}
use Rattle.rules.specs.Job.{items_of, item_at}
use Rattle.rules.proofs.FieldLaws.{field_in}
use Rattle.job.specs.Lists.{item_in}

-- the two fields of item k, then those after them
pub fields_two : (fs : List ℕ) (k : ℕ) → 2 * k + 1 < length fs → drop (2 * k) fs ≡ field fs (2 * k) ∷ field fs (2 * k + 1) ∷ drop (2 * (k + 1)) fs
fields_two fs k h =
    let on : 2 * k + 1 + 1 ≡ 2 * (k + 1) = omega arith in
    drop_more fs (2 * k) 0 (omega arith) ∙ ap {B = List ℕ} (λ l. field fs (2 * k) ∷ l) (drop_more fs (2 * k + 1) 0 h ∙ (λ t. field fs (2 * k + 1) ∷ drop (on t) fs))

-- item k, then those after it
pub items_more : (fs : List ℕ) (k : ℕ) → k < length fs / 2 → items_of (drop (2 * k) fs) ≡ item_in fs k ∷ items_of (drop (2 * (k + 1)) fs)
unfolding items_of item_in
items_more fs k h = ap items_of (fields_two fs k (omega arith))

-- a field alone makes no item
short : (fs : List ℕ) → length fs < 2 → items_of fs ≡ []
unfolding items_of
short [] h = refl
short (e ∷ []) h = refl
short (e ∷ s ∷ rest) h = absurd (omega arith)

pub items_none : (fs : List ℕ) (k : ℕ) → length fs / 2 ≤ k → items_of (drop (2 * k) fs) ≡ []
items_none fs k h = short (drop (2 * k) fs) (omega (arith, length-drop (2 * k) fs))

-- item k of those that fields are
pub items_at : (fs : List ℕ) (k : ℕ) (d : Item) → 2 * k + 1 < length fs → get_or (items_of fs) k d ≡ item_in fs k
unfolding items_of item_in
items_at [] k d h = absurd (omega arith)
items_at (e ∷ []) k d h = absurd (omega arith)
items_at (e ∷ s ∷ rest) zero d h = refl
items_at (e ∷ s ∷ rest) (suc k) d h =
    let a : 2 * suc k ≡ suc (suc (2 * k)) = omega arith in
    let b : 2 * suc k + 1 ≡ suc (suc (2 * k + 1)) = omega arith in
    items_at rest k d (omega arith) ∙ sym (λ i. record { edge = field (e ∷ s ∷ rest) (a i); sense = sense_of (field (e ∷ s ∷ rest) (b i)) })

-- item k of the fields from a byte on stands eight bytes after the one before
pub item_stands : (n : ℕ) (s : List ℕ) (p k : ℕ) → 2 * k + 1 < n → item_at s (p + 8 * k) ≡ item_in (fields_in n (drop p s)) k
unfolding item_in
item_stands n s p k h =
    let a : p + 4 * (2 * k) ≡ p + 8 * k = omega arith in
    let b : p + 4 * (2 * k + 1) ≡ p + 8 * k + 4 = omega arith in
    let edge = field_in n s p (2 * k) (omega arith) ∙ ap (le32 s) a in
    let sense = field_in n s p (2 * k + 1) h ∙ ap (le32 s) b in
    sym (λ i. record { edge = edge i; sense = sense_of (sense i) })
