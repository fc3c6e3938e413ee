-- Laws of fields: a field at a place, the fields and items from a place on, one at a time.
use Rattle.std.specs.Prelude.{ℕ, zero, suc, ◌+◌, ◌*◌, ◌-◌, ◌/◌, ◌<◌, ◌≤◌, ◌≡◌, refl, List, [], ◌∷◌, length, drop}
use Rattle.std.proofs.Common.{not-suc-le-zero, le_of_suc-le-suc, add_assoc, add-zero, sub-one, arith, sym, ap, ◌∙◌}
use Rattle.std.proofs.Common.{get_or-drop, drop-drop}
use Rattle.rules.specs.declared.Item.{Item}
use Rattle.rules.specs.Fields.{le16, le32, fields_in, field}
use Rattle.rules.specs.Job.{items_of, item_at, items_from}

-- a field of the bytes from a place on
pub le16_drop : (n : ℕ) (s : List ℕ) (p : ℕ) → le16 (drop n s) p ≡ le16 s (n + p)
unfolding le16
le16_drop n s p = simp (get_or-drop, ← add_assoc)

pub le32_drop : (n : ℕ) (s : List ℕ) (p : ℕ) → le32 (drop n s) p ≡ le32 s (n + p)
unfolding le32
le32_drop n s p = simp (get_or-drop, ← add_assoc)

pub le32_here : (n : ℕ) (s : List ℕ) → le32 (drop n s) 0 ≡ le32 s n
le32_here n s = le32_drop n s 0 ∙ ap (le32 s) (add-zero n)

pub length_fields : (n : ℕ) (s : List ℕ) → length (fields_in n s) ≡ n
unfolding fields_in
length_fields zero s = refl
length_fields (suc n) s = ap suc (length_fields n (drop 4 s))

-- one field, then the others
pub fields_first : (n : ℕ) (s : List ℕ) (p : ℕ) → fields_in (suc n) (drop p s) ≡ le32 s p ∷ fields_in n (drop (p + 4) s)
unfolding fields_in
fields_first n s p = rw (le32_here p s, drop-drop)

-- field i of the fields from a place on
pub field_in : (n : ℕ) (s : List ℕ) (p i : ℕ) → i < n → field (fields_in n (drop p s)) i ≡ le32 s (p + 4 * i)
field_in zero s p i h = absurd (not-suc-le-zero h)
field_in (suc n) s p zero h = ap (λ l. field l 0) (fields_first n s p) ∙ ap (le32 s) (omega arith)
field_in (suc n) s p (suc i) h = ap (λ l. field l (suc i)) (fields_first n s p) ∙ field_in n s (p + 4) i (le_of_suc-le-suc h) ∙ ap (le32 s) (omega arith)

two_fields : (n : ℕ) (s : List ℕ) (p : ℕ) → fields_in (suc (suc n)) (drop p s) ≡ le32 s p ∷ le32 s (p + 4) ∷ fields_in n (drop (p + 8) s)
two_fields n s p =
    let q : p + 4 + 4 ≡ p + 8 = omega arith in
    fields_first (suc n) s p ∙ ap {B = List ℕ} (λ l. le32 s p ∷ l) (fields_first n s (p + 4) ∙ ap {B = List ℕ} (λ k. le32 s (p + 4) ∷ fields_in n (drop k s)) q)

-- the fields of one item, then those of the others
pub pair_more : (m : ℕ) (s : List ℕ) (p : ℕ) → 0 < m → fields_in (2 * m) (drop p s) ≡ le32 s p ∷ le32 s (p + 4) ∷ fields_in (2 * (m - 1)) (drop (p + 8) s)
pair_more zero s p h = absurd (not-suc-le-zero h)
pair_more (suc m) s p h = let e : 2 * suc m ≡ suc (suc (2 * m)) = omega arith in rw (e, sub-one) (two_fields (2 * m) s p)

-- one item, then the others
pub item_more : (m : ℕ) (s : List ℕ) (p : ℕ) → 0 < m → items_from s p m ≡ item_at s p ∷ items_from s (p + 8) (m - 1)
unfolding items_of
item_more m s p h = ap items_of (pair_more m s p h)

pub item_none : (m : ℕ) (s : List ℕ) (p : ℕ) → m ≤ 0 → items_from s p m ≡ []
unfolding items_of fields_in
item_none zero s p h = refl
item_none (suc m) s p h = absurd (not-suc-le-zero h)

-- of an odd number of fields the last makes no item
pub items_half : (n : ℕ) (s : List ℕ) (p : ℕ) → items_of (fields_in n (drop p s)) ≡ items_from s p (n / 2)
unfolding items_of fields_in
items_half zero s p = refl
items_half (suc zero) s p = refl
items_half (suc (suc n)) s p =
    let e : suc (n / 2) ≡ suc (suc n) / 2 = omega arith in
    let q : n / 2 ≡ suc (n / 2) - 1 = omega arith in
    ap items_of (two_fields n s p) ∙ ap {B = List Item} (λ l. item_at s p ∷ l) (items_half n s (p + 8) ∙ ap (items_from s (p + 8)) q)
    ∙ sym (item_more (suc (n / 2)) s p (omega arith)) ∙ ap (items_from s p) e
