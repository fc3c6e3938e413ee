-- The members of a group from a number on, and chains in which each number leads to the next of its group.
use Rattle.std.specs.Prelude.{◌≡◌, refl, List, [], ◌∷◌, ℕ, suc, ◌-◌, ◌≤◌, ◌<◌, eqb, length, get_or, set, replicate}
use Rattle.std.proofs.Common.{arith, sym, ap, ◌∙◌, ⊎_elim, eq-eqb, ne_eqb}
use Rattle.std.proofs.Math.ListN.{length-set}
use Rattle.std.proofs.Math.Seq.{get_or-set_same, get_or-set_other}
use Rattle.std.proofs.lemmas.List.{get_or-replicate, length-replicate}
use Rattle.lists.specs.Lists.{from, keep}
use Rattle.lists.specs.Members.{keep_yes, keep_no}
use Rattle.lists.specs.Runs.{from_first}
use Rattle.lists.specs.Tests.{equal_or_not}
use Rattle.rules.specs.Groups.{label_of, Lowest}
use Rattle.rules.proofs.GroupLaws.{label_below}

-- the numbers from i on with a label
unfoldable pub members_from : List ℕ → ℕ → ℕ → List ℕ
members_from g label i = keep (λ k. eqb (label_of g k) label) (from i (length g - i))

-- the numbers of i's group from i on; past the last number there are none
abbrev pub rest_of : List ℕ → ℕ → List ℕ
rest_of g i = members_from g (label_of g i) i

pub members_end : (g : List ℕ) (label i : ℕ) → length g ≤ i → members_from g label i ≡ []
unfolding members_from keep from
members_end g label i h = let z : length g - i ≡ 0 = omega arith in ap (λ n. keep (λ k. eqb (label_of g k) label) (from i n)) z

module _ (g : List ℕ) (label i : ℕ) (h : i < length g) where
  first : from i (length g - i) ≡ i ∷ from (suc i) (length g - suc i)
  first =
      let z : (length g - i) - 1 ≡ length g - suc i = omega arith in
      from_first i (length g - i) (omega arith) ∙ ap {B = List ℕ} (λ n. i ∷ from (suc i) n) z

  -- a number with the label is the first of those from it on, another is none of them
  pub members_own : label_of g i ≡ label → members_from g label i ≡ i ∷ members_from g label (suc i)
  unfolding members_from
  members_own e = ap (keep (λ k. eqb (label_of g k) label)) first ∙ keep_yes (λ k. eqb (label_of g k) label) i _ (eq-eqb (label_of g i) label e)

  pub members_other : (label_of g i ≡ label → ⊥) → members_from g label i ≡ members_from g label (suc i)
  unfolding members_from
  members_other n = ap (keep (λ k. eqb (label_of g k) label)) first ∙ keep_no (λ k. eqb (label_of g k) label) i _ (ne_eqb (label_of g i) label n)

-- a number leads on to the others of its group after it
abbrev pub Leads : List ℕ → List ℕ → ℕ → Type 0
Leads g next k = rest_of g k ≡ k ∷ rest_of g (get_or next k 0)

-- so the rest of its group comes after it
pub rest_more : (g next : List ℕ) {i j : ℕ} → ((k : ℕ) → k < length g → Leads g next k) → i < length g → j ≡ get_or next i 0 → rest_of g i ≡ i ∷ rest_of g j
rest_more g next {i = i} leads h e = rw e (leads i h)

-- the numbers from i on are chained, and the first of them with each label is known
pub record Chaining (g first next : List ℕ) (i : ℕ) : Type 0 where
  pub room : length g ≤ length first
  pub size : length next ≡ length g
  pub firsts : (l : ℕ) → l < length g → rest_of g (get_or first l 0) ≡ members_from g l i
  pub nexts : (k : ℕ) → i ≤ k → k < length g → Leads g next k

-- past the last number none is chained: how many there are stands for none of them
pub chaining_start : (g next : List ℕ) → length g ≤ 256 → length next ≡ length g → Chaining g (replicate 256 (length g)) next (length g)
chaining_start g next r s = record {
  room = omega (arith, r, length-replicate {A = ℕ} 256 (length g));
  size = s;
  firsts = λ l h.
      let e : get_or (replicate 256 (length g)) l 0 ≡ length g = get_or-replicate 256 l (length g) 0 (omega arith) in
      ap (rest_of g) e ∙ members_end g (label_of g (length g)) (length g) (omega arith) ∙ sym (members_end g l (length g) (omega arith));
  nexts = λ k low h. absurd (omega arith);
}

-- number i goes before them
pub chaining_step : (g first next first' next' : List ℕ) (n i label later : ℕ) → Lowest g → n ≡ suc i → i < length g → Chaining g first next n → label ≡ label_of g i
    → later ≡ get_or first label 0 → next' ≡ set next i later → first' ≡ set first label i → Chaining g first' next' i
chaining_step g first next first' next' n i label later L up h C el er en ef =
    let own : label < length g = omega (arith, el, label_below L i h) in
    let after : rest_of g later ≡ members_from g (label_of g i) (suc i) = ap (rest_of g) er ∙ C.firsts label own ∙ (λ t. members_from g (el t) (up t)) in
    record {
      room = omega (arith, C.room, ap length ef, length-set first label i);
      size = ap length en ∙ length-set next i later ∙ C.size;
      firsts = λ l few. ⊎_elim
          (λ same.
          let at : get_or first' l 0 ≡ i = ap (λ t. get_or t l 0) ef ∙ ap (λ k. get_or (set first label i) k 0) same.0 ∙ get_or-set_same first label i 0 (omega (arith, own, C.room)) in
          ap (rest_of g) at ∙ ap (λ k. members_from g k i) (sym el ∙ sym same.0))
          (λ other.
          let at : get_or first' l 0 ≡ get_or first l 0 = ap (λ t. get_or t l 0) ef ∙ get_or-set_other first label l i 0 other.0 in
          ap (rest_of g) at ∙ C.firsts l few ∙ ap (members_from g l) up ∙ sym (members_other g l i h (λ e. other.0 (sym e ∙ sym el))))
          (equal_or_not l label);
      nexts = λ k low few. ⊎_elim
          (λ same.
          let at : get_or next' i 0 ≡ later = ap (λ t. get_or t i 0) en ∙ get_or-set_same next i later 0 (omega (arith, h, C.size)) in
          rw same.0 (members_own g (label_of g i) i h refl ∙ ap {B = List ℕ} (λ r. i ∷ r) (sym after ∙ ap (rest_of g) (sym at))))
          (λ other.
          let at : get_or next' k 0 ≡ get_or next k 0 = ap (λ t. get_or t k 0) en ∙ get_or-set_other next i k later 0 other.0 in
          C.nexts k (let e = other.0 in omega (arith, up, low)) few ∙ ap {B = List ℕ} (λ r. k ∷ rest_of g r) (sym at))
          (equal_or_not k i);
    }
