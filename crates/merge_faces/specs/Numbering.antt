-- Groups by number: the lowest members and each number's group, one number more at a time.
use Rattle.std.specs.Prelude.{ℕ, ◌+◌, ◌≤◌, ◌<◌, ◌≡◌, List, [], ◌∷◌, ◌++◌, length, get_or, set}
use Rattle.std.proofs.Common.{arith, sym, ap, ◌∙◌, ext_get_or, eq-eqb, ne_eqb, length-append}
use Rattle.std.proofs.lemmas.Grind.{common_steps}
use Rattle.lists.specs.Lists.{below, keep, index_of}
use Rattle.lists.specs.KeepBelow.{keep_below_yes, keep_below_no, index_below}
use Rattle.rules.specs.Groups.{Lowest, label_of, is_lowest, lowest_members, group_numbers}
use Rattle.rules.proofs.GroupLaws.{length_group_numbers, group_numbers_at}

-- the lowest members below f, and the numbers of the groups of the first f
pub record Numbered (g members numbers : List ℕ) (f : ℕ) : Type 0 where
  pub taken : members ≡ keep (is_lowest g) (below f)
  pub few : length members ≤ f
  pub numbered : (j : ℕ) → j < f → get_or numbers j 0 ≡ index_of (label_of g j) (lowest_members g)

-- a lowest member's group has the number of lowest members below it
pub own_number : (g : List ℕ) (f : ℕ) → f < length g → label_of g f ≡ f → length (keep (is_lowest g) (below f)) ≡ index_of (label_of g f) (lowest_members g)
own_number g f lt e = sym (index_below (is_lowest g) (length g) f lt (eq-eqb (label_of g f) f e)) ∙ ap (λ x. index_of x (lowest_members g)) (sym e)

-- no other number counts
pub no_member : (g : List ℕ) (f : ℕ) → (label_of g f ≡ f → ⊥) → keep (is_lowest g) (below (f + 1)) ≡ keep (is_lowest g) (below f)
no_member g f n = keep_below_no (is_lowest g) f (ne_eqb (label_of g f) f n)

module _ (g members numbers members' numbers' : List ℕ) (f : ℕ) (so : Numbered g members numbers f) (lt : f < length g) (long : length numbers ≡ length g) where
  -- a lowest member more
  pub own_more : label_of g f ≡ f → members' ≡ members ++ (f ∷ []) → numbers' ≡ set numbers f (length members) → Numbered g members' numbers' (f + 1)
  own_more own em en = record {
    taken = grind (arith, common_steps, so.taken, keep_below_yes (is_lowest g) f (eq-eqb _ _ own));
    few = omega (arith, so.few, ap length em, length-append members (f ∷ []));
    numbered = λ j. grind (arith, common_steps, ap length so.taken, so.numbered, own_number g f lt own);
  }

  -- a member of a group met before
  pub other_more : Lowest g → (label_of g f ≡ f → ⊥) → members' ≡ members → numbers' ≡ set numbers f (get_or numbers (label_of g f) 0) → Numbered g members' numbers' (f + 1)
  other_more low other em en = record {
    taken = grind (arith, common_steps, so.taken, no_member g f other);
    few = omega (arith, so.few, ap length em);
    numbered = λ j. grind (arith, common_steps, so.numbered, low.low f lt, low.stands f lt);
  }

pub all_numbered : (g numbers : List ℕ) → length numbers ≡ length g → ((j : ℕ) → j < length g → get_or numbers j 0 ≡ index_of (label_of g j) (lowest_members g)) → numbers ≡ group_numbers g
all_numbered g numbers e each =
    ext_get_or 0 numbers (group_numbers g) (e ∙ sym (length_group_numbers g))
    (λ i h. let lt : i < length g = omega (arith, e) in each i lt ∙ sym (group_numbers_at g i lt))
