-- The positions of the members of a list that pass a test: the places below its length whose members pass.
use Rattle.std.specs.Prelude.{ℕ, zero, suc, ◌+◌, ◌≤◌, ◌≡◌, refl, Bool, cond, length, get_or, take}
use Rattle.std.proofs.Common.{arith, sym, ap, ◌∙◌, take-suc}
use mathlib.Core.List.{List, [], ◌∷◌, ◌++◌}
use Rattle.std.proofs.Math.Seq.{take-length, length-take-le}
use Rattle.std.proofs.lemmas.Grind.{common_steps}
use Rattle.std.specs.List.{filter}
use Rattle.lists.specs.Lists.{from, below, keep, positions}
use Rattle.lists.specs.Runs.{below_snoc}
use Rattle.lists.specs.Members.{keep_append}
use Rattle.lists.specs.ListEnds.{positions_append}

module _ {A : Type 0} (p : A → Bool) (l : List A) (d : A) where
  positions_first : (n : ℕ) → n ≤ length l → positions p 0 (take n l) ≡ keep (λ i. p (get_or l i d)) (below n)
  unfolding positions keep from
  positions_first zero h = refl
  positions_first (suc n) h =
      let z : 0 + length (take n l) ≡ n = omega (arith, length-take-le n l (omega arith)) in
      ap (positions p 0) (take-suc l n d (omega arith)) ∙ positions_append p 0 (take n l) (get_or l n d ∷ [])
      ∙ ap {B = List ℕ} (λ k. positions p 0 (take n l) ++ cond (p (get_or l n d)) (k ∷ []) []) z
      ∙ ap (λ r. r ++ cond (p (get_or l n d)) (n ∷ []) []) (positions_first n (omega arith))
      ∙ sym (ap (keep (λ i. p (get_or l i d))) (below_snoc n) ∙ keep_append (λ i. p (get_or l i d)) (below n) (n ∷ []))

  pub positions_places : positions p 0 l ≡ keep (λ i. p (get_or l i d)) (below (length l))
  positions_places = ap (positions p 0) (sym (take-length l)) ∙ positions_first (length l) (omega arith)

-- as many as members that pass
pub positions_count : {A : Type 0} (p : A → Bool) (i : ℕ) (l : List A) → length (filter p l) ≡ length (positions p i l)
unfolding positions
positions_count p i [] = refl
positions_count p i (x ∷ l) = grind (arith, common_steps, positions_count p (suc i) l)
