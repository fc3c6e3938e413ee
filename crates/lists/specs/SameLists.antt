-- Laws of the test that two lists are equal.
use Rattle.std.specs.Prelude.{◌≡◌, refl, true, List, [], ◌∷◌, ℕ, eqb, ◌&&◌}
use Rattle.std.specs.Cmp.Lexicographic.{pointwise}
use Rattle.std.proofs.lemmas.Bool.{false≢true}
use Rattle.std.proofs.Common.{ap, eq-eqb, eqb-true}
use Rattle.lists.specs.Lists.{same}
use Rattle.lists.specs.Tests.{and_both, both_and}

pub same_self : (l : List ℕ) → same l l ≡ true
unfolding same
same_self [] = refl
same_self (x ∷ l) = both_and (eqb x x) (same l l) (eq-eqb x x refl) (same_self l)

pub same_is : (l m : List ℕ) → same l m ≡ true → l ≡ m
unfolding same
same_is [] [] e = refl
same_is [] (y ∷ m) e = absurd (false≢true e)
same_is (x ∷ l) [] e = absurd (false≢true e)
same_is (x ∷ l) (y ∷ m) e =
    let w = and_both (eqb x y) (same l m) e in
    let p : x ≡ y = eqb-true x y w.0 in
    λ i. p i ∷ same_is l m w.1 i

-- `==` of two lists is the test
pub pointwise_same : (x y : List ℕ) → pointwise eqb x y ≡ same x y
unfolding same
pointwise_same [] [] = refl
pointwise_same [] (b ∷ y) = refl
pointwise_same (a ∷ x) [] = refl
pointwise_same (a ∷ x) (b ∷ y) = ap (λ t. eqb a b && t) (pointwise_same x y)
