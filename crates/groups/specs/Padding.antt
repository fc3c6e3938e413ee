-- Laws of labels in a longer table: what stands past their end reads as 0 there too.
use Rattle.std.specs.Prelude.{ℕ, zero, suc, ◌-◌, ◌≤◌, min, max, ◌≡◌, refl, List, [], ◌∷◌, ◌++◌, map, length, get_or, take, drop, replicate, eqb}
use Rattle.std.proofs.Common.{arith, sym, ap, ◌∙◌, subst, ⊎_elim, length-append, length-take-le, eqb-true}
use Rattle.std.proofs.lemmas.List.{length-replicate, drop-replicate}
use Rattle.lists.specs.Constants.{get_or_constant}
use Rattle.lists.specs.Members.{map_append}
use Rattle.lists.specs.Tests.{both_ways}
use Rattle.rules.specs.Groups.{alone, label_of, moved, joined}
use Rattle.groups.specs.Parents.{Stands, padded}

abbrev pub zeros : ℕ → List ℕ
zeros k = replicate k 0

pub padded_at : (k : ℕ) (g : List ℕ) (i : ℕ) → label_of (padded k g) i ≡ label_of g i
padded_at k [] i = get_or_constant k 0 i
padded_at k (x ∷ g) zero = refl
padded_at k (x ∷ g) (suc i) = padded_at k g i

-- a longer table of parents stands for the longer labels
pub stands_padded : (k : ℕ) (p ls : List ℕ) → Stands p ls → Stands (padded k p) (padded k ls)
stands_padded k p ls s = record {
  size = omega (arith, length-append ls (zeros k), length-append p (zeros k), s.size);
  ordered = record { low = λ i. subst (λ x. x ≤ i) (sym (padded_at k p i)) (s.ordered.low i) };
  up = λ i. padded_at k ls (get_or (padded k p) i 0) ∙ ap (label_of ls) (padded_at k p i) ∙ s.up i ∙ sym (padded_at k ls i);
  top = λ i e. padded_at k ls i ∙ s.top i (sym (padded_at k p i) ∙ e);
}

-- 0 is the lowest label there is
zero_stays : (x y : ℕ) → moved (max x y) (min x y) 0 ≡ 0
unfolding moved
zero_stays x y =
    ⊎_elim
    (λ e. let z = eqb-true 0 (max x y) e in rw e (omega arith))
    (λ e. rw e refl)
    (both_ways (eqb 0 (max x y)))

zeros_stay : (f : ℕ → ℕ) (k : ℕ) → f 0 ≡ 0 → map f (zeros k) ≡ zeros k
zeros_stay f zero e = refl
zeros_stay f (suc k) e = λ i. e i ∷ zeros_stay f k e i

-- joining in the longer table is joining
pub joined_padded : (k : ℕ) (g : List ℕ) (a b : ℕ) → joined (padded k g) a b ≡ padded k (joined g a b)
unfolding joined
joined_padded k g a b =
    let x = label_of g a in
    let y = label_of g b in
    (λ i. map (moved (max (padded_at k g a i) (padded_at k g b i)) (min (padded_at k g a i) (padded_at k g b i))) (padded k g))
    ∙ map_append (moved (max x y) (min x y)) g (zeros k)
    ∙ ap (λ l. map (moved (max x y) (min x y)) g ++ l) (zeros_stay (moved (max x y) (min x y)) k (zero_stays x y))

-- the first n of a table's zeros are groups now, each number alone
pub new_stands : (size n : ℕ) (l : List ℕ) → n ≤ size → Stands l (alone (length (take n (zeros size)))) → Stands (l ++ drop n (zeros size)) (padded (size - n) (alone n))
new_stands size n l h s =
    let lent : length (take n (zeros size)) ≡ n = length-take-le n (zeros size) (omega (arith, length-replicate {A = ℕ} size 0)) in
    rw drop-replicate (stands_padded (size - n) l (alone n) (subst (λ m. Stands l (alone m)) lent s))
