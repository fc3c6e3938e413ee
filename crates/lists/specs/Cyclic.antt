-- Laws of neighbours in a cycle.
use Rattle.std.specs.Prelude.{◌≡◌, refl, Bool, true, false, cond, List, [], ◌∷◌, map, ℕ, zero, suc, ◌<◌, eqb, length, get_or}
use Rattle.std.proofs.Common.{ap, ◌∙◌, not-suc-le-zero, arith, eq-eqb, ne_eqb}
use Rattle.std.proofs.Math.Dec.{eqb-suc-suc}
use Rattle.lists.specs.Lists.{Neighbours, neighbours_from, neighbours}

-- the place after i in a cycle of n
abbrev pub next_place : ℕ → ℕ → ℕ
next_place i n = cond (eqb (suc i) n) 0 (suc i)

pub next_wraps : (i n : ℕ) → suc i ≡ n → next_place i n ≡ 0
next_wraps i n e = rw (eq-eqb (suc i) n e)

pub next_on : (i n : ℕ) → suc i < n → next_place i n ≡ suc i
next_on i n h = rw (ne_eqb (suc i) n (λ (e : suc i ≡ n). omega arith))

length_from_first : {A : Type 0} (first x : A) (l : List A) → length (neighbours_from first x l) ≡ suc (length l)
unfolding neighbours_from
length_from_first first x [] = refl
length_from_first first x (y ∷ ys) = ap suc (length_from_first first y ys)

pub length_neighbours : {A : Type 0} (l : List A) → length (neighbours l) ≡ length l
unfolding neighbours
length_neighbours [] = refl
length_neighbours (x ∷ xs) = length_from_first x x xs

here_from : {A : Type 0} (first x : A) (l : List A) → map (λ (p : Neighbours A). p.here) (neighbours_from first x l) ≡ x ∷ l
unfolding neighbours_from
here_from first x [] = refl
here_from first x (y ∷ ys) = ap (λ r. x ∷ r) (here_from first y ys)

-- each member stands once as the one here, in order
pub neighbours_here : {A : Type 0} (l : List A) → map (λ (p : Neighbours A). p.here) (neighbours l) ≡ l
unfolding neighbours
neighbours_here [] = refl
neighbours_here (x ∷ xs) = here_from x x xs

at_from : {A : Type 0} (first x d : A) (l : List A) (p : Neighbours A) (i : ℕ) → i < suc (length l)
    → get_or (neighbours_from first x l) i p ≡ record { here = get_or (x ∷ l) i d; next = cond (eqb i (length l)) first (get_or (x ∷ l) (suc i) d) }
unfolding neighbours_from
at_from first x d [] p zero h = refl
at_from first x d [] p (suc i) h = absurd (omega arith)
at_from first x d (y ∷ ys) p zero h = rw (ne_eqb 0 (suc (length ys)) (λ (e : 0 ≡ suc (length ys)). omega arith))
at_from first x d (y ∷ ys) p (suc i) h = at_from first y d ys p i (omega arith) ∙ rw (eqb-suc-suc i (length ys))

-- what stands at place i: the member there, and the one at the place after
pub neighbours_at : {A : Type 0} (l : List A) (d : A) (p : Neighbours A) (i : ℕ) → i < length l
    → get_or (neighbours l) i p ≡ record { here = get_or l i d; next = get_or l (next_place i (length l)) d }
unfolding neighbours
neighbours_at [] d p i h = absurd (not-suc-le-zero h)
neighbours_at (x ∷ xs) d p i h = at_from x x d xs p i h ∙ rw (eqb-suc-suc i (length xs)) (wrapped (eqb i (length xs)))
  where
    wrapped : (b : Bool) → Path (Neighbours _)
        (record { here = get_or (x ∷ xs) i d; next = cond b x (get_or (x ∷ xs) (suc i) d) })
        (record { here = get_or (x ∷ xs) i d; next = get_or (x ∷ xs) (cond b 0 (suc i)) d })
    wrapped true = refl
    wrapped false = refl
