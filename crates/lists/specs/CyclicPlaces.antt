-- Laws of places in a cycle: the place after and the place before, and a cycle run backwards.
use Rattle.std.specs.Prelude.{◌≡◌, ◌⊎◌, ℕ, zero, suc, ◌-◌, ◌<◌, length, get_or}
use Rattle.std.proofs.Common.{sym, ap, ◌∙◌, subst, inl, inr, ⊎_elim, not-suc-le-zero, arith}
use mathlib.Core.List.{List, [], ◌∷◌, ◌++◌, reverse, reverse-cons}
use Rattle.std.proofs.lemmas.List.{length-reverse}
use Rattle.lists.specs.Tests.{equal_or_not}
use Rattle.lists.specs.Tables.{get_or_snoc_before, get_or_snoc_last}
use Rattle.lists.specs.Cyclic.{next_place, next_wraps, next_on}

-- the place after the last is the first, after any other the following
pub next_cases : (i n : ℕ) → i < n → ((suc i ≡ n) × (next_place i n ≡ 0)) ⊎ ((suc i < n) × (next_place i n ≡ suc i))
next_cases i n h =
    ⊎_elim (λ w. inl (w.0, next_wraps i n w.0)) (λ w. let l : suc i < n = omega (arith, w.0) in inr (l, next_on i n l))
    (equal_or_not (suc i) n)

pub next_place_below : (i n : ℕ) → i < n → next_place i n < n
next_place_below i n h = ⊎_elim (λ w. omega (arith, w.0, w.1)) (λ w. omega (arith, w.0, w.1)) (next_cases i n h)

-- each place comes after some place
pub place_before : (i n : ℕ) → i < n → (p : ℕ) × (p < n) × (next_place p n ≡ i)
place_before zero n h = let e : suc (n - 1) ≡ n = omega arith in (n - 1, omega arith, next_wraps (n - 1) n e)
place_before (suc i) n h = (i, omega arith, next_on i n h)

-- seen from the other end, the place after the place after i is i
next_mirrored : (i n : ℕ) → i < n → next_place (n - suc (next_place i n)) n ≡ n - suc i
next_mirrored i n h =
    ⊎_elim
    (λ w. let e : suc (n - suc (next_place i n)) ≡ n = omega (arith, w.1) in next_wraps (n - suc (next_place i n)) n e ∙ omega (arith, w.0))
    (λ w.
    let l : suc (n - suc (next_place i n)) < n = omega (arith, w.0, w.1) in
    next_on (n - suc (next_place i n)) n l ∙ omega (arith, w.0, w.1))
    (next_cases i n h)

-- what stands at a place of a list run backwards
pub get_or_reverse : {A : Type 0} (l : List A) (d : A) (i : ℕ) → i < length l → get_or (reverse l) i d ≡ get_or l (length l - suc i) d
get_or_reverse [] d i h = absurd (not-suc-le-zero h)
get_or_reverse (x ∷ l) d i h =
    ap (λ r. get_or r i d) (reverse-cons x l)
    ∙ ⊎_elim
    (λ w.
    let e : suc (length l) - suc i ≡ 0 = omega (arith, w.0) in
    let q : i ≡ length (reverse l) = omega (arith, w.0, length-reverse l) in
    ap (λ k. get_or (reverse l ++ (x ∷ [])) k d) q ∙ get_or_snoc_last (reverse l) x d ∙ sym (ap (λ k. get_or (x ∷ l) k d) e))
    (λ w.
    let k : i < length l = omega (arith, w.0) in
    let e : suc (length l) - suc i ≡ suc (length l - suc i) = omega arith in
    get_or_snoc_before (reverse l) x d i (omega (arith, length-reverse l)) ∙ get_or_reverse l d i k ∙ sym (ap (λ k. get_or (x ∷ l) k d) e))
    (equal_or_not i (length l))

-- what holds of each member with the one after it holds backwards of the list run backwards
pub each_backwards : {A : Type 0} (R : A → A → Type 0) (l : List A) (d : A)
    → ((i : ℕ) → i < length l → R (get_or l i d) (get_or l (next_place i (length l)) d))
    → (i : ℕ) → i < length l → R (get_or (reverse l) (next_place i (length l)) d) (get_or (reverse l) i d)
each_backwards R l d each i h =
    let n : ℕ = length l in
    let b : next_place i n < n = next_place_below i n h in
    let m : ℕ = n - suc (next_place i n) in
    subst (λ x. R x (get_or (reverse l) i d)) (sym (get_or_reverse l d (next_place i n) b))
    (subst (R (get_or l m d)) (ap (λ k. get_or l k d) (next_mirrored i n h) ∙ sym (get_or_reverse l d i h)) (each m (omega (arith, b))))
