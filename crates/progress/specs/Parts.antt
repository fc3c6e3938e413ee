-- Tables of one entry of which the first part is lent, and what comes back of a part that is lent.
use Rattle.std.specs.Prelude.{ℕ, ◌≤◌, ◌≡◌, List, ◌++◌, length, take, drop, replicate}
use Rattle.std.proofs.Common.{arith, ◌∙◌, length-append, length-drop, length-take-le, take_at}
use Rattle.std.proofs.lemmas.List.{length-replicate}

-- the first part of a table of one entry
pub part_long : {A : Type 0} (x : A) (n size : ℕ) → n ≤ size → length (take n (replicate size x)) ≡ n
part_long x n size h = length-take-le n (replicate size x) (omega (arith, length-replicate size x))

-- the first n entries of a table were lent and are l now
pub cut_back : {A : Type 0} (n : ℕ) (t l : List A) → n ≤ length t → length l ≡ length (take n t) → take n (l ++ drop n t) ≡ l
cut_back n t l h e = take_at l (drop n t) n (e ∙ length-take-le n t h)

pub back_long : {A : Type 0} (n : ℕ) (t l : List A) → n ≤ length t → length l ≡ length (take n t) → length (l ++ drop n t) ≡ length t
back_long n t l h e = omega (arith, length-append l (drop n t), length-drop n t, length-take-le n t h)
