-- Lists as the rules use them: runs of numbers, membership, choice of members, positions, sums, neighbours in a cycle, iterates.
use Rattle.std.specs.Prelude.{ℕ, zero, suc, ◌+◌, Bool, true, false, ◌&&◌, ◌||◌, cond, eqb, ltb}
use mathlib.Core.List.{List, [], ◌∷◌, Memᴰ}

-- a, a + 1, ..: n numbers
unfoldable pub from : ℕ → ℕ → List ℕ
from a zero = []
from a (suc n) = a ∷ from (suc a) n

-- the numbers below n, ascending
abbrev pub below : ℕ → List ℕ
below n = from 0 n

infix 4 ◌∈◌
-- x stands in the list
abbrev pub ◌∈◌ : {A : Type 0} → A → List A → Type 0
x ∈ l = Memᴰ x l

-- no number stands twice
abbrev pub Nodup : List ℕ → Type 0
Nodup [] = Unit {0}
Nodup (x ∷ xs) = (¬ (x ∈ xs)) × Nodup xs

-- x stands in the list, as a test
unfoldable pub has : ℕ → List ℕ → Bool
has x [] = false
has x (y ∷ ys) = eqb x y || has x ys

-- some number stands twice, as a test
unfoldable pub repeats : List ℕ → Bool
repeats [] = false
repeats (x ∷ xs) = has x xs || repeats xs

-- two lists are equal, as a test
unfoldable pub same : List ℕ → List ℕ → Bool
same [] [] = true
same [] (y ∷ ys) = false
same (x ∷ xs) [] = false
same (x ∷ xs) (y ∷ ys) = eqb x y && same xs ys

-- how often x stands in the list
unfoldable pub times : ℕ → List ℕ → ℕ
times x [] = 0
times x (y ∷ ys) = cond (eqb x y) 1 0 + times x ys

-- the least of a list; the second is what an empty list gives
unfoldable pub least : List ℕ → ℕ → ℕ
least [] none = none
least (x ∷ xs) none = let r = least xs x in cond (ltb x r) x r

-- each member passes the test
unfoldable pub all : {A : Type 0} → (A → Bool) → List A → Bool
all p [] = true
all p (x ∷ xs) = p x && all p xs

-- some member passes the test
unfoldable pub some : {A : Type 0} → (A → Bool) → List A → Bool
some p [] = false
some p (x ∷ xs) = p x || some p xs

-- the members that pass the test, in order
unfoldable pub keep : {A : Type 0} → (A → Bool) → List A → List A
keep p [] = []
keep p (x ∷ xs) = let rest = keep p xs in cond (p x) (x ∷ rest) rest

-- the positions, counted from i, of the members that pass the test
unfoldable pub positions : {A : Type 0} → (A → Bool) → ℕ → List A → List ℕ
positions p i [] = []
positions p i (x ∷ xs) = let rest = positions p (suc i) xs in cond (p x) (i ∷ rest) rest

-- the position of the first member that passes the test, or the length
unfoldable pub position : {A : Type 0} → (A → Bool) → List A → ℕ
position p [] = 0
position p (x ∷ xs) = let later = suc (position p xs) in cond (p x) 0 later

-- the position of a number, or the length
abbrev pub index_of : ℕ → List ℕ → ℕ
index_of x l = position (eqb x) l

-- the sum of a number for each member
unfoldable pub sum_of : {A : Type 0} → (A → ℕ) → List A → ℕ
sum_of f [] = 0
sum_of f (x ∷ xs) = f x + sum_of f xs

-- a member with the one after it
pub record Neighbours (A : Type 0) : Type 0 where
  pub here : A
  pub next : A

unfoldable pub neighbours_from : {A : Type 0} → A → A → List A → List (Neighbours A)
neighbours_from first x [] = record { here = x; next = first } ∷ []
neighbours_from first x (y ∷ ys) = record { here = x; next = y } ∷ neighbours_from first y ys

-- each member with the one after it, cyclically: after the last comes the first
unfoldable pub neighbours : {A : Type 0} → List A → List (Neighbours A)
neighbours [] = []
neighbours (x ∷ xs) = neighbours_from x x xs

-- f applied k times
unfoldable pub iterate : (ℕ → ℕ) → ℕ → ℕ → ℕ
iterate f zero x = x
iterate f (suc k) x = iterate f k (f x)

-- x, f x, ..: k of them
unfoldable pub orbit : (ℕ → ℕ) → ℕ → ℕ → List ℕ
orbit f zero x = []
orbit f (suc k) x = x ∷ orbit f k (f x)
