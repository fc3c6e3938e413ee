-- Laws of runs of numbers, `from` and `below`.
use Rattle.std.specs.Prelude.{◌≡◌, refl, List, [], ◌∷◌, ◌++◌, map, ℕ, zero, suc, ◌+◌, ◌-◌, ◌≤◌, ◌<◌, length, get_or}
use Rattle.std.proofs.Common.{sym, ap, ◌∙◌, ⊎_elim, zero-le, eq-or-lt_of_le, add-one, arith}
use mathlib.Core.List.Memᴰ
use Rattle.std.proofs.lemmas.List.{length-map}
use Rattle.lists.specs.Lists.{from, below, ◌∈◌, Nodup}
use Rattle.lists.specs.Membership.{pigeon}

pub in_from : (a n x : ℕ) → a ≤ x → x < a + n → x ∈ from a n
unfolding from
in_from a zero x h g = absurd (omega arith)
in_from a (suc n) x h g = ⊎_elim (λ e. Memᴰ.head (sym e)) (λ r. Memᴰ.tail (in_from (suc a) n x r (omega arith))) (eq-or-lt_of_le h)

pub from_in : (a n x : ℕ) → x ∈ from a n → (a ≤ x) × (x < a + n)
unfolding from
from_in a zero x m = absurd (Memᴰ.not-nil m)
from_in a (suc n) x m = ⊎_elim (λ e. (omega arith, omega arith)) (λ q. let r = from_in (suc a) n x q in (omega arith, omega arith)) (Memᴰ.cases_cons m)

pub from_nodup : (a n : ℕ) → Nodup (from a n)
unfolding from
from_nodup a zero = tt
from_nodup a (suc n) = (λ m. let r = from_in (suc a) n a m in omega arith, from_nodup (suc a) n)

pub length_from : (a n : ℕ) → length (from a n) ≡ n
unfolding from
length_from a zero = refl
length_from a (suc n) = ap suc (length_from (suc a) n)

pub get_or_from : (a n i d : ℕ) → i < n → get_or (from a n) i d ≡ a + i
unfolding from
get_or_from a zero i d h = absurd (omega arith)
get_or_from a (suc n) zero d h = omega arith
get_or_from a (suc n) (suc i) d h = omega (arith, get_or_from (suc a) n i d (omega arith))

-- one more at the end
pub from_snoc : (a n : ℕ) → from a (suc n) ≡ from a n ++ ((a + n) ∷ [])
unfolding from
from_snoc a zero = let e : a ≡ a + 0 = omega arith in rw (← e)
from_snoc a (suc n) = let e : suc a + n ≡ a + suc n = omega arith in ap {B = List ℕ} (λ l. a ∷ l) (from_snoc (suc a) n ∙ ap {B = List ℕ} (λ k. from (suc a) n ++ (k ∷ [])) e)

-- the first, then the others, where there is one
pub from_first : (a n : ℕ) → 0 < n → from a n ≡ a ∷ from (suc a) (n - 1)
unfolding from
from_first a zero h = absurd (omega arith)
from_first a (suc n) h = let e : n ≡ suc n - 1 = omega arith in ap {B = List ℕ} (λ k. a ∷ from (suc a) k) e

pub from_none : (a : ℕ) → from a 0 ≡ []
unfolding from
from_none a = refl

-- what is left of the numbers below n at i, as a loop from i to n needs it
pub left_at : (i n : ℕ) → i < n → from i (n - i) ≡ i ∷ from (i + 1) (n - (i + 1))
left_at i n h = from_first i (n - i) (omega arith) ∙ ap₂from (sym (add-one i)) (omega arith)
  where
    ap₂from : {a b m k : ℕ} → a ≡ b → m ≡ k → i ∷ from a m ≡ i ∷ from b k
    ap₂from p q = λ t. i ∷ from (p t) (q t)

pub left_none : (i n : ℕ) → n ≤ i → from i (n - i) ≡ []
left_none i n h = let e : n - i ≡ 0 = omega arith in ap (from i) e ∙ from_none i

pub in_below : (n x : ℕ) → x < n → x ∈ below n
in_below n x h = in_from 0 n x zero-le (omega arith)

pub below_in : (n x : ℕ) → x ∈ below n → x < n
below_in n x m = let r = from_in 0 n x m in omega arith

pub below_nodup : (n : ℕ) → Nodup (below n)
below_nodup n = from_nodup 0 n

pub length_below : (n : ℕ) → length (below n) ≡ n
length_below n = length_from 0 n

pub get_or_below : (n i d : ℕ) → i < n → get_or (below n) i d ≡ i
get_or_below n i d h = omega (arith, get_or_from 0 n i d h)

pub below_snoc : (n : ℕ) → below (suc n) ≡ below n ++ (n ∷ [])
below_snoc n = let e : 0 + n ≡ n = omega arith in from_snoc 0 n ∙ ap {B = List ℕ} (λ k. below n ++ (k ∷ [])) e

-- a list of numbers below n without duplicates has at most n of them
pub pigeon_below : (n : ℕ) (l : List ℕ) → Nodup l → ((x : ℕ) → x ∈ l → x < n) → length l ≤ n
pigeon_below n l nd h = let r = pigeon l (below n) nd (λ x m. in_below n x (h x m)) in omega (arith, length_below n)

-- a table made of a function
pub length_table : {A : Type 0} (f : ℕ → A) (n : ℕ) → length (map f (below n)) ≡ n
length_table f n = length-map (below n) f ∙ length_below n

pub get_or_table : {A : Type 0} (f : ℕ → A) (n i : ℕ) (d : A) → i < n → get_or (map f (below n)) i d ≡ f i
get_or_table f n i d h = at_map (below n) i (omega (arith, length_below n)) ∙ ap f (get_or_below n i 0 h)
  where
    at_map : (l : List ℕ) (i : ℕ) → i < length l → get_or (map f l) i d ≡ f (get_or l i 0)
    at_map [] i h = absurd (omega arith)
    at_map (x ∷ xs) zero h = refl
    at_map (x ∷ xs) (suc i) h = at_map xs i (omega arith)
