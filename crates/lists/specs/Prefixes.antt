-- Laws of the first numbers below n: what a fold and a choice of members make of one number more.
use Rattle.std.specs.Prelude.{◌≡◌, Bool, true, false, ℕ, zero, suc, ◌+◌, ◌-◌, ◌≤◌, length}
use Rattle.std.proofs.Common.{ap, ◌∙◌, add-one, arith}
use mathlib.Core.List.{List, [], ◌∷◌, ◌++◌, foldl, append-nil}
use Rattle.lists.specs.Lists.{from, below, keep}
use Rattle.lists.specs.Runs.{below_snoc, length_below}
use Rattle.lists.specs.Members.{keep_yes, keep_no, keep_append, keep_length, foldl_append}

-- a run in two parts
pub from_append : (a m k : ℕ) → from a (m + k) ≡ from a m ++ from (a + m) k
unfolding from
from_append a zero k = let e : a ≡ a + 0 = omega arith in let z : 0 + k ≡ k = omega arith in λ i. from (e i) (z i)
from_append a (suc m) k =
    let e : suc m + k ≡ suc (m + k) = omega arith in
    let s : suc a + m ≡ a + suc m = omega arith in
    ap (from a) e ∙ ap {B = List ℕ} (λ l. a ∷ l) (from_append (suc a) m k ∙ ap {B = List ℕ} (λ b. from (suc a) m ++ from b k) s)

pub below_split : (f n : ℕ) → f ≤ n → below n ≡ below f ++ from f (n - f)
below_split f n h =
    let e : n ≡ f + (n - f) = omega arith in
    let z : 0 + f ≡ f = omega arith in
    ap below e ∙ from_append 0 f (n - f) ∙ ap {B = List ℕ} (λ b. below f ++ from b (n - f)) z

-- a fold over one number more
pub foldl_below : {S : Type 0} (step : S → ℕ → S) (s : S) (h : ℕ) → foldl step s (below (h + 1)) ≡ step (foldl step s (below h)) h
foldl_below step s h = ap (λ k. foldl step s (below k)) (add-one h) ∙ ap (foldl step s) (below_snoc h) ∙ foldl_append step s (below h) (h ∷ [])

-- the members that pass, with one number more
pub keep_below_yes : (p : ℕ → Bool) (h : ℕ) → p h ≡ true → keep p (below (h + 1)) ≡ keep p (below h) ++ (h ∷ [])
unfolding keep
keep_below_yes p h e = ap (λ k. keep p (below k)) (add-one h) ∙ ap (keep p) (below_snoc h) ∙ keep_append p (below h) (h ∷ []) ∙ ap (λ l. keep p (below h) ++ l) (keep_yes p h [] e)

pub keep_below_no : (p : ℕ → Bool) (h : ℕ) → p h ≡ false → keep p (below (h + 1)) ≡ keep p (below h)
unfolding keep
keep_below_no p h e =
    ap (λ k. keep p (below k)) (add-one h) ∙ ap (keep p) (below_snoc h) ∙ keep_append p (below h) (h ∷ [])
    ∙ ap (λ l. keep p (below h) ++ l) (keep_no p h [] e) ∙ append-nil (keep p (below h))

-- at most h of the numbers below h pass
pub keep_below_le : (p : ℕ → Bool) (h : ℕ) → length (keep p (below h)) ≤ h
keep_below_le p h = omega (arith, keep_length p (below h), length_below h)
