-- Laws of sums over lists.
use Rattle.std.specs.Prelude.{◌≡◌, Bool, true, false, cond, length, get_or, set}
use Rattle.std.proofs.Math.Path.{refl}
use Rattle.std.proofs.Common.{ap, ap₂, ◌∙◌, not-suc-le-zero}
use mathlib.Core.List.Memᴰ
use mathlib.Core.List.{List, [], ◌∷◌, ◌++◌, map, flat_map}
use Prim.Native.Nat.{ℕ, zero, suc, ◌+◌, ◌≤◌, ◌<◌, zero-le}
use native.Mathlib.Omega.{arith}
use Rattle.lists.specs.Lists.{◌∈◌, times, keep, sum_of}
use Rattle.lists.specs.Membership.{times_append, times_nil}

module _ {A : Type 0} (f : A → ℕ) where
  pub sum_nil : sum_of f [] ≡ 0
  unfolding sum_of
  sum_nil = refl

  pub sum_cons : (x : A) (l : List A) → sum_of f (x ∷ l) ≡ f x + sum_of f l
  unfolding sum_of
  sum_cons x l = refl

  pub sum_append : (l m : List A) → sum_of f (l ++ m) ≡ sum_of f l + sum_of f m
  unfolding sum_of
  sum_append [] m = omega arith
  sum_append (x ∷ l) m = omega (arith, sum_append l m)

  pub sum_one : (x : A) → sum_of f (x ∷ []) ≡ f x
  unfolding sum_of
  sum_one x = omega arith

  -- one entry stored
  pub sum_set : (l : List A) (i : ℕ) (a d : A) → i < length l → sum_of f (set l i a) + f (get_or l i d) ≡ sum_of f l + f a
  unfolding sum_of
  sum_set [] i a d h = absurd (not-suc-le-zero h)
  sum_set (x ∷ xs) zero a d h = omega arith
  sum_set (x ∷ xs) (suc i) a d h = omega (arith, sum_set xs i a d (omega arith))

  -- a sum of nothing but zeros
  pub sum_zero : (l : List A) → ((x : A) → x ∈ l → f x ≡ 0) → sum_of f l ≡ 0
  unfolding sum_of
  sum_zero [] h = refl
  sum_zero (x ∷ xs) h = omega (arith, h x (Memᴰ.head refl), sum_zero xs (λ y m. h y (Memᴰ.tail m)))

  -- an entry is at most the sum
  pub sum_ge : (l : List A) (i : ℕ) (d : A) → i < length l → f (get_or l i d) ≤ sum_of f l
  unfolding sum_of
  sum_ge [] i d h = absurd (not-suc-le-zero h)
  sum_ge (x ∷ xs) zero d h = omega arith
  sum_ge (x ∷ xs) (suc i) d h = omega (arith, sum_ge xs i d (omega arith))

  -- the same at any place, where the default counts nothing
  pub sum_ge_any : (l : List A) (i : ℕ) (d : A) → f d ≡ 0 → f (get_or l i d) ≤ sum_of f l
  unfolding sum_of
  sum_ge_any [] i d h = omega arith
  sum_ge_any (x ∷ xs) zero d h = omega arith
  sum_ge_any (x ∷ xs) (suc i) d h = omega (arith, sum_ge_any xs i d h)

  -- two entries at different places are together at most the sum
  pub sum_ge₂ : (l : List A) (i j : ℕ) (d : A) → i < j → j < length l → f (get_or l i d) + f (get_or l j d) ≤ sum_of f l
  unfolding sum_of
  sum_ge₂ [] i j d h k = absurd (not-suc-le-zero k)
  sum_ge₂ (x ∷ xs) i zero d h k = absurd (not-suc-le-zero h)
  sum_ge₂ (x ∷ xs) zero (suc j) d h k = omega (arith, sum_ge xs j d (omega arith))
  sum_ge₂ (x ∷ xs) (suc i) (suc j) d h k = omega (arith, sum_ge₂ xs i j d (omega arith) (omega arith))

pub sum_same : {A : Type 0} (f g : A → ℕ) (l : List A) → ((x : A) → x ∈ l → f x ≡ g x) → sum_of f l ≡ sum_of g l
unfolding sum_of
sum_same f g [] h = refl
sum_same f g (x ∷ l) h = ap₂ (λ a b. a + b) (h x (Memᴰ.head refl)) (sum_same f g l (λ y m. h y (Memᴰ.tail m)))

-- two sums entry by entry
pub sum_both : {A : Type 0} (f g : A → ℕ) (l : List A) → sum_of (λ x. f x + g x) l ≡ sum_of f l + sum_of g l
unfolding sum_of
sum_both f g [] = refl
sum_both f g (x ∷ l) = omega (arith, sum_both f g l)

pub sum_le : {A : Type 0} (f g : A → ℕ) (l : List A) → ((x : A) → x ∈ l → f x ≤ g x) → sum_of f l ≤ sum_of g l
unfolding sum_of
sum_le f g [] h = zero-le
sum_le f g (x ∷ l) h = omega (arith, h x (Memᴰ.head refl), sum_le f g l (λ y m. h y (Memᴰ.tail m)))

pub sum_map : {A B : Type 0} (f : B → ℕ) (g : A → B) (l : List A) → sum_of f (map g l) ≡ sum_of (λ x. f (g x)) l
unfolding sum_of
sum_map f g [] = refl
sum_map f g (x ∷ l) = ap (λ k. f (g x) + k) (sum_map f g l)

-- a count is a sum of ones
pub keep_sum : {A : Type 0} (p : A → Bool) (l : List A) → length (keep p l) ≡ sum_of (λ x. cond (p x) 1 0) l
unfolding keep sum_of
keep_sum p [] = refl
keep_sum p (x ∷ l) = go (p x) (keep_sum p l)
  where
    go : (b : Bool) → length (keep p l) ≡ sum_of (λ y. cond (p y) 1 0) l → length (cond b (x ∷ keep p l) (keep p l)) ≡ cond b 1 0 + sum_of (λ y. cond (p y) 1 0) l
    go true e = omega arith
    go false e = omega arith

-- how often a number stands in lists put together
pub times_flat_map : {A : Type 0} (x : ℕ) (f : A → List ℕ) (l : List A) → times x (flat_map f l) ≡ sum_of (λ a. times x (f a)) l
unfolding flat_map sum_of
times_flat_map x f [] = times_nil x
times_flat_map x f (a ∷ l) = times_append x (f a) (flat_map f l) ∙ ap (λ k. times x (f a) + k) (times_flat_map x f l)
