-- Laws of the least of a list.
use Rattle.std.specs.Prelude.{◌≡◌, refl, Bool, true, false, cond, List, [], ◌∷◌, ℕ, ◌≤◌, ltb}
use Rattle.std.proofs.Common.{⊎_elim, arith, ltb-true, ltb-false}
use mathlib.Core.List.Memᴰ
use Rattle.lists.specs.Lists.{◌∈◌, least}

-- the least of a list is a member of it
pub least_in : (x : ℕ) (l : List ℕ) (none : ℕ) → least (x ∷ l) none ∈ (x ∷ l)
unfolding least
least_in x [] none = go (ltb x x)
  where
    go : (b : Bool) → cond b x x ∈ (x ∷ [])
    go true = Memᴰ.head refl
    go false = Memᴰ.head refl
least_in x (y ∷ l) none = go (ltb x (least (y ∷ l) x)) (least_in y l x)
  where
    go : (b : Bool) → least (y ∷ l) x ∈ (y ∷ l) → cond b x (least (y ∷ l) x) ∈ (x ∷ y ∷ l)
    go true m = Memᴰ.head refl
    go false m = Memᴰ.tail m

-- and no member is less
pub least_low : (l : List ℕ) (none y : ℕ) → y ∈ l → least l none ≤ y
unfolding least
least_low [] none y m = absurd (Memᴰ.not-nil m)
least_low (x ∷ l) none y m = go (ltb x (least l x)) refl (λ q. least_low l x y q)
  where
    go : (b : Bool) → ltb x (least l x) ≡ b → (y ∈ l → least l x ≤ y) → cond b x (least l x) ≤ y
    go true e low = ⊎_elim (λ q. omega arith) (λ q. omega (arith, low q, ltb-true x (least l x) e)) (Memᴰ.cases_cons m)
    go false e low = ⊎_elim (λ q. omega (arith, ltb-false x (least l x) e)) (λ q. low q) (Memᴰ.cases_cons m)

-- a member that no member is less than
pub least_is : (x : ℕ) (l : List ℕ) (none m : ℕ) → m ∈ (x ∷ l) → ((y : ℕ) → y ∈ (x ∷ l) → m ≤ y) → least (x ∷ l) none ≡ m
least_is x l none m i low = omega (arith, least_low (x ∷ l) none m i, low (least (x ∷ l) none) (least_in x l none))
