-- Laws of iterates and orbits: where a function is one to one on a part of the numbers below n, each orbit comes back to its start within n steps.
use Rattle.std.specs.Prelude.{◌≡◌, refl, ◌⊎◌, Bool, true, false, length, get_or}
use Rattle.std.proofs.Math.Path.{sym}
use Rattle.std.proofs.Common.{ap, ◌∙◌, subst, inl, inr, zero-add, suc-add, eq-or-lt_of_le, le_of_suc-le-suc, arith}
use Rattle.std.proofs.Math.Logic.{⊎_elim}
use mathlib.Core.List.Memᴰ
use Prim.Native.Nat.{ℕ, zero, suc, ◌+◌, ◌<◌}
use Rattle.std.proofs.Math.Dec.{eqb}
use borrow.Author.Tests.{eqb-true, eqb-false}
use Rattle.lists.specs.Lists.{◌∈◌, Nodup, iterate, orbit}
use Rattle.lists.specs.Tests.{both_ways}
use Rattle.lists.specs.Runs.{pigeon_below}

-- the least number below n that passes a test, or none passes
pub least_below : (p : ℕ → Bool) (n : ℕ) → ((k : ℕ) × (k < n) × (p k ≡ true) × ((j : ℕ) → j < k → p j ≡ false)) ⊎ ((j : ℕ) → j < n → p j ≡ false)
least_below p zero = inr (λ j h. absurd (omega arith))
least_below p (suc n) = ⊎_elim (λ r. inl (r.0, omega arith, r.2, r.3)) (λ none. ⊎_elim (λ t. inl (n, omega arith, t, none)) (λ t. inr (all none t)) (both_ways (p n))) (least_below p n)
  where
    all : ((j : ℕ) → j < n → p j ≡ false) → p n ≡ false → (j : ℕ) → j < suc n → p j ≡ false
    all none t j h = ⊎_elim (λ e. ap p e ∙ t) (none j) (eq-or-lt_of_le (le_of_suc-le-suc h))

-- ITERATES

pub iterate_zero : (f : ℕ → ℕ) (x : ℕ) → iterate f 0 x ≡ x
unfolding iterate
iterate_zero f x = refl

pub iterate_first : (f : ℕ → ℕ) (k x : ℕ) → iterate f (suc k) x ≡ iterate f k (f x)
unfolding iterate
iterate_first f k x = refl

pub iterate_suc : (f : ℕ → ℕ) (k x : ℕ) → iterate f (suc k) x ≡ f (iterate f k x)
unfolding iterate
iterate_suc f zero x = refl
iterate_suc f (suc k) x = iterate_suc f k (f x)

pub iterate_split : (f : ℕ → ℕ) (c a b x : ℕ) → c ≡ a + b → iterate f c x ≡ iterate f b (iterate f a x)
unfolding iterate
iterate_split f c zero b x e = ap (λ k. iterate f k x) (e ∙ zero-add b)
iterate_split f c (suc a) b x e = ap (λ k. iterate f k x) (e ∙ suc-add a b) ∙ iterate_split f (a + b) a b (f x) refl

-- two functions that agree along an orbit have one orbit
pub iterate_same : (f g : ℕ → ℕ) (D : ℕ → Type 0) → ((x : ℕ) → D x → D (f x)) → ((x : ℕ) → D x → f x ≡ g x) → (k x : ℕ) → D x → iterate f k x ≡ iterate g k x
unfolding iterate
iterate_same f g D closed same zero x d = refl
iterate_same f g D closed same (suc k) x d = iterate_same f g D closed same k (f x) (closed x d) ∙ ap (iterate g k) (same x d)

-- ORBITS

pub in_orbit : (f : ℕ → ℕ) (k j x : ℕ) → j < k → iterate f j x ∈ orbit f k x
unfolding orbit iterate
in_orbit f zero j x h = absurd (omega arith)
in_orbit f (suc k) zero x h = Memᴰ.head refl
in_orbit f (suc k) (suc j) x h = Memᴰ.tail (in_orbit f k j (f x) (omega arith))

pub orbit_in : (f : ℕ → ℕ) (k x y : ℕ) → y ∈ orbit f k x → (j : ℕ) × (j < k) × (y ≡ iterate f j x)
unfolding orbit iterate
orbit_in f zero x y m = absurd (Memᴰ.not-nil m)
orbit_in f (suc k) x y m =
    ⊎_elim (λ e. (zero, omega arith, e)) (λ q. let r = orbit_in f k (f x) y q in (suc r.0, omega arith, r.2)) (Memᴰ.cases_cons m)

pub length_orbit : (f : ℕ → ℕ) (k x : ℕ) → length (orbit f k x) ≡ k
unfolding orbit
length_orbit f zero x = refl
length_orbit f (suc k) x = ap suc (length_orbit f k (f x))

pub get_or_orbit : (f : ℕ → ℕ) (k x i d : ℕ) → i < k → get_or (orbit f k x) i d ≡ iterate f i x
unfolding orbit iterate
get_or_orbit f zero x i d h = absurd (omega arith)
get_or_orbit f (suc k) x zero d h = refl
get_or_orbit f (suc k) x (suc i) d h = get_or_orbit f k (f x) i d (omega arith)

-- PERMUTATIONS

-- f is one to one from a part D of the numbers below n into D
pub record Perm (n : ℕ) (f : ℕ → ℕ) (D : ℕ → Type 0) : Type 0 where
  pub bound : (x : ℕ) → D x → x < n
  pub closed : (x : ℕ) → D x → D (f x)
  pub inj : (x y : ℕ) → D x → D y → f x ≡ f y → x ≡ y

module _ {n : ℕ} {f : ℕ → ℕ} {D : ℕ → Type 0} (P : Perm n f D) where
  pub iterate_stays : (k x : ℕ) → D x → D (iterate f k x)
  unfolding iterate
  iterate_stays zero x d = d
  iterate_stays (suc k) x d = iterate_stays k (f x) (P.closed x d)

  pub iterate_inj : (k x y : ℕ) → D x → D y → iterate f k x ≡ iterate f k y → x ≡ y
  unfolding iterate
  iterate_inj zero x y d d' e = e
  iterate_inj (suc k) x y d d' e = P.inj x y d d' (iterate_inj k (f x) (f y) (P.closed x d) (P.closed y d') e)

  pub orbit_stays : (k x y : ℕ) → D x → y ∈ orbit f k x → D y
  orbit_stays k x y d m = let r = orbit_in f k x y m in subst D (sym r.2) (iterate_stays r.0 x d)

  -- an orbit cut before it comes back to its start has no duplicates
  pub orbit_nodup : (k x : ℕ) → D x → ((i : ℕ) → suc i < k → ¬ (iterate f (suc i) x ≡ x)) → Nodup (orbit f k x)
  unfolding orbit iterate
  orbit_nodup zero x d h = tt
  orbit_nodup (suc k) x d h = (
    λ m. let r = orbit_in f k (f x) x m in h r.0 (omega arith) (sym r.2),
    orbit_nodup k (f x) (P.closed x d) (λ i lt e. h i (omega arith) (P.inj (iterate f (suc i) x) x (iterate_stays (suc i) x d) d (sym (iterate_suc f (suc i) x) ∙ e))),
  )

  pub period : (x : ℕ) → D x → (j : ℕ) × (j < n) × (iterate f (suc j) x ≡ x) × ((i : ℕ) → i < j → ¬ (iterate f (suc i) x ≡ x))
  unfolding iterate
  period x d =
      ⊎_elim
      (λ r. (r.0, r.1, eqb-true (iterate f (suc r.0) x) x r.2, λ i h. eqb-false (iterate f (suc i) x) x (r.3 i h)))
      (λ h. absurd (never h))
      (least_below (λ j. eqb (iterate f (suc j) x) x) n)
    where
      never : ((j : ℕ) → j < n → eqb (iterate f (suc j) x) x ≡ false) → ⊥
      never h =
          let nd : Nodup (orbit f (suc n) x) = orbit_nodup (suc n) x d (λ i lt. eqb-false (iterate f (suc i) x) x (h i (omega arith))) in
          let r = pigeon_below n (orbit f (suc n) x) nd (λ y m. P.bound y (orbit_stays (suc n) x y d m)) in
          omega (arith, length_orbit f (suc n) x)

  -- a closed orbit holds what leads into it
  pub cycle_back : (j x z : ℕ) → D x → D z → iterate f (suc j) x ≡ x → f z ∈ orbit f (suc j) x → z ∈ orbit f (suc j) x
  unfolding iterate
  cycle_back j x z d dz back m = let r = orbit_in f (suc j) x (f z) m in go r.0 r.1 r.2
    where
      go : (i : ℕ) → i < suc j → f z ≡ iterate f i x → z ∈ orbit f (suc j) x
      go zero lt e = Memᴰ.cast (P.inj z (iterate f j x) dz (iterate_stays j x d) (e ∙ sym back ∙ iterate_suc f j x)) (in_orbit f (suc j) j x (omega arith))
      go (suc i) lt e = Memᴰ.cast (P.inj z (iterate f i x) dz (iterate_stays i x d) (e ∙ iterate_suc f i x)) (in_orbit f (suc j) i x (omega arith))

  -- and so all that reaches it
  pub cycle_reach : (j x k z : ℕ) → D x → D z → iterate f (suc j) x ≡ x → iterate f k z ∈ orbit f (suc j) x → z ∈ orbit f (suc j) x
  unfolding iterate
  cycle_reach j x zero z d dz back m = m
  cycle_reach j x (suc k) z d dz back m = cycle_back j x z d dz back (cycle_reach j x k (f z) d (P.closed z dz) back m)
