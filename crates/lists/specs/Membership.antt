-- Laws of membership, lists without duplicates, and pigeonholes.
use Rattle.std.specs.Prelude.{◌≡◌, refl, ◌⊎◌, true, false, List, [], ◌∷◌, ◌++◌, ℕ, zero, suc, ◌+◌, ◌≤◌, ◌<◌, eqb, length, get_or}
use Rattle.std.proofs.Common.{sym, ap, ◌∙◌, inl, inr, ⊎_elim, true≢false, zero-le, le_antisymm, arith, eqb-true, eq-eqb, ne_eqb}
use Rattle.std.proofs.lemmas.Bool.{false≢true, eqb-false}
use mathlib.Core.List.Memᴰ
use Rattle.lists.specs.Lists.{◌∈◌, Nodup, has, repeats, times}
use Rattle.lists.specs.Tests.{both_ways, or_cases, or_second, or_none, equal_or_not}

-- THE TEST AND MEMBERSHIP

pub has_in : (x : ℕ) (l : List ℕ) → has x l ≡ true → x ∈ l
unfolding has
has_in x [] e = absurd (false≢true e)
has_in x (y ∷ ys) e = ⊎_elim (λ q. Memᴰ.head (eqb-true x y q)) (λ q. Memᴰ.tail (has_in x ys q)) (or_cases (eqb x y) (has x ys) e)

pub in_has : {x : ℕ} {l : List ℕ} → x ∈ l → has x l ≡ true
unfolding has
in_has {x} (Memᴰ.head {x = y} e) = rw (eq-eqb x y e)
in_has {x} (Memᴰ.tail {x = y} {xs = ys} m) = or_second (eqb x y) (has x ys) (in_has m)

pub has_out : (x : ℕ) (l : List ℕ) → has x l ≡ false → ¬ (x ∈ l)
has_out x l e m = true≢false (sym (in_has m) ∙ e)

pub out_has : (x : ℕ) (l : List ℕ) → ¬ (x ∈ l) → has x l ≡ false
out_has x l h = ⊎_elim (λ e. absurd (h (has_in x l e))) (λ e. e) (both_ways (has x l))

-- x stands in the list or not
pub in_or_out : (x : ℕ) (l : List ℕ) → (x ∈ l) ⊎ (¬ (x ∈ l))
in_or_out x l = ⊎_elim (λ e. inl (has_in x l e)) (λ e. inr (has_out x l e)) (both_ways (has x l))

-- what stands at a place is a member
pub get_or_in : {A : Type 0} (l : List A) (i : ℕ) (d : A) → i < length l → get_or l i d ∈ l
get_or_in [] i d h = absurd (omega arith)
get_or_in (x ∷ xs) zero d h = Memᴰ.head refl
get_or_in (x ∷ xs) (suc i) d h = Memᴰ.tail (get_or_in xs i d (omega arith))

-- a member stands at some place
pub in_get_or : {A : Type 0} {x : A} {l : List A} (d : A) → x ∈ l → (i : ℕ) × (i < length l) × (get_or l i d ≡ x)
in_get_or d (Memᴰ.head e) = (zero, omega arith, sym e)
in_get_or d (Memᴰ.tail m) = let r = in_get_or d m in (suc r.0, omega arith, r.2)

-- NO DUPLICATES

pub nodup_append : (s t : List ℕ) → Nodup s → Nodup t → ((x : ℕ) → x ∈ s → x ∈ t → ⊥) → Nodup (s ++ t)
nodup_append [] t ns nt apart = nt
nodup_append (x ∷ s) t ns nt apart = (
  λ m. ⊎_elim ns.0 (apart x (Memᴰ.head refl)) (Memᴰ.append_cases s m),
  nodup_append s t ns.1 nt (λ y p q. apart y (Memᴰ.tail p) q),
)

-- the test says that no number stands twice
pub repeats_none : (l : List ℕ) → repeats l ≡ false → Nodup l
unfolding repeats
repeats_none [] e = tt
repeats_none (x ∷ xs) e = let p = or_none (has x xs) (repeats xs) e in (has_out x xs p.0, repeats_none xs p.1)

pub nodup_repeats : (l : List ℕ) → Nodup l → repeats l ≡ false
unfolding repeats
nodup_repeats [] n = refl
nodup_repeats (x ∷ xs) n = rw (out_has x xs n.0, nodup_repeats xs n.1)

-- PIGEONHOLES

without : {x : ℕ} {m : List ℕ} → x ∈ m → List ℕ
without (Memᴰ.head {xs = xs} e) = xs
without (Memᴰ.tail {x = y} p) = y ∷ without p

without_length : {x : ℕ} {m : List ℕ} (p : x ∈ m) → length m ≡ suc (length (without p))
unfolding without
without_length (Memᴰ.head e) = refl
without_length (Memᴰ.tail p) = ap suc (without_length p)

without_keeps : {x y : ℕ} {m : List ℕ} (p : x ∈ m) → y ∈ m → ¬ (y ≡ x) → y ∈ without p
unfolding without
without_keeps (Memᴰ.head e) q ne = ⊎_elim (λ e'. absurd (ne (e' ∙ sym e))) (λ r. r) (Memᴰ.cases_cons q)
without_keeps (Memᴰ.tail p) q ne = ⊎_elim (λ e. Memᴰ.head e) (λ r. Memᴰ.tail (without_keeps p r ne)) (Memᴰ.cases_cons q)

-- a list without duplicates is no longer than one that holds its members
pub pigeon : (l m : List ℕ) → Nodup l → ((x : ℕ) → x ∈ l → x ∈ m) → length l ≤ length m
pigeon [] m nd sub = zero-le
pigeon (x ∷ l) m nd sub =
    let p : x ∈ m = sub x (Memᴰ.head refl) in
    let r = pigeon l (without p) nd.1 (λ y q. without_keeps p (sub y (Memᴰ.tail q)) (λ e. nd.0 (Memᴰ.cast (sym e) q))) in
    omega (arith, without_length p)

-- two lists without duplicates and with the same members are of one length
pub same_length : (l m : List ℕ) → Nodup l → Nodup m → ((x : ℕ) → x ∈ l → x ∈ m) → ((x : ℕ) → x ∈ m → x ∈ l) → length l ≡ length m
same_length l m nl nm f g = le_antisymm (pigeon l m nl f) (pigeon m l nm g)

-- a list without duplicates that lies in m and is as long holds all of m
pub full : (l m : List ℕ) → Nodup l → ((x : ℕ) → x ∈ l → x ∈ m) → length m ≤ length l → (y : ℕ) → y ∈ m → y ∈ l
full l m nl sub le y q = ⊎_elim (λ p. p) (λ out. absurd (none out)) (in_or_out y l)
  where
    inside : (x : ℕ) → x ∈ (y ∷ l) → x ∈ m
    inside x (Memᴰ.head e) = Memᴰ.cast e q
    inside x (Memᴰ.tail p) = sub x p

    none : ¬ (y ∈ l) → ⊥
    none out = let r = pigeon (y ∷ l) m (out, nl) inside in omega arith

-- HOW OFTEN

pub times_nil : (x : ℕ) → times x [] ≡ 0
unfolding times
times_nil x = refl

pub times_hit : (x y : ℕ) (l : List ℕ) → x ≡ y → times x (y ∷ l) ≡ suc (times x l)
unfolding times
times_hit x y l e = rw (eq-eqb x y e) (omega arith)

pub times_miss : (x y : ℕ) (l : List ℕ) → (x ≡ y → ⊥) → times x (y ∷ l) ≡ times x l
unfolding times
times_miss x y l h = rw (ne_eqb x y h) (omega arith)

pub times_append : (x : ℕ) (l m : List ℕ) → times x (l ++ m) ≡ times x l + times x m
unfolding times
times_append x [] m = omega arith
times_append x (y ∷ l) m = omega (arith, times_append x l m)

pub times_out : (x : ℕ) (l : List ℕ) → ¬ (x ∈ l) → times x l ≡ 0
times_out x [] h = times_nil x
times_out x (y ∷ l) h = times_miss x y l (λ e. h (Memᴰ.head e)) ∙ times_out x l (λ m. h (Memᴰ.tail m))

pub times_in : {x : ℕ} {l : List ℕ} → x ∈ l → 1 ≤ times x l
times_in {x} (Memᴰ.head {x = y} {xs = l} e) = omega (arith, times_hit x y l e)
times_in {x} (Memᴰ.tail {x = y} {xs = l} m) =
    let r = times_in m in
    ⊎_elim (λ w. omega (arith, times_hit x y l w.0)) (λ w. omega (arith, times_miss x y l w.0)) (equal_or_not x y)

-- in a list without duplicates a member stands once
pub times_once : (x : ℕ) (l : List ℕ) → Nodup l → x ∈ l → times x l ≡ 1
times_once x [] nd m = absurd (Memᴰ.not-nil m)
times_once x (y ∷ l) nd m =
    ⊎_elim
    (λ e. let out = times_out x l (λ q. nd.0 (Memᴰ.cast (sym e) q)) in omega (arith, times_hit x y l e))
    (λ q. let r = times_once x l nd.1 q in omega (arith, times_miss x y l (λ e. nd.0 (Memᴰ.cast (sym e) q))))
    (Memᴰ.cases_cons m)

-- where each number stands at most once there are no duplicates
pub once_nodup : (l : List ℕ) → ((x : ℕ) → times x l ≤ 1) → Nodup l
once_nodup [] h = tt
once_nodup (y ∷ l) h = (
  λ m. let r = times_in m in let k = h y in omega (arith, times_hit y y l refl),
  once_nodup l (λ x. let k = h x in ⊎_elim (λ e. omega (arith, times_hit x y l (eqb-true x y e))) (λ e. omega (arith, times_miss x y l (eqb-false x y e))) (both_ways (eqb x y))),
)
