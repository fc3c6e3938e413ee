-- How many members of a list pass a test, and sums: what one member tells, and what one changed member changes.
use Rattle.std.specs.Prelude.{◌≡◌, refl, Bool, true, false, cond, List, [], ◌∷◌, ℕ, suc, ◌+◌, ◌≤◌, length}
use Rattle.std.proofs.Common.{sym, ap, ◌∙◌, ⊎_elim, arith}
use mathlib.Core.List.Memᴰ
use Rattle.lists.specs.Lists.{◌∈◌, Nodup, keep, position, sum_of}
use Rattle.lists.specs.Membership.{in_get_or}
use Rattle.lists.specs.Members.{keep_yes, keep_no, keep_same, in_keep, keep_in, position_before}

-- COUNTS

pub keep_none : {A : Type 0} (p : A → Bool) → length (keep p []) ≡ 0
unfolding keep
keep_none p = refl

pub keep_cons : {A : Type 0} (p : A → Bool) (x : A) (l : List A) → length (keep p (x ∷ l)) ≡ cond (p x) 1 0 + length (keep p l)
unfolding keep
keep_cons p x l = go (p x)
  where
    go : (t : Bool) → length (cond t (x ∷ keep p l) (keep p l)) ≡ cond t 1 0 + length (keep p l)
    go true = omega arith
    go false = omega arith

-- a member that passes is counted
pub keep_counts : {A : Type 0} (p : A → Bool) {x : A} {l : List A} → x ∈ l → p x ≡ true → 1 ≤ length (keep p l)
keep_counts {A} p {x} {l} m t = member (in_keep p m t)
  where
    member : {k : List A} → x ∈ k → 1 ≤ length k
    member (Memᴰ.head e) = omega arith
    member (Memᴰ.tail q) = omega arith

-- where some are counted, there is one
pub counted_one : {A : Type 0} (p : A → Bool) (l : List A) → 1 ≤ length (keep p l) → (x : A) × (x ∈ l) × (p x ≡ true)
counted_one {A} p l h = let r = first (keep p l) h in let k = keep_in p l r.0 r.1 in (r.0, k.0, k.1)
  where
    first : (k : List A) → 1 ≤ length k → (x : A) × (x ∈ k)
    first [] g = absurd (omega arith)
    first (x ∷ k) g = (x, Memᴰ.head refl)

-- two tests that differ at one number of a list without duplicates only: one more passes the test that it passes
pub keep_fall : (p q : ℕ → Bool) (v : ℕ) (l : List ℕ) → Nodup l → v ∈ l → p v ≡ true → q v ≡ false
    → ((x : ℕ) → x ∈ l → (x ≡ v → ⊥) → p x ≡ q x) → length (keep p l) ≡ suc (length (keep q l))
keep_fall p q v [] nd m at_p at-q other = absurd (Memᴰ.not-nil m)
keep_fall p q v (x ∷ l) nd m at_p at-q other =
    ⊎_elim
    (λ e.
    let rest : keep p l ≡ keep q l = keep_same p q l (λ y i. other y (Memᴰ.tail i) (λ z. nd.0 (Memᴰ.cast (sym (z ∙ e)) i))) in
    ap length (keep_yes p x l (ap p (sym e) ∙ at_p)) ∙ ap (λ k. suc (length k)) (rest ∙ sym (keep_no q x l (ap q (sym e) ∙ at-q))))
    (λ i.
    let same : p x ≡ q x = other x (Memᴰ.head refl) (λ z. nd.0 (Memᴰ.cast z i)) in
    let r = keep_fall p q v l nd.1 i at_p at-q (λ y k. other y (Memᴰ.tail k)) in
    let c = ap (λ t. cond {A = ℕ} t 1 0) same in
    omega (arith, keep_cons p x l, keep_cons q x l))
    (Memᴰ.cases_cons m)

-- where the position is the length, no member passes
pub position_fails : {A : Type 0} (p : A → Bool) (l : List A) → position p l ≡ length l → (x : A) → x ∈ l → p x ≡ false
position_fails p l e x m = let r = in_get_or x m in ap p (sym r.2) ∙ position_before p l x r.0 (omega (arith, r.1))

-- SUMS

-- what a member counts is at most the sum
pub sum_member : {A : Type 0} (f : A → ℕ) {x : A} {l : List A} → x ∈ l → f x ≤ sum_of f l
unfolding sum_of
sum_member f (Memᴰ.head {xs = l} e) = let z = ap f e in omega arith
sum_member f (Memᴰ.tail m) = let r = sum_member f m in omega arith

-- a sum that is made or not
pub sum_cond : {A : Type 0} (t : Bool) (f : A → ℕ) (l : List A) → sum_of (λ x. cond t (f x) 0) l ≡ cond t (sum_of f l) 0
unfolding sum_of
sum_cond true f l = refl
sum_cond false f [] = refl
sum_cond false f (x ∷ l) = omega (arith, sum_cond false f l)
