-- Laws of tables: what stands where after a store, and when a list is a table of a function.
use Rattle.std.specs.Prelude.{◌≡◌, refl, ◌≢◌, List, [], ◌∷◌, ◌++◌, map, ℕ, zero, suc, ◌<◌, length, get_or, set}
use Rattle.std.proofs.Common.{sym, ap, ◌∙◌, subst, arith, length-set, get_or-set_same, get_or-set_other, ext_get_or}
use Rattle.std.proofs.Math.Decide.{ℕ_discrete}
use Rattle.lists.specs.Lists.{below}
use Rattle.lists.specs.Runs.{length_table, get_or_table}

-- after a store: a property of place and value that the stored value has, and that held elsewhere
pub set_each : {A : Type 0} (P : ℕ → A → Type 0) (l : List A) (i : ℕ) (v d : A) → i < length l → P i v
    → (j : ℕ) → (j ≢ i → P j (get_or l j d)) → P j (get_or (set l i v) j d)
set_each P l i v d h p j other =
    elim (ℕ_discrete j i) [
      | yes e ↦ subst (λ k. P k (get_or (set l i v) k d)) (sym e) (subst (P i) (sym (get_or-set_same l i v d h)) p)
      | no n ↦ subst (P j) (sym (get_or-set_other l i j v d n)) (other n)
    ]

-- after two stores at different places
pub set_two : {A : Type 0} (P : ℕ → A → Type 0) (l : List A) (i j : ℕ) (a b d : A) → i < length l → j < length l → i ≢ j → P i a → P j b
    → (k : ℕ) → (k ≢ i → k ≢ j → P k (get_or l k d)) → P k (get_or (set (set l i a) j b) k d)
set_two P l i j a b d hi hj ne pa pb k other =
    set_each P (set l i a) j b d (rw (length-set l i a) hj) pb k
    (λ nj. set_each P l i a d hi pa k (λ ni. other ni nj))

-- what stands at a place before the end of a list with one more
pub get_or_snoc_before : {A : Type 0} (l : List A) (a d : A) (i : ℕ) → i < length l → get_or (l ++ (a ∷ [])) i d ≡ get_or l i d
get_or_snoc_before [] a d i h = absurd (omega arith)
get_or_snoc_before (x ∷ l) a d zero h = refl
get_or_snoc_before (x ∷ l) a d (suc i) h = get_or_snoc_before l a d i (omega arith)

pub get_or_snoc_last : {A : Type 0} (l : List A) (a d : A) → get_or (l ++ (a ∷ [])) (length l) d ≡ a
get_or_snoc_last [] a d = refl
get_or_snoc_last (x ∷ l) a d = get_or_snoc_last l a d

-- what holds of each entry with its place, and of one more at the end, holds of each entry of the longer list
pub snoc_each : {A : Type 0} (P : ℕ → A → Type 0) (l : List A) (a d : A) → ((i : ℕ) → i < length l → P i (get_or l i d)) → P (length l) a
    → (i : ℕ) → i < length (l ++ (a ∷ [])) → P i (get_or (l ++ (a ∷ [])) i d)
snoc_each P [] a d each last zero h = last
snoc_each P [] a d each last (suc i) h = absurd (omega arith)
snoc_each P (x ∷ l) a d each last zero h = each 0 (omega arith)
snoc_each P (x ∷ l) a d each last (suc i) h = snoc_each (λ k. P (suc k)) l a d (λ k q. each (suc k) (omega arith)) last i (omega arith)

pub length_snoc : {A : Type 0} (l : List A) (a : A) → length (l ++ (a ∷ [])) ≡ suc (length l)
length_snoc [] a = refl
length_snoc (x ∷ l) a = ap suc (length_snoc l a)

-- a list of n entries that are f's values is the table of f
pub table_is : {A : Type 0} (f : ℕ → A) (l : List A) (n : ℕ) (d : A) → length l ≡ n → ((i : ℕ) → i < n → get_or l i d ≡ f i) → l ≡ map f (below n)
table_is f l n d e each =
    ext_get_or d l (map f (below n)) (e ∙ sym (length_table f n))
    (λ i h. let k : i < n = omega (arith, e) in each i k ∙ sym (get_or_table f n i d k))
