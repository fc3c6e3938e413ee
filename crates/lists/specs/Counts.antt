-- Laws of counting: through maps, by places, by sums, and where at most one passes.
use Rattle.std.specs.Prelude.{◌≡◌, refl, Bool, true, false, cond, List, [], ◌∷◌, map, ℕ, suc, ◌+◌, ◌≤◌, eqb, length, get_or}
use Rattle.std.proofs.Common.{ap, ◌∙◌, ⊎_elim, zero-le, arith}
use mathlib.Core.List.Memᴰ
use Rattle.lists.specs.Lists.{below, ◌∈◌, Nodup, times, keep, sum_of}
use Rattle.lists.specs.Tests.{both_ways}
use Rattle.lists.specs.Members.{keep_yes, keep_no}
use Rattle.lists.specs.Sums.{sum_cons}
use Rattle.lists.specs.Tables.{table_is}

-- as many members of a map pass as members whose values pass
pub keep_map_length : {A B : Type 0} (p : B → Bool) (f : A → B) (l : List A) → length (keep p (map f l)) ≡ length (keep (λ x. p (f x)) l)
unfolding keep
keep_map_length p f [] = refl
keep_map_length {A} p f (x ∷ l) = go (p (f x)) (keep_map_length p f l)
  where
    go : (b : Bool) → length (keep p (map f l)) ≡ length (keep (λ y. p (f y)) l)
        → length (cond b (f x ∷ keep p (map f l)) (keep p (map f l))) ≡ length (cond b (x ∷ keep (λ y. p (f y)) l) (keep (λ y. p (f y)) l))
    go true e = ap suc e
    go false e = e

-- as many members pass as places where one stands that passes
pub keep_places : {A : Type 0} (p : A → Bool) (l : List A) (d : A) → length (keep p l) ≡ length (keep (λ i. p (get_or l i d)) (below (length l)))
keep_places p l d =
    ap (λ r. length (keep p r)) (table_is (λ i. get_or l i d) l (length l) d refl (λ i h. refl)) ∙ keep_map_length p (λ i. get_or l i d) (below (length l))

-- where no member passes none is kept
pub keep_nothing : {A : Type 0} (p : A → Bool) (l : List A) → ((x : A) → x ∈ l → p x ≡ false) → keep p l ≡ []
unfolding keep
keep_nothing p [] none = refl
keep_nothing p (x ∷ l) none = rw (none x (Memᴰ.head refl)) (keep_nothing p l (λ y m. none y (Memᴰ.tail m)))

-- where every member passes all are kept
pub keep_all : {A : Type 0} (p : A → Bool) (l : List A) → ((x : A) → x ∈ l → p x ≡ true) → keep p l ≡ l
unfolding keep
keep_all p [] each = refl
keep_all p (x ∷ l) each = rw (each x (Memᴰ.head refl)) (ap (λ r. x ∷ r) (keep_all p l (λ y m. each y (Memᴰ.tail m))))

-- how often a number stands is a count
pub times_keep : (x : ℕ) (l : List ℕ) → times x l ≡ length (keep (eqb x) l)
unfolding times keep
times_keep x [] = refl
times_keep x (y ∷ l) = go (eqb x y) (times_keep x l)
  where
    go : (b : Bool) → times x l ≡ length (keep (eqb x) l) → cond b 1 0 + times x l ≡ length (cond b (y ∷ keep (eqb x) l) (keep (eqb x) l))
    go true e = omega arith
    go false e = omega arith

-- where any two members are equal and none stands twice there is at most one
pub at_most_one : (l : List ℕ) → Nodup l → ((x y : ℕ) → x ∈ l → y ∈ l → x ≡ y) → length l ≤ 1
at_most_one [] nd one = zero-le
at_most_one (x ∷ []) nd one = omega arith
at_most_one (x ∷ y ∷ l) nd one = absurd (nd.0 (Memᴰ.head (one x y (Memᴰ.head refl) (Memᴰ.tail (Memᴰ.head refl)))))

-- SUMS

-- the members that do not pass count nothing
pub sum_keep : {A : Type 0} (p : A → Bool) (f : A → ℕ) (l : List A) → ((x : A) → x ∈ l → p x ≡ false → f x ≡ 0) → sum_of f (keep p l) ≡ sum_of f l
unfolding keep
sum_keep p f [] none = refl
sum_keep p f (x ∷ l) none =
    let r = sum_keep p f l (λ y m. none y (Memᴰ.tail m)) in
    ⊎_elim
    (λ t. ap (sum_of f) (keep_yes p x l t) ∙ omega (arith, r, sum_cons f x (keep p l), sum_cons f x l))
    (λ t. ap (sum_of f) (keep_no p x l t) ∙ omega (arith, r, sum_cons f x l, none x (Memᴰ.head refl) t))
    (both_ways (p x))
