-- What `all` and `any` answer of an iterator, in the definitions' own words; and of a range of numbers.
use Rattle.std.specs.Prelude.{ℕ, zero, suc, ◌≡◌, refl, Option, List, [], ◌∷◌, map, Bool, ◌&&◌, ◌||◌, length, get_or, eqb}
use Rattle.std.proofs.Common.{sym, ap, ◌∙◌, subst, add-one}
use Rattle.std.specs.Iterator.{ChecksAll, ChecksAny}
use Rattle.std.specs.Fn.{Called}
use denote.Param.Members.{Mut}
use Rattle.std.specs.List.{list_all, list_any, range_with_len}
use Rattle.std.proofs.lemmas.Iterator.{YieldsList}
use Rattle.std.proofs.lemmas.Iterator.Search.{all_from_yields_List, any_from_yields_List}
use Rattle.lists.specs.Lists.{from, below, all, some, has}
use Rattle.lists.specs.Tables.{table_is}

all_is : {A : Type 0} (p : A → Bool) (l : List A) → list_all p l ≡ all p l
unfolding all
all_is p [] = refl
all_is p (x ∷ l) = ap (λ b. p x && b) (all_is p l)

some_is : {A : Type 0} (p : A → Bool) (l : List A) → list_any p l ≡ some p l
unfolding some
some_is p [] = refl
some_is p (x ∷ l) = ap (λ b. p x || b) (some_is p l)

-- the closure leaves itself as it was, and answers what a test does
abbrev pub Tests : {A B F : Type 0} → Mut F (A × Unit {0}) Bool → F → (A → B) → (B → Bool) → Type 0
Tests {A} {B} {F} g f v test = (x : A) (b : Bool) (q : F) → Called g f (x, tt) b q → (q ≡ f) × (b ≡ test (v x))

-- an iterator that yields a list, asked by a closure that computes a test
module _ {S A B F : Type 0} {steps : S → Option A → S → Type 0} {v : A → B} {g : Mut F (A × Unit {0}) Bool} {s : S} {l : List B} (test : B → Bool) (u : S) (f : F) (r : Bool) where
  pub all_yielded : ChecksAll steps g s f r u → YieldsList steps v s l → Tests g f v test → r ≡ all test l
  all_yielded ran yields says = all_from_yields_List test u f r ran yields says ∙ all_is test l

  pub some_yielded : ChecksAny steps g s f r u → YieldsList steps v s l → Tests g f v test → r ≡ some test l
  some_yielded ran yields says = any_from_yields_List test u f r ran yields says ∙ some_is test l

-- the numbers of a range are those below its end
range_is : (a n : ℕ) → range_with_len a n ≡ from a n
unfolding from
range_is a zero = refl
range_is a (suc n) = ap {B = List ℕ} (λ l. a ∷ l) (ap (λ k. range_with_len k n) (add-one a) ∙ range_is (suc a) n)

pub yields_below : {S : Type 0} {steps : S → Option ℕ → S → Type 0} {s : S} (n : ℕ) → YieldsList steps (λ x. x) s (range_with_len 0 n) → YieldsList steps (λ x. x) s (below n)
yields_below {S} {steps} {s} n = subst (YieldsList steps (λ x. x) s) (range_is 0 n)

-- a number is among those of a table, by place
has_map : {A : Type 0} (x : ℕ) (f : A → ℕ) (l : List A) → has x (map f l) ≡ some (λ y. eqb x (f y)) l
unfolding has some
has_map x f [] = refl
has_map x f (y ∷ l) = ap (λ b. eqb x (f y) || b) (has_map x f l)

pub has_places : (x n : ℕ) (l : List ℕ) → length l ≡ n → some (λ i. eqb x (get_or l i 0)) (below n) ≡ has x l
has_places x n l e = sym (ap (has x) (table_is (λ i. get_or l i 0) l n 0 e (λ i h. refl)) ∙ has_map x (λ i. get_or l i 0) (below n))
