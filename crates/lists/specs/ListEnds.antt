-- Lists at their ends: one list after another, a first member, members from the other end, the last.
use Rattle.std.specs.Prelude.{ℕ, suc, ◌+◌, ◌≡◌, refl, Bool, true, false, ◌&&◌, cond, length}
use Rattle.std.proofs.Common.{arith, sym, ap, ◌∙◌, eq-eqb, ne_eqb}
use Rattle.std.proofs.Math.Bool.{and_assoc, and-true}
use mathlib.Core.List.{List, [], ◌∷◌, ◌++◌, reverse_aux, reverse}
use Rattle.lists.specs.Lists.{has, all, positions}

pub positions_append : {A : Type 0} (p : A → Bool) (i : ℕ) (l m : List A) → positions p i (l ++ m) ≡ positions p i l ++ positions p (i + length l) m
unfolding positions
positions_append p i [] m = let e : i ≡ i + 0 = omega arith in ap (λ k. positions p k m) e
positions_append p i (x ∷ l) m =
    let e : suc i + length l ≡ i + suc (length l) = omega arith in
    go (p x) (positions p (suc i) l) (positions p (i + suc (length l)) m) (positions_append p (suc i) l m ∙ ap (λ k. positions p (suc i) l ++ positions p k m) e)
  where
    go : (b : Bool) {r : List ℕ} (s t : List ℕ) → r ≡ s ++ t → cond b (i ∷ r) r ≡ cond b (i ∷ s) s ++ t
    go true s t e = ap (λ r. i ∷ r) e
    go false s t e = e

-- a first member that is looked for, and one that is not
pub has_hit : (x y : ℕ) (l : List ℕ) → y ≡ x → has x (y ∷ l) ≡ true
unfolding has
has_hit x y l e = rw (eq-eqb x y (sym e))

pub has_miss : (x y : ℕ) (l : List ℕ) → (y ≡ x → ⊥) → has x (y ∷ l) ≡ has x l
unfolding has
has_miss x y l n = rw (ne_eqb x y (λ e. n (sym e)))

pub has_none : (x : ℕ) → has x [] ≡ false
unfolding has
has_none x = refl

-- a first member that passes the test, and one that does not
pub all_on : {A : Type 0} (p : A → Bool) (x : A) (l : List A) → p x ≡ true → all p (x ∷ l) ≡ all p l
unfolding all
all_on p x l e = rw e

pub all_stop : {A : Type 0} (p : A → Bool) (x : A) (l : List A) → p x ≡ false → all p (x ∷ l) ≡ false
unfolding all
all_stop p x l e = rw e

pub all_none : {A : Type 0} (p : A → Bool) → all p [] ≡ true
unfolding all
all_none p = refl

and_swap : (a b c : Bool) → (a && (b && c)) ≡ (b && (a && c))
and_swap true true c = refl
and_swap true false c = refl
and_swap false true c = refl
and_swap false false c = refl

all_onto : {A : Type 0} (p : A → Bool) (l m : List A) → all p (reverse_aux l m) ≡ (all p l && all p m)
unfolding all
all_onto p [] m = refl
all_onto p (x ∷ l) m = all_onto p l (x ∷ m) ∙ and_swap (all p l) (p x) (all p m) ∙ sym (and_assoc (p x) (all p l) (all p m))

-- members from the other end pass a test as they do
pub all_reverse : {A : Type 0} (p : A → Bool) (l : List A) → all p (reverse l) ≡ all p l
unfolding all
all_reverse p l = all_onto p l [] ∙ and-true (all p l)
