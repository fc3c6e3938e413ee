-- Laws of lists made row by row, by `flat_map`.
use Rattle.std.specs.Prelude.{ℕ, ◌+◌, ◌*◌, ◌≡◌, Bool, get_or}
use Rattle.std.proofs.Math.Nat.{add_comm}
use Rattle.std.proofs.Common.{mul-suc, add-one, ◌∙◌}
use native.Mathlib.Omega.{arith}
use Rattle.std.proofs.Math.Path.{refl, sym, ap}
use Rattle.std.proofs.Math.Logic.{⊎_elim}
use mathlib.Core.List.Memᴰ
use mathlib.Core.List.{List, [], ◌∷◌, ◌++◌, map, flat_map, append-nil}
use Rattle.std.proofs.Math.Bool.{cond}
use Rattle.std.proofs.Math.ListN.{length, length-append}
use Rattle.lists.specs.Lists.{◌∈◌, below, keep}
use Rattle.lists.specs.Tests.{both_ways, cond_true, cond_false}
use Rattle.lists.specs.Runs.{below_snoc}
use Rattle.lists.specs.Members.{flat_map_append, keep_yes, keep_no}
use Rattle.lists.specs.Tables.{table_is}

module _ {A B C : Type 0} where
  pub flat_map_map : (f : B → List C) (g : A → B) (l : List A) → flat_map f (map g l) ≡ flat_map (λ x. f (g x)) l
  unfolding flat_map
  flat_map_map f g [] = refl
  flat_map_map f g (x ∷ l) = ap (λ r. f (g x) ++ r) (flat_map_map f g l)

module _ {A B : Type 0} where
  -- the rows of the members that pass a test: no row for the others
  pub flat_map_keep : (f : A → List B) (p : A → Bool) (l : List A) → flat_map f (keep p l) ≡ flat_map (λ x. cond (p x) (f x) []) l
  unfolding flat_map keep
  flat_map_keep f p [] = refl
  flat_map_keep f p (x ∷ l) =
      ⊎_elim
      (λ e. ap (flat_map f) (keep_yes p x l e) ∙ (λ t. sym (cond_true (p x) (f x) [] e) t ++ flat_map_keep f p l t))
      (λ e. ap (flat_map f) (keep_no p x l e) ∙ flat_map_keep f p l ∙ ap (λ r. r ++ flat_map (λ y. cond (p y) (f y) []) l) (sym (cond_false (p x) (f x) [] e)))
      (both_ways (p x))

  -- the rows of a list, by place
  pub flat_map_places : (f : A → List B) (l : List A) (d : A) → flat_map f l ≡ flat_map (λ i. f (get_or l i d)) (below (length l))
  flat_map_places f l d =
      ap (flat_map f) (table_is (λ i. get_or l i d) l (length l) d refl (λ i h. refl)) ∙ flat_map_map f (λ i. get_or l i d) (below (length l))

  -- rows of one length
  pub flat_map_each : (f : A → List B) (m : ℕ) (l : List A) → ((x : A) → x ∈ l → length (f x) ≡ m) → length (flat_map f l) ≡ m * length l
  unfolding flat_map
  flat_map_each f m [] each = omega arith
  flat_map_each f m (x ∷ l) each =
      length-append (f x) (flat_map f l) ∙ (λ t. each x (Memᴰ.head refl) t + flat_map_each f m l (λ y i. each y (Memᴰ.tail i)) t)
      ∙ add_comm m (m * length l) ∙ sym (mul-suc m (length l))

  pub flat_map_even : (f : A → List B) (m : ℕ) (l : List A) → ((x : A) → length (f x) ≡ m) → length (flat_map f l) ≡ m * length l
  flat_map_even f m l each = flat_map_each f m l (λ x i. each x)

module _ {B : Type 0} where
  -- rows of one member each are the members
  pub flat_map_single : (l : List B) → flat_map (λ x. x ∷ []) l ≡ l
  unfolding flat_map
  flat_map_single [] = refl
  flat_map_single (x ∷ l) = ap (λ r. x ∷ r) (flat_map_single l)

  -- one row more
  pub rows_more : (f : ℕ → List B) (i : ℕ) → flat_map f (below (i + 1)) ≡ flat_map f (below i) ++ f i
  unfolding flat_map
  rows_more f i =
      ap (λ k. flat_map f (below k)) (add-one i) ∙ ap (flat_map f) (below_snoc i) ∙ flat_map_append f (below i) (i ∷ []) ∙ ap (λ r. flat_map f (below i) ++ r) (append-nil (f i))
