-- Laws of fields written row by row from the output's start on, and of the ending of a stage.
use Rattle.std.specs.Prelude.{ℕ, ◌+◌, ◌*◌, ◌<◌, ◌≤◌, ◌≡◌, refl, Bool, true, false, cond, length, get_or, drop, leb}
use Rattle.std.proofs.Common.{mul-suc, add-one, sym, ap, subst, ◌∙◌}
use native.Mathlib.Omega.{arith}
use mathlib.Core.List.{List, [], ◌∷◌, ◌++◌, flat_map}
use Rattle.std.proofs.lemmas.List.Edits.{sets-eq}
use Rattle.std.proofs.lemmas.Bool.{le-leb}
use Rattle.std.proofs.lemmas.Bool.Decides.{leb_tells}
use Rattle.lists.specs.Lists.{from, below, keep}
use Rattle.lists.specs.Tests.{cond_true, cond_false}
use Rattle.lists.specs.Members.{flat_map_append}
use Rattle.lists.specs.Rows.{rows_more, flat_map_keep, flat_map_places}
use Rattle.rules.specs.Outcome.{Ok, Err}
use Rattle.rules.proofs.OutcomeLaws.{need_on, need_stop}
use Rattle.rules.specs.Fields.{bytes32, field_bytes}
use Rattle.rules.specs.Sew.{fitting, Ends}
use Rattle.fields.specs.Wrote.{Wrote, wrote_as, wrote_none, wrote_more}
use Rattle.fields.specs.Tabled.{length_field_bytes}
use Rattle.rules.specs.declared.Fault.TheVariants.{NoRoom}

-- FIELDS

-- two groups of fields one after the other
pub wrote_both : (xs ys before mid after : List ℕ) (at p q : ℕ) → Wrote before at (field_bytes xs) mid p → Wrote mid p (field_bytes ys) after q → Wrote before at (field_bytes (xs ++ ys)) after q
wrote_both xs ys before mid after at p q a b =
    subst (λ bs. Wrote before at bs after q) (sym (flat_map_append bytes32 xs ys)) (wrote_more before mid after (field_bytes xs) (field_bytes ys) at p q a b)

-- the same fields by other numbers
pub wrote_same : (xs ys before after : List ℕ) (at q : ℕ) → xs ≡ ys → Wrote before at (field_bytes xs) after q → Wrote before at (field_bytes ys) after q
wrote_same xs ys before after at q e w = subst (λ fs. Wrote before at (field_bytes fs) after q) e w

pub wrote_nothing : (before : List ℕ) (at : ℕ) → Wrote before at (field_bytes []) before at
unfolding flat_map
wrote_nothing before at = wrote_none before at

-- the place after fields
pub place_after_lem : (xs before after : List ℕ) (at q : ℕ) → Wrote before at (field_bytes xs) after q → q ≡ at + 4 * length xs
place_after_lem xs before after at q w = w.1 ∙ ap (λ n. at + n) (length_field_bytes xs)

-- ROWS

-- rows of rows
pub flat_map_flat_map : {A B C : Type 0} (f : B → List C) (g : A → List B) (l : List A) → flat_map f (flat_map g l) ≡ flat_map (λ x. flat_map f (g x)) l
unfolding flat_map
flat_map_flat_map f g [] = refl
flat_map_flat_map f g (x ∷ l) = flat_map_append f (g x) (flat_map g l) ∙ ap (λ r. flat_map f (g x) ++ r) (flat_map_flat_map f g l)

-- the first i rows from a place on, each of at most so many bytes
pub record Rowed (f : ℕ → List ℕ) (most : ℕ) (before : List ℕ) (at : ℕ) (after : List ℕ) (p i : ℕ) : Type 0 where
  pub wrote : Wrote before at (flat_map f (below i)) after p
  pub small : p ≤ at + most * i

module _ {f : ℕ → List ℕ} {most : ℕ} {before : List ℕ} {at : ℕ} where
  pub rowed_start : Rowed f most before at before at 0
  unfolding flat_map from
  rowed_start = record { wrote = wrote_none before at; small = omega arith }

  pub rowed_step : {mid after : List ℕ} {p i q : ℕ} → Rowed f most before at mid p i → Wrote mid p (f i) after q → q ≤ p + most → Rowed f most before at after q (i + 1)
  rowed_step {mid = mid} {after = after} {p = p} {i = i} {q = q} R w few = record {
    wrote = subst (λ bs. Wrote before at bs after q) (sym (rows_more f i)) (wrote_more before mid after (flat_map f (below i)) (f i) at p q R.wrote w);
    small = let e : most * (i + 1) ≡ most * i + most = ap (λ k. most * k) (add-one i) ∙ mul-suc most i in omega (arith, R.small);
  }

  -- all rows, as what they are
  pub rowed_as : {bytes after : List ℕ} {p i : ℕ} → Rowed f most before at after p i → flat_map f (below i) ≡ bytes → Wrote before at bytes after p
  rowed_as {after = after} {p = p} R e = subst (λ bs. Wrote before at bs after p) e R.wrote

module _ (f : ℕ → List ℕ) {most : ℕ} {before : List ℕ} {at : ℕ} where
  -- one row of fields more
  pub fields_step : {mid after : List ℕ} {p i q : ℕ} → Rowed (λ k. field_bytes (f k)) most before at mid p i → Wrote mid p (field_bytes (f i)) after q → 4 * length (f i) ≤ most
      → Rowed (λ k. field_bytes (f k)) most before at after q (i + 1)
  fields_step {i = i} R w few = rowed_step R w (omega (arith, w.1, length_field_bytes (f i)))

  -- all rows of fields
  pub fields_as : {fs after : List ℕ} {p i : ℕ} → Rowed (λ k. field_bytes (f k)) most before at after p i → flat_map f (below i) ≡ fs → Wrote before at (field_bytes fs) after p
  fields_as {i = i} R e = rowed_as R (sym (flat_map_flat_map bytes32 f (below i)) ∙ ap field_bytes e)

-- the rows of all members of a list
module _ {A : Type 0} (f : A → List ℕ) (l : List A) (d : A) {most : ℕ} {before : List ℕ} {at : ℕ} where
  pub fields_members : {after : List ℕ} {p i : ℕ} → Rowed (λ k. field_bytes (f (get_or l k d))) most before at after p i → i ≡ length l
      → Wrote before at (field_bytes (flat_map f l)) after p
  fields_members R e = fields_as (λ k. f (get_or l k d)) R (ap (λ n. flat_map (λ k. f (get_or l k d)) (below n)) e ∙ sym (flat_map_places f l d))

-- A ROW OR NONE

-- the row of a place that passes a test; another has none
unfoldable pub row_or : (ℕ → Bool) → (ℕ → List ℕ) → ℕ → List ℕ
row_or t row i = cond (t i) (row i) []

module _ (t : ℕ → Bool) (row : ℕ → List ℕ) {most : ℕ} {before : List ℕ} {at : ℕ} where
  pub row_step : {mid after : List ℕ} {p i q : ℕ} → Rowed (row_or t row) most before at mid p i → t i ≡ true → Wrote mid p (row i) after q → q ≤ p + most
      → Rowed (row_or t row) most before at after q (i + 1)
  unfolding row_or
  row_step {mid} {after} {p} {i} {q} R e w few = rowed_step R (subst (λ bs. Wrote mid p bs after q) (sym (cond_true (t i) (row i) [] e)) w) few

  pub none_step : {mid : List ℕ} {p i : ℕ} → Rowed (row_or t row) most before at mid p i → t i ≡ false → Rowed (row_or t row) most before at mid p (i + 1)
  unfolding row_or
  none_step {mid} {p} {i} R e = rowed_step R (subst (λ bs. Wrote mid p bs mid p) (sym (cond_false (t i) (row i) [] e)) (wrote_none mid p)) (omega arith)

  -- all rows are those of the places that pass
  pub rows_kept : {after : List ℕ} {p i n : ℕ} → Rowed (row_or t row) most before at after p i → i ≡ n → Wrote before at (flat_map row (keep t (below n))) after p
  unfolding row_or
  rows_kept R e = rowed_as R (ap (λ n. flat_map (row_or t row) (below n)) e ∙ sym (flat_map_keep row t (below _)))

-- the same of rows of fields
pub fields_kept : (t : ℕ → Bool) (row : ℕ → List ℕ) {most : ℕ} {before : List ℕ} {at : ℕ} {after : List ℕ} {p i n : ℕ} → Rowed (row_or t (λ k. field_bytes (row k))) most before at after p i
    → i ≡ n → Wrote before at (field_bytes (flat_map row (keep t (below n)))) after p
fields_kept t row {n = n} R e = wrote_as _ _ _ _ _ _ (sym (flat_map_flat_map bytes32 row (keep t (below n)))) (rows_kept t (λ k. field_bytes (row k)) R e)

-- the rows of the members of a list that pass a test
module _ {A : Type 0} (t : A → Bool) (f : A → List ℕ) (l : List A) (d : A) {most : ℕ} {before : List ℕ} {at : ℕ} {after : List ℕ} {p i : ℕ} where
  pub members_kept : Rowed (row_or (λ k. t (get_or l k d)) (λ k. f (get_or l k d))) most before at after p i → i ≡ length l → Wrote before at (flat_map f (keep t l)) after p
  unfolding row_or
  members_kept R e =
      rowed_as R
      (ap (λ n. flat_map (λ k. cond (t (get_or l k d)) (f (get_or l k d)) []) (below n)) e ∙ sym (flat_map_keep f t l ∙ flat_map_places (λ x. cond (t x) (f x) []) l d))

-- THE ENDING

-- where the bytes needed fit, they are written from the start on; else they are refused with how many they are
module _ (bytes before : List ℕ) {needed : ℕ} (all : needed ≡ length bytes) where
  pub ends_written : {after : List ℕ} {p : ℕ} → needed ≤ length before → Wrote before 0 bytes after p → Ends (fitting (length before) bytes) before after (Ok p)
  ends_written room w =
      let z : 0 + length bytes ≡ length bytes = omega arith in
      rw (need_on NoRoom (length bytes) (Ok bytes) (le-leb (length bytes) (length before) (omega arith)), w.1, w.0, z)
      (refl, sets-eq bytes before 0 (omega arith) ∙ ap (λ k. bytes ++ drop k before) z)

  pub ends_short : length before < needed → Ends (fitting (length before) bytes) before before (Err (record { fault = NoRoom; place = needed }))
  ends_short less =
      let no : leb (length bytes) (length before) ≡ false = grind (arith, leb_tells) in
      rw (need_stop NoRoom (length bytes) (Ok bytes) no, all) (refl, refl)
