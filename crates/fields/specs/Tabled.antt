-- The numbers of a table as fields, one more at a time.
use Rattle.std.specs.Prelude.{ℕ, ◌+◌, ◌*◌, ◌<◌, ◌≤◌, ◌≡◌, refl, length, get_or, take}
use Rattle.std.proofs.Common.{add-one, arith, sym, ap, subst, ◌∙◌, take-suc}
use mathlib.Core.List.{List, [], ◌∷◌, ◌++◌, flat_map}
use Rattle.lists.specs.Members.{flat_map_append}
use Rattle.lists.specs.Rows.{flat_map_even}
use Rattle.rules.specs.Fields.{bytes32, field_bytes}
use Rattle.fields.specs.Wrote.{Wrote, wrote_none, wrote_more}

-- a number has four bytes
pub length_bytes32 : (v : ℕ) → length (bytes32 v) ≡ 4
unfolding bytes32
length_bytes32 v = refl

-- fields have four bytes each
pub length_field_bytes : (fs : List ℕ) → length (field_bytes fs) ≡ 4 * length fs
length_field_bytes fs = flat_map_even bytes32 4 fs length_bytes32

-- one number as fields
one_field : (v : ℕ) → field_bytes (v ∷ []) ≡ bytes32 v
unfolding flat_map bytes32
one_field v = refl

-- after the first i numbers
pub record Tabled (before : List ℕ) (at : ℕ) (t after : List ℕ) (p i : ℕ) : Type 0 where
  pub within : i ≤ length t
  pub place : p ≡ at + 4 * i
  pub wrote : Wrote before at (field_bytes (take i t)) after p

pub tabled_start : (before : List ℕ) (at : ℕ) (t : List ℕ) → Tabled before at t before at 0
unfolding flat_map
tabled_start before at t = record { within = omega arith; place = omega arith; wrote = wrote_none before at }

pub tabled_step : (before : List ℕ) (at : ℕ) (t mid after : List ℕ) (p i v q : ℕ) → Tabled before at t mid p i → i < length t → v ≡ get_or t i 0
    → Wrote mid p (bytes32 v) after q → Tabled before at t after q (i + 1)
tabled_step before at t mid after p i v q h lt e w =
    let bytes : field_bytes (take i t) ++ bytes32 v ≡ field_bytes (take (i + 1) t) =
    ap (λ bs. field_bytes (take i t) ++ bs) (ap bytes32 e ∙ sym (one_field (get_or t i 0)))
    ∙ sym (flat_map_append bytes32 (take i t) (get_or t i 0 ∷ []))
    ∙ ap field_bytes (sym (take-suc t i 0 lt)) ∙ ap (λ n. field_bytes (take n t)) (sym (add-one i)) in
    record {
      within = omega arith;
      place = omega (arith, w.1, length_bytes32 v, h.place);
      wrote = subst (λ bs. Wrote before at bs after q) bytes (wrote_more before mid after (field_bytes (take i t)) (bytes32 v) at p q h.wrote w);
    }
