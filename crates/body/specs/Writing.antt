-- Laws of records written one after the other.
use Rattle.std.specs.Prelude.{ℕ, ◌+◌, ◌*◌, ◌≡◌, length}
use Rattle.std.proofs.Common.{sym, ap, ◌∙◌, length-append}
use native.Mathlib.Omega.{arith}
use mathlib.Core.List.{List, ◌∷◌, ◌++◌, map, flat_map}
use Rattle.lists.specs.Members.{flat_map_append}
use Rattle.lists.specs.Rows.{flat_map_map}
use Rattle.rules.specs.Fields.{bytes16, bytes32, field_bytes}
use Rattle.rules.specs.Frame.{Record, framed, framed_all}
use Rattle.rules.specs.Body.{rec}
use Rattle.fields.specs.Wrote.{Wrote, wrote_more}
pub use Rattle.fields.specs.Wrote.{wrote_as}
use Rattle.fields.specs.Tabled.{length_bytes32, length_field_bytes}

-- A RECORD

-- the place after a header
pub length_head : (n kind : ℕ) → length (bytes32 n ++ bytes16 kind) ≡ 6
length_head n kind = omega (arith, length-append (bytes32 n) (bytes16 kind), length_bytes32 n)

-- a header, then its fields
pub wrote_record : (before mid after : List ℕ) (at p q kind n : ℕ) (fields : List ℕ) → Wrote before at (bytes32 (4 * n) ++ bytes16 kind) mid p → n ≡ length fields
    → Wrote mid p (field_bytes fields) after q → Wrote before at (framed (rec kind fields)) after q
unfolding framed
wrote_record before mid after at p q kind n fields u e w =
    wrote_as before after (bytes32 (4 * n) ++ bytes16 kind ++ field_bytes fields) (framed (rec kind fields)) at q (ap (λ k. bytes32 (4 * k) ++ bytes16 kind ++ field_bytes fields) e)
    (wrote_more before mid after (bytes32 (4 * n) ++ bytes16 kind) (field_bytes fields) at p q u w)

pub length_record : (kind : ℕ) (fields : List ℕ) → length (framed (rec kind fields)) ≡ 6 + 4 * length fields
unfolding framed
length_record kind fields =
    omega (arith, length-append (bytes32 (4 * length fields) ++ bytes16 kind) (field_bytes fields), length_head (4 * length fields) kind, length_field_bytes fields)

-- RECORDS

-- one record, then others
pub records_first : (before mid after : List ℕ) (at p q : ℕ) (r : Record) (rs : List Record) → Wrote before at (framed r) mid p → Wrote mid p (framed_all rs) after q
    → Wrote before at (framed_all (r ∷ rs)) after q
unfolding flat_map
records_first before mid after at p q r rs u w = wrote_more before mid after (framed r) (framed_all rs) at p q u w

-- records, then others
pub records_more : (before mid after : List ℕ) (at p q : ℕ) (rs ss : List Record) → Wrote before at (framed_all rs) mid p → Wrote mid p (framed_all ss) after q
    → Wrote before at (framed_all (rs ++ ss)) after q
records_more before mid after at p q rs ss u w = rw flat_map_append (wrote_more before mid after (framed_all rs) (framed_all ss) at p q u w)

-- a record for each member of a list
pub records_of : {A B : Type 0} (r : B → Record) (g : A → B) (l : List A) → flat_map (λ x. framed (r (g x))) l ≡ framed_all (map r (map g l))
records_of r g l = sym (flat_map_map framed r (map g l) ∙ flat_map_map (λ y. framed (r y)) g l)
