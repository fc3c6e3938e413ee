-- Laws of the records of shells and lumps.
use Rattle.std.specs.Prelude.{ℕ, ◌≡◌, Bool, ◌&&◌, not, cond, eqb}
use Rattle.std.proofs.Common.{sym, ◌∙◌}
use mathlib.Core.List.{List, [], map, flat_map}
use Rattle.lists.specs.Lists.{keep}
use Rattle.lists.specs.Rows.{flat_map_map, flat_map_keep}
use Rattle.rules.specs.Frame.{framed, framed_all}
use Rattle.rules.specs.Shells.{Nested, voids_of, lump_of, lumps}
use Rattle.rules.specs.Body.{rec, lump_records}
use Rattle.fields.specs.Wrote.{Wrote}
use Rattle.shells.specs.declared.ShellRow.{ShellRow}
use Rattle.shells.specs.declared.table.Shells.{Shells}
use Rattle.shells.specs.Table.{is_void, nested_row, nested_of}
use Rattle.stages_out.specs.Writing.{flat_map_flat_map}
use Rattle.body.specs.Writing.{records_first, records_of}

module _ (s : Shells) where
  -- VOIDS

  abbrev pub shell_row : ShellRow → List ℕ
  shell_row x = framed (rec 28 (nested_row s x).shell.faces)

  pub voids_are : (home : ℕ) → flat_map shell_row (keep (is_void home) s.rows.now) ≡ framed_all (map (rec 28) (voids_of (nested_of s) home))
  voids_are home =
      let void : Nested → Bool = λ x. not x.shell.outer && eqb x.home home in
      let row : Nested → List ℕ = λ x. framed (rec 28 x.shell.faces) in
      flat_map_keep shell_row (is_void home) s.rows.now ∙ sym (flat_map_keep row void (nested_of s) ∙ flat_map_map (λ x. cond (void x) (row x) []) (nested_row s) s.rows.now)
      ∙ records_of (rec 28) (λ (x : Nested). x.shell.faces) (keep void (nested_of s))

  -- LUMPS

  -- an outer shell, then its voids
  pub lump_wrote : (before mid more after : List ℕ) (at p q r : ℕ) (x : ShellRow) → Wrote before at (framed (rec 27 [])) mid p
      → Wrote mid p (framed (rec 28 (nested_row s x).shell.faces)) more q
      → Wrote more q (framed_all (map (rec 28) (voids_of (nested_of s) x.home))) after r
      → Wrote before at (framed_all (lump_records (lump_of (nested_of s) (nested_row s x)))) after r
  unfolding lump_records
  lump_wrote before mid more after at p q r x u v w = records_first before mid after at p r _ _ u (records_first mid more after p q r _ _ v w)

  abbrev pub lump_row : ShellRow → List ℕ
  lump_row x = framed_all (lump_records (lump_of (nested_of s) (nested_row s x)))

  pub lumps_are : flat_map lump_row (keep (λ x. x.outer) s.rows.now) ≡ framed_all (flat_map lump_records (lumps (nested_of s)))
  unfolding lumps
  lumps_are =
      let ns : List Nested = nested_of s in
      let outer : Nested → Bool = λ x. x.shell.outer in
      let bytes : Nested → List ℕ = λ x. framed_all (lump_records (lump_of ns x)) in
      flat_map_keep lump_row (λ x. x.outer) s.rows.now
      ∙ sym (flat_map_flat_map framed lump_records (map (lump_of ns) (keep outer ns)) ∙ flat_map_map (λ l. framed_all (lump_records l)) (lump_of ns) (keep outer ns) ∙ flat_map_keep bytes outer ns
      ∙ flat_map_map (λ x. cond (outer x) (bytes x) []) (nested_row s) s.rows.now)
