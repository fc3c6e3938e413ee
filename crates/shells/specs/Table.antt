-- The shells as a table of records.
use Rattle.std.specs.Prelude.{ℕ, ◌≡◌, List, map, get_or, Bool, false, ◌&&◌, not, eqb}
use Rattle.std.specs.List.{All}
use Rattle.rules.specs.Groups.{lowest_members}
use Rattle.rules.specs.Shells.{Shell, shell_faces, lowest_face, Nested}
use Rattle.shells.specs.declared.ShellRow.{ShellRow}
use Rattle.shells.specs.declared.table.Shells.{Shells}

abbrev pub no_row : ShellRow
no_row = record { boundary = 0; low = 0; outer = false; home = 0 }

-- row k
abbrev pub row_at : List ShellRow → ℕ → ShellRow
row_at rows k = get_or rows k no_row

-- the shell of a row
abbrev pub shell_in : List ℕ → List ℕ → ShellRow → Shell
shell_in boundaries members row = record { faces = shell_faces boundaries members row.boundary; outer = row.outer }

abbrev pub shells_in : List ℕ → List ℕ → List ShellRow → List Shell
shells_in boundaries members rows = map (shell_in boundaries members) rows

-- the shell of a row with the outer shell of its lump
abbrev pub nested_one : List ℕ → List ℕ → ShellRow → Nested
nested_one boundaries members row = record { shell = shell_in boundaries members row; home = row.home }

abbrev pub nested_in : List ℕ → List ℕ → List ShellRow → List Nested
nested_in boundaries members rows = map (nested_one boundaries members) rows

-- a row is a void whose outer shell has this lowest merged face
abbrev pub is_void : ℕ → ShellRow → Bool
is_void home row = not row.outer && eqb row.home home

-- the shells of a table
abbrev pub shells_of : Shells → List Shell
shells_of s = shells_in s.boundaries.now s.members.now s.rows.now

-- one with the outer shell of its lump, and all
abbrev pub nested_row : Shells → ShellRow → Nested
nested_row s row = nested_one s.boundaries.now s.members.now row

abbrev pub nested_of : Shells → List Nested
nested_of s = nested_in s.boundaries.now s.members.now s.rows.now

-- the shell of a row is named by its lowest merged face
abbrev pub LowestIn : List ℕ → List ℕ → ShellRow → Type 0
LowestIn boundaries members row = row.low ≡ lowest_face (shell_faces boundaries members row.boundary)

-- the shells that are one for each boundary, in order, with the lowest merged face of each
pub record Shelled (boundaries members : List ℕ) (rows : List ShellRow) : Type 0 where
  pub labels : map (λ row. row.boundary) rows ≡ lowest_members boundaries
  pub lows : All (LowestIn boundaries members) rows
