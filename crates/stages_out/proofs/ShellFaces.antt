-- Laws of the merged faces of a boundary.
use Rattle.std.specs.Prelude.{ℕ, ◌≡◌, Bool, length, get_or, eqb}
use Rattle.std.proofs.Common.{sym}
use mathlib.Core.List.{List}
use Rattle.std.specs.List.{filter}
use Rattle.lists.specs.Lists.{below, keep}
use Rattle.lists.specs.Positions.{positions_places, positions_count}
use Rattle.rules.specs.Groups.{label_of}
use Rattle.rules.specs.Shells.{shell_faces}

module _ (boundaries members : List ℕ) (b : ℕ) where
  -- a selected face is of the boundary
  abbrev pub is_own : ℕ → Bool
  is_own r = eqb (label_of boundaries r) b

  -- merged face f is of the boundary
  abbrev pub is_face : ℕ → Bool
  is_face f = is_own (get_or members f 0)

  pub own_faces : keep is_face (below (length members)) ≡ shell_faces boundaries members b
  own_faces = sym (positions_places is_own members 0)

  pub faces_counted : length (filter is_own members) ≡ length (shell_faces boundaries members b)
  faces_counted = positions_count is_own 0 members
