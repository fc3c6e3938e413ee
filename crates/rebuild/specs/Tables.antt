-- What later stages read of the fans with the edges and loops over them, and their sizes.
use Rattle.std.specs.Prelude.{ℕ, ◌≤◌, List, length}
use Rattle.rules.specs.Groups.{lowest_members}
use Rattle.rebuild.specs.Fanning.{Drawing}

-- the boundaries of the selected faces, and the lowest member of each merged face
abbrev pub boundaries_of : Drawing → List ℕ
boundaries_of d = d.joined.fan.walk.merge.boundaries

abbrev pub members_of : Drawing → List ℕ
members_of d = lowest_members d.joined.fan.walk.merge.groups

-- its edges and uses are no more than a table has entries
pub record Sized (n : ℕ) (d : Drawing) : Type 0 where
  pub edges : length d.joined.joining.edges ≤ n
  pub uses : length d.joined.fan.walk.uses ≤ n
  pub few : n ≤ 2048
