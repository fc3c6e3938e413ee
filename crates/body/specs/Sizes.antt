-- The sizes of what a body is written from.
use Rattle.std.specs.Prelude.{ℕ, ◌≤◌, ◌≡◌, List, length}
use Rattle.rules.specs.declared.KeptVertexLoop.{KeptVertexLoop}
use Rattle.rules.specs.Groups.{lowest_members, Lowest}

-- the merged faces are those of the groups, and there are no more of them and of vertex loops than a job can have
pub record Sized (groups members : List ℕ) (kept : List KeptVertexLoop) : Type 0 where
  pub few_groups : length groups ≤ 256
  pub few_members : length members ≤ 256
  pub lowest : Lowest groups
  pub own : members ≡ lowest_members groups
  pub few_kept : length kept ≤ 1024
