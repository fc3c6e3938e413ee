-- The selected faces after merging, as contracts see them.
use Rattle.std.specs.Prelude.{ℕ, ◌≡◌, List}
use Rattle.rules.specs.declared.Use.{Use}
use Rattle.rules.specs.Groups.{lowest_members, group_numbers}
use Rattle.rules.specs.Merge.{boundaries as boundaries_of}

-- what stands in the places that the four tables have left; nothing is promised of it
pub record RestOfTables : Type 0 where
  pub boundaries : List ℕ
  pub groups : List ℕ
  pub numbers : List ℕ
  pub members : List ℕ

-- each selected face's boundary and merged group, by label, and the number of its merged face; the lowest member of each merged
-- face; how many joins of separate groups there were; and the rest of the tables, so that nothing of the faces is forgotten
pub record FaceTables : Type 0 where
  pub boundaries : List ℕ
  pub groups : List ℕ
  pub numbers : List ℕ
  pub members : List ℕ
  pub joins : ℕ
  pub rest : RestOfTables

-- boundaries of n faces, and numbers and lowest members that belong to the groups
pub record TablesOf (us : List Use) (ts : List ℕ) (n : ℕ) (m : FaceTables) : Type 0 where
  pub boundaries : m.boundaries ≡ boundaries_of us ts n
  pub numbers : m.numbers ≡ group_numbers m.groups
  pub members : m.members ≡ lowest_members m.groups
