-- What sewing promises of a job beside its answer, for the rules that sewing runs by.
use Rattle.std.specs.Prelude.{List, ℕ}
use Rattle.rules.specs.declared.Rules.{Rules}
use Rattle.theorems.specs.Demand3.{Demand3}
use Rattle.theorems.specs.FaceJoins.{FaceJoins}
use Rattle.theorems.specs.FaceMembers.{FaceMembers}
use Rattle.theorems.specs.Selected.{FacesDistinct}

-- a request that promises more of an accepted job adds a field here
pub record Promises (rules : Rules) (job : List ℕ) : Type 0 where
  -- demand 3 of document 01
  pub demand3 : Demand3 rules job
  -- request Six of document 02
  pub face_joins : FaceJoins rules job
  -- request Seven of document 02
  pub face_members : FaceMembers rules job
  -- request Eight of document 02
  pub faces_distinct : FacesDistinct job
