-- What one step of merging answers, as outcomes of the definitions.
use Rattle.std.specs.Prelude.{ℕ, ◌+◌, ◌≡◌, Bool, cond}
use mathlib.Core.List.{List, foldl}
use Rattle.lists.specs.Lists.{below}
use Rattle.rules.specs.declared.Face.{Face}
use Rattle.rules.specs.declared.Use.{Use}
use Rattle.rules.specs.declared.SurfaceAnswer.{SurfaceAnswer}
use Rattle.rules.specs.declared.Table.{Table}
use Rattle.rules.specs.Outcome.{Outcome, Ok, Err, ◌>>=◌}
use Rattle.rules.specs.Sense.{same_sense}
use Rattle.rules.specs.Job.{face_at}
use Rattle.rules.specs.Read.{stored_sense}
use Rattle.rules.specs.Groups.{Grouping, join_groups}
use Rattle.rules.specs.Merge.{joins_faces, boundary_step}
use Rattle.groups.specs.Parents.{Stands}

-- groups after the faces of the first n twin pairs joined
abbrev pub JoinedPairs : List Use → List ℕ → ℕ → List ℕ → List ℕ → Type 0
JoinedPairs us ts n before after = (g : List ℕ) → Stands before g → Stands after (foldl (boundary_step us ts) g (below n))

-- a step of the code beside that of the definitions, from groups with so many joins: both refuse alike, or the parents stand for
-- the groups after it, and it was one join more where the code says so
abbrev pub MergedTo : Outcome Bool → List ℕ → ℕ → Outcome Grouping → Type 0
MergedTo (Ok one) parents joins (Ok g) = Stands parents g.groups × (g.joins ≡ joins + cond one 1 0)
MergedTo (Ok one) parents joins (Err q) = ⊥
MergedTo (Err r) parents joins (Ok g) = ⊥
MergedTo (Err r) parents joins (Err q) = r ≡ q

-- the groups after the surface answer v about faces a and b
abbrev pub answered_step : Table → List Face → ℕ → ℕ → SurfaceAnswer → Grouping → Outcome Grouping
answered_step t fs a b v g =
    joins_faces t (same_sense (stored_sense (face_at fs a)) (stored_sense (face_at fs b))) v >>= λ yes.
    Ok (cond yes (join_groups g a b) g)
