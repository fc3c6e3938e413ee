-- Merging: what a step of it tells, and the pairs of faces that it makes one.
use Rattle.std.specs.Prelude.{◌≡◌, ◌⊎◌, Bool, false, ℕ, suc, ◌<◌, length}
use Rattle.std.proofs.Math.Bool.{true}
use mathlib.Core.List.{List, [], ◌∷◌}
use Rattle.rules.specs.declared.Face.{Face}
use Rattle.rules.specs.declared.Use.{Use}
use Rattle.rules.specs.Outcome.{Outcome, Ok, ◌>>=◌}
use Rattle.rules.specs.Job.{Answer}
use Rattle.rules.specs.Questions.{surface_answer, ask}
use Rattle.rules.specs.Read.{face_of_use}
use Rattle.rules.specs.Groups.{Grouping}
use Rattle.rules.specs.declared.Table.{Table}
use Rattle.rules.specs.Merge.{other_face, joins_faces, equal_senses, unasked, Merged}

-- MERGED GROUPS

-- a step leaves groups and face joins, or changes the groups and makes one face join more
abbrev pub Told : Grouping → Grouping → Type 0
Told s s' = (s' ≡ s) ⊎ ((s'.groups ≡ s.groups → ⊥) × (s'.joins ≡ suc s.joins))

-- whether the answer to the surface question of use h joins the groups
abbrev pub surface_joins : Table → List Answer → List Face → List Use → List ℕ → ℕ → Outcome Bool
surface_joins t answers fs us ts h = ask answers 8 (h ∷ []) >>= λ v. joins_faces t (equal_senses fs us ts h) (surface_answer v)

-- the faces of a twin pair that was asked for and that its answer joins
abbrev pub SameSurface : Table → List Answer → List Face → List Use → List ℕ → ℕ → ℕ → Type 0
SameSurface t answers fs us ts a b =
    (h : ℕ) × (h < length us) × (unasked us ts h ≡ false) × (surface_joins t answers fs us ts h ≡ Ok true) × (face_of_use us h ≡ a) × (other_face us ts h ≡ b)

-- MERGING, WHOLE

-- the groups that merging ends with, and their count
abbrev pub merge_grouping : Merged → Grouping
merge_grouping m = record { groups = m.groups; joins = m.joins }
