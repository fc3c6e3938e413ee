-- Face joins: a surface question makes one exactly where it changes the face groups, and faces selected less face joins equals faces written.
use Rattle.std.specs.Prelude.{ℕ, suc, ◌+◌, ◌<◌, ◌≡◌, ◌⊎◌, Bool, false, length, eqb}
use mathlib.Core.List.{List}
use Rattle.lists.specs.Lists.{below, keep}
use Rattle.rules.specs.Outcome.{Outcome, Ok, throughout}
use Rattle.rules.specs.Frame.{Record, framed_all}
use Rattle.rules.specs.Job.{Job}
use Rattle.rules.specs.Load.{loaded}
use Rattle.rules.specs.Read.{uses_of}
use Rattle.rules.specs.Groups.{Grouping}
use Rattle.rules.specs.Pair.{pair}
use Rattle.rules.specs.declared.Rules.{Rules}
use Rattle.rules.specs.Merge.{merge_step, ungrouped}
use Rattle.rules.specs.Body.{Body, body_kind, body_records}
use Rattle.rules.specs.Sew.{Walked, walked, rebuild, sewn}
use Rattle.theorems.specs.Demand3.{body_field}

-- groups and face joins when the uses below h have asked
abbrev pub before : Rules → Job → List ℕ → ℕ → Outcome Grouping
before rules j ts h = throughout (merge_step rules.table j.answers j.faces (uses_of j) ts) (below h) (ungrouped (length j.faces))

-- at each surface question whether it changed the face groups: a use that asks leaves groups and face joins as they are, or changes the groups
-- and makes one face join more
abbrev pub EachQuestion : Rules → Job → Type 0
EachQuestion rules j =
    (ts : List ℕ) → pair rules.profile j.answers (uses_of j) (length j.edges) ≡ Ok ts
    → (h : ℕ) → h < length (uses_of j) → (s s' : Grouping) → before rules j ts h ≡ Ok s → merge_step rules.table j.answers j.faces (uses_of j) ts h s ≡ Ok s'
    → (s' ≡ s) ⊎ ((s'.groups ≡ s.groups → ⊥) × (s'.joins ≡ suc s.joins))

-- how many of the records are faces
abbrev pub is_face : Record → Bool
is_face r = eqb r.kind 24

abbrev pub faces_written : List Record → ℕ
faces_written rs = length (keep is_face rs)

-- the bytes are those of a body's records; the last field of the Body record is the number of face joins that merging ends with
pub record FacesTold (rules : Rules) (j : Job) (bytes : List ℕ) : Type 0 where
  pub body : Body
  pub rebuilt : rebuild rules j ≡ Ok body
  pub written : bytes ≡ framed_all (body_records body)
  pub joins : (w : Walked) → walked rules j ≡ Ok w → body_field bytes 6 ≡ w.merge.joins
  -- faces selected less face joins equals faces written
  pub faces : length j.faces ≡ faces_written (body_records body) + body_field bytes 6
  -- in an Empty body all three are zero
  pub empty : body_field bytes 0 ≡ body_kind false → (length j.faces ≡ 0) × (body_field bytes 6 ≡ 0) × (faces_written (body_records body) ≡ 0)

-- for the rules that sewing runs by, and every job
abbrev pub FaceJoins : Rules → List ℕ → Type 0
FaceJoins rules job =
    (j : Job) → loaded job ≡ Ok j → EachQuestion rules j × ((room : ℕ) (bytes : List ℕ) → sewn rules job room ≡ Ok bytes → FacesTold rules j bytes)
