-- Members of faces: each face of the body is followed by one record of members, and each selected face stands in exactly one of them.
use Rattle.std.specs.Prelude.{ℕ, ◌<◌, ◌≡◌, Bool, length, eqb}
use mathlib.Core.List.{List, map}
use Rattle.lists.specs.Lists.{below, ◌∈◌, times, keep, sum_of}
use Rattle.rules.specs.Outcome.{Ok}
use Rattle.rules.specs.Frame.{Record, framed_all}
use Rattle.rules.specs.Job.{Job}
use Rattle.rules.specs.Load.{loaded}
use Rattle.rules.specs.Groups.{members_of, lowest_members}
use Rattle.rules.specs.declared.Rules.{Rules}
use Rattle.rules.specs.Body.{Body, member_at, members_record, body_records}
use Rattle.rules.specs.Sew.{Walked, walked, rebuild, sewn}
use Rattle.theorems.specs.FaceJoins.{faces_written}

-- the records of members
abbrev pub is_members : Record → Bool
is_members r = eqb r.kind 29

-- the selected faces behind each merged face, ascending
abbrev pub behind_faces : Walked → List (List ℕ)
behind_faces w = map (members_of w.merge.groups) (lowest_members w.merge.groups)

-- the bytes are those of a body's records
pub record MembersTold (rules : Rules) (j : Job) (bytes : List ℕ) : Type 0 where
  pub body : Body
  pub rebuilt : rebuild rules j ≡ Ok body
  pub written : bytes ≡ framed_all (body_records body)
  -- the selected faces behind each face of the body are the members of its merged group
  pub behind : List (List ℕ)
  pub merged : (w : Walked) → walked rules j ≡ Ok w → behind ≡ behind_faces w
  -- one record of members for each face written, with body and source face number of each member
  pub each : length behind ≡ faces_written (body_records body)
  pub records : keep is_members (body_records body) ≡ map (λ is. members_record (map (member_at j.faces) is)) behind
  -- by ascending selected face
  pub ascending : (is : List ℕ) → is ∈ behind → (p : ℕ → Bool) × (is ≡ keep p (below (length j.faces)))
  -- each selected face appears in exactly one such record, once there
  pub once : (i : ℕ) → i < length j.faces → sum_of (times i) behind ≡ 1
  -- document 02, Eight: and body and source face number tell which selected face a member is
  pub named : (i k : ℕ) → i < length j.faces → k < length j.faces → member_at j.faces i ≡ member_at j.faces k → i ≡ k

-- for the rules that sewing runs by, and every job
abbrev pub FaceMembers : Rules → List ℕ → Type 0
FaceMembers rules job =
    (j : Job) (room : ℕ) (bytes : List ℕ) → loaded job ≡ Ok j → sewn rules job room ≡ Ok bytes → MembersTold rules j bytes
