-- What a body is written from, as the rules have it.
use Rattle.std.specs.Prelude.{ℕ, true, List, [], ◌∷◌, Option, Some, None}
use Rattle.rules.specs.declared.Face.{Face}
use Rattle.rules.specs.Sense.{sense_number}
use Rattle.rules.specs.Frame.{Record}
use Rattle.rules.specs.Read.{stored_sense}
use Rattle.rules.specs.Join.{active_edges}
use Rattle.rules.specs.Shells.{lumps}
use Rattle.rules.specs.Body.{Totals as RulesTotals, BodyFace, Body, rec, body_faces, solid_body, empty_body}
use Rattle.job.specs.Lists.{faces_in}
use Rattle.shells.specs.Table.{nested_of}
use Rattle.body.specs.declared.BodyRecord.{BodyRecord}
use Rattle.body.specs.declared.BodyRecord.TheVariants.{Body as BodyKind, Vertex, Edge, Face as FaceKind, Loop, VertexLoop, Lump, Shell, Members}
use Rattle.body.specs.declared.solid.Totals.{Totals}
use Rattle.body.specs.declared.solid.Solid.{Solid}

-- the number of a kind of record
abbrev pub record_number : BodyRecord → ℕ
record_number BodyKind = 21
record_number Vertex = 22
record_number Edge = 23
record_number FaceKind = 24
record_number Loop = 25
record_number VertexLoop = 26
record_number Lump = 27
record_number Shell = 28
record_number Members = 29

-- the totals of a solid, or of the empty body
abbrev pub totals_in : Option Totals → RulesTotals
totals_in None = empty_body.totals
totals_in (Some t) = record { solid = true; uses = t.uses; removed = t.removed; passed = t.passed; joins = t.joins; rings = t.rings; face_joins = t.merges }

-- surface and stored sense of a face
abbrev pub head_record : Face → Record
head_record face = rec 24 (face.surface ∷ sense_number (stored_sense face) ∷ [])

-- the selected faces
abbrev pub faces_of : Solid → List Face
faces_of s = faces_in s.bytes.now s.index.now s.counts

-- the merged faces
abbrev pub merged_faces : Solid → List BodyFace
merged_faces s = body_faces (faces_of s) s.groups.now (active_edges s.joining.now.edges) s.joining.now.loops s.kept.now 0 s.members.now

-- the body
abbrev pub body_in : Solid → Body
body_in s =
    solid_body (totals_in (Some s.totals)) (faces_of s) s.groups.now s.starts.now s.joining.now.edges s.joining.now.loops s.members.now s.kept.now
    (lumps (nested_of s.shells.now))
