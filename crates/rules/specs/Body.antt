-- The body: its data, and its records.
use Rattle.std.specs.Prelude.{ℕ, suc, Bool, true, false, ◌||◌, cond, eqb}
use mathlib.Core.List.{List, [], ◌∷◌, ◌++◌, map, flat_map, foldl}
use Rattle.lists.specs.Lists.{has, keep, index_of}
use Rattle.rules.specs.declared.Sense.{Sense}
use Rattle.rules.specs.declared.Edge.{Edge}
use Rattle.rules.specs.declared.Face.{Face}
use Rattle.rules.specs.declared.Item.{Item}
use Rattle.rules.specs.declared.KeptVertexLoop.{KeptVertexLoop}
use Rattle.rules.specs.declared.EdgeData.{EdgeData}
use Rattle.rules.specs.Sense.{sense_number}
use Rattle.rules.specs.Frame.{Record}
use Rattle.rules.specs.Job.{unset, face_at}
use Rattle.rules.specs.Read.{stored_sense}
use Rattle.rules.specs.Groups.{members_of}
use Rattle.rules.specs.Fans.{fan_point}
use Rattle.rules.specs.Edges.{FaceLoop}
use Rattle.rules.specs.Join.{active_edges}

-- THE DATA

-- Body records, 21: Empty or Solid, uses, removed, passed in total, joins, rings; document 02, Six: face joins
pub record Totals : Type 0 where
  pub solid : Bool
  pub uses : ℕ
  pub removed : ℕ
  pub passed : ℕ
  pub joins : ℕ
  pub rings : ℕ
  pub face_joins : ℕ

-- document 02, Seven: a member of a face, by its body and its source face number
pub record Member : Type 0 where
  pub body : ℕ
  pub source : ℕ

-- Body records, 24 to 26: a face with its members, its loops and the points of its vertex loops
pub record BodyFace : Type 0 where
  pub surface : ℕ
  pub sense : Sense
  pub members : List Member
  pub loops : List (List Item)
  pub points : List ℕ

-- a body: totals, the point of each vertex, edges between vertices, faces, lumps of shells of faces
pub record Body : Type 0 where
  pub totals : Totals
  pub vertices : List ℕ
  pub edges : List Edge
  pub faces : List BodyFace
  pub lumps : List (List (List ℕ))

-- a fan, added at the end unless it is there or none
abbrev pub meet : List ℕ → ℕ → List ℕ
meet met v = cond (eqb v unset || has v met) met (met ++ (v ∷ []))

-- Body records, 22: the fans first met over active edges, start then end
abbrev pub met_fans : List EdgeData → List ℕ
met_fans es = foldl (λ met e. meet (meet met e.start) e.end) [] es

-- the vertex of a fan, or none
abbrev pub vertex_of : List ℕ → ℕ → ℕ
vertex_of met v = cond (eqb v unset) unset (index_of v met)

-- an edge between vertices
abbrev pub with_vertices : List ℕ → EdgeData → Edge
with_vertices met e = record { curve = e.curve; sense = e.sense; start = vertex_of met e.start; end = vertex_of met e.end }

-- Body records: edges still active are renumbered from 0
abbrev pub renumbered : List ℕ → Item → Item
renumbered actives x = record { edge = index_of x.edge actives; sense = x.sense }

-- the loops of merged face f
abbrev pub loops_in : List ℕ → List FaceLoop → ℕ → List (List Item)
loops_in actives ls f = map (λ l. map (renumbered actives) l.items) (keep (λ l. eqb l.face f) ls)

-- the points of the vertex loops of merged face f
abbrev pub points_in : List KeptVertexLoop → ℕ → List ℕ
points_in ks f = map (λ k. k.point) (keep (λ k. eqb k.face f) ks)

-- selected face i as a member
abbrev pub member_at : List Face → ℕ → Member
member_at fs i = record { body = (face_at fs i).body; source = (face_at fs i).source }

-- merged face f, with surface and stored sense of its lowest member, and the selected faces of its group, ascending
unfoldable pub body_face : List Face → List ℕ → List ℕ → List FaceLoop → List KeptVertexLoop → ℕ → ℕ → BodyFace
body_face fs groups actives ls ks f member = record {
  surface = (face_at fs member).surface;
  sense = stored_sense (face_at fs member);
  members = map (member_at fs) (members_of groups member);
  loops = loops_in actives ls f;
  points = points_in ks f;
}

-- the merged faces, numbered from f, by their lowest members
unfoldable pub body_faces : List Face → List ℕ → List ℕ → List FaceLoop → List KeptVertexLoop → ℕ → List ℕ → List BodyFace
body_faces fs groups actives ls ks f [] = []
body_faces fs groups actives ls ks f (member ∷ more) = body_face fs groups actives ls ks f member ∷ body_faces fs groups actives ls ks (suc f) more

-- the active edges
abbrev pub still_active : List EdgeData → List EdgeData
still_active es = keep (λ e. e.active) es

-- the body of a job with faces
unfoldable pub solid_body : Totals → List Face → List ℕ → List ℕ → List EdgeData → List FaceLoop → List ℕ → List KeptVertexLoop → List (List (List ℕ)) → Body
solid_body totals fs groups starts es ls members ks lumps =
    let met = met_fans (still_active es) in
    record {
      totals = totals;
      vertices = map (fan_point starts) met;
      edges = map (with_vertices met) (still_active es);
      faces = body_faces fs groups (active_edges es) ls ks 0 members;
      lumps = lumps;
    }

-- P1: the body of a job without selected faces is Empty
abbrev pub empty_body : Body
empty_body = record {
  totals = record { solid = false; uses = 0; removed = 0; passed = 0; joins = 0; rings = 0; face_joins = 0 };
  vertices = [];
  edges = [];
  faces = [];
  lumps = [];
}

-- THE RECORDS

abbrev pub rec : ℕ → List ℕ → Record
rec kind fields = record { kind = kind; fields = fields }

-- Body records: 0 Empty or 1 Solid
abbrev pub body_kind : Bool → ℕ
body_kind true = 1
body_kind false = 0

-- Body records, 21 Body; document 02, Six: it ends in a seventh field
abbrev pub totals_record : Totals → Record
totals_record t = rec 21 (body_kind t.solid ∷ t.uses ∷ t.removed ∷ t.passed ∷ t.joins ∷ t.rings ∷ t.face_joins ∷ [])

-- Body records, 22 Vertex (point)
abbrev pub vertex_record : ℕ → Record
vertex_record point = rec 22 (point ∷ [])

-- Body records, 23 Edge (curve, sense, start, end)
abbrev pub edge_record : Edge → Record
edge_record e = rec 23 (e.curve ∷ sense_number e.sense ∷ e.start ∷ e.end ∷ [])

-- Body records, 25 Loop (edge, sense of each item)
abbrev pub item_fields : Item → List ℕ
item_fields x = x.edge ∷ sense_number x.sense ∷ []

abbrev pub loop_record : List Item → Record
loop_record xs = rec 25 (flat_map item_fields xs)

-- Body records, 26 Vertex loop (its point)
abbrev pub vertex_loop_record : ℕ → Record
vertex_loop_record point = rec 26 (point ∷ [])

-- document 02, Seven: 29 Members (body, source face number of each member)
abbrev pub member_fields : Member → List ℕ
member_fields m = m.body ∷ m.source ∷ []

abbrev pub members_record : List Member → Record
members_record ms = rec 29 (flat_map member_fields ms)

-- Body records, 24 Face (surface, sense): a face's loops follow it, vertex loops last; document 02, Seven: before them, directly, its members
unfoldable pub face_records : BodyFace → List Record
face_records f = rec 24 (f.surface ∷ sense_number f.sense ∷ []) ∷ members_record f.members ∷ (map loop_record f.loops ++ map vertex_loop_record f.points)

-- Body records, 27 Lump, no fields, and 28 Shell (faces): a lump's shells follow it
unfoldable pub lump_records : List (List ℕ) → List Record
lump_records lump = rec 27 [] ∷ map (rec 28) lump

-- Body records: the order is as in P9
unfoldable pub body_records : Body → List Record
body_records b =
    totals_record b.totals ∷
    (map vertex_record b.vertices ++
    (map edge_record b.edges ++
    (flat_map face_records b.faces ++
    flat_map lump_records b.lumps)))
