-- The job's lists as its bytes, the index and the counts have them.
use Rattle.std.specs.Prelude.{ℕ, ◌+◌, ◌*◌, ◌/◌, List, map, cond, get_or, drop, eqb}
use Rattle.lists.specs.Lists.{below}
use Rattle.rules.specs.declared.Counts.{Counts}
use Rattle.rules.specs.declared.Edge.{Edge}
use Rattle.rules.specs.declared.Face.{Face}
use Rattle.rules.specs.declared.Item.{Item}
use Rattle.rules.specs.Sense.{sense_of}
use Rattle.rules.specs.Fields.{le16, le32, fields_in, field}
use Rattle.rules.specs.Job.{of_items, at_vertex, Loop, Stretch, Answer, Job, items_of}
use Rattle.rules.specs.Kinds.{kind_of, number_of}
use Rattle.rules.specs.Load.{answer_of}

-- vertex v's point stands at a computed place, after Head
abbrev pub point_in : List ℕ → ℕ → ℕ
point_in bytes v = le32 bytes (16 + 10 * v)

unfoldable pub points_in : List ℕ → Counts → List ℕ
points_in bytes c = map (point_in bytes) (below c.vertices)

-- an edge's fields at a place
unfoldable pub edge_in : List ℕ → ℕ → Edge
edge_in bytes p = record { curve = le32 bytes p; sense = sense_of (le32 bytes (p + 4)); start = le32 bytes (p + 8); end = le32 bytes (p + 12) }

-- edge e stands at a computed place, after the vertices
abbrev pub edge_place : Counts → ℕ → ℕ
edge_place c e = 16 + 10 * c.vertices + 22 * e

unfoldable pub edges_in : List ℕ → Counts → List Edge
edges_in bytes c = map (λ e. edge_in bytes (edge_place c e)) (below c.edges)

-- the first bytes of the records of face f, loop l and answer k, by the index
abbrev pub face_byte : List ℕ → ℕ → ℕ
face_byte ix f = get_or ix (5120 + f) 0

abbrev pub loop_byte : List ℕ → ℕ → ℕ
loop_byte ix l = get_or ix (5376 + l) 0

abbrev pub answer_byte : List ℕ → ℕ → ℕ
answer_byte ix k = get_or ix (3072 + k) 0

-- the fields of the record at a byte
unfoldable pub fields_at : List ℕ → ℕ → List ℕ
fields_at bytes p = fields_in (le32 bytes p / 4) (drop (p + 6) bytes)

-- item k of fields, of two of them
unfoldable pub item_in : List ℕ → ℕ → Item
item_in fs k = record { edge = field fs (2 * k); sense = sense_of (field fs (2 * k + 1)) }

-- the face whose record stands at a byte
unfoldable pub face_in : List ℕ → ℕ → Face
face_in bytes p = record {
  surface = le32 bytes (p + 6);
  own = sense_of (le32 bytes (p + 10));
  selected = sense_of (le32 bytes (p + 14));
  body = le32 bytes (p + 18);
  source = le32 bytes (p + 22);
}

unfoldable pub faces_in : List ℕ → List ℕ → Counts → List Face
faces_in bytes ix c = map (λ f. face_in bytes (face_byte ix f)) (below c.faces)

-- loop l, with its face
unfoldable pub loop_in : List ℕ → List ℕ → ℕ → Loop
loop_in bytes ix l =
    let p = loop_byte ix l in
    record { face = get_or ix (6400 + l) 0; content = cond (eqb (number_of (kind_of (le16 bytes (p + 4)))) 5) (of_items (items_of (fields_at bytes p))) (at_vertex (le32 bytes (p + 6))) }

-- how many items it has; a vertex loop has none
unfoldable pub item_count : List ℕ → List ℕ → ℕ → ℕ
item_count bytes ix l = cond (eqb (number_of (kind_of (le16 bytes (loop_byte ix l + 4)))) 5) (le32 bytes (loop_byte ix l) / 8) 0

unfoldable pub loops_in : List ℕ → List ℕ → Counts → List Loop
loops_in bytes ix c = map (loop_in bytes ix) (below c.loops)

-- the stretch of loop l
unfoldable pub stretch_in : List ℕ → List ℕ → ℕ → Stretch
stretch_in bytes ix l = record { start = loop_byte ix l + 6; size = le32 bytes (loop_byte ix l) }

unfoldable pub stretches_in : List ℕ → List ℕ → Counts → List Stretch
stretches_in bytes ix c = map (stretch_in bytes ix) (below c.loops)

-- the answer whose record stands at a byte
unfoldable pub answer_in : List ℕ → ℕ → Answer
answer_in bytes p = answer_of (kind_of (le16 bytes (p + 4))) (fields_at bytes p)

unfoldable pub answers_in : List ℕ → List ℕ → Counts → List Answer
answers_in bytes ix c = map (λ k. answer_in bytes (answer_byte ix k)) (below c.answers)

-- the job; Head's field stands at byte 6
unfoldable pub job_in : List ℕ → List ℕ → Counts → Job
job_in bytes ix c = record {
  proven = le32 bytes 6;
  points = points_in bytes c;
  edges = edges_in bytes c;
  faces = faces_in bytes ix c;
  loops = loops_in bytes ix c;
  stretches = stretches_in bytes ix c;
  answers = answers_in bytes ix c;
}
