-- The loaded job.
use Rattle.std.specs.Prelude.{ℕ, List, [], ◌∷◌, Bool, get_or, eqb, ◌+◌, ◌*◌, drop}
use Rattle.rules.specs.declared.Sense.{Sense}
use Rattle.rules.specs.declared.Sense.TheVariants.{Same, Reversed}
use Rattle.rules.specs.declared.Edge.{Edge}
use Rattle.rules.specs.declared.Face.{Face}
use Rattle.rules.specs.declared.Item.{Item}
use Rattle.rules.specs.Sense.{sense_of}
use Rattle.rules.specs.Fields.{le32, fields_in}

-- the mark for no vertex, no fan, no twin
abbrev pub unset : ℕ
unset = 4294967295

-- Job records, kinds 5 and 6: what a loop holds, its items or its one vertex
pub data Content : Type 0 where
  of_items : List Item → Content
  at_vertex : ℕ → Content

-- Job records, kinds 5 and 6: a loop of the job, of either sort, with its selected face
pub record Loop : Type 0 where
  pub face : ℕ
  pub content : Content

-- Job records, loop request: the stretch of the job's bytes that holds a loop's payload
pub record Stretch : Type 0 where
  pub start : ℕ
  pub size : ℕ

-- Job records, kinds 7 to 13: an answer, the numbers that make its question, and the fields after them
pub record Answer : Type 0 where
  pub kind : ℕ
  pub question : List ℕ
  pub value : List ℕ

-- Job records: a job; Head's field, the point of each vertex, edges, faces, loops of both sorts and where each stands, answers
pub record Job : Type 0 where
  pub proven : ℕ
  pub points : List ℕ
  pub edges : List Edge
  pub faces : List Face
  pub loops : List Loop
  pub stretches : List Stretch
  pub answers : List Answer

abbrev pub no_edge : Edge
no_edge = record { curve = 0; sense = Same; start = unset; end = unset }

-- edge e
abbrev pub edge_at : List Edge → ℕ → Edge
edge_at es e = get_or es e no_edge

abbrev pub no_face : Face
no_face = record { surface = 0; own = Same; selected = Same; body = 0; source = 0 }

-- selected face f
abbrev pub face_at : List Face → ℕ → Face
face_at fs f = get_or fs f no_face

-- Job records, kind 3: a ring has no vertices
abbrev pub ring : Edge → Bool
ring e = eqb e.start unset

-- the item's edge is a ring
abbrev pub of_ring : List Edge → Item → Bool
of_ring es x = ring (edge_at es x.edge)

-- the vertex where a sense of an edge starts, and where it ends
abbrev pub start_by : Sense → Edge → ℕ
start_by Same e = e.start
start_by Reversed e = e.end

abbrev pub end_by : Sense → Edge → ℕ
end_by Same e = e.end
end_by Reversed e = e.start

-- Job records, kind 2: the point of vertex v
abbrev pub point_at : List ℕ → ℕ → ℕ
point_at points v = get_or points v 0

-- the vertex where an item starts, and where it ends
abbrev pub start_vertex : List Edge → Item → ℕ
start_vertex es x = start_by x.sense (edge_at es x.edge)

abbrev pub end_vertex : List Edge → Item → ℕ
end_vertex es x = end_by x.sense (edge_at es x.edge)

-- the point where an item starts, and where it ends
abbrev pub start_point : List ℕ → List Edge → Item → ℕ
start_point points es x = point_at points (start_vertex es x)

abbrev pub end_point : List ℕ → List Edge → Item → ℕ
end_point points es x = point_at points (end_vertex es x)

-- Job records, kind 5: fields as items, one for each edge and sense
unfoldable pub items_of : List ℕ → List Item
items_of [] = []
items_of (e ∷ []) = []
items_of (e ∷ s ∷ rest) = record { edge = e; sense = sense_of s } ∷ items_of rest

-- the item whose two fields stand at a place
abbrev pub item_at : List ℕ → ℕ → Item
item_at s p = record { edge = le32 s p; sense = sense_of (le32 s (p + 4)) }

-- the items from a place on, so many
abbrev pub items_from : List ℕ → ℕ → ℕ → List Item
items_from s p m = items_of (fields_in (2 * m) (drop p s))
