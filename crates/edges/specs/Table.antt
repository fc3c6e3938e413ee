-- The loops of the result as stretches of one list of items, each item a number.
use Rattle.std.specs.Prelude.{ℕ, ◌+◌, ◌*◌, ◌/◌, ◌%◌, ◌<◌, ◌≤◌, List, [], map, length, get_or}
use Rattle.fields.specs.declared.Span.{Span}
use Rattle.fields.specs.Spans.{span_at}
use Rattle.lists.specs.Lists.{below}
use Rattle.lists.specs.Stretches.{stretch}
use Rattle.rules.specs.declared.EdgeData.{EdgeData}
use Rattle.rules.specs.declared.Item.{Item}
use Rattle.rules.specs.declared.Sense.{Sense}
use Rattle.rules.specs.declared.Use.{Use}
use Rattle.rules.specs.Sense.{sense_of, sense_number}
use Rattle.rules.specs.Read.{use_at}
use Rattle.rules.specs.Merge.{merged_face_of}
use Rattle.rules.specs.Edges.{FaceLoop}

-- an item as a number: twice its edge, and one more where it is Reversed
abbrev pub item_in : ℕ → Item
item_in x = record { edge = x / 2; sense = sense_of (x % 2) }

-- the number of the item of an edge in a sense
abbrev pub item_number : ℕ → Sense → ℕ
item_number e s = 2 * e + sense_number s

-- a use as such a number, from the table of the uses' edges
unfoldable pub item_code : List Use → List ℕ → ℕ → ℕ
item_code us owns h = item_number (get_or owns h 0) (use_at us h).sense

-- the loop in a stretch of a list
abbrev pub loop_at : List ℕ → Span → List ℕ
loop_at l s = stretch l s.start s.end

-- the merged face of loop k, where it is given by its uses
abbrev pub loop_face : List Use → List ℕ → List ℕ → List Span → ℕ → ℕ
loop_face us numbers ways stretches k = merged_face_of us numbers (get_or (loop_at ways (span_at stretches k)) 0 0)

-- the loops by their faces and items
unfoldable pub face_loops_in : List ℕ → List Span → List ℕ → List FaceLoop
face_loops_in items stretches faces = map (λ k. record { face = get_or faces k 0; items = map item_in (loop_at items (span_at stretches k)) }) (below (length faces))

-- the loops lie one after the other in a list of so many items
pub record Laid (stretches : List Span) (items : List ℕ) : Type 0 where
  pub order : (k : ℕ) → k < length stretches → (span_at stretches k).start ≤ (span_at stretches k).end
  pub inside : (k : ℕ) → k < length stretches → (span_at stretches k).end ≤ length items
  pub apart : (k : ℕ) → k + 1 < length stretches → (span_at stretches k).end ≤ (span_at stretches (k + 1)).start

-- edges, and loops one after the other, each with its face; of none more than a job can have
pub record Tabled (edges : List EdgeData) (items : List ℕ) (stretches : List Span) (faces : List ℕ) : Type 0 where
  pub laid : Laid stretches items
  pub loops : length faces ≤ length stretches
  pub edges_few : length edges ≤ 2048
  pub items_few : length items ≤ 2048
  pub faces_few : length faces ≤ 2048

-- the merged face of each loop
abbrev pub faces_of : List FaceLoop → List ℕ
faces_of loops = map (λ l. l.face) loops

-- loop k; past the last, one of no items
abbrev pub face_loop_at : List FaceLoop → ℕ → FaceLoop
face_loop_at loops k = get_or loops k (record { face = 0; items = [] })
