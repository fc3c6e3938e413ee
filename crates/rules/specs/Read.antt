-- Reading: the uses, by face, loop and traversal, after any reversal by the selected sense.
use Rattle.std.specs.Prelude.{ℕ, suc, ◌+◌, List, [], ◌∷◌, ◌++◌, map, reverse as backwards, length, get_or}
use Rattle.rules.specs.declared.Sense.{Sense}
use Rattle.rules.specs.declared.Sense.TheVariants.{Same, Reversed}
use Rattle.rules.specs.declared.Edge.{Edge}
use Rattle.rules.specs.declared.Face.{Face}
use Rattle.rules.specs.declared.Item.{Item}
use Rattle.rules.specs.declared.Use.{Use}
use Rattle.rules.specs.Sense.{reverse, product}
use Rattle.rules.specs.Job.{Content, of_items, at_vertex, Loop, Job, edge_at, face_at, start_by}

-- an item in the other sense
abbrev pub reversed_item : Item → Item
reversed_item x = record { edge = x.edge; sense = reverse x.sense }

-- Reading: a face selected Reversed has each loop's uses reversed in order and sense
abbrev pub traversed : Sense → List Item → List Item
traversed Same xs = xs
traversed Reversed xs = backwards (map reversed_item xs)

-- the items of a loop; a vertex loop has none
abbrev pub content_items : Content → List Item
content_items (of_items xs) = xs
content_items (at_vertex v) = []

-- the items of a loop as its face is selected
abbrev pub loop_items : List Face → Loop → List Item
loop_items fs l = traversed (face_at fs l.face).selected (content_items l.content)

-- Walks, old successor: the uses of one loop, numbered from h; each leads to the next, the last to the loop's first
unfoldable pub loop_uses : ℕ → ℕ → ℕ → List Item → List Use
loop_uses face first h [] = []
loop_uses face first h (x ∷ []) = record { edge = x.edge; face = face; sense = x.sense; next = first } ∷ []
loop_uses face first h (x ∷ y ∷ ys) = record { edge = x.edge; face = face; sense = x.sense; next = suc h } ∷ loop_uses face first (suc h) (y ∷ ys)

-- Reading: the uses of loops, numbered from h
unfoldable pub read : List Face → ℕ → List Loop → List Use
read fs h [] = []
read fs h (l ∷ ls) =
    let here = loop_uses l.face h h (loop_items fs l) in
    here ++ read fs (h + length here) ls

-- the uses of a job
abbrev pub uses_of : Job → List Use
uses_of j = read j.faces 0 j.loops

-- Reading: stored face sense is own times selected
abbrev pub stored_sense : Face → Sense
stored_sense f = product f.own f.selected

abbrev pub no_use : Use
no_use = record { edge = 0; face = 0; sense = Same; next = 0 }

-- use h
abbrev pub use_at : List Use → ℕ → Use
use_at us h = get_or us h no_use

-- the selected face of a use
abbrev pub face_of_use : List Use → ℕ → ℕ
face_of_use us h = (use_at us h).face

-- Walks, the term "old successor": next in the loop as read, cyclically
abbrev pub old_successor : List Use → ℕ → ℕ
old_successor us h = (use_at us h).next

-- the job's edge of a use
abbrev pub edge_of_use : List Edge → Use → Edge
edge_of_use es u = edge_at es u.edge

-- the vertex where a use starts
abbrev pub use_start : List Edge → Use → ℕ
use_start es u = start_by u.sense (edge_of_use es u)
