-- Edges of the result, one per kept pair, and the loops as items of them.
use Rattle.std.specs.Prelude.{ℕ, min, max, List, [], ◌∷◌, map, Bool, true, ◌&&◌, not, cond, length, get_or, ltb}
use Rattle.lists.specs.Lists.{below, keep, index_of}
use Rattle.rules.specs.declared.Sense.{Sense}
use Rattle.rules.specs.declared.Sense.TheVariants.{Same, Reversed}
use Rattle.rules.specs.declared.Edge.{Edge}
use Rattle.rules.specs.declared.Item.{Item}
use Rattle.rules.specs.declared.Use.{Use}
use Rattle.rules.specs.declared.EdgeData.{EdgeData}
use Rattle.rules.specs.Job.{unset, ring}
use Rattle.rules.specs.Read.{use_at, edge_of_use}
use Rattle.rules.specs.Groups.{label_of}
use Rattle.rules.specs.Pair.{twin_of}
use Rattle.rules.specs.Merge.{is_removed, merged_face_of}
use Rattle.rules.specs.Walk.{successor}

-- Edges: a kept pair, named by its lower use
abbrev pub lower_kept : List ℕ → List Bool → ℕ → Bool
lower_kept ts rm h = not (is_removed rm h) && ltb h (twin_of ts h)

-- Edges: the kept pairs by ascending lower use
abbrev pub lower_uses : List ℕ → List Bool → List ℕ
lower_uses ts rm = keep (lower_kept ts rm) (below (length ts))

-- Edges: the sorted pair of merged faces beside a use
abbrev pub face_pair : List Use → List ℕ → List ℕ → ℕ → List ℕ
face_pair us ts numbers h =
    let a = merged_face_of us numbers h in
    let b = merged_face_of us numbers (twin_of ts h) in
    min a b ∷ max a b ∷ []

-- Edges: the fan where use h starts and the fan where it ends, which is where its successor starts; a ring has none
abbrev pub fan_or_none : Edge → List ℕ → ℕ → ℕ
fan_or_none e g h = cond (ring e) unset (label_of g h)

-- of two ends given along a use, the edge's own start and its own end
abbrev pub own_start : Sense → ℕ → ℕ → ℕ
own_start Same here there = here
own_start Reversed here there = there

abbrev pub own_end : Sense → ℕ → ℕ → ℕ
own_end Same here there = there
own_end Reversed here there = here

-- Edges: the edge of the kept pair with lower use h, with fans as ends and the sorted pair of merged faces
unfoldable pub edge_data : List Edge → List Use → List ℕ → List ℕ → List ℕ → List ℕ → ℕ → EdgeData
edge_data es us ts numbers ss g h =
    let u = use_at us h in
    let e = edge_of_use es u in
    let here = fan_or_none e g h in
    let there = fan_or_none e g (successor ss h) in
    record {
      curve = e.curve;
      sense = e.sense;
      start = own_start u.sense here there;
      end = own_end u.sense here there;
      faces = face_pair us ts numbers h;
      active = true;
    }

-- Edges: one per kept pair
abbrev pub edges_of : List Edge → List Use → List ℕ → List Bool → List ℕ → List ℕ → List ℕ → List EdgeData
edges_of es us ts rm numbers ss g = map (edge_data es us ts numbers ss g) (lower_uses ts rm)

-- a use as an item: the number of its pair's edge, and its sense
unfoldable pub item_of : List Use → List ℕ → List ℕ → ℕ → Item
item_of us ts lowers h = record { edge = index_of (min h (twin_of ts h)) lowers; sense = (use_at us h).sense }

-- a loop of a merged face
pub record FaceLoop : Type 0 where
  pub face : ℕ
  pub items : List Item

-- a loop as items, in the merged face of its first use
unfoldable pub face_loop : List Use → List ℕ → List Bool → List ℕ → List ℕ → FaceLoop
face_loop us ts rm numbers hs = record { face = merged_face_of us numbers (get_or hs 0 0); items = map (item_of us ts (lower_uses ts rm)) hs }

-- the loops as items
abbrev pub face_loops : List Use → List ℕ → List Bool → List ℕ → List (List ℕ) → List FaceLoop
face_loops us ts rm numbers loops = map (face_loop us ts rm numbers) loops
