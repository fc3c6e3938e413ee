-- The loops of edge joining as lists of items, and their soundness.
use mathlib.Core.List.{List, map}
use Rattle.rules.specs.declared.Item.{Item}
use Rattle.rules.specs.Edges.{FaceLoop}
use Rattle.rules.specs.Join.{Joining}
use Rattle.theorems.specs.Linked.{LoopsSound}

-- the items of the loops
abbrev pub items_of : List FaceLoop → List (List Item)
items_of ls = map (λ l. l.items) ls

-- the loops of a state are sound
abbrev pub SoundLoops : Joining → Type 0
SoundLoops s = LoopsSound s.edges (items_of s.loops)
