-- Which loop and item a use comes from.
use Rattle.std.specs.Prelude.{ℕ, ◌+◌, ◌≤◌, ◌<◌, ◌≡◌, List, length, get_or}
use Rattle.lists.specs.Lists.{◌∈◌}
use Rattle.lists.specs.Cyclic.{next_place}
use Rattle.rules.specs.declared.Sense.TheVariants.{Same}
use Rattle.rules.specs.declared.Face.{Face}
use Rattle.rules.specs.declared.Item.{Item}
use Rattle.rules.specs.declared.Use.{Use}
use Rattle.rules.specs.Job.{Loop}
use Rattle.rules.specs.Read.{content_items, loop_items, read, use_at}

abbrev pub no_item : Item
no_item = record { edge = 0; sense = Same }

-- item k of a list
abbrev pub item_at : List Item → ℕ → Item
item_at xs k = get_or xs k no_item

-- ONE LOOP

-- the use at place k of a loop of a face whose first use is number a
abbrev pub use_of : ℕ → ℕ → List Item → ℕ → Use
use_of face a xs k = record { edge = (item_at xs k).edge; face = face; sense = (item_at xs k).sense; next = a + next_place k (length xs) }

-- ALL LOOPS

-- how many uses loops have, whatever the selected senses
abbrev pub items_in : Loop → ℕ
items_in l = length (content_items l.content)

-- use i of loops read from number a on: its loop, how many uses stand before the loop, its place in the loop
pub record Seat (fs : List Face) (a : ℕ) (ls : List Loop) (i : ℕ) : Type 0 where
  pub loop : Loop
  pub first : ℕ
  pub place : ℕ
  pub member : loop ∈ ls
  pub inside : place < length (loop_items fs loop)
  pub here : i ≡ first + place
  pub room : first + length (loop_items fs loop) ≤ length (read fs a ls)
  pub each : (k : ℕ) → k < length (loop_items fs loop) → use_at (read fs a ls) (first + k) ≡ use_of loop.face (a + first) (loop_items fs loop) k
