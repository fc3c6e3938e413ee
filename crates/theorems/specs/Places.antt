-- The items into and out of a corner, and loops that have a place of a join or none.
use Rattle.std.specs.Prelude.{◌≡◌, cond, List, ◌∷◌, ℕ, ◌<◌, length}
use Rattle.std.proofs.Math.Dec.{eqb}
use Rattle.rules.specs.declared.Sense.{Sense}
use Rattle.rules.specs.declared.Sense.TheVariants.{Same, Reversed}
use Rattle.rules.specs.declared.Item.{Item}
use Rattle.rules.specs.declared.EdgeData.{EdgeData}
use Rattle.rules.specs.Sense.{reverse}
use Rattle.rules.specs.Join.{edge_data_at, place_in, turned}
use Rattle.theorems.specs.Linked.{item_times}

-- ONE EDGE WITH ONE END AT A FAN

-- the sense in which an edge ends at fan v
abbrev pub in_sense : ℕ → EdgeData → Sense
in_sense v e = cond (eqb e.start v) Reversed Same

-- the item of edge a that ends at fan v, and its other item, which starts there
abbrev pub in_item : List EdgeData → ℕ → ℕ → Item
in_item es v a = record { edge = a; sense = in_sense v (edge_data_at es a) }

abbrev pub out_item : List EdgeData → ℕ → ℕ → Item
out_item es v a = record { edge = a; sense = reverse (in_sense v (edge_data_at es a)) }

-- how often an item stands in a list
abbrev pub times_of : Item → List Item → ℕ
times_of x l = item_times x.edge x.sense l

-- THE PLACES OF A JOIN

-- the place found in a loop: its two items, which come to the front when the loop is turned
pub record Found (es : List EdgeData) (v a b : ℕ) (l : List Item) (x y : Item) : Type 0 where
  pub inside : place_in es v a b l < length l
  pub rest : List Item
  pub shape : turned (place_in es v a b l) l ≡ x ∷ y ∷ rest

-- no place is found, and neither item that ends at the corner stands in the loop
pub record Missed (es : List EdgeData) (v a b : ℕ) (l : List Item) : Type 0 where
  pub outside : place_in es v a b l ≡ length l
  pub no_first : times_of (in_item es v a) l ≡ 0
  pub no_second : times_of (in_item es v b) l ≡ 0
