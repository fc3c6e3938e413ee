-- Closed trails of items, how often an edge stands in them, and soundness of one loop.
use Rattle.std.specs.Prelude.{◌≡◌, true, List, ℕ, ◌≤◌, length, eqb}
use Rattle.lists.specs.Lists.{◌∈◌, keep}
use Rattle.rules.specs.declared.Item.{Item}
use Rattle.rules.specs.declared.EdgeData.{EdgeData}
use Rattle.rules.specs.Join.{edge_data_at, item_start, item_end}
use Rattle.theorems.specs.Linked.{Trail}

-- SENSES AND ITEMS

-- how often an edge stands in some items, in either sense
abbrev pub edge_times : ℕ → List Item → ℕ
edge_times e l = length (keep (λ x. eqb x.edge e) l)

-- TRAILS

-- the items lead back to where they start
abbrev pub Closed : List EdgeData → List Item → Type 0
Closed es l = (x : ℕ) × Trail es x l x

-- items start and end at the same fans with other edges
abbrev pub SameFans : List EdgeData → List EdgeData → List Item → Type 0
SameFans es es' l = (x : Item) → x ∈ l → (item_start es' x ≡ item_start es x) × (item_end es' x ≡ item_end es x)

-- ONE LOOP

-- a loop leads back to its start, its edges are active, and none stands in it twice
pub record LoopSound (es : List EdgeData) (l : List Item) : Type 0 where
  pub closed : Closed es l
  pub actives : (x : Item) → x ∈ l → (edge_data_at es x.edge).active ≡ true
  pub apart : (e : ℕ) → edge_times e l ≤ 1
