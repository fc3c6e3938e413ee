-- The edges before any change, their items, and what holds of them.
use Rattle.std.specs.Prelude.{ℕ, ◌<◌, ◌≡◌, ◌⊎◌, true, List, length}
use Rattle.lists.specs.Lists.{◌∈◌}
use Rattle.rules.specs.declared.Sense.{Sense}
use Rattle.rules.specs.declared.Item.{Item}
use Rattle.rules.specs.declared.EdgeData.{EdgeData}
use Rattle.rules.specs.Sense.{reverse}
use Rattle.rules.specs.Job.{Job}
use Rattle.rules.specs.Read.{use_at, edge_of_use}
use Rattle.rules.specs.Merge.{merged_faces}
use Rattle.rules.specs.Edges.{lower_uses, fan_or_none, own_start, own_end, edge_data, edges_of, item_of}
use Rattle.rules.specs.Join.{edge_data_at, item_start, item_end}
use Rattle.rules.specs.Sew.{Walked}
use Rattle.theorems.specs.Demand3.{KeptUse}
use Rattle.theorems.specs.Fanning.{twin, succ, fan_labels}

-- the lower uses of the kept pairs, and the edges made of them
abbrev pub lowers : Walked → List ℕ
lowers w = lower_uses w.twins w.merge.removed

abbrev pub edge_for : Job → Walked → ℕ → EdgeData
edge_for j w h = edge_data j.edges w.uses w.twins (merged_faces w.merge) w.successors (fan_labels j w) h

abbrev pub first_edges : Job → Walked → List EdgeData
first_edges j w = edges_of j.edges w.uses w.twins w.merge.removed (merged_faces w.merge) w.successors (fan_labels j w)

-- use h as an item, and the fan where it starts, the mark where it is of a ring
abbrev pub item : Walked → ℕ → Item
item w h = item_of w.uses w.twins (lowers w) h

abbrev pub fan_at : Job → Walked → ℕ → ℕ
fan_at j w h = fan_or_none (edge_of_use j.edges (use_at w.uses h)) (fan_labels j w) h

-- what holds of edges and items, for kept uses
pub record EdgesHold (j : Job) (w : Walked) : Type 0 where
  pub active : (e : ℕ) → e < length (first_edges j w) → (edge_data_at (first_edges j w) e).active ≡ true
  pub within : (h : ℕ) → KeptUse w h → (item w h).edge < length (first_edges j w)
  -- an item starts at its use's fan and ends at its twin's, where its successor starts
  pub starts : (h : ℕ) → KeptUse w h → item_start (first_edges j w) (item w h) ≡ fan_at j w h
  pub ends : (h : ℕ) → KeptUse w h → item_end (first_edges j w) (item w h) ≡ fan_at j w (twin w h)
  pub onward : (h : ℕ) → KeptUse w h → fan_at j w (twin w h) ≡ fan_at j w (succ w h)
  -- twins are one edge in two senses; only twins are of one edge; each edge in each sense is a use's item
  pub twin_edge : (h : ℕ) → KeptUse w h → (item w (twin w h)).edge ≡ (item w h).edge
  pub twin_sense : (h : ℕ) → KeptUse w h → (item w (twin w h)).sense ≡ reverse (item w h).sense
  pub one_edge : (h k : ℕ) → KeptUse w h → KeptUse w k → (item w h).edge ≡ (item w k).edge → (h ≡ k) ⊎ (h ≡ twin w k)
  pub one_to_one : (h k : ℕ) → KeptUse w h → KeptUse w k → item w h ≡ item w k → h ≡ k
  pub covered : (e : ℕ) (t : Sense) → e < length (first_edges j w) → (h : ℕ) × KeptUse w h × ((item w h).edge ≡ e) × ((item w h).sense ≡ t)
  -- an edge starts and ends at fans of a kept use and its twin
  pub fans : (e : EdgeData) → e ∈ first_edges j w → (h : ℕ) × KeptUse w h
      × (e.start ≡ own_start (item w h).sense (fan_at j w h) (fan_at j w (twin w h)))
      × (e.end ≡ own_end (item w h).sense (fan_at j w h) (fan_at j w (twin w h)))
