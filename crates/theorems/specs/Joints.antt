-- Joints: items, and uses with their old successors, that meet at a point.
use Prim.Native.Nat.{ℕ}
use Rattle.std.specs.Prelude.{◌≡◌, true, false}
use mathlib.Core.List.{List}
use Rattle.rules.specs.declared.Edge.{Edge}
use Rattle.rules.specs.declared.Item.{Item}
use Rattle.rules.specs.declared.Use.{Use}
use Rattle.rules.specs.Job.{ring, of_ring, end_by, point_at, start_point, end_point}
use Rattle.rules.specs.Read.{use_at, old_successor, edge_of_use, use_start}

-- JOINTS OF ITEMS

-- an item meets another: neither is of a ring, and the one ends at the point where the other starts
pub record Meeting (points : List ℕ) (es : List Edge) (x y : Item) : Type 0 where
  pub here : of_ring es x ≡ false
  pub next : of_ring es y ≡ false
  pub point : end_point points es x ≡ start_point points es y

-- JOINTS OF USES

-- the vertex where a use ends
abbrev pub use_end : List Edge → Use → ℕ
use_end es u = end_by u.sense (edge_of_use es u)

-- a use of a ring is its own old successor
pub record RingNext (es : List Edge) (us : List Use) (h : ℕ) : Type 0 where
  pub here : ring (edge_of_use es (use_at us h)) ≡ true
  pub next : ring (edge_of_use es (use_at us (old_successor us h))) ≡ true
  pub alone : old_successor us h ≡ h

-- a use with ends ends at the point where its old successor starts
pub record EndsNext (points : List ℕ) (es : List Edge) (us : List Use) (h : ℕ) : Type 0 where
  pub here : ring (edge_of_use es (use_at us h)) ≡ false
  pub next : ring (edge_of_use es (use_at us (old_successor us h))) ≡ false
  pub point : point_at points (use_start es (use_at us (old_successor us h))) ≡ point_at points (use_end es (use_at us h))
