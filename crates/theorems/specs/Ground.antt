-- A settled job: what loading, pairing, merging and the walks give of it.
use Rattle.std.specs.Prelude.{ℕ, ◌+◌, ◌<◌, ◌≤◌, ◌≡◌, Bool, false, length}
use Rattle.rules.specs.Job.{Job, ring, point_at}
use Rattle.rules.specs.Read.{use_at, edge_of_use, use_start, old_successor}
use Rattle.rules.specs.Groups.{lowest_members}
use Rattle.rules.specs.Pair.{twin_of}
use Rattle.rules.specs.Sew.{Walked}
use Rattle.theorems.specs.Linked.{Twins, Linked}
use Rattle.theorems.specs.Demand3.{KeptUse, group_of, WalksHold}
use Rattle.theorems.specs.Joints.{use_end}

-- the edge of use h is a ring
abbrev pub on_ring : Job → Walked → ℕ → Bool
on_ring j w h = ring (edge_of_use j.edges (use_at w.uses h))

-- the points where use h starts and ends
abbrev pub start_of : Job → Walked → ℕ → ℕ
start_of j w h = point_at j.points (use_start j.edges (use_at w.uses h))

abbrev pub end_of : Job → Walked → ℕ → ℕ
end_of j w h = point_at j.points (use_end j.edges (use_at w.uses h))

-- what the stages through the walks give to those after them
pub record Ground (j : Job) (w : Walked) : Type 0 where
  pub few : length w.uses ≤ 2048
  pub twins : Twins w.uses w.twins
  pub linked : Linked w.uses w.twins w.merge.removed w.merge.groups
  -- a use and its old successor are both of rings or neither is; where neither is the second starts where the first ends
  pub next_ring : (h : ℕ) → h < length w.uses → on_ring j w (old_successor w.uses h) ≡ on_ring j w h
  pub next_start : (h : ℕ) → h < length w.uses → on_ring j w h ≡ false → start_of j w (old_successor w.uses h) ≡ end_of j w h
  -- a kept use and its twin lie in different merged groups
  pub apart : (h : ℕ) → KeptUse w h → group_of w h ≡ group_of w (twin_of w.twins h) → ⊥
  pub walks : WalksHold w
  -- as many merged groups as faces, less the face joins
  pub fewer : length (lowest_members w.merge.groups) + w.merge.joins ≡ length j.faces
