-- Fans: what holds of the fan of a kept use with ends, of its name and of where its uses start.
use Prim.Native.Nat.{ℕ, ◌<◌}
use Rattle.std.specs.Prelude.{◌≡◌, true, List, length}
use Rattle.lists.specs.Lists.{◌∈◌, Nodup}
use Rattle.rules.specs.Job.{Job}
use Rattle.rules.specs.Groups.{label_of}
use Rattle.rules.specs.Pair.{twin_of}
use Rattle.rules.specs.Walk.{successor}
use Rattle.rules.specs.Fans.{kept_with_ends, fans, fan_names, start_points, fan_point}
use Rattle.rules.specs.Sew.{Walked}
use Rattle.theorems.specs.Ground.{start_of}

-- USES

-- the twin of use h, and its new successor
abbrev pub twin : Walked → ℕ → ℕ
twin w h = twin_of w.twins h

abbrev pub succ : Walked → ℕ → ℕ
succ w h = successor w.successors h

-- h is a kept use with ends
abbrev pub EndedUse : Job → Walked → ℕ → Type 0
EndedUse j w h = (h < length w.uses) × (kept_with_ends j.edges w.uses w.merge.removed h ≡ true)

-- FANS

-- each use's fan, and the fans by name
abbrev pub fan_labels : Job → Walked → List ℕ
fan_labels j w = fans j.edges w.uses w.twins w.merge.removed w.successors

abbrev pub fan_list : Job → Walked → List ℕ
fan_list j w = fan_names j.edges w.uses w.merge.removed (fan_labels j w)

-- the point where each use starts
abbrev pub fan_starts : Job → Walked → List ℕ
fan_starts j w = start_points j.points j.edges w.uses

-- what holds of the fans, for kept uses with ends
pub record FansHold (j : Job) (w : Walked) : Type 0 where
  -- the fan of the new successor is that of the twin
  pub onward : (h : ℕ) → EndedUse j w h → label_of (fan_labels j w) (succ w h) ≡ label_of (fan_labels j w) (twin w h)
  -- a use's fan is among the names
  pub named : (h : ℕ) → EndedUse j w h → label_of (fan_labels j w) h ∈ fan_list j w
  -- no name stands twice; names are uses with ends
  pub nodup : Nodup (fan_list j w)
  pub ended : (v : ℕ) → v ∈ fan_list j w → EndedUse j w v
  -- all uses of a fan start at one point
  pub one_point : (h : ℕ) → EndedUse j w h → fan_point (fan_starts j w) (label_of (fan_labels j w) h) ≡ fan_point (fan_starts j w) h

-- document 02, Three: any two uses of a fan start at one point, be it by one vertex or by two
abbrev pub OneStart : Job → Walked → Type 0
OneStart j w =
    (h k : ℕ) → EndedUse j w h → EndedUse j w k
    → label_of (fan_labels j w) h ≡ label_of (fan_labels j w) k → start_of j w h ≡ start_of j w k
