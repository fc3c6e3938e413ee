-- Successors that permute the kept uses, and what is said of the loops of their walks.
use Rattle.std.specs.Prelude.{ℕ, suc, ◌≡◌, Bool, length}
use mathlib.Core.List.{List, flat_map}
use Rattle.lists.specs.Lists.{◌∈◌, Nodup, iterate, orbit}
use Rattle.lists.specs.Orbits.{Perm}
use Rattle.rules.specs.Walk.{successor, Circuit, closes, circuit_uses}
use Rattle.theorems.specs.Successors.{Kept}

-- a circuit runs from a kept use along successors until they lead back to it
pub record Closed (n : ℕ) (rm : List Bool) (ss : List ℕ) (c : Circuit) : Type 0 where
  pub start : ℕ
  pub more : ℕ
  pub kept : Kept n rm start
  pub runs : c ≡ closes (orbit (successor ss) (suc more) start)
  pub back : iterate (successor ss) (suc more) start ≡ start

-- loops that close, and in which no use stands twice
pub record Parting (n : ℕ) (rm : List Bool) (ss : List ℕ) (cs : List Circuit) : Type 0 where
  pub once : Nodup (flat_map circuit_uses cs)
  pub closed : (c : Circuit) → c ∈ cs → Closed n rm ss c

-- successors of n uses that permute the kept ones
pub record Permuted (n : ℕ) (rm : List Bool) (ss : List ℕ) : Type 0 where
  pub size : length ss ≡ n
  pub perm : Perm n (successor ss) (Kept n rm)
