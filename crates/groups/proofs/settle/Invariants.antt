use Rattle.std.specs.Prelude.{List, ℕ}
use Rattle.groups.specs.Parents.{Stands}
use Rattle.groups.specs.ParentLaws.{Settled}
use Rattle.groups.proofs.settle.Given as goal

abbrev pub invariant-loop-i : goal.invariant-loop-i
invariant-loop-i l = (ls : List ℕ) → Stands l.initial.parents ls → Settled l.initial.parents ls l.parents l.i
