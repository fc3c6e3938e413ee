use Rattle.std.proofs.Common.{◌≡◌, ℕ, ◌<◌}
use Rattle.rules.specs.Read.{traversed, loop_uses, use_at}
use Rattle.read.proofs.read_loop.Given as goal

abbrev pub invariant-loop-i : goal.invariant-loop-i
invariant-loop-i l = (j : ℕ) → j < l.i → use_at l.uses j ≡ use_at (loop_uses l.face l.first l.first (traversed l.selected l.items)) j
