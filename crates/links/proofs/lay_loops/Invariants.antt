use Rattle.std.specs.Prelude.{◌≡◌}
use Rattle.links.specs.Lay.{laid_upto}
use Rattle.links.proofs.lay_loops.Given as goal

abbrev pub invariant-loop-k : goal.invariant-loop-k
invariant-loop-k l = l.items ≡ laid_upto l.list l.nexts l.heads l.stretches l.initial.items l.k
