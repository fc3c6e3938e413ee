use Rattle.load.specs.Follows.{Follows}
use Rattle.load.specs.Going.{Going}
use Rattle.std.specs.Prelude.{◌-◌, length}
use Rattle.load.proofs.load_in.Given as goal

abbrev pub invariant-loop-at : goal.invariant-loop-at
invariant-loop-at l = Going l.job l.index l.sources l.c l.at × Follows l.job l.index l.c l.at

abbrev pub decreases-loop-at : goal.decreases-loop-at
decreases-loop-at l = length l.job - l.at
