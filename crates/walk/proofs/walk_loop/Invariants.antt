use Rattle.walk.specs.RoundLaws.{Rounding}
use Rattle.walk.proofs.walk_loop.Given as goal

abbrev pub invariant-loop-p : goal.invariant-loop-p
invariant-loop-p l = Rounding l.succ l.start l.at l.initial.visited l.initial.ways l.visited l.ways l.h l.p
