use Rattle.walk.specs.PassLaws.{Filled}
use Rattle.walk.proofs.successors.Given as goal

abbrev pub invariant-loop-h : goal.invariant-loop-h
invariant-loop-h l = Filled l.uses l.twins l.removed l.succ l.passed l.total l.h
