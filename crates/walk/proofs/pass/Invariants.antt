use Rattle.walk.specs.PassLaws.{Going}
use Rattle.walk.proofs.pass.Given as goal

abbrev pub invariant-loop-k : goal.invariant-loop-k
invariant-loop-k l = Going l.uses l.twins l.removed l.from l.h l.k
