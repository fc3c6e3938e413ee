use Rattle.read.proofs.ReadLaws.{Reading}
use Rattle.read.proofs.read.Given as goal

abbrev pub invariant-loop-l : goal.invariant-loop-l
invariant-loop-l l = Reading l.job l.uses l.h l.l
