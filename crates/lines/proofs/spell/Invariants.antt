use Rattle.lines.specs.Writing.{Spelled}
use Rattle.lines.proofs.spell.Given as goal

abbrev pub invariant-loop-i : goal.invariant-loop-i
invariant-loop-i l = Spelled l.v l.digits l.i l.rest
