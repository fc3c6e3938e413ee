use Rattle.groups.specs.ParentLaws.{Numbered}
use Rattle.groups.proofs.alone.Given as goal

abbrev pub invariant-loop-i : goal.invariant-loop-i
invariant-loop-i l = Numbered l.parents l.i
