use Rattle.groups.specs.ParentLaws.{Climbing}
use Rattle.groups.proofs.root_in.Given as goal

abbrev pub invariant-loop-up : goal.invariant-loop-up
invariant-loop-up l = Climbing l.initial.parents l.start l.parents l.i l.up

abbrev pub decreases-loop-up : goal.decreases-loop-up
decreases-loop-up l = l.i
