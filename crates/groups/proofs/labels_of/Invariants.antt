use Rattle.std.specs.Prelude.{length}
use Rattle.groups.specs.ParentLaws.{Labelling}
use Rattle.groups.proofs.labels_of.Given as goal

abbrev pub invariant-loop-i : goal.invariant-loop-i
invariant-loop-i l = Labelling l.fn.g (length l.initial.labels) l.i l.g l.labels
