use Rattle.merge_faces.specs.Numbering.{Numbered}
use Rattle.merge_faces.proofs.number.Given as goal

abbrev pub invariant-loop-f : goal.invariant-loop-f
invariant-loop-f l = Numbered l.groups l.members.entries l.numbers l.f
