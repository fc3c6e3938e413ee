use Rattle.shells.specs.LumpLaws.{LabelsAt}
use Rattle.shells.proofs.lump_labels.Given as goal

abbrev pub invariant-loop-f : goal.invariant-loop-f
invariant-loop-f l = LabelsAt l.boundaries l.nested l.labels l.count l.f
