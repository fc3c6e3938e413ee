use Rattle.rules.specs.Fields.{bytes32}
use Rattle.stages_out.specs.Writing.{Rowed, row_or}
use Rattle.stages_out.proofs.ShellFaces.{is_face}
use Rattle.stages_out.proofs.put_shell_faces.Given as goal

abbrev pub invariant-loop-f : goal.invariant-loop-f
invariant-loop-f l = Rowed (row_or (is_face l.boundaries l.members l.b) bytes32) 4 l.initial.out l.at l.out l.p l.f
