use Rattle.shells.specs.NestLaws.{EnclosingAt}
use Rattle.shells.specs.Steps.{taken_of}
use Rattle.shells.proofs.enclosing_shell.Given as goal

abbrev pub invariant-loop-s : goal.invariant-loop-s
invariant-loop-s l =
    EnclosingAt l.job.answers l.void l.shells l.s-index (taken_of l.taken)
