use Rattle.std.proofs.Common.{◌≡◌, drop}
use Rattle.rules.specs.VertexLoops.{already_there}
use Rattle.vertex_loops.proofs.already_there.Given as goal

abbrev pub invariant-loop-k : goal.invariant-loop-k
invariant-loop-k l =
    already_there l.job.answers l.face l.point l.kept ≡ already_there l.job.answers l.face l.point (drop l.k-index l.kept)
