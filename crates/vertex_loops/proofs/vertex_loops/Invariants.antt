use Rattle.std.proofs.Common.{◌≡◌, ◌≤◌, drop, length}
use Rattle.rules.specs.Outcome.{throughout}
use Rattle.rules.specs.VertexLoops.{vertex_loop_step, vertex_loops}
use Rattle.vertex_loops.proofs.vertex_loops.Given as goal

abbrev pub invariant-loop-l : goal.invariant-loop-l
invariant-loop-l g l =
    let step = vertex_loop_step l.job.answers l.job.points l.numbers in
    (length l.kept.entries ≤ l.l)
    × (vertex_loops l.job.answers l.job.points l.numbers l.job.loops ≡ throughout step (drop l.l l.job.loops) l.kept.entries)
