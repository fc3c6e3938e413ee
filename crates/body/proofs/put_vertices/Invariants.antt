use Rattle.std.proofs.Common.{◌*◌, ◌≤◌}
use Rattle.body.specs.Vertices.{Meeting, met_below}
use Rattle.body.proofs.put_vertices.Given as goal

abbrev pub invariant-loop-edge : goal.invariant-loop-edge
invariant-loop-edge l = (l.count ≤ 2 * l.edge-index) × Meeting l.starts l.initial.out 34 (met_below l.rows l.edge-index) l.vertices l.out l.count
