use Rattle.body.specs.Numbers.{Numbering}
use Rattle.body.specs.Vertices.{active_below}
use Rattle.body.proofs.number_edges.Given as goal

abbrev pub invariant-loop-e : goal.invariant-loop-e
invariant-loop-e l = Numbering (active_below l.rows l.e) l.numbers l.count
