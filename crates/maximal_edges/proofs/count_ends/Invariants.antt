use Rattle.maximal_edges.specs.Joined.{Counted}
use Rattle.maximal_edges.proofs.count_ends.Given as goal

abbrev pub invariant-loop-e : goal.invariant-loop-e
invariant-loop-e l = Counted l.rows l.corners l.e
