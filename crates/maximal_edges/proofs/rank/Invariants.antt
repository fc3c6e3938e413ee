use Rattle.maximal_edges.specs.Joined.{RankedTo}
use Rattle.maximal_edges.proofs.rank.Given as goal

abbrev pub invariant-loop-i : goal.invariant-loop-i
invariant-loop-i g l = RankedTo l.run.names.now l.ranks l.i
