use Rattle.std.proofs.Common.{◌≡◌, ◌-◌, length}
use Rattle.lists.specs.Lists.{from}
use Rattle.rules.specs.Outcome.{◌>>=◌, throughout}
use Rattle.rules.specs.Pair.{pair_edge, complete, pair}
use Rattle.pair.proofs.pair_edges.Given as goal

abbrev pub invariant-loop-e : goal.invariant-loop-e
invariant-loop-e l =
    let edges = length l.pairing.job.now.edges in
    let answers = l.pairing.job.now.answers in
    let us = l.pairing.linked.now.uses in
    pair l.pairing.profile answers us edges ≡ (throughout (pair_edge l.pairing.profile answers us) (from l.e (edges - l.e)) l.twins >>= complete)
