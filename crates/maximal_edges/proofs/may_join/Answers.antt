use Rattle.std.proofs.Common.{arith, ◌≡◌}
use Rattle.rules.specs.Join.{not_singular, may_join}
use Rattle.rules.specs.Kinds.{number_of}
use Rattle.lists.specs.SameLists.{pointwise_same}
use Rattle.maximal_edges.proofs.may_join.Goals as goal

-- the attribute finds this alone; with `first`, a wrong edge fails at that line and not at a limit of the search
pub returns : goal.returns
unfolding may_join number_of
returns c =
    let first : c.not_singular.result ≡ not_singular c.args.job.now.answers c.args.a c.args.point = c.not_singular.ensures in
    grind (arith, pointwise_same)
