use Rattle.std.proofs.Common.{arith, ap, ◌∙◌, length}
use Rattle.rules.specs.Job.{Job}
use Rattle.progress.specs.KnownLaws.{seen, loads_edges}
use Rattle.rebuild.proofs.clear_edges.Goals as goal

pub invariant_of-pairs : goal.invariant_of-pairs
invariant_of-pairs c =
    let S = seen c.w.invariant c.w.view_is in
    record { low = c.requires; few = omega (arith, c.w.inside.chained, ap (λ (j : Job). length j.edges) S.job, loads_edges S.loads) }

pub returns : goal.returns
returns c =
    let S = seen c.w.invariant c.w.view_is in
    let edges = c.w.inside.chained ∙ ap (λ (j : Job). length j.edges) S.job in
    rw (S.uses, S.twins, edges) at c.edges_clear.ensures
