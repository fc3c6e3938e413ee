use Rattle.lists.specs.Membership.{in_get_or}
use native.Mathlib.Omega.{arith}
use Rattle.maximal_edges.proofs.maximal_edges.Goals as goal

pub invariant_of-run-clause-inside : goal.invariant_of-run-clause-inside
invariant_of-run-clause-inside c =
    λ v m. let r = in_get_or 0 m in omega (arith, (c.is_small.ensures c.if-is_small.true).0 r.0 r.1, r.2)
