use Rattle.maximal_edges.specs.CountLaws.{count_small, half_small}
use native.Mathlib.Omega.{arith}
use Rattle.maximal_edges.proofs.count_ends.Goals as goal

pub count_end-requires : goal.count_end-requires
count_end-requires c =
    count_small c.args.rows.now c.loop-e.e _ c.loop-e.invariant (omega (arith, c.loop-e-test.true, c.requires.0))

pub count_end-requires-then-edge : goal.count_end-requires-then-edge
count_end-requires-then-edge c =
    half_small c.args.rows.now _ _ c.loop-e.invariant (omega (arith, c.loop-e-test.true, c.requires.0)) c.count_end.ensures
