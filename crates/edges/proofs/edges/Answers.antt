use Rattle.std.proofs.Common.{arith}
use Rattle.edges.specs.Made.{so_far_none, so_far_few, so_far_step, made}
use Rattle.edges.proofs.edges.Goals as goal

pub loop-h-init : goal.loop-h-init
loop-h-init c = so_far_none _ _ _ _ _

pub add_edge-count-requires : goal.add_edge-count-requires
add_edge-count-requires c = (
  omega (arith, c.requires.1),
  so_far_few _ _ _ c.requires.0 _ _ _ _ _ c.loop-h.invariant c.loop-h-test.true,
)

pub loop-h-preserved : goal.loop-h-preserved
loop-h-preserved c =
    so_far_step _ _ _ c.requires.0 _ _ _ _ _ _ _ _ (omega (arith, c.loop-h.auto.rows, c.requires.3))
    (omega (arith, c.loop-h.auto.owns, c.requires.2)) c.loop-h.invariant c.loop-h-test.true c.add_edge-count.ensures

pub returns : goal.returns
returns c = made _ _ _ _ _ _ _ _ _ _ _ _ c.loop-h.invariant c.loop-h-test.false
