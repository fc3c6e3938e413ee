use Rattle.std.proofs.Common.{arith}
use Rattle.lists.specs.Membership.{get_or_in}
use Rattle.body.specs.Vertices.{met_start, met_active, met_other, met_all}
use Rattle.body.proofs.put_vertices.Goals.{then-edge, else-edge}
use Rattle.body.proofs.put_vertices.Goals as goal

pub loop-edge-init : goal.loop-edge-init
loop-edge-init c = (omega arith, met_start _ _ _ _ _ _ (c.fill.ensures.after (λ y e. e)))

pub meet_ends-count-requires : goal.meet_ends-count-requires
meet_ends-count-requires c =
    (omega (arith, c.loop-edge.invariant.0), rw (c.loop-edge.auto.vertices, c.fill.ensures.len) (c.requires.1 _ (get_or_in _ _ _ (omega arith))))

pub loop-edge-preserved : goal.loop-edge-preserved
loop-edge-preserved c =
    elim c.if-edge.branch [
      | then-edge w ↦ rw (w.count-is, w.vertices-is, w.out-is)
          (omega (arith, c.loop-edge.invariant.0, w.meet_ends-count.ensures.0), met_active _ _ _ (omega arith) w.if-edge.true (w.meet_ends-count.ensures.1 _ _ c.loop-edge.invariant.1))
      | else-edge w ↦ rw (w.count-is, w.vertices-is, w.out-is) (omega (arith, c.loop-edge.invariant.0), met_other _ _ _ (omega arith) w.if-edge.false c.loop-edge.invariant.1)
    ]

pub returns : goal.returns
returns c = (omega (arith, c.loop-edge.invariant.0), met_all _ c.loop-edge.invariant.1 (omega arith))
