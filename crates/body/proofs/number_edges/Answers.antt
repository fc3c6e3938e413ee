use Rattle.std.proofs.Common.{arith}
use Rattle.body.specs.Vertices.{active_start, active_few, numbered_active, numbered_other, active_all}
use Rattle.body.proofs.number_edges.Goals.{then-row, else-row}
use Rattle.body.proofs.number_edges.Goals as goal

pub loop-e-init : goal.loop-e-init
loop-e-init c = active_start _ _ _ (c.fill.ensures.after (λ y e. e))

pub overflow_add-count : goal.overflow_add-count
overflow_add-count c = omega (arith, active_few _ c.loop-e.invariant)

pub put-requires : goal.put-requires
put-requires c = omega (arith, active_few _ c.loop-e.invariant)

pub loop-e-preserved : goal.loop-e-preserved
loop-e-preserved c =
    elim c.if-row.branch [
      | then-row w ↦ rw (w.numbers-is, w.count-is, w.put.ensures) (numbered_active _ _ c.loop-e.invariant (omega arith) (omega arith) w.if-row.true)
      | else-row w ↦ rw (w.numbers-is, w.count-is) (numbered_other _ _ c.loop-e.invariant (omega arith) w.if-row.false)
    ]

pub returns : goal.returns
returns c = active_all _ c.loop-e.invariant (omega arith)
