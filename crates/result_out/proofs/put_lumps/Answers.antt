use Rattle.std.proofs.Common.{arith}
use Rattle.result_out.proofs.RowLaws.{lumped_start, lumped_outer, lumped_void, lumped_all}
use Rattle.result_out.proofs.put_lumps.Goals.{then-s, else-s}
use Rattle.result_out.proofs.put_lumps.Goals as goal

pub loop-s-init : goal.loop-s-init
loop-s-init c = lumped_start c.args.shells.now _

pub loop-s-preserved : goal.loop-s-preserved
loop-s-preserved c =
    elim c.if-s.branch [
      | then-s w ↦ rw (w.out-is, w.p-is, w.number-is)
          (lumped_outer c.args.shells.now _ _ _ _ _ c.loop-s.invariant (omega arith) _ _ w.if-s.true w.put_lump-p.ensures.0 w.put_lump-p.ensures.1)
      | else-s w ↦ rw (w.out-is, w.p-is, w.number-is) (lumped_void c.args.shells.now _ _ _ _ _ c.loop-s.invariant (omega arith) w.if-s.false)
    ]

pub returns : goal.returns
returns c = lumped_all c.args.shells.now _ _ _ _ _ c.loop-s.invariant (omega arith)
