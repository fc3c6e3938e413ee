use Rattle.std.proofs.Common.{arith}
use Rattle.shells.specs.declared.ShellRow.{ShellRow}
use Rattle.shells.specs.Table.{no_row}
use Rattle.stages_out.specs.Writing.{rowed_start, row_step, none_step, members_kept}
use Rattle.body.specs.Writing.{wrote_as}
use Rattle.body.specs.ShellLaws.{lump_row, lumps_are}
use Rattle.body.proofs.put_lumps.Goals.{then-s, else-s}
use Rattle.body.proofs.put_lumps.Goals as goal

pub loop-s-init : goal.loop-s-init
loop-s-init c = rowed_start

pub loop-s-preserved : goal.loop-s-preserved
loop-s-preserved c =
    elim c.if-s.branch [
      | then-s w ↦ rw (w.out-is, w.p-is) (row_step _ _ c.loop-s.invariant w.if-s.true w.put_lump-p.ensures.0 (omega arith))
      | else-s w ↦ rw (w.out-is, w.p-is) (none_step _ _ c.loop-s.invariant w.if-s.false)
    ]

pub returns : goal.returns
returns c =
    wrote_as _ _ _ _ _ _ (lumps_are c.args.shells.now) (members_kept (λ (x : ShellRow). x.outer) (lump_row c.args.shells.now) _ no_row c.loop-s.invariant (omega arith))
