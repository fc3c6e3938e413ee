use Rattle.std.proofs.Common.{arith, sym, ◌∙◌}
use Rattle.stages_out.specs.Writing.{rowed_start, row_step, none_step, members_kept}
use Rattle.fields.specs.Wrote.{wrote_as}
use Rattle.result_out.proofs.RowLaws.{void_rows, row_bytes}
use Rattle.shells.specs.Table.{no_row, is_void}
use Rattle.result_out.proofs.put_voids.Goals.{then-is_void_of, else-is_void_of}
use Rattle.result_out.proofs.put_voids.Goals as goal

pub loop-s-init : goal.loop-s-init
loop-s-init c = rowed_start

pub loop-s-preserved : goal.loop-s-preserved
loop-s-preserved c =
    elim c.if-is_void_of.branch [
      | then-is_void_of w ↦
          rw (w.out-is, w.p-is) (row_step _ _ c.loop-s.invariant (sym c.is_void_of.ensures ∙ w.if-is_void_of.true) w.put_shell-p.ensures.0 w.put_shell-p.ensures.1)
      | else-is_void_of w ↦ rw (w.out-is, w.p-is) (none_step _ _ c.loop-s.invariant (sym c.is_void_of.ensures ∙ w.if-is_void_of.false))
    ]

pub returns : goal.returns
returns c =
    let s = c.args.shells.now in (
      wrote_as _ _ _ _ _ _ (void_rows s c.args.home c.args.number) (members_kept (is_void c.args.home) (row_bytes s c.args.number) s.rows.now no_row c.loop-s.invariant (omega arith)),
      omega (arith, c.loop-s.invariant.small),
    )
