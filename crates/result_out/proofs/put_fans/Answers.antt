use Rattle.std.proofs.Common.{arith, rules, sym, ◌∙◌}
use Rattle.stages_out.specs.Writing.{rowed_start, row_step, none_step, fields_kept}
use Rattle.result_out.specs.Rows.{fan_rows}
use Rattle.result_out.proofs.put_fans.Goals.{then-kept_with_ends, else-kept_with_ends}
use Rattle.result_out.proofs.put_fans.Goals as goal

pub loop-h-init : goal.loop-h-init
loop-h-init c = rowed_start

pub loop-h-preserved : goal.loop-h-preserved
loop-h-preserved c =
    elim c.if-kept_with_ends.branch [
      | then-kept_with_ends w ↦ rw (w.out-is, w.p-is)
          (row_step _ _ c.loop-h.invariant (sym c.kept_with_ends.ensures ∙ w.if-kept_with_ends.true) (search rules) (omega arith))
      | else-kept_with_ends w ↦ rw (w.out-is, w.p-is) (none_step _ _ c.loop-h.invariant (sym c.kept_with_ends.ensures ∙ w.if-kept_with_ends.false))
    ]

pub returns : goal.returns
unfolding fan_rows
returns c = fields_kept _ _ c.loop-h.invariant (omega arith)
