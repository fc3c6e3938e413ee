use Rattle.std.proofs.Common.{arith, rules}
use Rattle.lists.specs.Tests.{not_is, is_not}
use Rattle.stages_out.specs.Rows.{walk_rows}
use Rattle.stages_out.specs.Writing.{rowed_start, row_step, none_step, fields_kept}
use Rattle.stages_out.proofs.put_walks.Goals.{then-not-is_set, else-not-is_set}
use Rattle.stages_out.proofs.put_walks.Goals as goal

pub loop-h-init : goal.loop-h-init
loop-h-init c = rowed_start

pub loop-h-preserved : goal.loop-h-preserved
loop-h-preserved c =
    elim c.if-not-is_set.branch [
      | then-not-is_set w ↦ rw (w.out-is, w.p-is) (row_step _ _ c.loop-h.invariant (search (rules, not_is)) (search rules) (omega arith))
      | else-not-is_set w ↦ rw (w.out-is, w.p-is) (none_step _ _ c.loop-h.invariant (search (rules, is_not)))
    ]

pub returns : goal.returns
unfolding walk_rows
returns c = fields_kept _ _ c.loop-h.invariant (omega arith)
