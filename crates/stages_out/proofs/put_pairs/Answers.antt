use Rattle.stages_out.proofs.RowLaws.{pair_rows_all}
use Rattle.stages_out.specs.Rows.{pair_row}
use Rattle.stages_out.specs.Writing.{rowed_start, fields_step, fields_as}
use Rattle.std.proofs.Common.{rules, arith}
use Rattle.stages_out.proofs.put_pairs.Goals as goal

pub loop-f-init : goal.loop-f-init
loop-f-init c = rowed_start

pub loop-f-preserved : goal.loop-f-preserved
loop-f-preserved c = fields_step (pair_row c.boundaries-b-items.result.now c.groups-groups.result.now) c.loop-f.invariant (search rules) (search rules)

pub returns : goal.returns
returns c = rw (← c.boundaries-b-items.ensures.0, ← c.groups-groups.ensures.0) (fields_as _ c.loop-f.invariant (pair_rows_all _ _ _ (omega arith)))
