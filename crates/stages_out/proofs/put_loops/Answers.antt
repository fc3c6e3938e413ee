use Rattle.stages_out.proofs.RowLaws.{loop_rows, loop_length}
use Rattle.stages_out.specs.Writing.{rowed_start, fields_step, fields_as}
use Rattle.std.proofs.Common.{arith}
use Rattle.stages_out.proofs.put_loops.Goals as goal

pub loop-s-init : goal.loop-s-init
loop-s-init c = rowed_start

pub loop-s-preserved : goal.loop-s-preserved
loop-s-preserved c =
    let F = c.rounds.invariant.0 in
    let k = c.loop-s.s-index in
    fields_step _ c.loop-s.invariant (rw c.range.ensures.0 at (rw c.range.ensures.1 at c.put_loop-p.ensures))
    (omega (arith, loop_length c.args.uses.now c.args.numbers.now _ _ F k (omega arith), F.within k (omega arith)))

pub returns : goal.returns
returns c = rw (← c.rounds.view_is) (fields_as _ c.loop-s.invariant (loop_rows _ _ _ _ _ (omega arith)))
