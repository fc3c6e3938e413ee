use Rattle.shells.specs.NestLaws.{nest_start, nest_stop, nest_step, nest_end}
use Rattle.rules.proofs.OutcomeLaws.{hands_on}
use Rattle.std.proofs.Common.{refl, arith}
use Rattle.shells.proofs.nest.Goals as goal

pub loop-k-init : goal.loop-k-init
loop-k-init c = λ boundaries members s. nest_start _ _ _ _ s

pub returns-in_err-table : goal.returns-in_err-table
returns-in_err-table c = λ boundaries members s.
    rw (hands_on c.from_residual.result c.from_residual.ensures.1)
    (nest_stop _ _ _ _ _ _ (c.loop-k.invariant boundaries members s) (omega arith) _ c.home.ensures (c.in_err-table.was), tt)

pub loop-k-preserved : goal.loop-k-preserved
loop-k-preserved c = λ boundaries members s.
    nest_step _ _ _ _ _ _ (c.loop-k.invariant boundaries members s) (omega arith) _ c.home.ensures _ _ (c.in_ok-table.was) refl

pub returns : goal.returns
returns c = λ boundaries members s.
    let at = c.loop-k.invariant boundaries members s in
    (nest_end _ _ _ _ _ _ at (omega arith), at.shelled)
