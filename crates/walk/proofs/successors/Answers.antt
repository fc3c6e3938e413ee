use Rattle.walk.specs.PassLaws.{filled_start, filled_step, filled_end}
use Rattle.std.proofs.Common.{rules, arith}
use Rattle.walk.proofs.successors.Goals as goal

pub loop-h-init : goal.loop-h-init
loop-h-init c = search (rules, filled_start)

pub loop-h-preserved : goal.loop-h-preserved
loop-h-preserved c = filled_step _ _ _ _ _ _ _ _ _ _ _ c.loop-h.invariant c.requires.0 (omega arith) c.passing-p.ensures c.put.ensures c.put-in-loop-h.ensures

pub returns : goal.returns
returns c = filled_end _ _ _ _ _ _ _ c.loop-h.invariant (omega arith)
