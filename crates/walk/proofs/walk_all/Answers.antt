use Rattle.walk.specs.LoopLaws.{walking_start, walking_end}
use Rattle.std.proofs.Common.{rules, arith}
use Rattle.walk.proofs.walk_all.Goals as goal

pub loop-h-init : goal.loop-h-init
loop-h-init c = search (rules, walking_start)

pub returns : goal.returns
returns c = walking_end _ _ c.args.steps.now.permuted _ _ _ _ _ _ (omega arith) (omega arith) c.loop-h.invariant.0
