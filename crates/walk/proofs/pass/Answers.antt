use Rattle.walk.specs.PassLaws.{going_on, going_met, going_broken}
use Rattle.std.proofs.Common.{rules, arith}
use Rattle.walk.proofs.pass.Goals as goal

pub returns-then-not-is_set : goal.returns-then-not-is_set
returns-then-not-is_set c = going_met _ _ _ _ _ _ c.loop-k.invariant (omega arith) (grind arith)

pub loop-k-preserved : goal.loop-k-preserved
loop-k-preserved c = search (rules, going_on)

pub returns : goal.returns
returns c = going_broken _ _ _ _ _ _ c.loop-k.invariant (omega arith)
