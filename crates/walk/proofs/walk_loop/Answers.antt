use Rattle.walk.specs.RoundLaws.{rounding_stop, rounding_on, rounding_end}
use Rattle.std.proofs.Common.{rules}
use Rattle.walk.proofs.walk_loop.Goals as goal

pub returns-then-h-start : goal.returns-then-h-start
returns-then-h-start c = search (rules, rounding_stop)

pub loop-p-preserved : goal.loop-p-preserved
loop-p-preserved c = search (rules, rounding_on)

pub returns : goal.returns
returns c = absurd (search (rules, rounding_end))
