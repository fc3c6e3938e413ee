use Rattle.std.proofs.Common.{arith}
use Rattle.groups.specs.ParentLaws.{numbered_all}
use Rattle.groups.proofs.alone.Goals as goal

pub returns : goal.returns
returns c = numbered_all _ _ c.loop-i.i c.loop-i.auto.parents c.loop-i.invariant (omega arith)
