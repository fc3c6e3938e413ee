use Rattle.groups.specs.ParentLaws.{settled_all}
use Rattle.groups.proofs.settle.Goals as goal

pub returns : goal.returns
returns c = λ ls s. settled_all _ _ _ _ s c.loop-i.auto.parents (c.loop-i.invariant ls s) c.loop-i-test.false
