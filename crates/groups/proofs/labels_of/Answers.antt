use Rattle.groups.specs.ParentLaws.{labelling_end}
use Rattle.groups.proofs.labels_of.Goals as goal

pub returns : goal.returns
returns c = λ ls st. labelling_end _ _ _ _ _ ls c.loop-i.invariant c.loop-i-test.false st
