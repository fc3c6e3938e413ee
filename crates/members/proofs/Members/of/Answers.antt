use Rattle.members.specs.Group.{members_all}
use Rattle.members.proofs.Members.of.Goals as goal

pub returns : goal.returns
returns c = members_all _ _ c.self.invariant c.self.view_is c.requires
