use Rattle.groups.specs.Padding.{new_stands}
use Rattle.groups.proofs.new.Goals as goal

pub returns : goal.returns
returns c = new_stands 256 c.args.n _ c.requires c.alone.ensures.1

pub invariant_of-result : goal.invariant_of-result
invariant_of-result c = (new_stands 256 c.args.n _ c.requires c.alone.ensures.1).ordered
