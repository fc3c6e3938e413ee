use Rattle.contact.specs.BucketLaws.{bucketed_more}
use Rattle.std.proofs.Common.{rules}
use Rattle.contact.proofs.enter.Goals as goal

pub returns : goal.returns
returns g c = search (rules, bucketed_more)
