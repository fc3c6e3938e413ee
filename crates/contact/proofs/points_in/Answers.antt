use Rattle.contact.specs.BucketLaws.{bucketed_none}
use Rattle.contact.specs.ContactLaws.{lowest_none}
use Rattle.contact.proofs.points_in.Goals as goal

pub loop-k-init : goal.loop-k-init
loop-k-init g c = (bucketed_none _ _ _ _ _, lowest_none _ _ _ _)
