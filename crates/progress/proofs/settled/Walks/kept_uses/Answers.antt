use Rattle.progress.specs.KnownLaws.{seen}
use Rattle.progress.proofs.settled.Walks.kept_uses.Goals as goal

pub invariant_of-result : goal.invariant_of-result
invariant_of-result c = record { few = c.uses.ensures.1 }

pub returns : goal.returns
returns c = let S = seen c.self.invariant c.self.view_is in (S.job, c.uses.ensures.0, S.removed)
