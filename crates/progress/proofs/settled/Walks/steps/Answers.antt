use Rattle.std.proofs.Common.{ap, ◌∙◌, length}
use Rattle.progress.specs.KnownLaws.{seen, settled_permuted, settled_steps, settled_few}
use Rattle.progress.proofs.settled.Walks.steps.Goals as goal

pub invariant_of-result : goal.invariant_of-result
invariant_of-result c = record { permuted = settled_steps c.self.invariant; few = settled_few c.self.invariant }

pub returns : goal.returns
returns c = let S = seen c.self.invariant c.self.view_is in (S.removed, S.succ, (settled_permuted c.self.invariant).size ∙ ap length S.uses)
