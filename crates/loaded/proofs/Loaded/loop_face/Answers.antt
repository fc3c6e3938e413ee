use Rattle.std.proofs.Common.{ap, ◌∙◌}
use Rattle.rules.specs.Job.{Loop}
use Rattle.job.specs.Lists.{loop_in}
use Rattle.loaded.proofs.OpenedLaws.{loop_is}
use Rattle.loaded.proofs.Loaded.loop_face.Goals as goal

pub returns : goal.returns
unfolding loop_in
returns c = c.loop_face.ensures ∙ ap (λ (l : Loop). l.face) (loop_is c.self.invariant c.self.view_is _ c.requires)
