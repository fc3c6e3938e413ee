use Rattle.rules.specs.Fields.{le32}
use mathlib.Core.Path.{ap, ◌∙◌}
use Rattle.job.proofs.RawJob.loop_size.Goals as goal

pub returns : goal.returns
returns c = (c.word.ensures.0 ∙ ap (le32 c.args.self.now.bytes.now) c.entry.ensures.0, c.word.ensures.1)
