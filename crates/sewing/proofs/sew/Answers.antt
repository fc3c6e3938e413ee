use Rattle.std.proofs.Common.{arith}
use Rattle.rules.specs.Rules.{ordinary}
use Rattle.theorems.proofs.Promised.{promises}
use Rattle.progress.specs.StageLaws.{stage_body}
use Rattle.sewing.proofs.sew.Goals as goal

pub returns : goal.returns
returns c = (grind (arith, stage_body), promises ordinary c.args.job.now)
