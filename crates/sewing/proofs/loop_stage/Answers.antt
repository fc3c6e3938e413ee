use Rattle.std.proofs.Common.{arith}
use Rattle.rules.specs.Rules.{ordinary}
use Rattle.theorems.proofs.Ground.{ground}
use Rattle.progress.specs.StageLaws.{stage_loops}
use Rattle.sewing.proofs.loop_stage.Goals as goal

pub returns : goal.returns
returns c = (grind (arith, stage_loops), λ j w loads settled. (ground ordinary c.args.job.now j w loads settled).walks)
