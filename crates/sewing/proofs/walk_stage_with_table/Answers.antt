use Rattle.std.proofs.Common.{arith}
use Rattle.rules.specs.Stage.{walk_stage_with_table}
use Rattle.theorems.proofs.JoiningTables.{walks_with}
use Rattle.progress.specs.StageLaws.{stage_walk}
use Rattle.sewing.proofs.walk_stage_with_table.Goals as goal

pub returns : goal.returns
unfolding walk_stage_with_table
returns c = (grind (arith, stage_walk), walks_with c.args.table.now c.args.job.now)

pub returns-in_err-supplied : goal.returns-in_err-supplied
unfolding walk_stage_with_table
returns-in_err-supplied c = (grind arith, walks_with c.args.table.now c.args.job.now)
