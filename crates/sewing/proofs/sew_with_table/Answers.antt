use Rattle.std.proofs.Common.{arith}
use Rattle.rules.specs.Sew.{sewn_with_table}
use Rattle.theorems.proofs.JoiningTables.{promises_with}
use Rattle.progress.specs.StageLaws.{stage_body}
use Rattle.sewing.proofs.sew_with_table.Goals as goal

pub returns : goal.returns
unfolding sewn_with_table
returns c = (grind (arith, stage_body), promises_with c.args.table.now c.args.job.now)

pub returns-in_err-supplied : goal.returns-in_err-supplied
unfolding sewn_with_table
returns-in_err-supplied c = (grind arith, promises_with c.args.table.now c.args.job.now)
