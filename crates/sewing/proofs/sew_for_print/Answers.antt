use Rattle.std.proofs.Common.{arith}
use Rattle.theorems.proofs.PrintShop.{print_promises}
use Rattle.progress.specs.StageLaws.{stage_body}
use Rattle.sewing.proofs.sew_for_print.Goals as goal

pub returns : goal.returns
returns c = (grind (arith, stage_body), print_promises c.args.job.now)
