use Rattle.stages_out.proofs.RowLaws.{round_row_lem}
use Rattle.std.proofs.Common.{rules}
use Rattle.stages_out.proofs.put_loop.Goals as goal

pub returns : goal.returns
returns c = search (rules, round_row_lem)
