use Rattle.std.proofs.Common.{arith}
use Rattle.result_out.proofs.RowLaws.{loop_wrote}
use Rattle.result_out.proofs.put_loop.Goals as goal

pub returns : goal.returns
returns c = (loop_wrote _ _ _ _ _ _ _ _ c.put_fields-p.ensures.0 c.put_items.ensures.0, omega arith)
