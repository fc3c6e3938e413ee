use Rattle.std.proofs.Common.{arith}
use Rattle.result_out.proofs.RowLaws.{shell_wrote}
use Rattle.result_out.proofs.put_shell.Goals as goal

pub returns : goal.returns
returns c = (shell_wrote _ _ _ _ _ _ _ _ _ c.count_shell_faces-n.ensures.0 c.put_fields-p.ensures.0 c.put_shell_faces.ensures.0, omega arith)
