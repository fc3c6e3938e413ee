use Rattle.std.proofs.Common.{arith}
use Rattle.body.specs.ShellLaws.{lump_wrote}
use Rattle.body.proofs.put_lump.Goals as goal

pub returns : goal.returns
returns c = (lump_wrote c.args.shells.now _ _ _ _ _ _ _ _ c.args.outer c.put_record-p.ensures.0 c.put_shell-q.ensures.0 c.put_voids.ensures.0, omega arith)
