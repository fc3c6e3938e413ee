use Rattle.std.proofs.Common.{arith}
use Rattle.body.specs.Writing.{length_head, wrote_record}
use Rattle.body.proofs.put_shell.Goals as goal

pub put_shell_faces-requires : goal.put_shell_faces-requires
put_shell_faces-requires c = (c.args.shells.now.few_members, omega (arith, length_head))

pub returns : goal.returns
returns c = (
  wrote_record _ _ _ _ _ _ _ _ _ c.put_head-p.ensures c.count_shell_faces-size.ensures.0 c.put_shell_faces.ensures.0,
  omega (arith, length_head),
)
