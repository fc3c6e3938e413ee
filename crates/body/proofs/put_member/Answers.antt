use Rattle.std.proofs.Common.{arith}
use Rattle.body.proofs.put_member.Goals as goal

pub returns : goal.returns
returns c = (rw (← c.face-face.ensures) c.put_fields.ensures.0, omega arith)
