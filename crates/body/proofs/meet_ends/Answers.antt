use Rattle.std.proofs.Common.{arith}
use Rattle.body.proofs.meet_ends.Goals as goal

pub returns : goal.returns
returns c = (
  omega (arith, c.meet_fan-n.ensures.0, c.meet_fan.ensures.0),
  λ before met M. c.meet_fan.ensures.1 before _ (rw c.meet_fan-n.auto.vertices c.requires.1.1) (c.meet_fan-n.ensures.1 before met c.requires.1.0 M),
)
