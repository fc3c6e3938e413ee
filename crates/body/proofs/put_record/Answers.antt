use Rattle.std.proofs.Common.{arith}
use Rattle.body.specs.Writing.{length_head, wrote_record}
use Rattle.body.proofs.put_record.Goals as goal

pub put_fields-requires : goal.put_fields-requires
put_fields-requires g c = omega (arith, length_head)

pub returns : goal.returns
returns g c = (wrote_record _ _ _ _ _ _ _ _ _ c.put_head-p.ensures (omega arith) c.put_fields.ensures.0, omega (arith, length_head))
