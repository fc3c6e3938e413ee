use Rattle.std.proofs.Common.{arith}
use Rattle.body.specs.Writing.{length_head, wrote_record}
use Rattle.body.specs.Numbers.{number_in}
use Rattle.body.specs.FaceLaws.{length_items}
use Rattle.body.proofs.put_loop.Goals as goal

pub put_items-requires : goal.put_items-requires
put_items-requires c = (omega (arith, length_head), c.requires.1)

pub returns : goal.returns
returns c = (
  wrote_record _ _ _ _ _ _ _ _ _ c.put_head-p.ensures (omega (arith, length_items (number_in c.args.numbers.now) c.args.part.now)) c.put_items.ensures.0,
  omega (arith, length_head),
)
