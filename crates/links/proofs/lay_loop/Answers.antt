use Rattle.std.proofs.Common.{refl}
use Rattle.links.specs.Lay.{lay_step, lay_done}
use Rattle.links.proofs.lay_loop.Goals as goal

pub loop-x-preserved : goal.loop-x-preserved
loop-x-preserved c =
    lay_step _ c.args.nexts.now _ _ _ _ _ _ _ _ c.loop-x.invariant c.loop-x-test.true c.get.ensures.0 c.get-p.ensures.0 refl

pub returns : goal.returns
returns c = lay_done _ c.args.nexts.now c.args.part.now _ _ c.loop-x.x-index c.loop-x.p c.loop-x.invariant c.loop-x-test.false
