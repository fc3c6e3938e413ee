use Rattle.groups.specs.ParentLaws.{climb_step}
use Rattle.groups.proofs.root_in.Goals as goal

pub loop-up-preserved : goal.loop-up-preserved
loop-up-preserved c =
    climb_step _ _ _ _ _ _ _ _ c.loop-up.invariant c.get-far.ensures.0 c.put.ensures c.get-up-in-loop-up.ensures.0
    c.get-up-in-loop-up.ensures.1
