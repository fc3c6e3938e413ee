use Rattle.std.proofs.Common.{arith, ap, length}
use Rattle.rebuild.proofs.FansLaws.{names_few}
use Rattle.rebuild.proofs.fanned.clear_points.Goals as goal

pub points_clear-requires : goal.points_clear-requires
points_clear-requires c = names_few _ _ c.f.invariant (omega (arith, ap length c.uses.ensures.0, c.uses.ensures.1))
