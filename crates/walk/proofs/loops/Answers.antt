use Rattle.walk.specs.LoopLaws.{blank_visited}
use Rattle.std.proofs.Common.{rules}
use Rattle.walk.proofs.loops.Goals as goal

pub walk_all-requires-clause-unset : goal.walk_all-requires-clause-unset
walk_all-requires-clause-unset c = search (rules, blank_visited)
