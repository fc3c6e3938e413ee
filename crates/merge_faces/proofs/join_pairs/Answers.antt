use Rattle.std.proofs.Common.{rules}
use Rattle.merge_faces.specs.MergingLaws.{pairs_none, pairs_more}
use Rattle.merge_faces.proofs.join_pairs.Goals as goal

pub loop-h-init : goal.loop-h-init
loop-h-init c = search (rules, pairs_none)

pub loop-h-preserved : goal.loop-h-preserved
loop-h-preserved c = search (rules, pairs_more)
