use Rattle.std.proofs.Common.{rules}
use Rattle.fans.specs.FanLaws.{fanned_start, fanned_joins, fanned_leaves}
use Rattle.fans.proofs.fans.Goals.{then-kept_with_ends, else-kept_with_ends}
use Rattle.fans.proofs.fans.Goals as goal

pub loop-h-init : goal.loop-h-init
loop-h-init c = search (rules, fanned_start)

pub loop-h-preserved : goal.loop-h-preserved
loop-h-preserved c =
    let f = c.loop-h.invariant in
    let k = c.kept_with_ends.ensures in
    elim c.if-kept_with_ends.branch [
      | then-kept_with_ends w ↦ fanned_joins _ _ _ _ _ _ _ _ _ f k _ _ _ w.if-kept_with_ends.true c.loop-h-test.true w.get-t.ensures.0 w.join_in.ensures.0 w.labels-is
      | else-kept_with_ends w ↦ fanned_leaves _ _ _ _ _ _ _ _ _ f k w.if-kept_with_ends.false w.labels-is
    ]
