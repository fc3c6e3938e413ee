use Rattle.std.proofs.Common.{◌≡◌, length}
use Rattle.walk.specs.Walks.{Walking}
use Rattle.walk.proofs.walk_all.Given as goal

abbrev pub invariant-loop-h : goal.invariant-loop-h
invariant-loop-h l =
    Walking l.steps.removed.now l.steps.succ.now l.h l.visited l.ways l.stretches l.so.count l.so.at × (length l.visited ≡ length l.initial.visited)
    × (length l.ways ≡ length l.initial.ways) × (length l.stretches ≡ length l.initial.stretches)
