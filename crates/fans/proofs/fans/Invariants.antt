use Rattle.fans.specs.FanLaws.{FannedAt}
use Rattle.fans.proofs.fans.Given as goal

abbrev pub invariant-loop-h : goal.invariant-loop-h
invariant-loop-h l = FannedAt l.own.job.now.edges l.own.uses.now l.twins l.own.removed.now l.succ l.labels l.h
