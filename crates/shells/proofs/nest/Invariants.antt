use Rattle.std.proofs.Common.{List, ℕ}
use Rattle.shells.specs.NestLaws.{NestAt}
use Rattle.shells.specs.Table.{Shelled}
use Rattle.shells.proofs.nest.Given as goal

abbrev pub invariant-loop-k : goal.invariant-loop-k
invariant-loop-k l = (boundaries members : List ℕ) → Shelled boundaries members l.initial.table → NestAt l.job.answers boundaries members l.initial.table l.table l.k
