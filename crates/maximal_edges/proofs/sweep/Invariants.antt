use Rattle.maximal_edges.specs.ScanLaws.{Scan}
use Rattle.maximal_edges.specs.SweepLaws.{Passed}
use Rattle.std.proofs.Common.{None}
use lib.ListN.{length, get_or}
use Prim.Native.Nat.{◌-◌}
use mathlib.Core.Path.{◌≡◌}
use Rattle.maximal_edges.proofs.sweep.Given as goal

abbrev pub invariant-edges : goal.invariant-edges
invariant-edges g l = Scan l.rows l.v l.a (get_or l.e-items 1 0) l.seen l.e-index

abbrev pub invariant-corners : goal.invariant-corners
invariant-corners g l = record {
  none : l.change ≡ None;
  passed : Passed l.run.job.now.answers l.run.points.now l.run.names.now l.rows l.from.low l.i;
}

abbrev pub decreases-corners : goal.decreases-corners
decreases-corners g l = length l.run.names.now - l.i
