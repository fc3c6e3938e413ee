use Rattle.maximal_edges.specs.SweepLaws.{passed_one, idle_corner, two_corner, tried_still, swept_none, swept_changed, swept_refused}
use Rattle.maximal_edges.specs.ScanLaws.{scan_both, scan_on}
use Rattle.std.proofs.Common.{inl}
use Rattle.lists.specs.Lists.{◌∈◌}
use Prim.Native.Nat.{ℕ, ◌<◌}
use lib.ListN.{length}
use mathlib.Core.Bool.{not}
use mathlib.Core.Path.{refl, sym, ap, ◌∙◌}
use native.Mathlib.Omega.{arith}
use Rattle.maximal_edges.proofs.sweep.Goals as goal

pub edges-init : goal.edges-init
edges-init g c =
    let run = c.args.run.now in
    let inside : (v : ℕ) → v ∈ run.names.now → v < length c.args.corners.now = λ v m. omega (arith, run.inside v m) in record {
      ends = two_corner c.requires.tabled inside c.corners-test.true c.get-v.ensures.0 c.corner_at-corner.ensures c.if-corner-eq2.true;
      at = inl (refl, refl);
    }

pub edges-preserved : goal.edges-preserved
edges-preserved g c = scan_on c.edges.invariant refl c.ends_of-seen.ensures.0 c.if-seen-ne2.true

pub corners-preserved-then-is_none : goal.corners-preserved-then-is_none
corners-preserved-then-is_none g c =
    let a = c.args in
    let still = tried_still a.run.now.job.now.answers a.run.now.points.now a.rows.now c.get-v.result _ _
    (scan_both c.edges.invariant refl c.ends_of-seen.ensures.0 c.if-seen-ne2.false) c.in_ok-change.change
    (c.is_none.ensures ∙ ap not c.if-is_none.true) (sym c.try_corner.ensures ∙ c.in_ok-change.was) in record {
      none = still.0;
      passed = passed_one c.requires.known c.corners.invariant.passed c.get-v.ensures.0 still.1 c.next_after-i.ensures;
    }

pub corners-preserved : goal.corners-preserved
corners-preserved g c =
    let a = c.args in
    let inside : (v : ℕ) → v ∈ a.run.now.names.now → v < length a.corners.now = λ v m. omega (arith, a.run.now.inside v m) in record {
      none = c.corners.invariant.none;
      passed = passed_one c.requires.known c.corners.invariant.passed c.get-v.ensures.0
          (idle_corner a.run.now.job.now.answers a.run.now.points.now c.requires.tabled inside
          c.corners-test.true c.get-v.ensures.0 c.corner_at-corner.ensures c.if-corner-eq2.false)
          c.next_after-i.ensures;
    }

pub returns-in_err-change : goal.returns-in_err-change
returns-in_err-change g c =
    swept_refused c.requires.known c.corners.invariant.passed c.corners-test.true c.get-v.ensures.0
    (scan_both c.edges.invariant refl c.ends_of-seen.ensures.0 c.if-seen-ne2.false) c.try_corner.ensures
    c.from_residual.result c.in_err-change.was c.from_residual.ensures.1

pub returns-after-corners : goal.returns-after-corners
returns-after-corners g c =
    swept_none c.args.from c.corners.invariant.passed c.corners-test.false c.corners.invariant.none

pub returns-else-is_none : goal.returns-else-is_none
returns-else-is_none g c =
    swept_changed c.requires.known c.corners.invariant.passed c.corners-test.true c.get-v.ensures.0
    (scan_both c.edges.invariant refl c.ends_of-seen.ensures.0 c.if-seen-ne2.false) c.try_corner.ensures
    c.in_ok-change.was (c.is_none.ensures ∙ ap not c.if-is_none.false)
