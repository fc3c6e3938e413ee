-- The walk part of demand 3: passed counts count the removed uses whose turn holds a kept use, each kept use stands in one loop once, a loop lies in one merged face, no walk breaks.
use Rattle.std.specs.Prelude.{ℕ, List, ◌&&◌, length, get_or}
use Rattle.std.proofs.Common.{sym, ◌∙◌, subst}
use Rattle.std.proofs.Math.Bool.{not}
use borrow.Author.Tests.{not-true}
use Rattle.lists.specs.Lists.{below, ◌∈◌, Nodup}
use Rattle.lists.specs.Tests.{and_both, both_and, not_is}
use Rattle.lists.specs.Members.{in_some, some_in, in_keep, keep_in, keep_nodup}
use Rattle.lists.specs.Runs.{in_below, below_in, below_nodup}
use Rattle.lists.specs.Orbits.{iterate_stays, period}
use Rattle.lists.specs.Gaps.{Run, Reaches, AllRuns, reaches_soon, runs_count}
use Rattle.rules.specs.declared.Use.{Use}
use Rattle.rules.specs.declared.KeptVertexLoop.{KeptVertexLoop}
use Rattle.rules.specs.Read.{face_of_use, old_successor}
use Rattle.rules.specs.Groups.{label_of}
use Rattle.rules.specs.Pair.{twin_of}
use Rattle.rules.specs.Merge.{Merged, is_removed}
use Rattle.rules.specs.Walk.{over, turn, passed_counts}
use Rattle.rules.specs.Sew.{Walked, walks_of}
use Rattle.rules.specs.Stage.{kept_uses}
use Rattle.theorems.specs.Linked.{Linked}
use Rattle.theorems.specs.Demand3.{holds_kept, reached, PassedCounted, EachOnce, OneFace, NeverBreaks, WalksHold}
use Rattle.theorems.proofs.Successors.{passes, kept_in_lem, in_kept, over_perm, kept_entry, successor_perm, successor_group}
use Rattle.theorems.proofs.Circuits.{linked_permuted, circuits_parting, circuits_once, circuits_constant}

module _ (us : List Use) (ts : List ℕ) (m : Merged) (ks : List KeptVertexLoop) (L : Linked us ts m.removed m.groups) where
  abbrev W : Walked
  W = walks_of us ts m ks

  -- PASSED COUNTS

  -- each kept use passes over its run
  runs : AllRuns (length us) (over us ts) (is_removed m.removed) (kept_uses m.removed) (old_successor us) (λ h. get_or (passed_counts us ts m.removed) h 0)
  runs = record {
    once = keep_nodup (λ x. not (is_removed m.removed x)) (below (length m.removed)) (below_nodup (length m.removed));
    entry = λ h i. kept_entry L h (kept_in_lem L h i);
    run = λ h i. let M = passes L h (kept_in_lem L h i) in subst (Run (over us ts) (is_removed m.removed) (old_successor us h)) (sym M.passed_is) M.run;
    apart = λ h k i j e. L.next_one_to_one h k (kept_in_lem L h i).0 (kept_in_lem L k j).0 e;
    all = λ a E. (
      twin_of ts E.source,
      in_kept L (twin_of ts E.source) (L.twin_below E.source E.inside, L.removed_twin E.source E.inside ∙ E.stays),
      E.leads,
    );
  }

  -- a removed use whose turn holds a kept use reaches one by turns, and is listed
  abbrev Reach : ℕ → Type 0
  Reach = Reaches (length us) (over us ts) (is_removed m.removed)

  reach_in : (h : ℕ) → Reach h → h ∈ reached W
  unfolding reached walks_of
  reach_in h R =
      let s = reaches_soon (over_perm L) h R in
      in_keep (λ x. is_removed m.removed x && holds_kept W x) (in_below (length us) h R.inside)
      (both_and (is_removed m.removed h) (holds_kept W h) R.goes
      (in_some (λ k. not (is_removed m.removed (turn us ts h k))) (in_below (length us) s.0 s.1) (not_is (is_removed m.removed (turn us ts h s.0)) s.2)))

  in_reach : (h : ℕ) → h ∈ reached W → Reach h
  unfolding reached walks_of
  in_reach h i =
      let r = keep_in (λ x. is_removed m.removed x && holds_kept W x) (below (length us)) h i in
      let b = and_both (is_removed m.removed h) (holds_kept W h) r.1 in
      let s = some_in (λ k. not (is_removed m.removed (turn us ts h k))) (below (length us)) b.1 in
      record { inside = below_in (length us) h r.0; goes = b.0; far = s.0; meets = not-true (is_removed m.removed (turn us ts h s.0)) s.2 }

  reached_once : Nodup (reached W)
  unfolding reached walks_of
  reached_once = keep_nodup (λ x. is_removed m.removed x && holds_kept W x) (below (length us)) (below_nodup (length us))

  passed_counted : PassedCounted W
  unfolding walks_of
  passed_counted = record {
    counted = runs_count (over_perm L) runs (reached W) reached_once in_reach reach_in;
    all = λ h r k. reach_in h (record { inside = r.0; goes = r.1; far = k.0; meets = k.1.1 });
    only = λ h i. let R = in_reach h i in ((R.inside, R.goes), (R.far, (iterate_stays (over_perm L) R.far h R.inside, R.meets)));
  }

  -- LOOPS

  each_once_lem : EachOnce W
  unfolding walks_of
  each_once_lem h d = circuits_once (linked_permuted L) h d

  one_face : OneFace W
  unfolding walks_of
  one_face = circuits_constant (linked_permuted L) (λ h. label_of m.groups (face_of_use us h)) (successor_group L)

  -- NO WALK BREAKS

  never_breaks : NeverBreaks W
  unfolding walks_of
  never_breaks = record {
    meets = λ h d.
        let M = passes L h d in
        record {
          passings = M.count;
          over = λ i lt. (iterate_stays (over_perm L) i (old_successor us h) (L.next_below h d.0), M.run.passes i lt);
          kept = (iterate_stays (over_perm L) M.count (old_successor us h) (L.next_below h d.0), M.run.meets);
          met = M.met;
          successor_is = M.successor_is;
          passed_is = M.passed_is;
        };
    returns = λ s d. let p = period (successor_perm L) s d in (p.0, p.2);
    closes = λ c i. let C = (circuits_parting (linked_permuted L)).closed c i in record { start = C.start; more = C.more; kept = C.kept; runs = C.runs; back = C.back };
  }

  -- the walk part of demand 3
  pub walks_hold : WalksHold (walks_of us ts m ks)
  walks_hold = record { passed = passed_counted; once = each_once_lem; one_face = one_face; unbroken = never_breaks }
