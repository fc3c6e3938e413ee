-- Successors of kept uses: passing over meets a kept use, and successors lead from the kept uses one to one onto the kept uses.
-- The old successor of a use is the use after its twin in the twin's turn, and the twin of a kept use is kept: a successor is the first kept use after the twin.
use Rattle.std.specs.Prelude.{ℕ, zero, suc, ◌+◌, ◌≤◌, ◌<◌, ◌≡◌, List, Bool, true, false, not, length, get_or}
use Rattle.std.proofs.Common.{arith, sym, ap, ◌∙◌, ⊎_elim}
use Rattle.std.proofs.lemmas.Bool.{not-true}
use Rattle.lists.specs.Lists.{below, ◌∈◌, iterate}
use Rattle.lists.specs.Tests.{both_ways, not_is, cond_true, cond_false}
use Rattle.lists.specs.Members.{in_keep, keep_in}
use Rattle.lists.specs.Runs.{in_below, below_in, length_table, get_or_table}
use Rattle.lists.specs.Orbits.{iterate_first, iterate_suc, Perm, iterate_stays, period}
use Rattle.lists.specs.Gaps.{iterate_constant, Entry, Run, run_after, one_source}
use Rattle.rules.specs.declared.Use.{Use}
use Rattle.rules.specs.Job.{unset}
use Rattle.rules.specs.Read.{face_of_use, old_successor}
use Rattle.rules.specs.Groups.{label_of}
use Rattle.rules.specs.Pair.{twin_of}
use Rattle.rules.specs.Merge.{is_removed}
use Rattle.rules.specs.Stage.{kept_uses}
use Rattle.rules.specs.Walk.{over, turn, meets, pass, passing, met_use, met_after, successor_of, passed_of, successors}
use Rattle.rules.specs.Walk.{passed_counts, successor}
use Rattle.theorems.specs.Linked.{Linked}
use Rattle.theorems.specs.Successors.{Kept, Passes}

-- looking often enough, passing over meets what ends the run
pass_meets : (us : List Use) (ts : List ℕ) (rm : List Bool) (i most h k : ℕ) → i < most → Run (over us ts) (is_removed rm) h i
    → pass us ts rm most h k ≡ meets (turn us ts h i) (k + i)
unfolding pass iterate
pass_meets us ts rm i zero h k lt R = absurd (omega arith)
pass_meets us ts rm zero (suc most) h k lt R = let e : k ≡ k + 0 = omega arith in rw R.meets (ap (meets h) e)
pass_meets us ts rm (suc i) (suc most) h k lt R =
    let e : suc k + i ≡ k + suc i = omega arith in
    rw (R.passes 0 (omega arith))
    (pass_meets us ts rm i most (over us ts h) (suc k) (omega arith) (record { passes = λ j q. R.passes (suc j) (omega arith); meets = R.meets })
    ∙ ap (meets (turn us ts h (suc i))) e)

-- the lists of successors and passed counts
pub length_successors : (us : List Use) (ts : List ℕ) (rm : List Bool) → length (successors us ts rm) ≡ length us
unfolding successors
length_successors us ts rm = length_table (successor_of us ts rm) (length us)

successor_at : (us : List Use) (ts : List ℕ) (rm : List Bool) (h : ℕ) → h < length us → is_removed rm h ≡ false
    → successor (successors us ts rm) h ≡ met_use (passing us ts rm h)
unfolding successors successor_of
successor_at us ts rm h lt k = get_or_table (successor_of us ts rm) (length us) h unset lt ∙ cond_false (is_removed rm h) unset (met_use (passing us ts rm h)) k

passed_at : (us : List Use) (ts : List ℕ) (rm : List Bool) (h : ℕ) → h < length us → is_removed rm h ≡ false
    → get_or (passed_counts us ts rm) h 0 ≡ met_after (passing us ts rm h)
unfolding passed_counts passed_of
passed_at us ts rm h lt k = get_or_table (passed_of us ts rm) (length us) h 0 lt ∙ cond_false (is_removed rm h) 0 (met_after (passing us ts rm h)) k

passed_removed : (us : List Use) (ts : List ℕ) (rm : List Bool) (h : ℕ) → h < length us → is_removed rm h ≡ true → get_or (passed_counts us ts rm) h 0 ≡ 0
unfolding passed_counts passed_of
passed_removed us ts rm h lt k = get_or_table (passed_of us ts rm) (length us) h 0 lt ∙ cond_true (is_removed rm h) 0 (met_after (passing us ts rm h)) k

module _ {us : List Use} {ts : List ℕ} {rm : List Bool} {groups : List ℕ} (L : Linked us ts rm groups) where
  twin_one_to_one : (h k : ℕ) → h < length us → k < length us → twin_of ts h ≡ twin_of ts k → h ≡ k
  twin_one_to_one h k a b e = sym (L.twin_twice h a) ∙ ap (twin_of ts) e ∙ L.twin_twice k b

  -- the kept uses, as they are listed
  pub kept_in_lem : (h : ℕ) → h ∈ kept_uses rm → Kept (length us) rm h
  kept_in_lem h m =
      let r = keep_in (λ x. not (is_removed rm x)) (below (length rm)) h m in
      (let lt = below_in (length rm) h r.0 in omega (arith, L.size), not-true (is_removed rm h) r.1)

  pub in_kept : (h : ℕ) → Kept (length us) rm h → h ∈ kept_uses rm
  in_kept h d = in_keep (λ x. not (is_removed rm x)) (in_below (length rm) h (let lt = d.0 in omega (arith, L.size))) (not_is (is_removed rm h) d.1)

  -- turns permute the uses
  pub over_perm : Perm (length us) (over us ts) (λ x. x < length us)
  over_perm = record {
    bound = λ x h. h;
    closed = λ x h. L.next_below (twin_of ts x) (L.twin_below x h);
    inj = λ x y a b e. twin_one_to_one x y a b (L.next_one_to_one (twin_of ts x) (twin_of ts y) (L.twin_below x a) (L.twin_below y b) e);
  }

  -- the use after the twin is the old successor
  pub over_twin : (h : ℕ) → h < length us → over us ts (twin_of ts h) ≡ old_successor us h
  over_twin h a = ap (old_successor us) (L.twin_twice h a)

  -- the old successor of a kept use comes after a kept use, its twin
  pub kept_entry : (h : ℕ) → Kept (length us) rm h → Entry (length us) (over us ts) (is_removed rm) (old_successor us h)
  kept_entry h d = record { source = twin_of ts h; inside = L.twin_below h d.0; stays = L.removed_twin h d.0 ∙ d.1; leads = over_twin h d.0 }

  pub passes : (h : ℕ) → Kept (length us) rm h → Passes us ts rm h
  passes h d =
      let r = run_after over_perm (old_successor us h) (kept_entry h d) in
      let e : passing us ts rm h ≡ meets (turn us ts (old_successor us h) r.0) r.0 =
      pass_meets us ts rm r.0 (length us) (old_successor us h) 0 r.1 r.2 ∙ ap (meets (turn us ts (old_successor us h) r.0)) (omega arith) in
      record {
        count = r.0;
        few = r.1;
        run = r.2;
        met = e;
        successor_is = successor_at us ts rm h d.0 d.1 ∙ ap met_use e;
        passed_is = passed_at us ts rm h d.0 d.1 ∙ ap met_after e;
      }

  -- SUCCESSORS

  pub successor_kept : (h : ℕ) → Kept (length us) rm h → Kept (length us) rm (successor (successors us ts rm) h)
  successor_kept h d =
      let M = passes h d in
      rw M.successor_is (iterate_stays over_perm M.count (old_successor us h) (L.next_below h d.0), M.run.meets)

  pub successor_one_to_one : (h k : ℕ) → Kept (length us) rm h → Kept (length us) rm k
      → successor (successors us ts rm) h ≡ successor (successors us ts rm) k → h ≡ k
  successor_one_to_one h k d c e =
      let M = passes h d in
      let N = passes k c in
      L.next_one_to_one h k d.0 c.0
      (one_source over_perm (old_successor us h) (old_successor us k) M.count N.count M.count N.count (kept_entry h d) (kept_entry k c) M.run N.run
      (omega arith) (omega arith) (sym M.successor_is ∙ e ∙ N.successor_is)).1

  -- successors permute the kept uses
  pub successor_perm : Perm (length us) (successor (successors us ts rm)) (Kept (length us) rm)
  successor_perm = record { bound = λ x d. d.0; closed = successor_kept; inj = successor_one_to_one }

  -- each kept use is the successor of a kept use
  pub successor_onto : (h : ℕ) → Kept (length us) rm h → (k : ℕ) × Kept (length us) rm k × (successor (successors us ts rm) k ≡ h)
  successor_onto h d =
      let s : ℕ → ℕ = successor (successors us ts rm) in
      let p = period successor_perm h d in
      (iterate s p.0 h, iterate_stays successor_perm p.0 h d, sym (iterate_suc s p.0 h) ∙ p.2)

  -- the successor is the first kept use after the twin in the twin's turn
  pub successor_by_turn : (h : ℕ) → Kept (length us) rm h
      → (k : ℕ) × (1 ≤ k) × (successor (successors us ts rm) h ≡ turn us ts (twin_of ts h) k) × ((i : ℕ) → 1 ≤ i → i < k → is_removed rm (turn us ts (twin_of ts h) i) ≡ true)
  successor_by_turn h d = (suc M.count, omega arith, M.successor_is ∙ sym (shift M.count), between)
    where
      M : Passes us ts rm h
      M = passes h d

      shift : (i : ℕ) → turn us ts (twin_of ts h) (suc i) ≡ turn us ts (old_successor us h) i
      shift i = iterate_first (over us ts) i (twin_of ts h) ∙ ap (iterate (over us ts) i) (over_twin h d.0)

      between : (i : ℕ) → 1 ≤ i → i < suc M.count → is_removed rm (turn us ts (twin_of ts h) i) ≡ true
      between zero a b = absurd (omega arith)
      between (suc i) a b = ap (is_removed rm) (shift i) ∙ M.run.passes i (omega arith)

  -- each passed count is below the number of uses
  pub passing_few : (h : ℕ) → h < length us → get_or (passed_counts us ts rm) h 0 < length us
  passing_few h a =
      ⊎_elim (λ e. let z = passed_removed us ts rm h a e in omega arith) (λ e. let M = passes h (a, e) in omega (arith, M.few, M.passed_is)) (both_ways (is_removed rm h))

  -- GROUPS

  -- passing over a removed use stays in its merged group
  over_group : (h : ℕ) → h < length us → is_removed rm h ≡ true → label_of groups (face_of_use us (over us ts h)) ≡ label_of groups (face_of_use us h)
  over_group h a e = ap (label_of groups) (L.next_face (twin_of ts h) (L.twin_below h a)) ∙ L.removed_group h a e

  -- a successor lies in the same merged group
  pub successor_group : (h : ℕ) → Kept (length us) rm h → label_of groups (face_of_use us (successor (successors us ts rm) h)) ≡ label_of groups (face_of_use us h)
  successor_group h d =
      let M = passes h d in
      ap (λ x. label_of groups (face_of_use us x)) M.successor_is
      ∙ iterate_constant (over us ts) (λ x. label_of groups (face_of_use us x)) M.count (old_successor us h)
      (λ i lt. over_group (turn us ts (old_successor us h) i) (iterate_stays over_perm i (old_successor us h) (L.next_below h d.0)) (M.run.passes i lt))
      ∙ ap (label_of groups) (L.next_face h d.0)
