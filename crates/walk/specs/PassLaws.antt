-- Laws of passing over, as a loop does it, and of the tables of successors and passed counts, one more use at a time.
use Prim.Native.Nat.{ℕ, suc, ◌+◌, ◌*◌, ◌-◌, ◌<◌, ◌≤◌}
use Rattle.std.proofs.Common.{add-one, ◌∙◌, length-set}
use native.Mathlib.Omega.{arith}
use Rattle.std.specs.Prelude.{◌≡◌, refl, ◌≢◌, Bool, true, false, get_or, set}
use Rattle.std.proofs.Math.Path.{sym, ap}
use mathlib.Core.List.{List, [], ◌∷◌, map}
use Rattle.std.proofs.Math.ListN.{length}
use Rattle.lists.specs.Lists.{from, below, sum_of}
use Rattle.lists.specs.Tests.{cond_true, cond_false}
use Rattle.lists.specs.Runs.{below_snoc}
use Rattle.lists.specs.Members.{map_append}
use Rattle.lists.specs.Sums.{sum_append, sum_one}
use Rattle.lists.specs.Tables.{set_each, table_is}
use Rattle.rules.specs.declared.Use.{Use}
use Rattle.rules.specs.Read.{old_successor}
use Rattle.rules.specs.Pair.{twin_of}
use Rattle.rules.specs.Merge.{is_removed}
use Rattle.rules.specs.Walk.{over, meets, breaks, pass, met_use, met_after, successor_of, passed_of, successors, passed_counts}
use Rattle.walk.specs.Walks.{Met, Succeeds}

-- PASSING OVER

-- at use h after k passings, what is left to do gives the whole
pub record Going (us : List Use) (ts : List ℕ) (rm : List Bool) (from h k : ℕ) : Type 0 where
  pub within : k ≤ length us
  pub fits : h < 4294967296
  pub rest : pass us ts rm (length us - k) h k ≡ pass us ts rm (length us) from 0

module _ (us : List Use) (ts : List ℕ) (rm : List Bool) where
  more : (n k h : ℕ) → k < n → is_removed rm h ≡ true → pass us ts rm (n - k) h k ≡ pass us ts rm (n - (k + 1)) (over us ts h) (k + 1)
  unfolding pass
  more n k h lt e =
      let q : n - k ≡ suc (n - (k + 1)) = omega arith in
      ap (λ m. pass us ts rm m h k) q ∙ cond_true (is_removed rm h) (pass us ts rm (n - (k + 1)) (over us ts h) (suc k)) (meets h k) e
      ∙ ap (pass us ts rm (n - (k + 1)) (over us ts h)) (sym (add-one k))

  meeting : (n k h : ℕ) → k < n → is_removed rm h ≡ false → pass us ts rm (n - k) h k ≡ meets h k
  unfolding pass
  meeting n k h lt e =
      let q : n - k ≡ suc (n - (k + 1)) = omega arith in
      ap (λ m. pass us ts rm m h k) q ∙ cond_false (is_removed rm h) (pass us ts rm (n - (k + 1)) (over us ts h) (suc k)) (meets h k) e

  breaking : (n k h : ℕ) → n ≤ k → pass us ts rm (n - k) h k ≡ breaks
  unfolding pass
  breaking n k h le = let q : n - k ≡ 0 = omega arith in ap (λ m. pass us ts rm m h k) q

  module _ (from : ℕ) where
    pub going_start : from < 4294967296 → Going us ts rm from from 0
    going_start lt = let q : length us - 0 ≡ length us = omega arith in record { within = omega arith; fits = lt; rest = ap (λ m. pass us ts rm m from 0) q }

    pub going_on : (h k g t : ℕ) → Going us ts rm from h k → k < length us → is_removed rm h ≡ true → t ≡ twin_of ts h → g ≡ old_successor us t → g < 4294967296
        → Going us ts rm from g (k + 1)
    going_on h k g t G lt e et eg fits = record {
      within = omega arith;
      fits = fits;
      rest = ap (λ x. pass us ts rm (length us - (k + 1)) x (k + 1)) (eg ∙ ap (old_successor us) et) ∙ sym (more (length us) k h lt e) ∙ G.rest;
    }

    pub going_met : (h k : ℕ) → Going us ts rm from h k → k < length us → is_removed rm h ≡ false → Met (length us) (pass us ts rm (length us) from 0) h k
    going_met h k G lt e =
        let q : meets h k ≡ pass us ts rm (length us) from 0 = sym (meeting (length us) k h lt e) ∙ G.rest in
        record { met = ap met_use q; after = ap met_after q; fits = G.fits; few = G.within }

    pub going_broken : (h k : ℕ) → Going us ts rm from h k → length us ≤ k → Met (length us) (pass us ts rm (length us) from 0) 4294967295 0
    going_broken h k G le =
        let q : breaks ≡ pass us ts rm (length us) from 0 = sym (breaking (length us) k h le) ∙ G.rest in
        record { met = ap met_use q; after = ap met_after q; fits = omega arith; few = omega arith }

  -- THE TABLES

  -- what the first h uses have, and the sum of their passed counts
  pub record Filled (succ counts : List ℕ) (total h : ℕ) : Type 0 where
    pub succ_size : length succ ≡ length us
    pub counts_size : length counts ≡ length us
    pub within : h ≤ length us
    pub next : (i : ℕ) → i < h → get_or succ i 0 ≡ successor_of us ts rm i
    pub count : (i : ℕ) → i < h → get_or counts i 0 ≡ passed_of us ts rm i
    pub total_is : total ≡ sum_of (λ k. k) (map (passed_of us ts rm) (below h))
    pub small : total ≤ 2048 * h

  pub filled_start : (succ counts : List ℕ) → length succ ≡ length us → length counts ≡ length us → Filled succ counts 0 0
  unfolding sum_of from
  filled_start succ counts es ec = record {
    succ_size = es;
    counts_size = ec;
    within = omega arith;
    next = λ i lt. absurd (omega arith);
    count = λ i lt. absurd (omega arith);
    total_is = refl;
    small = omega arith;
  }

  pub filled_step : (succ counts succ' counts' : List ℕ) (total h at passed : ℕ) → Filled succ counts total h → length us ≤ 2048 → h < length us → Succeeds us ts rm h at passed
      → succ' ≡ set succ h at → counts' ≡ set counts h passed → Filled succ' counts' (total + passed) (h + 1)
  filled_step succ counts succ' counts' total h at passed F most lt G es ec = record {
    succ_size = ap length es ∙ length-set succ h at ∙ F.succ_size;
    counts_size = ap length ec ∙ length-set counts h passed ∙ F.counts_size;
    within = omega arith;
    next = λ i q. ap (λ l. get_or l i 0) es ∙ each succ at (successor_of us ts rm) F.succ_size G.met F.next i q;
    count = λ i q. ap (λ l. get_or l i 0) ec ∙ each counts passed (passed_of us ts rm) F.counts_size G.after F.count i q;
    total_is = (λ t. F.total_is t + G.after t) ∙ sym (one_more (passed_of us ts rm));
    small = omega (arith, F.small, G.few);
  }
    where
      each : (l : List ℕ) (v : ℕ) (f : ℕ → ℕ) → length l ≡ length us → v ≡ f h → ((i : ℕ) → i < h → get_or l i 0 ≡ f i) → (i : ℕ) → i < h + 1 → get_or (set l h v) i 0 ≡ f i
      each l v f el ev old i q = set_each (λ j x. x ≡ f j) l h v 0 (omega arith) ev i (λ ne. old i (below_it i q ne))
        where
          below_it : (i : ℕ) → i < h + 1 → i ≢ h → i < h
          below_it i q ne = omega arith

      one_more : (f : ℕ → ℕ) → sum_of (λ k. k) (map f (below (h + 1))) ≡ sum_of (λ k. k) (map f (below h)) + f h
      one_more f =
          ap (λ m. sum_of (λ k. k) (map f (below m))) (add-one h) ∙ ap (λ l. sum_of (λ k. k) (map f l)) (below_snoc h)
          ∙ ap (sum_of (λ k. k)) (map_append f (below h) (h ∷ [])) ∙ sum_append (λ k. k) (map f (below h)) (f h ∷ []) ∙ ap (λ x. sum_of (λ k. k) (map f (below h)) + x) (sum_one (λ k. k) (f h))

  pub filled_end : (succ counts : List ℕ) (total h : ℕ) → Filled succ counts total h → length us ≤ h
      → (succ ≡ successors us ts rm) × (counts ≡ passed_counts us ts rm) × (total ≡ sum_of (λ k. k) counts)
  unfolding successors passed_counts
  filled_end succ counts total h F le =
      let e : h ≡ length us = omega (arith, F.within) in
      let tables : counts ≡ map (passed_of us ts rm) (below (length us)) = table_is (passed_of us ts rm) counts (length us) 0 F.counts_size (λ i q. F.count i (omega arith)) in (
        table_is (successor_of us ts rm) succ (length us) 0 F.succ_size (λ i q. F.next i (omega arith)),
        tables,
        F.total_is ∙ ap (λ m. sum_of (λ k. k) (map (passed_of us ts rm) (below m))) e ∙ ap (sum_of (λ k. k)) (sym tables),
      )
