-- The run of edge joining: the budget suffices, since each change takes away a corner with exactly two ends.
use Rattle.std.specs.Prelude.{◌≡◌, refl, not, cond, List, [], ◌∷◌, ℕ, zero, suc, ◌+◌, ◌≤◌, ◌<◌, length}
use Rattle.std.proofs.Common.{ap, ◌∙◌, inl, inr, ⊎_elim, arith}
use Rattle.lists.specs.Lists.{◌∈◌, Nodup}
use Rattle.lists.specs.Tests.{both_ways}
use Rattle.lists.specs.Members.{keep_length, keep_both}
use Rattle.lists.specs.KeepCounts.{keep_none, keep_cons}
use Rattle.rules.specs.Outcome.{Ok}
use Rattle.rules.proofs.OutcomeLaws.{ok_one, bind_ok, bind_on}
use Rattle.rules.specs.Job.{unset, Answer}
use Rattle.rules.specs.Fans.{fan_point}
use Rattle.rules.specs.Join.{Joining, ends_at, two_ends, join_at, ring_at, Tried, unchanged, changed, or_else, sweep}
use Rattle.rules.specs.Join.{after_sweep, maximal_edges}
use Rattle.rules.specs.Sew.{Fanned}
use Rattle.theorems.specs.Demand3.{Change, changed_corner, Run, is_ring, rings_of, joins_of}
use Rattle.theorems.specs.Changes.{Made}
use Rattle.theorems.proofs.Changes.{corner_still, sweep_made, change_made, ring_is, join_is}
use Rattle.theorems.proofs.Corners.{twos_fall}
use Rattle.theorems.specs.ChangeRuns.{Steps, twos}

-- STEPS

-- the changes of a run are such
pub run_steps : (answers : List Answer) (f : Fanned) (s t : Joining) (cs : List Change) → Run answers f s cs t → Steps f.names s cs t
run_steps answers f s t [] r = r.1
run_steps answers f s t (c ∷ cs) r =
    let e : c.before ≡ s = r.0 in
    let k = change_made answers f.starts c.before c.after f.names c.corner
    (ap (λ x. changed_corner answers f.starts x f.names) e ∙ r.1) (ap (λ x. sweep answers f.starts x f.names) e ∙ r.2) in
    (e, k.0, k.1, run_steps answers f c.after t cs r.3)

-- THE NUMBER OF CHANGES

-- where no fan has exactly two ends a sweep changes nothing
sweep_still : (answers : List Answer) (starts : List ℕ) (s : Joining) (names : List ℕ) → twos s names ≡ 0 → sweep answers starts s names ≡ Ok unchanged
unfolding sweep
sweep_still answers starts s [] h = refl
sweep_still answers starts s (v ∷ vs) h =
    let k = keep_cons (two_ends s.edges) v vs in
    ⊎_elim
    (λ e. absurd (let z = ap (λ c. cond {A = ℕ} c 1 0) e in omega arith))
    (λ e.
    let z = ap (λ c. cond {A = ℕ} c 1 0) e in
    bind_on (λ t. or_else t (sweep answers starts s vs)) (corner_still answers (fan_point starts v) s v (ends_at s.edges v) e)
    ∙ sweep_still answers starts s vs (omega arith))
    (both_ways (two_ends s.edges v))

-- a budget of as many changes as fans with exactly two ends suffices
runs_from : (answers : List Answer) (f : Fanned) → Nodup f.names → ((v : ℕ) → v ∈ f.names → v < unset) → (most : ℕ) (s t : Joining)
    → twos s f.names ≤ most → maximal_edges answers f.starts f.names most s ≡ Ok t → (cs : List Change) × Run answers f s cs t
unfolding maximal_edges
runs_from answers f nodup fans zero s t h e = ([], (sweep_still answers f.starts s f.names (omega arith), ok_one e))
runs_from answers f nodup fans (suc most) s t h e =
    let r = bind_ok (sweep answers f.starts s f.names) (λ u. after_sweep u s (maximal_edges answers f.starts f.names most)) t e in
    go r.0 r.1 r.2 (λ u. runs_from answers f nodup fans most u t)
  where
    go : (u : Tried) → sweep answers f.starts s f.names ≡ Ok u → after_sweep u s (maximal_edges answers f.starts f.names most) ≡ Ok t
        → ((x : Joining) → twos x f.names ≤ most → maximal_edges answers f.starts f.names most x ≡ Ok t → (cs : List Change) × Run answers f x cs t)
        → (cs : List Change) × Run answers f s cs t
    go unchanged q z ih = ([], (q, ok_one z))
    go (changed x) q z ih =
        let m = sweep_made answers f.starts s x f.names q in
        let r = ih x (let y = twos_fall m.3 f.names nodup fans m.2 in omega arith) z in
        (record { before = s; corner = m.0; after = x } ∷ r.0, (refl, m.1, q, r.1))

-- edge joining ends a run
pub runs_to_end : (answers : List Answer) (f : Fanned) (s t : Joining) → Nodup f.names → ((v : ℕ) → v ∈ f.names → v < unset)
    → maximal_edges answers f.starts f.names (length f.names) s ≡ Ok t → (cs : List Change) × Run answers f s cs t
runs_to_end answers f s t nodup fans e = runs_from answers f nodup fans (length f.names) s t (keep_length (two_ends s.edges) f.names) e

steps_twos : (names : List ℕ) → Nodup names → ((v : ℕ) → v ∈ names → v < unset) → (s t : Joining) (cs : List Change) → Steps names s cs t
    → twos s names ≡ twos t names + length cs
steps_twos names nodup fans s t [] r = let z = ap (λ x. twos x names) r in omega arith
steps_twos names nodup fans s t (c ∷ cs) r =
    let z = ap (λ x. twos x names) r.0 in
    let y = twos_fall r.2 names nodup fans r.1 in
    omega (arith, steps_twos names nodup fans c.after t cs r.3)

-- a run makes at most as many changes as fans have exactly two ends where it begins
pub run_bounded : (answers : List Answer) (f : Fanned) (s t : Joining) (cs : List Change) → Nodup f.names → ((v : ℕ) → v ∈ f.names → v < unset)
    → Run answers f s cs t → length cs ≤ twos s f.names
run_bounded answers f s t cs nodup fans r = omega (arith, steps_twos f.names nodup fans s t cs (run_steps answers f s t cs r))

-- so the joins and rings of a run are at most as many as the fans
pub run_few : (answers : List Answer) (f : Fanned) (s t : Joining) (cs : List Change) → Nodup f.names → ((v : ℕ) → v ∈ f.names → v < unset)
    → Run answers f s cs t → joins_of cs + rings_of cs ≤ length f.names
run_few answers f s t cs nodup fans r =
    omega (arith, run_bounded answers f s t cs nodup fans r, keep_length (two_ends s.edges) f.names, keep_both is_ring cs)

-- THE COUNTERS

made_counts : (c : Change) → Made c.before c.corner c.after
    → (c.after.joins ≡ c.before.joins + cond (not (is_ring c)) 1 0) × (c.after.rings ≡ c.before.rings + cond (is_ring c) 1 0)
unfolding ring_at join_at
made_counts c (inl r) =
    let a = ap (λ (x : Joining). x.joins) r.after in
    let b = ap (λ (x : Joining). x.rings) r.after in
    rw (ring_is c r) (omega arith, omega arith)
made_counts c (inr r) =
    let a = ap (λ (x : Joining). x.joins) r.after in
    let b = ap (λ (x : Joining). x.rings) r.after in
    rw (join_is c r) (omega arith, omega arith)

steps_counts : (names : List ℕ) (s t : Joining) (cs : List Change) → Steps names s cs t → (t.joins ≡ s.joins + joins_of cs) × (t.rings ≡ s.rings + rings_of cs)
steps_counts names s t [] r =
    let a = ap (λ (x : Joining). x.joins) r in
    let b = ap (λ (x : Joining). x.rings) r in
    (omega (arith, keep_none (λ c. not (is_ring c))), omega (arith, keep_none is_ring))
steps_counts names s t (c ∷ cs) r =
    let a = ap (λ (x : Joining). x.joins) r.0 in
    let b = ap (λ (x : Joining). x.rings) r.0 in
    let one = made_counts c r.2 in
    let ih = steps_counts names c.after t cs r.3 in
    (omega (arith, keep_cons (λ c. not (is_ring c)) c cs, one.0, ih.0), omega (arith, keep_cons is_ring c cs, one.1, ih.1))

-- the counters count the joins and rings of a run
pub run_counts : (answers : List Answer) (f : Fanned) (s t : Joining) (cs : List Change) → Run answers f s cs t
    → (t.joins ≡ s.joins + joins_of cs) × (t.rings ≡ s.rings + rings_of cs)
run_counts answers f s t cs r = steps_counts f.names s t cs (run_steps answers f s t cs r)
