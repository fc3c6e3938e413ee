-- Over a run of edge joining each edge has no ends or two fans, and the active rings become more by exactly the edges turned into rings.
use Rattle.std.specs.Prelude.{◌≡◌, refl, Bool, true, false, ◌&&◌, ℕ, suc, ◌+◌, ◌≤◌, ◌<◌, length, set, eqb}
use Rattle.std.proofs.Common.{sym, ◌∙◌, inl, inr, ⊎_elim, arith, eqb-true}
use Rattle.std.proofs.Math.Path.{ap, subst}
use Rattle.std.proofs.Math.Bool.{cond}
use mathlib.Core.List.{List, [], ◌∷◌}
use Rattle.std.proofs.Math.Decide.{dec_lt, ℕ_discrete}
use Rattle.lists.specs.Lists.{◌∈◌, sum_of}
use Rattle.lists.specs.Tests.{both_ways, and_both}
use Rattle.lists.specs.Sums.{sum_set, keep_sum}
use Rattle.lists.specs.KeepCounts.{keep_none, keep_cons}
use Rattle.lists.specs.Tables.{set_each, set_two}
use Rattle.rules.specs.declared.EdgeData.{EdgeData}
use Rattle.rules.specs.Job.{unset, Answer}
use Rattle.rules.specs.Join.{Joining, no_edge_data, edge_data_at, far_end, joined_edge, retired, ring_of, join_edges, join_at}
use Rattle.rules.specs.Join.{ring_at, maximal_edges}
use Rattle.rules.specs.Outcome.{Ok}
use Rattle.rules.specs.Sew.{Fanned}
use Rattle.theorems.specs.Demand3.{Change, Run, is_ring, rings_of, is_active_ring, active_rings}
use Rattle.theorems.specs.Linked.{NoEnds, RingOrFans, EndsAreFans}
use Rattle.theorems.specs.Ends.{ends_one, TwoEdges, OneEdge}
use Rattle.theorems.proofs.Ends.{one_at_other, active_ends, ends_active, two_edges, one_edge}
use Rattle.theorems.specs.Changes.{Made}
use Rattle.theorems.proofs.Changes.{ring_is, join_is, joining_keeps}
use Rattle.theorems.proofs.Corners.{join_sum}
use Rattle.theorems.specs.ChangeRuns.{Steps}
use Rattle.theorems.proofs.ChangeRuns.{run_steps}
use Rattle.theorems.proofs.EdgesAfter.{first_in, apart_edges, old_edge, new_edge, no_edge_lem}

-- 1 for an active ring
abbrev ring_one : EdgeData → ℕ
ring_one e = cond (is_active_ring e) 1 0

-- an edge that ends at a fan is not without ends
has_ends : (e : EdgeData) (v : ℕ) → v < unset → 1 ≤ ends_one v e → NoEnds e → ⊥
has_ends e v lt h w =
    let s : (e.start ≡ v → ⊥) = λ q. omega (arith, w.0) in
    let t : (e.end ≡ v → ⊥) = λ q. omega (arith, w.1) in
    omega (arith, active_ends e v (ends_active e v h), one_at_other e.start v s, one_at_other e.end v t)

-- an active ring has no ends
ring_none : (e : EdgeData) → is_active_ring e ≡ true → NoEnds e
ring_none e t =
    let r = and_both (eqb e.start unset) (eqb e.end unset) (and_both e.active (eqb e.start unset && eqb e.end unset) t).1 in
    (eqb-true e.start unset r.0, eqb-true e.end unset r.1)

-- an edge with ends is not counted
no_ring : (e : EdgeData) → (NoEnds e → ⊥) → ring_one e ≡ 0
no_ring e n = ⊎_elim (λ t. absurd (n (ring_none e t))) (λ t. ap (λ c. cond c 1 0) t) (both_ways (is_active_ring e))

-- the active rings are counted over the edges
rings_sum : (es : List EdgeData) → length (active_rings es) ≡ sum_of ring_one es
rings_sum es = keep_sum is_active_ring es

module _ (names : List ℕ) (fans : (v : ℕ) → v ∈ names → v < unset) where
  -- the far end of an edge that ends at a fan is a fan
  far_fan : (e : EdgeData) (v : ℕ) → v ∈ names → 1 ≤ ends_one v e → RingOrFans names e → far_end v e ∈ names
  far_fan e v at h (inl w) = absurd (has_ends e v (fans v at) h w)
  far_fan e v at h (inr w) = go (eqb e.start v)
    where
      go : (t : Bool) → cond t e.end e.start ∈ names
      go true = w.1
      go false = w.0

  -- AN EDGE TURNED INTO A RING

  module _ (es : List EdgeData) (v a : ℕ) (at : v ∈ names) (k : OneEdge es v a) where
    -- each edge still has no ends or two fans
    ring_fans : EndsAreFans es names → EndsAreFans (set es a (ring_of (edge_data_at es a))) names
    ring_fans f i = set_each (λ _ d. RingOrFans names d) es a (ring_of (edge_data_at es a)) no_edge_data k.inside (inl (refl, refl)) i (λ _. f i)

    -- there is one active ring more
    ring_more : sum_of ring_one (set es a (ring_of (edge_data_at es a))) ≡ suc (sum_of ring_one es)
    ring_more =
        let e : EdgeData = edge_data_at es a in
        let one : ring_one (ring_of e) ≡ 1 = rw (ends_active e v (omega (arith, k.twice))) in
        omega (arith, sum_set ring_one es a (ring_of e) no_edge_data k.inside, one, no_ring e (has_ends e v (fans v at) (omega (arith, k.twice))))

  -- A JOIN

  module _ (es : List EdgeData) (v a b : ℕ) (at : v ∈ names) (k : TwoEdges es v a b) (f : EndsAreFans es names) where
    -- the new edge starts and ends at fans
    new_fans : ((joined_edge v (edge_data_at es a) (edge_data_at es b)).start ∈ names) × ((joined_edge v (edge_data_at es a) (edge_data_at es b)).end ∈ names)
    unfolding joined_edge
    new_fans = (far_fan (edge_data_at es a) v at (omega (arith, k.first_once)) (f a), far_fan (edge_data_at es b) v at (omega (arith, k.second_once)) (f b))

    -- each edge still has no ends or two fans
    join_fans : EndsAreFans (join_edges v a b es) names
    join_fans i =
        elim (dec_lt i (length es)) [
          | yes h ↦
              subst (RingOrFans names) (sym (old_edge es v a b k i h))
              (set_two (λ _ d. RingOrFans names d) es a b (retired (edge_data_at es a)) (retired (edge_data_at es b)) no_edge_data
              (first_in es v a b k) k.inside (apart_edges es v a b k) (f a) (f b) i (λ m n. f i))
          | no h ↦
              elim (ℕ_discrete i (length es)) [
                | yes q ↦ subst (RingOrFans names) (sym (ap (edge_data_at (join_edges v a b es)) q ∙ new_edge es v a b k)) (inr new_fans)
                | no q ↦ subst (RingOrFans names) (sym (no_edge_lem es v a b k i (omega arith))) (inl (refl, refl))
              ]
        ]

    -- there are as many active rings as before
    join_same : sum_of ring_one (join_edges v a b es) ≡ sum_of ring_one es
    join_same =
        let p : EdgeData = edge_data_at es a in
        let q : EdgeData = edge_data_at es b in
        omega (
          arith,
          join_sum ring_one es v a b k,
          no_ring p (has_ends p v (fans v at) (omega (arith, k.first_once))),
          no_ring q (has_ends q v (fans v at) (omega (arith, k.second_once))),
          no_ring (joined_edge v p q) (λ w. omega (arith, w.0, fans (joined_edge v p q).start new_fans.0)),
        )

  -- ONE CHANGE

  -- each edge still has no ends or two fans
  fans_kept : {s t : Joining} {v : ℕ} → Made s v t → v ∈ names → EndsAreFans s.edges names → EndsAreFans t.edges names
  unfolding ring_at join_at
  fans_kept {s} {t} {v} (inl r) at f =
      subst (λ (x : Joining). EndsAreFans x.edges names) (sym r.after) (ring_fans s.edges v r.edge at (one_edge s.edges v r.edge r.ends) f)
  fans_kept {s} {t} {v} (inr r) at f =
      subst (λ (x : Joining). EndsAreFans x.edges names) (sym r.after)
      (join_fans s.edges v r.first r.second at (two_edges s.edges v r.first r.second r.ends r.lower) f)

  -- a change that turns an edge into a ring makes one active ring more, a join none
  made_rings : (c : Change) → Made c.before c.corner c.after → c.corner ∈ names → EndsAreFans c.before.edges names
      → length (active_rings c.after.edges) ≡ length (active_rings c.before.edges) + cond (is_ring c) 1 0
  unfolding ring_at join_at
  made_rings c (inl r) at f =
      let es : List EdgeData = c.before.edges in
      let e = ap (λ (x : Joining). sum_of ring_one x.edges) r.after in
      let one = ap (λ t. cond {A = ℕ} t 1 0) (ring_is c r) in
      omega (arith, rings_sum c.after.edges, rings_sum es, ring_more es c.corner r.edge at (one_edge es c.corner r.edge r.ends))
  made_rings c (inr r) at f =
      let es : List EdgeData = c.before.edges in
      let k = two_edges es c.corner r.first r.second r.ends r.lower in
      let e = ap (λ (x : Joining). sum_of ring_one x.edges) r.after in
      let none = ap (λ t. cond {A = ℕ} t 1 0) (join_is c r) in
      omega (arith, rings_sum c.after.edges, rings_sum es, join_same es c.corner r.first r.second at k f)

  -- A RUN

  steps_rings : (s t : Joining) (cs : List Change) → Steps names s cs t → EndsAreFans s.edges names
      → length (active_rings t.edges) ≡ length (active_rings s.edges) + rings_of cs
  steps_rings s t [] r f = let e = ap (λ (x : Joining). length (active_rings x.edges)) r in omega (arith, keep_none is_ring)
  steps_rings s t (c ∷ cs) r f =
      let g : EndsAreFans c.before.edges names = subst (λ (x : Joining). EndsAreFans x.edges names) (sym r.0) f in
      let e = ap (λ (x : Joining). length (active_rings x.edges)) r.0 in
      omega (arith, made_rings c r.2 r.1 g, keep_cons is_ring c cs, steps_rings c.after t cs r.3 (fans_kept r.2 r.1 g))

-- joining keeps that each edge has no ends or two fans
pub joining_fans : (answers : List Answer) (starts names : List ℕ) → ((v : ℕ) → v ∈ names → v < unset) → (most : ℕ) (s t : Joining) → maximal_edges answers starts names most s ≡ Ok t
    → EndsAreFans s.edges names → EndsAreFans t.edges names
joining_fans answers starts names fans = joining_keeps answers starts names (λ (x : Joining). EndsAreFans x.edges names) (λ x y v at m. fans_kept names fans m at)

-- over a run there are more active rings by the number of edges turned into rings
pub run_rings : (answers : List Answer) (f : Fanned) (s t : Joining) (cs : List Change) → ((v : ℕ) → v ∈ f.names → v < unset) → EndsAreFans s.edges f.names
    → Run answers f s cs t → length (active_rings t.edges) ≡ length (active_rings s.edges) + rings_of cs
run_rings answers f s t cs fans ends r = steps_rings f.names fans s t cs (run_steps answers f s t cs r) ends
