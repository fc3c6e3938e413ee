-- Corners less edges falls over a run of edge joining by exactly its rings.
use Rattle.std.specs.Prelude.{◌≡◌, cond, List, [], ◌∷◌, ℕ, suc, ◌+◌, ◌<◌, length, pos, ◌+ℤ◌}
use Rattle.std.proofs.Common.{ap, inl, inr, arith}
use Rattle.lists.specs.Lists.{◌∈◌, Nodup}
use Rattle.lists.specs.KeepCounts.{keep_none, keep_cons}
use Rattle.lists.specs.Differences.{sub_balance}
use Rattle.rules.specs.Job.{unset, Answer}
use Rattle.rules.specs.Join.{Joining, corners, active_edges, corners_less_edges}
use Rattle.rules.specs.Sew.{Fanned}
use Rattle.theorems.specs.Demand3.{Change, Run, is_ring, rings_of}
use Rattle.theorems.specs.Changes.{Made}
use Rattle.theorems.proofs.Changes.{ring_is, join_is}
use Rattle.theorems.proofs.Corners.{corners_fall, ring_edges, join_edges_lem}
use Rattle.theorems.specs.ChangeRuns.{Steps}
use Rattle.theorems.proofs.ChangeRuns.{run_steps}

abbrev corner_count : Joining → List ℕ → ℕ
corner_count s names = length (corners s.edges names)

abbrev edge_count : Joining → ℕ
edge_count s = length (active_edges s.edges)

-- a change takes an active edge away unless it makes a ring
made_edges : (c : Change) → Made c.before c.corner c.after → edge_count c.before + cond (is_ring c) 1 0 ≡ suc (edge_count c.after)
made_edges c (inl r) = let z = ring_edges r in rw (ring_is c r) (omega arith)
made_edges c (inr r) = let z = join_edges_lem r in rw (join_is c r) (omega arith)

steps_balance : (names : List ℕ) → Nodup names → ((v : ℕ) → v ∈ names → v < unset) → (s t : Joining) (cs : List Change) → Steps names s cs t
    → corner_count s names + edge_count t ≡ corner_count t names + edge_count s + rings_of cs
steps_balance names nodup fans s t [] r =
    let a = ap (λ x. corner_count x names) r in
    let b = ap edge_count r in
    omega (arith, keep_none is_ring)
steps_balance names nodup fans s t (c ∷ cs) r =
    let a = ap (λ x. corner_count x names) r.0 in
    let b = ap edge_count r.0 in
    let fall = corners_fall r.2 names nodup fans r.1 in
    omega (arith, made_edges c r.2, keep_cons is_ring c cs, steps_balance names nodup fans c.after t cs r.3)

pub run_balance : (answers : List Answer) (f : Fanned) (s t : Joining) (cs : List Change) → Nodup f.names → ((v : ℕ) → v ∈ f.names → v < unset)
    → Run answers f s cs t → corners_less_edges s.edges f.names ≡ corners_less_edges t.edges f.names +ℤ pos (rings_of cs)
run_balance answers f s t cs nodup fans r =
    sub_balance (corner_count s f.names) (edge_count s) (corner_count t f.names) (edge_count t) (rings_of cs)
    (steps_balance f.names nodup fans s t cs (run_steps answers f s t cs r))
