-- A change takes two active edge ends from its corner and none from elsewhere: so it takes one corner away, and a join takes one active edge.
use Rattle.std.specs.Prelude.{◌≡◌, refl, Bool, true, false, length, set, eqb, ltb}
use Rattle.std.proofs.Common.{sym, ◌∙◌, inl, inr, ⊎_elim, arith, length-set, get_or-set_other, eq-eqb, ne_eqb, lt-ltb}
use Rattle.std.proofs.Common.{le-ltb}
use Rattle.std.proofs.Math.Path.{ap}
use Rattle.std.proofs.Math.Bool.{cond}
use mathlib.Core.List.{List, [], ◌∷◌}
use Prim.Native.Nat.{ℕ, suc, ◌+◌, ◌<◌}
use Rattle.lists.specs.Lists.{◌∈◌, Nodup, keep, sum_of}
use Rattle.lists.specs.Members.{positions_length}
use Rattle.lists.specs.Sums.{sum_append, sum_one, sum_set, keep_sum}
use Rattle.lists.specs.KeepCounts.{keep_fall}
use Rattle.rules.specs.declared.EdgeData.{EdgeData}
use Rattle.rules.specs.Job.{unset}
use Rattle.rules.specs.Join.{Joining, no_edge_data, edge_data_at, ends_at, is_corner, corners, active_edges, two_ends, far_end}
use Rattle.rules.specs.Join.{joined_edge, retired, ring_of, join_edges, join_at, ring_at}
use Rattle.theorems.specs.Ends.{active_one, one_at, ends_one, TwoEdges, OneEdge}
use Rattle.theorems.proofs.Ends.{one_at_same, one_at_other, active_ends, idle_ends}
use Rattle.theorems.proofs.Ends.{ends_active, one_end, two_ends_lem, ends_sum, two_edges, one_edge}
use Rattle.theorems.specs.Changes.{AsRing, AsJoin, Made}

-- ENDS OF ONE EDGE

-- the end of an edge away from a fan where it starts, and from one where it does not
pub far_start : (e : EdgeData) (v : ℕ) → e.start ≡ v → far_end v e ≡ e.end
far_start e v p = rw (eq-eqb e.start v p)

pub far_end_lem : (e : EdgeData) (v : ℕ) → (e.start ≡ v → ⊥) → far_end v e ≡ e.start
far_end_lem e v p = rw (ne_eqb e.start v p)

-- an edge with one end at v ends there and at its far end
pub far_ends : (e : EdgeData) (v x : ℕ) → ends_one v e ≡ 1 → ends_one x e ≡ one_at v x + one_at (far_end v e) x
far_ends e v x h =
    let z = active_ends e x (ends_active e v (omega arith)) in
    ⊎_elim
    (λ w. let p = ap (λ y. one_at y x) w.0 in let q = ap (λ y. one_at y x) (far_start e v w.0) in omega arith)
    (λ w. let p = ap (λ y. one_at y x) w.1 in let q = ap (λ y. one_at y x) (far_end_lem e v w.0) in omega arith)
    (one_end e v h)

pub new_ends : (a b : EdgeData) (v x : ℕ) → ends_one x (joined_edge v a b) ≡ one_at (far_end v a) x + one_at (far_end v b) x
unfolding joined_edge
new_ends a b v x = active_ends (joined_edge v a b) x refl

-- a ring ends at no fan
pub ring_ends : (e : EdgeData) (x : ℕ) → x < unset → ends_one x (ring_of e) ≡ 0
ring_ends e x h = go e.active refl
  where
    go : (t : Bool) → e.active ≡ t → ends_one x (ring_of e) ≡ 0
    go true q = let z = active_ends (ring_of e) x q in let y = one_at_other unset x (λ (w : unset ≡ x). omega arith) in omega arith
    go false q = idle_ends (ring_of e) x q

-- ALL EDGES

-- a sum over the edges after a join: two are retired, and the new one comes
pub join_sum : (f : EdgeData → ℕ) (es : List EdgeData) (v a b : ℕ) → TwoEdges es v a b
    → sum_of f (join_edges v a b es) + (f (edge_data_at es a) + f (edge_data_at es b))
    ≡ sum_of f es + (f (retired (edge_data_at es a)) + f (retired (edge_data_at es b))) + f (joined_edge v (edge_data_at es a) (edge_data_at es b))
unfolding join_edges
join_sum f es v a b k =
    let p : EdgeData = edge_data_at es a in
    let q : EdgeData = edge_data_at es b in
    let once : List EdgeData = set es a (retired p) in
    let ia : a < length es = omega (arith, k.lower, k.inside) in
    let ib : b < length once = rw (length-set es a (retired p)) k.inside in
    let same : edge_data_at once b ≡ q = get_or-set_other es a b (retired p) no_edge_data (λ (z : b ≡ a). omega (arith, k.lower)) in
    let z = ap f same in
    omega (
      arith,
      sum_append f (set once b (retired q)) (joined_edge v p q ∷ []),
      sum_one f (joined_edge v p q),
      sum_set f es a (retired p) no_edge_data ia,
      sum_set f once b (retired q) no_edge_data ib,
    )

-- a join takes two ends away at its corner, and moves none
join_ends : (es : List EdgeData) (v a b : ℕ) → TwoEdges es v a b → (x : ℕ) → sum_of (ends_one x) (join_edges v a b es) + (one_at v x + one_at v x) ≡ sum_of (ends_one x) es
join_ends es v a b k x =
    let p : EdgeData = edge_data_at es a in
    let q : EdgeData = edge_data_at es b in
    omega (
      arith,
      join_sum (ends_one x) es v a b k,
      idle_ends (retired p) x refl,
      idle_ends (retired q) x refl,
      far_ends p v x k.first_once,
      far_ends q v x k.second_once,
      new_ends p q v x,
    )

ring_ends_sum : (es : List EdgeData) (v a : ℕ) → OneEdge es v a → (x : ℕ) → x < unset
    → sum_of (ends_one x) (set es a (ring_of (edge_data_at es a))) + (one_at v x + one_at v x) ≡ sum_of (ends_one x) es
ring_ends_sum es v a k x h =
    let e : EdgeData = edge_data_at es a in
    let w = two_ends_lem e v k.twice in
    let p = ap (λ y. one_at y x) w.0 in
    let q = ap (λ y. one_at y x) w.1 in
    omega (arith, sum_set (ends_one x) es a (ring_of e) no_edge_data k.inside, ring_ends e x h, active_ends e x (ends_active e v (omega (arith, k.twice))))

active_sum : (es : List EdgeData) → length (active_edges es) ≡ sum_of active_one es
active_sum es = positions_length (λ e. e.active) 0 es ∙ keep_sum (λ e. e.active) es

-- WHAT A CHANGE TAKES AWAY

module _ {s t : Joining} {v : ℕ} where
  -- the number of ends falls by two at the corner of a change and nowhere else
  pub ends_fall : Made s v t → (x : ℕ) → x < unset → length (ends_at t.edges x) + (one_at v x + one_at v x) ≡ length (ends_at s.edges x)
  unfolding join_at ring_at
  ends_fall (inl r) x h =
      let k = one_edge s.edges v r.edge r.ends in
      let e = ap (λ (j : Joining). sum_of (ends_one x) j.edges) r.after in
      omega (arith, ends_sum 0 t.edges x, ends_sum 0 s.edges x, ring_ends_sum s.edges v r.edge k x h)
  ends_fall (inr r) x h =
      let k = two_edges s.edges v r.first r.second r.ends r.lower in
      let e = ap (λ (j : Joining). sum_of (ends_one x) j.edges) r.after in
      omega (arith, ends_sum 0 t.edges x, ends_sum 0 s.edges x, join_ends s.edges v r.first r.second k x)

  pub corner_two : Made s v t → length (ends_at s.edges v) ≡ 2
  corner_two (inl r) = ap length r.ends
  corner_two (inr r) = ap length r.ends

  pub corner_none : Made s v t → v < unset → length (ends_at t.edges v) ≡ 0
  corner_none m h = let a = ends_fall m v h in omega (arith, corner_two m, one_at_same v v refl)

  pub ends_elsewhere : Made s v t → (x : ℕ) → x < unset → (x ≡ v → ⊥) → length (ends_at t.edges x) ≡ length (ends_at s.edges x)
  ends_elsewhere m x h n = let a = ends_fall m x h in omega (arith, one_at_other v x (λ e. n (sym e)))

  module _ (m : Made s v t) (names : List ℕ) (nodup : Nodup names) (fans : (x : ℕ) → x ∈ names → x < unset) (at : v ∈ names) where
    -- one corner less
    pub corners_fall : length (corners s.edges names) ≡ suc (length (corners t.edges names))
    corners_fall =
        keep_fall (is_corner s.edges) (is_corner t.edges) v names nodup at (lt-ltb 0 (length (ends_at s.edges v)) (omega (arith, corner_two m)))
        (le-ltb 0 (length (ends_at t.edges v)) (omega (arith, corner_none m (fans v at))))
        (λ x i n. ap (ltb 0) (sym (ends_elsewhere m x (fans x i) n)))

    -- one corner less with exactly two ends
    pub twos_fall : length (keep (two_ends s.edges) names) ≡ suc (length (keep (two_ends t.edges) names))
    twos_fall =
        keep_fall (two_ends s.edges) (two_ends t.edges) v names nodup at (eq-eqb (length (ends_at s.edges v)) 2 (corner_two m))
        (ne_eqb (length (ends_at t.edges v)) 2 (λ e. omega (arith, corner_none m (fans v at))))
        (λ x i n. ap (λ k. eqb k 2) (sym (ends_elsewhere m x (fans x i) n)))

  -- a ring stays an active edge
  pub ring_edges : AsRing s v t → length (active_edges t.edges) ≡ length (active_edges s.edges)
  unfolding ring_at
  ring_edges r =
      let es : List EdgeData = s.edges in
      let k = one_edge es v r.edge r.ends in
      let e = ap (λ (j : Joining). sum_of active_one j.edges) r.after in
      omega (arith, active_sum t.edges, active_sum es, sum_set active_one es r.edge (ring_of (edge_data_at es r.edge)) no_edge_data k.inside)

  -- a join takes two active edges and makes one
  pub join_edges_lem : AsJoin s v t → length (active_edges s.edges) ≡ suc (length (active_edges t.edges))
  unfolding join_at joined_edge
  join_edges_lem r =
      let es : List EdgeData = s.edges in
      let a : ℕ = r.first in
      let b : ℕ = r.second in
      let k = two_edges es v a b r.ends r.lower in
      let pa = ap (λ c. cond {A = ℕ} c 1 0) (ends_active (edge_data_at es a) v (omega (arith, k.first_once))) in
      let qa = ap (λ c. cond {A = ℕ} c 1 0) (ends_active (edge_data_at es b) v (omega (arith, k.second_once))) in
      let e = ap (λ (j : Joining). sum_of active_one j.edges) r.after in
      omega (arith, active_sum t.edges, active_sum es, join_sum active_one es v a b k)
