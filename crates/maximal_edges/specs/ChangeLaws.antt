-- What a ring and a join do to the edges: the tables of ends stay right, and one fan less has exactly two ends.
use Prim.Native.Nat.{ℕ, suc, ◌+◌, ◌*◌, ◌-◌, ◌<◌, ◌≤◌}
use Rattle.std.proofs.Common.{arith, sym, ap, ◌∙◌, inl, inr, get_or-set_other}
use Rattle.std.specs.Prelude.{◌≡◌, List, [], ◌∷◌, cond, length, set, take, eqb}
use Rattle.std.proofs.Math.Path.{refl}
use Rattle.std.proofs.Math.ListN.{length-set}
use Rattle.std.proofs.Math.Seq.{take-set-lt}
use Rattle.std.proofs.lemmas.List.{take_more_set}
use Rattle.std.proofs.lemmas.Bool.Decides.{nat_tests}
use Rattle.std.proofs.lemmas.Grind.{common_steps}
use Rattle.lists.specs.Lists.{◌∈◌, Nodup, keep}
use Rattle.lists.specs.Members.{keep_length, positions_length}
use Rattle.lists.specs.Sums.{sum_ge₂, keep_sum}
use Rattle.rules.specs.declared.EdgeData.{EdgeData}
use Rattle.rules.specs.Join.{Joining, no_edge_data, edge_data_at, ends_at, active_edges, two_ends, far_end, joined_edge, retired, ring_of, join_edges, join_at, ring_at}
use Rattle.theorems.specs.Ends.{active_one, one_at, ends_one, TwoEdges}
use Rattle.theorems.proofs.Ends.{one_at_other, ends_active, two_edges, one_edge}
use Rattle.theorems.specs.Changes.{Made}
use Rattle.theorems.proofs.Corners.{corner_none, ends_elsewhere, twos_fall, ring_edges, join_edges_lem}
use Rattle.maximal_edges.specs.declared.Corner.{Corner}
use Rattle.maximal_edges.specs.Joined.{no_corner, corner_at, Tabled, given_way, give_way, corners_joined}
use Rattle.maximal_edges.specs.PairLaws.{pair_each, pair_of, pair_inside, two_given, ring_elsewhere, far_first, far_second, join_elsewhere}

-- a store in a table, seen in its first entries
pub ruleset stores = (take-set-lt, take_more_set)

-- what a join at fan v stores, in the first n entries and behind them
pub stored_join : (rows : List EdgeData) (v : ℕ) {n a b : ℕ} {rows₁ rows₂ rows₃ : List EdgeData} {x y x' y' e : EdgeData} → n < length rows → a < b → b < n
    → x ≡ edge_data_at (take n rows) a → y ≡ edge_data_at (take n rows) b → x' ≡ retired x → y' ≡ retired y → e ≡ joined_edge v x y
    → rows₁ ≡ set rows a x' → rows₂ ≡ set rows₁ b y' → rows₃ ≡ set rows₂ n e → take (n + 1) rows₃ ≡ join_edges v a b (take n rows)
unfolding join_edges
stored_join rows v room lower inside first second taken taken' made e₁ e₂ e₃ = grind (arith, common_steps, stores)

-- A CHANGE OF THE EDGES ALONE

-- a state with such edges
abbrev pub bare : List EdgeData → Joining
bare es = record { edges = es; loops = []; joins = 0; rings = 0 }

-- what a change at fan v leaves right
pub record Changed (names : List ℕ) (es es' : List EdgeData) (corners corners' : List Corner) : Type 0 where
  pub twos : length (keep (two_ends es) names) ≡ suc (length (keep (two_ends es') names))
  pub tables : Tabled es corners → Tabled es' corners'

-- CORNERS WHERE AN EDGE GIVES WAY

module _ (corners : List Corner) (p a n : ℕ) where
  way_length : length (give_way p a n corners) ≡ length corners
  way_length = length-set corners p (given_way a n (corner_at corners p))

  way_at : (u : ℕ) → u < length corners → corner_at (give_way p a n corners) u ≡ cond (eqb p u) (given_way a n (corner_at corners u)) (corner_at corners u)
  way_at u h = grind (arith, common_steps)

  -- there are as many ends
  way_ends : (u : ℕ) → u < length corners → (corner_at (give_way p a n corners) u).ends ≡ (corner_at corners u).ends
  way_ends u h = grind (arith, common_steps)

-- a fan u other than v with two ends, before the join and after: its corner has the two after
module _ (es : List EdgeData) (v a b n u : ℕ) (k : TwoEdges es v a b) (en : length es ≡ n) (apart : u ≡ v → ⊥) (c : Corner)
    (two : length (ends_at (join_edges v a b es) u) ≡ 2) (pair : ends_at es u ≡ c.low ∷ c.high ∷ []) where
  abbrev s : ℕ
  s = one_at (far_end v (edge_data_at es a)) u

  abbrev t : ℕ
  t = one_at (far_end v (edge_data_at es b)) u

  abbrev before : ℕ → ℕ
  before x = ends_one u (edge_data_at es x)

  -- once the first edge gave way
  abbrev between : ℕ → ℕ
  between x = before x + s * one_at n x - s * one_at a x

  abbrev after : ℕ → ℕ
  after x = ends_one u (edge_data_at (join_edges v a b es) x)

  halfway : (x : ℕ) → between x + s * one_at a x ≡ before x + s * one_at n x
  unfolding one_at
  halfway x = grind (arith, nat_tests, far_first es v a b k u apart)

  moved : (x : ℕ) → after x + (s * one_at a x + t * one_at b x) ≡ before x + (s + t) * one_at n x
  moved x = join_elsewhere es v a b k u apart s t refl refl x ∙ ap (λ m. before x + (s + t) * one_at m x) en

  abbrev first_way : Corner
  first_way = cond (eqb (far_end v (edge_data_at es a)) u) (given_way a n c) c

  pub join_pair : {c' : Corner} → c' ≡ cond (eqb (far_end v (edge_data_at es b)) u) (given_way b n first_way) first_way → ends_at (join_edges v a b es) u ≡ c'.low ∷ c'.high ∷ []
  unfolding one_at
  join_pair e =
      let inside = pair_inside es u c.low c.high pair in
      let first = two_given before between a n c (eqb (far_end v (edge_data_at es a)) u)
      (record { order = inside.0; most = omega (arith, inside.1); each = pair_each es u c.low c.high pair })
      (λ q. omega (arith, far_first es v a b k u apart, ap (λ i. cond {A = ℕ} i 1 0) q)) halfway in
      let apart_lem : between b + s * 0 ≡ before b + s * one_at n b = ap (λ i. between b + s * i) (sym (one_at_other a b (λ (z : a ≡ b). omega (arith, k.lower)))) ∙ halfway b in
      let second = two_given between after b n first_way (eqb (far_end v (edge_data_at es b)) u) first
      (λ q. omega (arith, apart_lem, far_second es v a b k u apart, ap (λ i. cond {A = ℕ} i 1 0) q))
      (λ x. omega (arith, halfway x, moved x)) in
      pair_of (join_edges v a b es) u _ _ two second.order second.each ∙ ap (λ (d : Corner). d.low ∷ d.high ∷ []) (sym e)

module _ (names : List ℕ) (nodup : Nodup names) (fans : (x : ℕ) → x ∈ names → x < 2048) (es : List EdgeData) (v : ℕ) (at : v ∈ names) (corners : List Corner) where
  changed : (t : Joining) (corners' : List Corner) → Made (bare es) v t → length corners' ≡ length corners
      → ((u : ℕ) → u < length corners → (corner_at corners' u).ends ≡ (corner_at (set corners v no_corner) u).ends)
      → ((u : ℕ) → u < 2048 → u < length corners → (u ≡ v → ⊥) → length (ends_at t.edges u) ≡ 2 → ends_at es u ≡ (corner_at corners u).low ∷ (corner_at corners u).high ∷ []
      → ends_at t.edges u ≡ (corner_at corners' u).low ∷ (corner_at corners' u).high ∷ [])
      → Changed names es t.edges corners corners'
  changed t corners' m el ends pairs = record {
    twos = twos_fall m names nodup (λ x i. omega (arith, fans x i)) at;
    tables = λ k. record {
      size = omega (arith, k.size);
      counts = λ u b. ends u (omega arith) ∙ grind (arith, common_steps, corner_none m (omega (arith, fans v at)), ends_elsewhere m u (omega (arith, k.size)), k.counts u);
      pairs = λ u b two. grind (arith, corner_none m (omega (arith, fans v at)), ends_elsewhere m u (omega (arith, k.size)), pairs u (omega (arith, k.size)) (omega arith), k.pairs u);
    };
  }

  -- a ring
  pub changed_ring : (a : ℕ) → ends_at es v ≡ a ∷ a ∷ [] → Changed names es (set es a (ring_of (edge_data_at es a))) corners (set corners v no_corner)
  unfolding ring_at
  changed_ring a e =
      changed (ring_at (bare es) a) (set corners v no_corner) (inl (record { edge = a; ends = e; after = refl })) (length-set corners v no_corner) (λ u h. refl)
      (λ u b inside apart two pair.
      let c : Corner = corner_at corners u in
      pair_of (set es a (ring_of (edge_data_at es a))) u c.low c.high two (pair_inside es u c.low c.high pair).0
      (λ x. ring_elsewhere es v a u (one_edge es v a e) (omega arith) apart x ∙ pair_each es u c.low c.high pair x)
      ∙ ap (λ (d : Corner). d.low ∷ d.high ∷ []) (sym (get_or-set_other corners v u no_corner no_corner apart)))

  -- a join
  pub changed_join : (n : ℕ) → length es ≡ n → (a b : ℕ) → ends_at es v ≡ a ∷ b ∷ [] → a < b
      → Changed names es (join_edges v a b es) corners (corners_joined v (far_end v (edge_data_at es a)) (far_end v (edge_data_at es b)) a b n corners)
  unfolding join_at
  changed_join n en a b e lower =
      let p : ℕ = far_end v (edge_data_at es a) in
      let q : ℕ = far_end v (edge_data_at es b) in
      changed (join_at (bare es) v a b) (corners_joined v p q a b n corners) (inr (record { first = a; second = b; ends = e; lower = lower; after = refl }))
      (grind (arith, way_length, length-set)) (λ u h. grind (arith, way_ends, way_length, length-set))
      (λ u c inside apart two pair.
      join_pair es v a b n u (two_edges es v a b e lower) en apart (corner_at corners u) two pair {c' = corner_at (corners_joined v p q a b n corners) u}
      (grind (arith, way_at, way_length, length-set, get_or-set_other)))

-- ACTIVE EDGES

-- at most as many as edges
pub active_few : (es : List EdgeData) → length (active_edges es) ≤ length es
active_few es = omega (arith, positions_length (λ e. e.active) 0 es, keep_length (λ e. e.active) es)

-- as many after a ring
pub active_ring : (es : List EdgeData) (v a : ℕ) → ends_at es v ≡ a ∷ a ∷ [] → length (active_edges (set es a (ring_of (edge_data_at es a)))) ≡ length (active_edges es)
unfolding ring_at
active_ring es v a e = ring_edges {s = bare es} {t = ring_at (bare es) a} {v = v} (record { edge = a; ends = e; after = refl })

-- a join has two of them, and leaves one less
pub active_join : (es : List EdgeData) (v a b : ℕ) → ends_at es v ≡ a ∷ b ∷ [] → a < b
    → (length (active_edges es) ≡ suc (length (active_edges (join_edges v a b es)))) × (2 ≤ length (active_edges es))
unfolding join_at
active_join es v a b e lower =
    let k = two_edges es v a b e lower in
    let one = ap (λ c. cond {A = ℕ} c 1 0) (ends_active (edge_data_at es a) v (omega (arith, k.first_once))) in
    let two = ap (λ c. cond {A = ℕ} c 1 0) (ends_active (edge_data_at es b) v (omega (arith, k.second_once))) in (
      join_edges_lem {s = bare es} {t = join_at (bare es) v a b} {v = v} (record { first = a; second = b; ends = e; lower = lower; after = refl }),
      omega (arith, positions_length (λ e. e.active) 0 es, keep_sum (λ e. e.active) es, sum_ge₂ active_one es a b no_edge_data lower k.inside),
    )
