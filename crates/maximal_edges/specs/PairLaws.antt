-- The two edges of a fan with exactly two active ends: how many ends each edge has there tells them, and what a change makes of them.
use Rattle.std.specs.Prelude.{ℕ, ◌+◌, ◌*◌, ◌<◌, ◌≤◌, ◌≡◌, refl, List, [], ◌∷◌, Bool, true, false, cond, length, get_or, set}
use Rattle.std.proofs.Math.Decide.{dec_lt}
use Rattle.std.proofs.Common.{arith, sym, ap, ◌∙◌, length-set, get_or-set_same}
use Rattle.std.proofs.Math.ListN.{get_or-eq_default}
use Rattle.std.proofs.lemmas.Bool.Decides.{nat_tests}
use Rattle.std.proofs.lemmas.Grind.{common_steps}
use Rattle.lists.specs.Lists.{times}
use Rattle.rules.specs.declared.EdgeData.{EdgeData}
use Rattle.rules.specs.Job.{unset}
use Rattle.rules.specs.Join.{no_edge_data, edge_data_at, ends_at, far_end, retired, ring_of, join_edges}
use Rattle.theorems.specs.Ends.{one_at, ends_one, TwoEdges, OneEdge}
use Rattle.theorems.proofs.Ends.{one_at_other, active_ends, idle_ends, ends_active, two_ends_lem}
use Rattle.theorems.proofs.Ends.{ends_of_lem, ends_ascend, two_edges, one_edge}
use Rattle.theorems.proofs.Corners.{far_ends, new_ends, ring_ends}
use Rattle.theorems.proofs.EdgesAfter.{old_edge, new_edge, no_edge_lem}
use Rattle.maximal_edges.specs.declared.Corner.{Corner}
use Rattle.maximal_edges.specs.Joined.{given_way}

-- TWO NUMBERS, BY HOW OFTEN EACH STANDS

-- pairs in order with the same numbers are the same
pair_same : (x y c d : ℕ) → x ≤ y → c ≤ d → ((z : ℕ) → one_at x z + one_at y z ≡ one_at c z + one_at d z) → (x ≡ c) × (y ≡ d)
unfolding one_at
pair_same x y c d p q each = grind (arith, nat_tests, each x, each y, each c, each d)

-- the two ends at a fan tell how many each edge has there, and are told by it
pub pair_each : (es : List EdgeData) (v c d : ℕ) → ends_at es v ≡ c ∷ d ∷ [] → (x : ℕ) → ends_one v (edge_data_at es x) ≡ one_at c x + one_at d x
unfolding one_at times
pair_each es v c d e x = ends_of_lem es v (c ∷ d ∷ []) e x ∙ grind (arith, nat_tests)

pub pair_of : (es : List EdgeData) (v c d : ℕ) → length (ends_at es v) ≡ 2 → c ≤ d
    → ((x : ℕ) → ends_one v (edge_data_at es x) ≡ one_at c x + one_at d x) → ends_at es v ≡ c ∷ d ∷ []
pair_of es v c d two le each = go (ends_at es v) refl two
  where
    go : (l : List ℕ) → ends_at es v ≡ l → length l ≡ 2 → l ≡ c ∷ d ∷ []
    go [] e h = absurd (omega arith)
    go (x ∷ []) e h = absurd (omega arith)
    go (x ∷ y ∷ []) e h =
        let r = pair_same x y c d (ends_ascend 0 es v x y [] e) le (λ z. sym (pair_each es v x y e z) ∙ each z) in
        λ i. r.0 i ∷ r.1 i ∷ []
    go (x ∷ y ∷ z ∷ l) e h = absurd (omega arith)

-- a list of two
pub exactly_two : (l : List ℕ) → length l ≡ 2 → l ≡ get_or l 0 0 ∷ get_or l 1 0 ∷ []
exactly_two [] h = absurd (omega arith)
exactly_two (x ∷ []) h = absurd (omega arith)
exactly_two (x ∷ y ∷ []) h = refl
exactly_two (x ∷ y ∷ z ∷ l) h = absurd (omega arith)

-- both edges exist
pub pair_inside : (es : List EdgeData) (v c d : ℕ) → ends_at es v ≡ c ∷ d ∷ [] → (c ≤ d) × (d < length es)
pair_inside es v c d e =
    let le = ends_ascend 0 es v c d [] e in
    let ring = one_edge es v c in
    let join = two_edges es v c d e in
    grind arith

-- the ends at a fan are those of the two edges of a corner, by how many each edge has there, and none is beyond edge n
pub record TwoAt (ends : ℕ → ℕ) (n : ℕ) (c : Corner) : Type 0 where
  pub order : c.low ≤ c.high
  pub most : c.high ≤ n
  pub each : (x : ℕ) → ends x ≡ one_at c.low x + one_at c.high x

-- an edge a of the two gives way to edge n, where a test holds
pub two_given : (ends after : ℕ → ℕ) (a n : ℕ) (c : Corner) (t : Bool) → TwoAt ends n c → (t ≡ true → 1 ≤ ends a)
    → ((x : ℕ) → after x + cond t 1 0 * one_at a x ≡ ends x + cond t 1 0 * one_at n x) → TwoAt after n (cond t (given_way a n c) c)
unfolding one_at
two_given ends after a n c false k some moved = record { order = k.order; most = k.most; each = λ x. omega (arith, moved x, k.each x) }
two_given ends after a n c true k some moved = record {
  order = grind (arith, nat_tests, k.each a, k.order, k.most, some refl);
  most = omega arith;
  each = λ x. grind (arith, nat_tests, k.each a, k.each x, moved x, some refl);
}

-- THE ENDS ELSEWHERE AFTER A RING

module _ (es : List EdgeData) (v a u : ℕ) (k : OneEdge es v a) (fan : u < unset) (apart : u ≡ v → ⊥) where
  -- each edge has as many at fan u as before
  pub ring_elsewhere : (x : ℕ) → ends_one u (edge_data_at (set es a (ring_of (edge_data_at es a))) x) ≡ ends_one u (edge_data_at es x)
  unfolding one_at
  ring_elsewhere x =
      let d : EdgeData = edge_data_at es a in
      let w = two_ends_lem d v k.twice in
      let active = active_ends d u (ends_active d v (omega (arith, k.twice))) in
      let inside = k.inside in
      let ring = ring_ends d u fan in
      grind (arith, common_steps)

-- THE ENDS ELSEWHERE AFTER A JOIN

module _ (es : List EdgeData) (v a b : ℕ) (k : TwoEdges es v a b) where
  abbrev after : List EdgeData
  after = join_edges v a b es

  -- an edge that is none of the three is the same
  pub other_edge : (x : ℕ) → (x ≡ a → ⊥) → (x ≡ b → ⊥) → (x ≡ length es → ⊥) → edge_data_at after x ≡ edge_data_at es x
  other_edge x na nb nn =
      let inside = k.inside in
      let lower = k.lower in
      elim (dec_lt x (length es)) [
        | yes h ↦ old_edge es v a b k x h ∙ grind (arith, common_steps)
        | no h ↦ no_edge_lem es v a b k x (omega (arith, nn)) ∙ grind (arith, common_steps)
      ]

  module _ (u : ℕ) where
    pub first_gone : ends_one u (edge_data_at after a) ≡ 0
    first_gone =
        let inside = k.inside in
        let lower = k.lower in
        let p : EdgeData = retired (edge_data_at es a) in
        let same : edge_data_at after a ≡ p = old_edge es v a b k a (omega arith) ∙ grind (arith, common_steps) in
        ap (ends_one u) same ∙ idle_ends p u refl

    pub second_gone : ends_one u (edge_data_at after b) ≡ 0
    second_gone =
        let p : EdgeData = retired (edge_data_at es a) in
        let q : EdgeData = retired (edge_data_at es b) in
        ap (ends_one u) (old_edge es v a b k b k.inside ∙ get_or-set_same (set es a p) b q no_edge_data (omega (arith, k.inside, length-set es a p))) ∙ idle_ends q u refl

    pub new_there : ends_one u (edge_data_at after (length es)) ≡ one_at (far_end v (edge_data_at es a)) u + one_at (far_end v (edge_data_at es b)) u
    new_there = ap (ends_one u) (new_edge es v a b k) ∙ new_ends (edge_data_at es a) (edge_data_at es b) v u

    none_before : ends_one u (edge_data_at es (length es)) ≡ 0
    none_before = ap (ends_one u) (get_or-eq_default es no_edge_data {n = length es} (omega arith)) ∙ idle_ends no_edge_data u refl

    module _ (apart : u ≡ v → ⊥) where
      pub far_first : ends_one u (edge_data_at es a) ≡ one_at (far_end v (edge_data_at es a)) u
      far_first = omega (arith, far_ends (edge_data_at es a) v u k.first_once, one_at_other v u (λ q. apart (sym q)))

      pub far_second : ends_one u (edge_data_at es b) ≡ one_at (far_end v (edge_data_at es b)) u
      far_second = omega (arith, far_ends (edge_data_at es b) v u k.second_once, one_at_other v u (λ q. apart (sym q)))

      -- at fan u the first edge had p ends and the second had q; the new edge has them all
      pub join_elsewhere : (p q : ℕ) → one_at (far_end v (edge_data_at es a)) u ≡ p → one_at (far_end v (edge_data_at es b)) u ≡ q
          → (x : ℕ) → ends_one u (edge_data_at after x) + (p * one_at a x + q * one_at b x) ≡ ends_one u (edge_data_at es x) + (p + q) * one_at (length es) x
      unfolding one_at
      join_elsewhere p q ep eq x =
          grind (arith, nat_tests, first_gone, far_first, second_gone, far_second, new_there, none_before, other_edge x, k.lower, k.inside)
