-- What a change leaves still, and where the next sweep begins: a corner whose two edges stay the same is tried again in vain.
use Prim.Native.Nat.{ℕ, ◌+◌, ◌<◌, ◌≤◌}
use Rattle.std.proofs.Common.{arith, sym, ◌∙◌}
use Rattle.std.specs.Prelude.{◌≡◌, List, [], ◌∷◌, cond, length, get_or, set, eqb}
use Rattle.std.proofs.Math.Path.{refl, ap}
use Rattle.std.proofs.Math.Logic.{inl, inr, ⊎_elim}
use Rattle.std.proofs.lemmas.Grind.{common_steps}
use Rattle.lists.specs.Lists.{◌∈◌, Nodup}
use Rattle.lists.specs.Tests.{equal_or_not}
use Rattle.lists.specs.Members.{index_of_at}
use Rattle.lists.specs.Membership.{get_or_in}
use Rattle.rules.specs.declared.EdgeData.{EdgeData}
use Rattle.rules.specs.Job.{unset, Answer}
use Rattle.rules.specs.Fans.{fan_point}
use Rattle.rules.specs.Join.{Joining, edge_data_at, ends_at, far_end, ring_of, join_edges, join_at, ring_at, not_singular, may_join}
use Rattle.theorems.specs.Ends.{one_at, ends_one}
use Rattle.theorems.proofs.Ends.{one_at_same, one_at_other, two_edges, one_edge}
use Rattle.theorems.specs.Changes.{Made}
use Rattle.theorems.proofs.Corners.{corner_none, ends_elsewhere, ring_ends}
use Rattle.maximal_edges.specs.declared.Resume.{Resume}
use Rattle.maximal_edges.specs.Joined.{RankedTo, Ranked, Still, StillBut, next_after, after_ring, after_join, Found}
use Rattle.maximal_edges.specs.PairLaws.{pair_each, pair_of, pair_inside, ring_elsewhere, other_edge, first_gone, second_gone, new_there, join_elsewhere}
use Rattle.maximal_edges.specs.SweepLaws.{idle_still}
use Rattle.maximal_edges.specs.ChangeLaws.{bare}

-- ONE FAN

-- with the same ends as before, of edges that are the same, it stays still
kept : (answers : List Answer) (starts : List ℕ) (es es' : List EdgeData) (u : ℕ) → length (ends_at es' u) ≡ length (ends_at es u)
    → ((x : ℕ) → ends_one u (edge_data_at es' x) ≡ ends_one u (edge_data_at es x))
    → ((x : ℕ) → 1 ≤ ends_one u (edge_data_at es' x) → edge_data_at es' x ≡ edge_data_at es x) → Still answers starts es u → Still answers starts es' u
kept answers starts es es' u count ends edges still a b e =
    let each = pair_each es' u a b e in
    let old : ends_at es u ≡ a ∷ b ∷ [] = pair_of es u a b (sym count ∙ ap length e) (pair_inside es' u a b e).0 (λ x. sym (ends x) ∙ each x) in
    let p : edge_data_at es' a ≡ edge_data_at es a = edges a (omega (arith, each a, one_at_same a a refl)) in
    let q : edge_data_at es' b ≡ edge_data_at es b = edges b (omega (arith, each b, one_at_same b b refl)) in
    (λ i. cond (eqb a b) (not_singular answers (p i) (fan_point starts u)) (may_join answers (p i) (q i) (fan_point starts u))) ∙ still a b old

module _ (answers : List Answer) (starts : List ℕ) (es : List EdgeData) (v : ℕ) (fan : v < unset) (u : ℕ) (other : u < unset) where
  -- the corner of the change has no ends
  gone : (t : Joining) → Made (bare es) v t → u ≡ v → Still answers starts t.edges u
  gone t m e = idle_still answers starts t.edges u (λ two. omega (arith, corner_none m fan, ap (λ i. length (ends_at t.edges i)) e))

  pub still_ring : (a : ℕ) → ends_at es v ≡ a ∷ a ∷ [] → ((u ≡ v → ⊥) → Still answers starts es u) → Still answers starts (set es a (ring_of (edge_data_at es a))) u
  unfolding ring_at
  still_ring a e still =
      let d : EdgeData = edge_data_at es a in
      let k = one_edge es v a e in
      let m : Made (bare es) v (ring_at (bare es) a) = inl (record { edge = a; ends = e; after = refl }) in
      ⊎_elim
      (λ w. gone (ring_at (bare es) a) m w.0)
      (λ w.
      kept answers starts es (set es a (ring_of d)) u (ends_elsewhere m u other w.0) (ring_elsewhere es v a u k other w.0)
      (λ x some. grind (arith, common_steps, ring_ends d u other, k.inside))
      (still w.0))
      (equal_or_not u v)

  pub still_join : (a b : ℕ) → ends_at es v ≡ a ∷ b ∷ [] → a < b → (u ≡ far_end v (edge_data_at es a) → ⊥) → (u ≡ far_end v (edge_data_at es b) → ⊥)
      → ((u ≡ v → ⊥) → Still answers starts es u)
      → Still answers starts (join_edges v a b es) u
  unfolding join_at
  still_join a b e lower np nq still =
      let k = two_edges es v a b e lower in
      let p : one_at (far_end v (edge_data_at es a)) u ≡ 0 = one_at_other (far_end v (edge_data_at es a)) u (λ z. np (sym z)) in
      let q : one_at (far_end v (edge_data_at es b)) u ≡ 0 = one_at_other (far_end v (edge_data_at es b)) u (λ z. nq (sym z)) in
      let m : Made (bare es) v (join_at (bare es) v a b) = inr (record { first = a; second = b; ends = e; lower = lower; after = refl }) in
      ⊎_elim
      (λ w. gone (join_at (bare es) v a b) m w.0)
      (λ w.
      kept answers starts es (join_edges v a b es) u (ends_elsewhere m u other w.0) (λ x. omega (arith, join_elsewhere es v a b k u w.0 0 0 p q x))
      (λ x some. grind (arith, other_edge es v a b k x, first_gone es v a b k u, second_gone es v a b k u, new_there es v a b k u))
      (still w.0))
      (equal_or_not u v)

-- POSITIONS

-- one position more is noted
pub ranked_more : (names ranks : List ℕ) {ranks' : List ℕ} {i v : ℕ} → Nodup names → i < length names → v ≡ get_or names i 0 → v < length ranks → ranks' ≡ set ranks v i
    → RankedTo names ranks i → RankedTo names ranks' (i + 1)
ranked_more names ranks {i = i} {v} nodup h ev inside er known k b =
    ap (λ l. get_or l (get_or names k 0) 0) er ∙ grind (arith, common_steps, index_of_at names k nodup, index_of_at names i nodup h, known k)

-- AFTER A CHANGE

module _ (answers : List Answer) (starts names : List ℕ) (fans : (x : ℕ) → x ∈ names → x < 2048) (es : List EdgeData) (from : Resume) (v : ℕ) (at : v ∈ names)
    (found : Found answers starts names es from v) (ranks : List ℕ) (ranked : Ranked names ranks) where
  abbrev t : ℕ
  t = next_after from (get_or ranks v 0)

  next : t ≡ next_after from found.at
  next = ap (next_after from) (ap (λ x. get_or ranks x 0) (sym found.here) ∙ ranked found.at found.inside)

  still : (k : ℕ) → k < t → k < length names → (get_or names k 0 ≡ v → ⊥) → Still answers starts es (get_or names k 0)
  still k h inside apart = found.before k (omega (arith, next)) inside (λ e. apart (ap (λ j. get_or names j 0) e ∙ found.here))

  fan : (k : ℕ) → k < length names → get_or names k 0 < unset
  fan k inside = let r = fans (get_or names k 0) (get_or_in names k 0 inside) in omega arith

  -- a ring: every corner before the next one is still
  pub but_ring : (a : ℕ) → ends_at es v ≡ a ∷ a ∷ [] → StillBut answers starts names (set es a (ring_of (edge_data_at es a))) (after_ring from (get_or ranks v 0))
  but_ring a e = record {
    low_high = omega arith;
    high_top = omega arith;
    others = λ k h inside nl nh. still_ring answers starts es v (let r = fans v at in omega arith) (get_or names k 0) (fan k inside) a e (still k h inside);
  }

  -- a join: but the far ends
  pub but_join : (a b p q : ℕ) → ends_at es v ≡ a ∷ b ∷ [] → a < b → p ≡ get_or ranks (far_end v (edge_data_at es a)) 0 → q ≡ get_or ranks (far_end v (edge_data_at es b)) 0
      → StillBut answers starts names (join_edges v a b es) (after_join from (get_or ranks v 0) p q)
  but_join a b p q e lower ep eq = record {
    low_high = omega arith;
    high_top = omega arith;
    others = λ k h inside nl nh.
        still_join answers starts es v (let r = fans v at in omega arith) (get_or names k 0) (fan k inside) a b e lower
        (λ z. let here : p ≡ k = ep ∙ ap (λ x. get_or ranks x 0) (sym z) ∙ ranked k inside in omega arith)
        (λ z. let here : q ≡ k = eq ∙ ap (λ x. get_or ranks x 0) (sym z) ∙ ranked k inside in omega arith)
        (still k h inside);
  }
