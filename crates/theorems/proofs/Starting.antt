-- Where joining starts: the edges' ends stand at fans, the loops lead back to their starts, and each edge stands once in either sense, never twice in one loop.
use Prim.Native.Nat.{ℕ, zero, suc, ◌≤◌}
use Rattle.std.proofs.Math.Decide.{dec_lt}
use Rattle.std.proofs.Common.{arith, sym, ap, ◌∙◌, inl, inr, ⊎_elim, eqb-true, eq-eqb, ltb-true, ltb-false}
use Rattle.std.specs.Prelude.{◌≡◌, ◌⊎◌, true, false, cond, List, [], ◌∷◌, map, length, eqb, ltb}
use Rattle.std.proofs.Math.Path.{refl, subst}
use Rattle.std.proofs.Math.ListN.{get_or-eq_default}
use Rattle.lists.specs.Lists.{◌∈◌, Nodup, times, keep, sum_of, iterate, orbit}
use Rattle.lists.specs.Tests.{both_ways, and_both, both_and, equal_or_not}
use Rattle.lists.specs.Membership.{in_or_out, get_or_in, times_out, once_nodup}
use Rattle.lists.specs.Members.{map_in, keep_in, keep_nodup, keep_same}
use Rattle.lists.specs.Sums.{sum_map, sum_same, sum_zero}
use Rattle.lists.specs.Orbits.{orbit_in}
use Rattle.lists.specs.KeepCounts.{sum_member}
use Rattle.lists.specs.Counts.{keep_map_length, keep_nothing, times_keep, at_most_one}
use Rattle.rules.specs.declared.Sense.{Sense}
use Rattle.rules.specs.declared.Sense.TheVariants.{Same, Reversed}
use Rattle.rules.specs.declared.Item.{Item}
use Rattle.rules.specs.declared.EdgeData.{EdgeData}
use Rattle.rules.specs.Sense.{same_sense}
use Rattle.rules.specs.Job.{unset, Job}
use Rattle.rules.specs.Groups.{label_of}
use Rattle.rules.specs.Merge.{merged_faces}
use Rattle.rules.specs.Walk.{Circuit, circuit_uses, loops_of}
use Rattle.rules.specs.Edges.{own_start, own_end, FaceLoop, face_loop, face_loops}
use Rattle.rules.specs.Join.{no_edge_data, edge_data_at}
use Rattle.rules.specs.Sew.{Walked, fans_of, unjoined}
use Rattle.theorems.specs.Linked.{RingOrFans, EndsAreFans, Trail, is_item, item_times, LoopsSound}
use Rattle.theorems.specs.Demand3.{KeptUse, Closes}
use Rattle.rules.proofs.SenseLaws.{tested_sense, sense_tested}
use Rattle.theorems.specs.Ground.{on_ring, Ground}
use Rattle.theorems.specs.Fanning.{twin, succ, fan_labels, fan_list, FansHold}
use Rattle.theorems.proofs.Fanning.{kept_ended, ring_twin, succ_kept, twin_kept}
use Rattle.theorems.specs.Edging.{first_edges, item, fan_at, EdgesHold}

-- ENDS

-- what holds of both ends along a use holds of the edge's own start and end
pub own_both : (P : ℕ → Type 0) (s : Sense) (x y : ℕ) → P x → P y → P (own_start s x y) × P (own_end s x y)
own_both P Same x y p q = (p, q)
own_both P Reversed x y p q = (q, p)

module _ (j : Job) (w : Walked) (G : Ground j w) (F : FansHold j w) (E : EdgesHold j w) where
  -- a kept use and its twin have no fans, or both have one that is named
  fans_named : (h : ℕ) → KeptUse w h → ((fan_at j w h ≡ unset) × (fan_at j w (twin w h) ≡ unset)) ⊎ ((fan_at j w h ∈ fan_list j w) × (fan_at j w (twin w h) ∈ fan_list j w))
  fans_named h k =
      let t : on_ring j w (twin w h) ≡ on_ring j w h = ring_twin j w G h k.0 in
      ⊎_elim (λ r. inl (none h r, none (twin w h) (t ∙ r))) (λ r. inr (some h k r, some (twin w h) (twin_kept j w G h k) (t ∙ r))) (both_ways (on_ring j w h))
    where
      none : (u : ℕ) → on_ring j w u ≡ true → fan_at j w u ≡ unset
      none u r = ap (λ c. cond c unset (label_of (fan_labels j w) u)) r

      some : (u : ℕ) → KeptUse w u → on_ring j w u ≡ false → fan_at j w u ∈ fan_list j w
      some u ku r = subst (λ x. x ∈ fan_list j w) (sym (ap (λ c. cond c unset (label_of (fan_labels j w) u)) r)) (F.named u (kept_ended j w u ku r))

  -- each edge has no ends or two fans
  pub ends_are_fans : EndsAreFans (first_edges j w) (fan_list j w)
  ends_are_fans i =
      elim (dec_lt i (length (first_edges j w))) [
        | yes lt ↦
            let q = E.fans (edge_data_at (first_edges j w) i) (get_or_in (first_edges j w) i no_edge_data lt) in
            let h : ℕ = q.0 in
            let own : (P : ℕ → Type 0) → P (fan_at j w h) → P (fan_at j w (twin w h)) → P (edge_data_at (first_edges j w) i).start × P (edge_data_at (first_edges j w) i).end =
            (λ P a b. let r = own_both P (item w h).sense (fan_at j w h) (fan_at j w (twin w h)) a b in (subst P (sym q.2) r.0, subst P (sym q.3) r.1)) in
            ⊎_elim (λ r. inl (own (λ x. x ≡ unset) r.0 r.1)) (λ r. inr (own (λ x. x ∈ fan_list j w) r.0 r.1)) (fans_named h q.1)
        | no ge ↦ subst (RingOrFans (fan_list j w)) (sym (get_or-eq_default (first_edges j w) no_edge_data {n = i} (omega arith))) (inl (refl, refl))
      ]

  -- LOOPS

  -- the uses of a loop, and what its loop of items is
  abbrev loops : List (List ℕ)
  loops = loops_of w.circuits

  steps_kept : (k h : ℕ) → KeptUse w h → KeptUse w (iterate (succ w) k h)
  unfolding iterate
  steps_kept zero h kh = kh
  steps_kept (suc k) h kh = steps_kept k (succ w h) (succ_kept j w G h kh)

  orbit_kept : (k h u : ℕ) → KeptUse w h → u ∈ orbit (succ w) k h → KeptUse w u
  orbit_kept k h u kh m = let r = orbit_in (succ w) k h u m in subst (KeptUse w) (sym r.2) (steps_kept r.0 h kh)

  -- a loop runs round from a kept use
  record Round (hs : List ℕ) : Type 0 where
    pub start : ℕ
    pub more : ℕ
    pub kept : KeptUse w start
    pub runs : hs ≡ orbit (succ w) (suc more) start
    pub back : iterate (succ w) (suc more) start ≡ start

  loop_round : (hs : List ℕ) → hs ∈ loops → Round hs
  loop_round hs m =
      let r = map_in circuit_uses w.circuits hs m in
      let c : Closes w r.0 = G.walks.unbroken.closes r.0 r.1 in
      record { start = c.start; more = c.more; kept = c.kept; runs = r.2 ∙ ap circuit_uses c.runs; back = c.back }

  -- the uses of a loop are kept, and none stands in it twice
  pub loop_kept_lem : (hs : List ℕ) → hs ∈ loops → (u : ℕ) → u ∈ hs → KeptUse w u
  loop_kept_lem hs m u i =
      let R : Round hs = loop_round hs m in
      orbit_kept (suc R.more) R.start u R.kept (subst (λ l. u ∈ l) R.runs i)

  pub loop_nodup : (hs : List ℕ) → hs ∈ loops → Nodup hs
  loop_nodup hs m =
      once_nodup hs
      (λ x. ⊎_elim
      (λ i. let one = G.walks.once x (loop_kept_lem hs m x i) in let le = sum_member (times x) m in omega (arith, one, le))
      (λ o. let none = times_out x hs o in omega (arith, none))
      (in_or_out x hs))

  loop_face_lem : (hs : List ℕ) → hs ∈ loops → (h k : ℕ) → h ∈ hs → k ∈ hs → k ≡ twin w h → ⊥
  loop_face_lem hs m h k ih ik e =
      let r = map_in circuit_uses w.circuits hs m in
      let c : Circuit = r.0 in
      G.apart h (loop_kept_lem hs m h ih)
      (G.walks.one_face c r.1 h (twin w h) (subst (λ l. h ∈ l) r.2 ih) (subst (λ x. x ∈ circuit_uses c) e (subst (λ l. k ∈ l) r.2 ik)))

  -- CLOSED

  trail : (k h : ℕ) → KeptUse w h → Trail (first_edges j w) (fan_at j w h) (map (item w) (orbit (succ w) k h)) (fan_at j w (iterate (succ w) k h))
  unfolding orbit iterate
  trail zero h kh = refl
  trail (suc k) h kh = (
    E.starts h kh,
    subst (λ x. Trail (first_edges j w) x (map (item w) (orbit (succ w) k (succ w h))) (fan_at j w (iterate (succ w) k (succ w h)))) (sym (E.ends h kh ∙ E.onward h kh))
        (trail k (succ w h) (succ_kept j w G h kh)),
  )

  loop_closed : (hs : List ℕ) → hs ∈ loops → (x : ℕ) × Trail (first_edges j w) x (map (item w) hs) x
  loop_closed hs m =
      let R : Round hs = loop_round hs m in
      let T = trail (suc R.more) R.start R.kept in (
        fan_at j w R.start,
        subst (λ l. Trail (first_edges j w) (fan_at j w R.start) (map (item w) l) (fan_at j w R.start)) (sym R.runs)
            (subst (λ y. Trail (first_edges j w) (fan_at j w R.start) (map (item w) (orbit (succ w) (suc R.more) R.start)) (fan_at j w y)) R.back T),
      )

  -- ONCE

  -- only the item of u is that edge in that sense
  item_only : (u y e : ℕ) (t : Sense) → KeptUse w u → KeptUse w y → (item w u).edge ≡ e → (item w u).sense ≡ t → is_item e t (item w y) ≡ eqb u y
  item_only u y e t ku ky p q =
      ⊎_elim
      (λ r. both_and _ _ (eq-eqb _ _ (ap (λ z. (item w z).edge) (sym r.0) ∙ p)) (subst (λ s. same_sense s t ≡ true) (sym (ap (λ z. (item w z).sense) (sym r.0) ∙ q)) (sense_tested t)) ∙ sym r.1)
      (λ r. ⊎_elim
      (λ b.
      let s = and_both (eqb (item w y).edge e) (same_sense (item w y).sense t) b in
      let same : item w u ≡ item w y = λ i. record { edge = (p ∙ sym (eqb-true (item w y).edge e s.0)) i; sense = (q ∙ sym (tested_sense (item w y).sense t s.1)) i } in
      absurd (r.0 (E.one_to_one u y ku ky same)))
      (λ b. b ∙ sym r.1)
      (both_ways (is_item e t (item w y))))
      (equal_or_not u y)

  loop_times : (u e : ℕ) (t : Sense) → KeptUse w u → (item w u).edge ≡ e → (item w u).sense ≡ t → (hs : List ℕ) → hs ∈ loops → item_times e t (map (item w) hs) ≡ times u hs
  loop_times u e t ku p q hs m =
      keep_map_length (is_item e t) (item w) hs ∙ ap length (keep_same (λ y. is_item e t (item w y)) (eqb u) hs (λ y i. item_only u y e t ku (loop_kept_lem hs m y i) p q))
      ∙ sym (times_keep u hs)

  -- an edge that is not there stands in no loop
  loop_none : (e : ℕ) (t : Sense) → length (first_edges j w) ≤ e → (hs : List ℕ) → hs ∈ loops → item_times e t (map (item w) hs) ≡ 0
  loop_none e t ge hs m =
      keep_map_length (is_item e t) (item w) hs
      ∙ ap length (keep_nothing (λ y. is_item e t (item w y)) hs (λ y i.
      ⊎_elim
      (λ b.
      let z = eqb-true (item w y).edge e (and_both (eqb (item w y).edge e) (same_sense (item w y).sense t) b).0 in
      let lt = E.within y (loop_kept_lem hs m y i) in
      absurd (omega (arith, z, lt, ge)))
      (λ b. b)
      (both_ways (is_item e t (item w y)))))

  edges_once : (e : ℕ) (t : Sense) → sum_of (item_times e t) (map (map (item w)) loops) ≡ cond (edge_data_at (first_edges j w) e).active 1 0
  edges_once e t =
      sum_map (item_times e t) (map (item w)) loops
      ∙ ⊎_elim
      (λ b.
      let lt = ltb-true e (length (first_edges j w)) b in
      let c = E.covered e t lt in
      sum_same (λ hs. item_times e t (map (item w) hs)) (times c.0) loops (loop_times c.0 e t c.1 c.2 c.3)
      ∙ G.walks.once c.0 c.1 ∙ sym (ap (λ a. cond {A = ℕ} a 1 0) (E.active e lt)))
      (λ b.
      let ge = ltb-false e (length (first_edges j w)) b in
      sum_zero (λ hs. item_times e t (map (item w) hs)) loops (loop_none e t ge)
      ∙ sym (ap (λ (x : EdgeData). cond {A = ℕ} x.active 1 0) (get_or-eq_default (first_edges j w) no_edge_data ge)))
      (both_ways (ltb e (length (first_edges j w))))

  -- APART

  loop_apart : (hs : List ℕ) → hs ∈ loops → (e : ℕ) → length (keep (λ (x : Item). eqb x.edge e) (map (item w) hs)) ≤ 1
  loop_apart hs m e =
      let one = at_most_one (keep (λ y. eqb (item w y).edge e) hs) (keep_nodup (λ y. eqb (item w y).edge e) hs (loop_nodup hs m))
      (λ x y ix iy.
      let a = keep_in (λ z. eqb (item w z).edge e) hs x ix in
      let b = keep_in (λ z. eqb (item w z).edge e) hs y iy in
      ⊎_elim (λ q. q) (λ q. absurd (loop_face_lem hs m y x b.0 a.0 q))
      (E.one_edge x y (loop_kept_lem hs m x a.0) (loop_kept_lem hs m y b.0) (eqb-true _ e a.1 ∙ sym (eqb-true _ e b.1)))) in
      omega (arith, one, keep_map_length (λ (x : Item). eqb x.edge e) (item w) hs)

  pub loops_sound : LoopsSound (first_edges j w) (map (map (item w)) loops)
  loops_sound = record {
    closed = λ l m. let r = map_in (map (item w)) loops l m in subst (λ z. (x : ℕ) × Trail (first_edges j w) x z x) (sym r.2) (loop_closed r.0 r.1);
    once = edges_once;
    apart = λ l m e. let r = map_in (map (item w)) loops l m in subst (λ z. length (keep (λ (x : Item). eqb x.edge e) z) ≤ 1) (sym r.2) (loop_apart r.0 r.1 e);
  }

-- THE START OF JOINING

-- the items of the loops before any change
pub items_are : (w : Walked) (ls : List (List ℕ))
    → map (λ (l : FaceLoop). l.items) (face_loops w.uses w.twins w.merge.removed (merged_faces w.merge) ls) ≡ map (map (item w)) ls
unfolding face_loop
items_are w [] = refl
items_are w (l ∷ ls) = ap (λ r. map (item w) l ∷ r) (items_are w ls)

module _ (j : Job) (w : Walked) (G : Ground j w) (F : FansHold j w) (E : EdgesHold j w) where
  pub starts_at_fans : EndsAreFans (unjoined j (fans_of j w)).edges (fans_of j w).names
  unfolding unjoined fans_of
  starts_at_fans = ends_are_fans j w G F E

  pub starts_sound : LoopsSound (unjoined j (fans_of j w)).edges (map (λ l. l.items) (unjoined j (fans_of j w)).loops)
  unfolding unjoined fans_of
  starts_sound = subst (LoopsSound (first_edges j w)) (sym (items_are w (loops_of w.circuits))) (loops_sound j w G F E)
