-- Edges before any change: the item of a kept use starts at its fan and ends at its twin's; items of kept uses are the edges in both senses, each once.
use Rattle.std.specs.Prelude.{ℕ, ◌<◌, min, ◌≡◌, ◌⊎◌, true, not, cond, length, ltb}
use Rattle.std.proofs.Common.{arith, sym, ◌∙◌, subst, inl, inr, ltb-true, ltb-false, lt-ltb}
use Rattle.std.proofs.Math.Path.{refl, ap}
use Rattle.std.proofs.Math.Logic.{⊎_elim}
use Rattle.std.proofs.Math.ListN.{get_or}
use Rattle.std.proofs.lemmas.List.{length-map}
use Rattle.std.proofs.lemmas.Bool.{not-true}
use Rattle.lists.specs.Lists.{below, ◌∈◌, Nodup, index_of}
use Rattle.lists.specs.Tests.{both_ways, and_both, both_and, not_is}
use Rattle.lists.specs.Membership.{get_or_in}
use Rattle.lists.specs.Runs.{in_below, below_in, below_nodup}
use Rattle.lists.specs.Members.{in_keep, keep_in, keep_nodup, map_in, get_or_map, index_of_in, index_of_at}
use Rattle.rules.specs.declared.Sense.{Sense}
use Rattle.rules.specs.declared.Sense.TheVariants.{Same, Reversed}
use Rattle.rules.specs.declared.Item.{Item}
use Rattle.rules.specs.declared.EdgeData.{EdgeData}
use Rattle.rules.specs.Job.{unset, Job}
use Rattle.rules.specs.Read.{use_at, edge_of_use}
use Rattle.rules.specs.Groups.{label_of}
use Rattle.rules.specs.Merge.{is_removed}
use Rattle.rules.specs.Edges.{lower_kept, fan_or_none, own_start, own_end, edge_data, item_of}
use Rattle.rules.specs.Join.{no_edge_data, edge_data_at, start_fan, end_fan, item_start, item_end}
use Rattle.rules.specs.Sew.{Walked}
use Rattle.theorems.specs.Demand3.{KeptUse}
use Rattle.rules.proofs.SenseLaws.{sense_cases, sense_apart, start_against, end_against}
use Rattle.theorems.specs.Ground.{on_ring, Ground}
use Rattle.theorems.specs.Fanning.{twin, succ, fan_labels, FansHold}
use Rattle.theorems.proofs.Fanning.{kept_ended, ring_twin, twin_sense, ring_succ, twin_kept}
use Rattle.theorems.specs.Edging.{lowers, edge_for, first_edges, item, fan_at, EdgesHold}

-- along its own sense an edge leads from the one end to the other
own_start_lem : (s : Sense) (e : EdgeData) (x y : ℕ) → e.start ≡ own_start s x y → e.end ≡ own_end s x y → start_fan s e ≡ x
own_start_lem Same e x y p q = p
own_start_lem Reversed e x y p q = q

own_end_lem : (s : Sense) (e : EdgeData) (x y : ℕ) → e.start ≡ own_start s x y → e.end ≡ own_end s x y → end_fan s e ≡ y
own_end_lem Same e x y p q = q
own_end_lem Reversed e x y p q = p

module _ (j : Job) (w : Walked) (G : Ground j w) (F : FansHold j w) where
  abbrev low : ℕ → ℕ
  low h = min h (twin w h)

  abbrev sense : ℕ → Sense
  sense h = (use_at w.uses h).sense

  -- THE EDGE OF A KEPT PAIR

  there_is : (h : ℕ) → KeptUse w h → fan_or_none (edge_of_use j.edges (use_at w.uses h)) (fan_labels j w) (succ w h) ≡ fan_at j w (twin w h)
  there_is h k =
      ap (λ t. cond t unset (label_of (fan_labels j w) (succ w h))) (sym (ring_twin j w G h k.0))
      ∙ ⊎_elim
      (λ r. ap (λ t. cond t unset (label_of (fan_labels j w) (succ w h))) r ∙ sym (ap (λ t. cond t unset (label_of (fan_labels j w) (twin w h))) r))
      (λ r. ap (λ x. cond (on_ring j w (twin w h)) unset x) (F.onward h (kept_ended j w h k (sym (ring_twin j w G h k.0) ∙ r))))
      (both_ways (on_ring j w (twin w h)))

  edge_start : (h : ℕ) → KeptUse w h → (edge_for j w h).start ≡ own_start (sense h) (fan_at j w h) (fan_at j w (twin w h))
  unfolding edge_data
  edge_start h k = ap (λ x. own_start (sense h) (fan_at j w h) x) (there_is h k)

  edge_end : (h : ℕ) → KeptUse w h → (edge_for j w h).end ≡ own_end (sense h) (fan_at j w h) (fan_at j w (twin w h))
  unfolding edge_data
  edge_end h k = ap (λ x. own_end (sense h) (fan_at j w h) x) (there_is h k)

  edge_active : (h : ℕ) → (edge_for j w h).active ≡ true
  unfolding edge_data
  edge_active h = refl

  along_start : (h : ℕ) → KeptUse w h → start_fan (sense h) (edge_for j w h) ≡ fan_at j w h
  along_start h k = own_start_lem (sense h) (edge_for j w h) (fan_at j w h) (fan_at j w (twin w h)) (edge_start h k) (edge_end h k)

  along_end : (h : ℕ) → KeptUse w h → end_fan (sense h) (edge_for j w h) ≡ fan_at j w (twin w h)
  along_end h k = own_end_lem (sense h) (edge_for j w h) (fan_at j w h) (fan_at j w (twin w h)) (edge_start h k) (edge_end h k)

  -- LOWER USES

  low_cases : (h : ℕ) → h < length w.uses → ((low h ≡ h) × (h < twin w h)) ⊎ ((low h ≡ twin w h) × (twin w h < h))
  low_cases h lt =
      let ne : twin w h ≡ h → ⊥ = G.twins.other h lt in
      ⊎_elim
      (λ e. let z = ltb-true h (twin w h) e in inl (omega arith, z))
      (λ e. let z = ltb-false h (twin w h) e in inr (omega arith, omega (arith, ne)))
      (both_ways (ltb h (twin w h)))

  lower_in : (h : ℕ) → KeptUse w h → h < twin w h → h ∈ lowers w
  lower_in h k lt =
      in_keep (lower_kept w.twins w.merge.removed) (in_below (length w.twins) h (omega (arith, k.0, G.twins.size)))
      (both_and _ _ (not_is (is_removed w.merge.removed h) k.1) (lt-ltb h (twin w h) lt))

  in_lower : (h : ℕ) → h ∈ lowers w → KeptUse w h × (h < twin w h)
  in_lower h m =
      let r = keep_in (lower_kept w.twins w.merge.removed) (below (length w.twins)) h m in
      let b = below_in (length w.twins) h r.0 in
      let t = and_both (not (is_removed w.merge.removed h)) (ltb h (twin w h)) r.1 in
      ((omega (arith, b, G.twins.size), not-true (is_removed w.merge.removed h) t.0), ltb-true h (twin w h) t.1)

  low_in_lem : (h : ℕ) → KeptUse w h → low h ∈ lowers w
  low_in_lem h k =
      ⊎_elim
      (λ c. subst (λ x. x ∈ lowers w) (sym c.0) (lower_in h k c.1))
      (λ c. subst (λ x. x ∈ lowers w) (sym c.0) (lower_in (twin w h) (twin_kept j w G h k) (omega (arith, c.1, G.twins.twice h k.0))))
      (low_cases h k.0)

  lowers_nodup : Nodup (lowers w)
  lowers_nodup = keep_nodup (lower_kept w.twins w.merge.removed) (below (length w.twins)) (below_nodup (length w.twins))

  edges_length : length (first_edges j w) ≡ length (lowers w)
  edges_length = length-map (lowers w) (edge_for j w)

  edge_at_lem : (e : ℕ) → e < length (lowers w) → edge_data_at (first_edges j w) e ≡ edge_for j w (get_or (lowers w) e 0)
  edge_at_lem e lt = get_or_map (edge_for j w) (lowers w) e no_edge_data 0 lt

  -- ITEMS

  item_place : (h : ℕ) → KeptUse w h → ((item w h).edge < length (lowers w)) × (get_or (lowers w) (item w h).edge 0 ≡ low h)
  unfolding item_of
  item_place h k = index_of_in (low h) (lowers w) (low_in_lem h k)

  item_edge : (h : ℕ) → KeptUse w h → edge_data_at (first_edges j w) (item w h).edge ≡ edge_for j w (low h)
  item_edge h k = let p = item_place h k in edge_at_lem (item w h).edge p.0 ∙ ap (edge_for j w) p.1

  item_sense : (h : ℕ) → (item w h).sense ≡ sense h
  unfolding item_of
  item_sense h = refl

  item_starts : (h : ℕ) → KeptUse w h → item_start (first_edges j w) (item w h) ≡ fan_at j w h
  unfolding item_of
  item_starts h k =
      let t = twin_kept j w G h k in
      ap (start_fan (sense h)) (item_edge h k)
      ∙ ⊎_elim
      (λ c. ap (λ x. start_fan (sense h) (edge_for j w x)) c.0 ∙ along_start h k)
      (λ c. ap (λ x. start_fan (sense h) (edge_for j w x)) c.0 ∙ start_against (sense h) (edge_for j w (twin w h))
      ∙ ap (λ s. end_fan s (edge_for j w (twin w h))) (sym (twin_sense j w G h k.0)) ∙ along_end (twin w h) t ∙ ap (fan_at j w) (G.twins.twice h k.0))
      (low_cases h k.0)

  item_ends : (h : ℕ) → KeptUse w h → item_end (first_edges j w) (item w h) ≡ fan_at j w (twin w h)
  unfolding item_of
  item_ends h k =
      let t = twin_kept j w G h k in
      ap (end_fan (sense h)) (item_edge h k)
      ∙ ⊎_elim
      (λ c. ap (λ x. end_fan (sense h) (edge_for j w x)) c.0 ∙ along_end h k)
      (λ c. ap (λ x. end_fan (sense h) (edge_for j w x)) c.0 ∙ end_against (sense h) (edge_for j w (twin w h))
      ∙ ap (λ s. start_fan s (edge_for j w (twin w h))) (sym (twin_sense j w G h k.0)) ∙ along_start (twin w h) t)
      (low_cases h k.0)

  fan_onward : (h : ℕ) → KeptUse w h → fan_at j w (twin w h) ≡ fan_at j w (succ w h)
  fan_onward h k = sym (there_is h k) ∙ ap (λ t. cond t unset (label_of (fan_labels j w) (succ w h))) (sym (ring_succ j w G h k))

  twin_edge : (h : ℕ) → KeptUse w h → (item w (twin w h)).edge ≡ (item w h).edge
  unfolding item_of
  twin_edge h k = let m : low (twin w h) ≡ low h = omega (arith, G.twins.twice h k.0) in ap (λ x. index_of x (lowers w)) m

  one_edge : (h k : ℕ) → KeptUse w h → KeptUse w k → (item w h).edge ≡ (item w k).edge → (h ≡ k) ⊎ (h ≡ twin w k)
  one_edge h k kh kk e =
      let p : low h ≡ low k = sym (item_place h kh).1 ∙ ap (λ x. get_or (lowers w) x 0) e ∙ (item_place k kk).1 in
      let th = G.twins.twice h kh.0 in
      ⊎_elim
      (λ a. ⊎_elim (λ b. inl (sym a.0 ∙ p ∙ b.0)) (λ b. inr (sym a.0 ∙ p ∙ b.0)) (low_cases k kk.0))
      (λ a. ⊎_elim (λ b. inr (sym th ∙ ap (twin w) (sym a.0 ∙ p ∙ b.0)))
      (λ b. inl (sym th ∙ ap (twin w) (sym a.0 ∙ p ∙ b.0) ∙ G.twins.twice k kk.0)) (low_cases k kk.0))
      (low_cases h kh.0)

  one_to_one : (h k : ℕ) → KeptUse w h → KeptUse w k → item w h ≡ item w k → h ≡ k
  one_to_one h k kh kk e =
      ⊎_elim (λ p. p)
      (λ p. absurd (sense_apart (sense k) (sym (item_sense k) ∙ ap (λ (x : Item). x.sense) (sym e) ∙ item_sense h ∙ ap sense p ∙ twin_sense j w G k kk.0)))
      (one_edge h k kh kk (ap (λ (x : Item). x.edge) e))

  -- the lower use of an edge
  lower_of_lem : (e : ℕ) → e < length (lowers w) → KeptUse w (get_or (lowers w) e 0) × ((item w (get_or (lowers w) e 0)).edge ≡ e)
  unfolding item_of
  lower_of_lem e lt =
      let r = in_lower (get_or (lowers w) e 0) (get_or_in (lowers w) e 0 lt) in
      let z = r.1 in
      let m : low (get_or (lowers w) e 0) ≡ get_or (lowers w) e 0 = omega (arith, z) in
      (r.0, ap (λ x. index_of x (lowers w)) m ∙ index_of_at (lowers w) e lowers_nodup lt)

  item_covered : (e : ℕ) (t : Sense) → e < length (lowers w) → (h : ℕ) × KeptUse w h × ((item w h).edge ≡ e) × ((item w h).sense ≡ t)
  item_covered e t lt =
      let h = get_or (lowers w) e 0 in
      let r = lower_of_lem e lt in
      ⊎_elim
      (λ q. (h, r.0, r.1, item_sense h ∙ q))
      (λ q. (twin w h, twin_kept j w G h r.0, twin_edge h r.0 ∙ r.1, item_sense (twin w h) ∙ twin_sense j w G h r.0.0 ∙ q))
      (sense_cases (sense h) t)

  edge_fans : (e : EdgeData) → e ∈ first_edges j w
      → (h : ℕ) × KeptUse w h × (e.start ≡ own_start (item w h).sense (fan_at j w h) (fan_at j w (twin w h))) × (e.end ≡ own_end (item w h).sense (fan_at j w h) (fan_at j w (twin w h)))
  unfolding item_of
  edge_fans e m =
      let r = map_in (edge_for j w) (lowers w) e m in
      let k = (in_lower r.0 r.1).0 in
      (r.0, k, ap (λ (x : EdgeData). x.start) r.2 ∙ edge_start r.0 k, ap (λ (x : EdgeData). x.end) r.2 ∙ edge_end r.0 k)

  pub edges_hold : EdgesHold j w
  unfolding item_of
  edges_hold = record {
    active = λ e lt. ap (λ (x : EdgeData). x.active) (edge_at_lem e (omega (arith, lt, edges_length))) ∙ edge_active (get_or (lowers w) e 0);
    within = λ h k. let p = item_place h k in omega (arith, p.0, edges_length);
    starts = item_starts;
    ends = item_ends;
    onward = fan_onward;
    twin_edge = twin_edge;
    twin_sense = λ h k. twin_sense j w G h k.0;
    one_edge = one_edge;
    one_to_one = one_to_one;
    covered = λ e t lt. item_covered e t (omega (arith, lt, edges_length));
    fans = edge_fans;
  }
