-- In sound loops that lie one after the other no item stands twice, so that they can be linked.
use Prim.Native.Nat.{ℕ, ◌+◌, ◌*◌, ◌-◌, ◌/◌, ◌≤◌, ◌<◌}
use Rattle.std.proofs.Common.{arith, sym, subst, ◌∙◌}
use Rattle.std.proofs.Math.Decide.{ℕ_discrete, dec_lt}
use Rattle.std.specs.Prelude.{◌≡◌, refl, List, map, Bool, true, false, cond, length}
use Rattle.std.proofs.Math.Path.{ap}
use Rattle.std.proofs.Math.ListN.{get_or}
use Rattle.std.proofs.lemmas.List.{length-map}
use Rattle.fields.specs.declared.Span.{Span}
use Rattle.fields.specs.Spans.{span_at}
use Rattle.lists.specs.Lists.{◌∈◌, below, sum_of}
use Rattle.lists.specs.Runs.{in_below, length_below, get_or_below}
use Rattle.lists.specs.Members.{in_map, get_or_map}
use Rattle.lists.specs.Membership.{get_or_in}
use Rattle.lists.specs.KeepCounts.{keep_counts, sum_member}
use Rattle.lists.specs.Sums.{sum_ge₂, sum_map, keep_sum}
use Rattle.lists.specs.Stretches.{length_stretch, part_get}
use Rattle.rules.specs.declared.Item.{Item}
use Rattle.rules.specs.declared.EdgeData.{EdgeData}
use Rattle.rules.specs.Join.{edge_data_at}
use Rattle.edges.specs.Table.{item_in, loop_at, Laid}
use Rattle.theorems.specs.Linked.{is_item, item_times, LoopsSound}
use Rattle.theorems.proofs.EdgesAfter.{active_inside}
use Rattle.theorems.proofs.Trails.{is_item_lem, loop_sound}
use Rattle.links.specs.Tables.{IsLoop}
use Rattle.links.specs.Link.{InLoop, Linkable}

-- loop k as it is laid out, and all loops
abbrev pub laid_loop : List ℕ → List Span → ℕ → List Item
laid_loop items stretches k = map item_in (loop_at items (span_at stretches k))

abbrev pub laid_loops : List ℕ → List Span → List (List Item)
laid_loops items stretches = map (laid_loop items stretches) (below (length stretches))

-- two places count as two
two_places : {A : Type 0} (f : A → ℕ) (l : List A) (i j : ℕ) (d : A) → (i ≡ j → ⊥) → i < length l → j < length l → f (get_or l i d) + f (get_or l j d) ≤ sum_of f l
two_places f l i j d n p q =
    elim (dec_lt i j) [
      | yes h ↦ sum_ge₂ f l i j d h q
      | no h ↦ omega (arith, sum_ge₂ f l j i d (omega (arith, n)) p)
    ]

module _ (es : List EdgeData) (items : List ℕ) (stretches : List Span) (laid : Laid stretches items) (sound : LoopsSound es (laid_loops items stretches)) where
  none : Item
  none = item_in 0

  -- what stands in a slot, in its loop
  loop_size : (j : ℕ) → IsLoop stretches j → length (laid_loop items stretches j) ≡ (span_at stretches j).end - (span_at stretches j).start
  loop_size j q = length-map (loop_at items (span_at stretches j)) item_in ∙ length_stretch items (span_at stretches j).start (span_at stretches j).end (laid.inside j q)

  place : (j r : ℕ) → InLoop stretches j r → r - (span_at stretches j).start < length (laid_loop items stretches j)
  place j r p = omega (arith, loop_size j p.is, p.from_start, p.to_end)

  stands_at : (j r : ℕ) → InLoop stretches j r → get_or (laid_loop items stretches j) (r - (span_at stretches j).start) none ≡ item_in (get_or items r 0)
  unfolding none
  stands_at j r p =
      let a : ℕ = (span_at stretches j).start in
      let e : ℕ = (span_at stretches j).end in
      get_or_map item_in (loop_at items (span_at stretches j)) (r - a) (item_in 0) 0 (omega (arith, length_stretch items a e (laid.inside j p.is), p.from_start, p.to_end))
      ∙ ap item_in (part_get items a e r 0 p.from_start p.to_end)

  stands_in_loop : (j r : ℕ) → InLoop stretches j r → item_in (get_or items r 0) ∈ laid_loop items stretches j
  stands_in_loop j r p = subst (λ x. x ∈ laid_loop items stretches j) (stands_at j r p) (get_or_in (laid_loop items stretches j) (r - (span_at stretches j).start) none (place j r p))

  loop_there : (j : ℕ) → IsLoop stretches j → laid_loop items stretches j ∈ laid_loops items stretches
  loop_there j q = in_map (laid_loop items stretches) (in_below (length stretches) j (omega arith))

  -- an item stands at most once
  most : (x : Item) → sum_of (item_times x.edge x.sense) (laid_loops items stretches) ≤ 1
  most x = subst (λ n. n ≤ 1) (sym (sound.once x.edge x.sense)) (few (edge_data_at es x.edge).active)
    where
      few : (t : Bool) → cond t 1 0 ≤ 1
      few true = omega arith
      few false = omega arith

  -- not twice in one loop
  same_loop : (j r s : ℕ) → InLoop stretches j r → InLoop stretches j s → get_or items r 0 ≡ get_or items s 0 → (r ≡ s → ⊥) → ⊥
  same_loop j r s p q e n =
      let x : Item = item_in (get_or items r 0) in
      let l : List Item = laid_loop items stretches j in
      let a : ℕ = (span_at stretches j).start in
      let f : Item → ℕ = λ y. cond (is_item x.edge x.sense y) 1 0 in
      let hit : f x ≡ 1 = ap (λ t. cond t 1 0) (is_item_lem x.edge x.sense x refl refl) in
      let apart : (r - a ≡ s - a → ⊥) = λ z. n (omega (arith, z, p.from_start, q.from_start)) in
      omega (
        arith,
        two_places f l (r - a) (s - a) none apart (place j r p) (place j s q),
        ap f (stands_at j r p) ∙ hit,
        ap f (stands_at j s q ∙ ap item_in (sym e)) ∙ hit,
        keep_sum (is_item x.edge x.sense) l,
        sum_member (item_times x.edge x.sense) (loop_there j p.is),
        most x,
      )

  -- and not in two loops
  two_loops : (j k r s : ℕ) → InLoop stretches j r → InLoop stretches k s → get_or items r 0 ≡ get_or items s 0 → (j ≡ k → ⊥) → ⊥
  two_loops j k r s p q e n =
      let x : Item = item_in (get_or items r 0) in
      let m : ℕ = length stretches in
      let g : ℕ → ℕ = λ i. item_times x.edge x.sense (laid_loop items stretches i) in
      let one : 1 ≤ g j = keep_counts (is_item x.edge x.sense) (stands_in_loop j r p) (is_item_lem x.edge x.sense x refl refl) in
      let other : 1 ≤ g k = keep_counts (is_item x.edge x.sense) (subst (λ y. y ∈ laid_loop items stretches k) (ap item_in (sym e)) (stands_in_loop k s q)) (is_item_lem x.edge x.sense x refl refl) in
      let jm : j < m = omega (arith, p.is) in
      let km : k < m = omega (arith, q.is) in
      omega (
        arith,
        two_places g (below m) j k 0 n (omega (arith, length_below m)) (omega (arith, length_below m)),
        ap g (get_or_below m j 0 jm),
        ap g (get_or_below m k 0 km),
        sum_map (item_times x.edge x.sense) (laid_loop items stretches) (below m),
        most x,
      )

  pub sound_spread : (j k r s : ℕ) → InLoop stretches j r → InLoop stretches k s → get_or items r 0 ≡ get_or items s 0 → r ≡ s
  sound_spread j k r s p q e =
      elim (ℕ_discrete r s) [
        | yes z ↦ z
        | no n ↦
            absurd
            (elim (ℕ_discrete j k) [
              | yes w ↦ same_loop j r s p (subst (λ i. InLoop stretches i s) (sym w) q) e n
              | no w ↦ two_loops j k r s p q e w
            ])
      ]

  -- the items are of edges that there are
  pub sound_known : (j r : ℕ) → InLoop stretches j r → get_or items r 0 < 2 * length es
  sound_known j r p =
      let x : ℕ = get_or items r 0 in
      let z : x / 2 < length es =
      active_inside es (x / 2) ((loop_sound es (laid_loops items stretches) sound (laid_loop items stretches j) (loop_there j p.is)).actives (item_in x) (stands_in_loop j r p)) in
      omega arith

  pub sound_linkable : (slots codes : ℕ) → length items ≤ slots → length stretches ≤ slots → 2 * length es ≤ codes → Linkable items stretches slots codes
  sound_linkable slots codes n m h = record {
    laid = laid;
    spread = sound_spread;
    known = λ j r p. omega (arith, sound_known j r p);
    items_fit = n;
    loops_fit = m;
  }
