-- The loops in linked tables while edges are joined: sound, and with room for the items of every edge still to come.
use Rattle.std.specs.Prelude.{ℕ, suc, ◌+◌, ◌*◌, ◌<◌, ◌≤◌, ◌≡◌, List, [], ◌∷◌, map, length, set, take}
use Rattle.std.proofs.Common.{arith, sym, ap, subst, ◌∙◌, length-set}
use Rattle.std.proofs.lemmas.Grind.{common_steps}
use Rattle.std.proofs.lemmas.Simd.{map-map}
use Rattle.lists.specs.Lists.{below}
use Rattle.fields.specs.declared.Span.{Span}
use Rattle.lists.specs.Runs.{below_in}
use Rattle.lists.specs.Members.{map_same}
use Rattle.rules.specs.declared.EdgeData.{EdgeData}
use Rattle.rules.specs.Join.{edge_data_at, ends_at, active_edges, ring_of, join_edges}
use Rattle.edges.specs.Table.{item_in}
use Rattle.theorems.specs.Linked.{LoopsSound}
use Rattle.theorems.proofs.Ends.{one_edge, two_edges}
use Rattle.theorems.proofs.RingLoops.{ring_keeps}
use Rattle.theorems.specs.JoinLoops.{joined_items}
use Rattle.theorems.proofs.LoopRuns.{join_keeps}
use Rattle.links.specs.Tables.{LinkTables, loop_of, Linked}
use Rattle.links.specs.JoinLinks.{loops_of, Joined, Joinable}
use Rattle.links.specs.Link.{LinkedLoops}
use Rattle.links.specs.Spread.{laid_loop, laid_loops}
use Rattle.maximal_edges.specs.ChangeLaws.{active_few, active_ring, active_join}

-- the loops that are laid out are sound, and there are so many edges, items and loops that tables of size s hold them
pub record SoundIn (rows : List EdgeData) (count : ℕ) (items : List ℕ) (stretches : List Span) (s : ℕ) : Type 0 where
  pub sound : LoopsSound (take count rows) (laid_loops items stretches)
  pub edges_few : 2 * count ≤ s
  pub items_few : length items ≤ s
  pub stretches_few : length stretches ≤ s

-- the linked loops are sound, and the tables have room for the items of every edge still to come
pub record Hung (es : List EdgeData) (t : LinkTables) : Type 0 where
  pub linked : Linked t
  pub sound : LoopsSound es (loops_of t)
  pub room : 2 * (length es + length (active_edges es)) ≤ length t.spots

-- loops just linked
pub hung_start : (es : List EdgeData) (items : List ℕ) (t : LinkTables) → LinkedLoops items t → LoopsSound es (laid_loops items t.stretches) → 4 * length es ≤ length t.spots → Hung es t
hung_start es items t l sound room = record {
  linked = l.linked;
  sound = subst (LoopsSound es) (map_same (laid_loop items t.stretches) (loop_of t) (below (length t.stretches))
      (λ k m. let b = below_in (length t.stretches) k m in ap (map item_in) (sym (l.same k (omega arith))))) sound;
  room = omega (arith, active_few es);
}

-- a ring changes no loop
pub hung_ring : (es : List EdgeData) (v a : ℕ) {es' : List EdgeData} {t : LinkTables} → Hung es t → ends_at es v ≡ a ∷ a ∷ []
    → es' ≡ set es a (ring_of (edge_data_at es a)) → Hung es' t
hung_ring es v a {t = t} h e edges =
    subst (λ l. Hung l t) (sym edges)
    (record {
      linked = h.linked;
      sound = ring_keeps es v a (one_edge es v a e) (loops_of t) h.sound;
      room = omega (arith, h.room, active_ring es v a e, length-set es a (ring_of (edge_data_at es a)));
    })

-- one edge more
length_joined : (es : List EdgeData) (v a b : ℕ) → length (join_edges v a b es) ≡ suc (length es)
unfolding join_edges
length_joined es v a b = grind (arith, common_steps)

module _ (es : List EdgeData) (v a b : ℕ) {t : LinkTables} (h : Hung es t) (e : ends_at es v ≡ a ∷ b ∷ []) (lower : a < b) where
  -- the two edges can be joined
  pub hung_joinable : (n : ℕ) → n ≡ length es → n < 2048 → Joinable es v a b n t
  hung_joinable n en few = record {
    linked = h.linked;
    sound = h.sound;
    two = two_edges es v a b e lower;
    number = en;
    room = omega (arith, h.room, (active_join es v a b e lower).1);
    few = omega arith;
  }

  -- the loops after it
  pub hung_join : {es' : List EdgeData} {t' : LinkTables} → Joined es v a b t t' → es' ≡ join_edges v a b es → Hung es' t'
  hung_join {t' = t'} j edges =
      subst (λ l. Hung l t') (sym edges)
      (record {
        linked = j.linked;
        sound = subst (LoopsSound (join_edges v a b es)) (sym loops_now) (join_keeps es v a b (two_edges es v a b e lower) (loops_of t) h.sound);
        room = omega (arith, h.room, j.room, length_joined es v a b, (active_join es v a b e lower).0);
      })
    where
      loops_now : loops_of t' ≡ map (joined_items es v a b) (loops_of t)
      loops_now =
          ap (λ n. map (loop_of t') (below n)) j.count
          ∙ map_same (loop_of t') (λ k. joined_items es v a b (loop_of t k)) (below (length t.stretches)) (λ k m. let w = below_in (length t.stretches) k m in j.loops k (omega arith))
          ∙ sym (map-map (joined_items es v a b) (loop_of t) (below (length t.stretches)))
