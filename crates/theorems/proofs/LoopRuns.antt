-- Over a run of edge joining the loops stay sound, and each join finds exactly two loop places.
use Rattle.std.specs.Prelude.{◌≡◌, refl, Bool, true, not, cond, ℕ, ◌+◌, ◌≤◌, length, get_or, eqb}
use Rattle.std.proofs.Common.{sym, ap₂, ◌∙◌, ⊎_elim, true≢false, arith}
use Rattle.std.proofs.Math.Path.{ap, subst}
use mathlib.Core.List.Memᴰ
use mathlib.Core.List.{List, [], ◌∷◌, map}
use Rattle.lists.specs.Lists.{◌∈◌, keep, sum_of, neighbours}
use Rattle.lists.specs.Members.{in_map, map_in, flat_map_length}
use Rattle.lists.specs.Sums.{sum_same, sum_both, sum_map, keep_sum}
use Rattle.lists.specs.KeepCounts.{sum_cond}
use Rattle.rules.specs.declared.Sense.{Sense}
use Rattle.rules.specs.declared.Sense.TheVariants.{Same, Reversed}
use Rattle.rules.specs.declared.Item.{Item}
use Rattle.rules.specs.declared.EdgeData.{EdgeData}
use Rattle.rules.specs.Sense.{reverse}
use Rattle.rules.specs.Job.{Answer}
use Rattle.rules.specs.Edges.{FaceLoop}
use Rattle.rules.specs.Join.{Joining, edge_data_at, is_place, place_in, replaced_in, replaced_all, joined_edge, join_edges}
use Rattle.rules.specs.Join.{join_at, ring_at}
use Rattle.rules.specs.Sew.{Fanned}
use Rattle.theorems.specs.Demand3.{Change, Run, ends_of, is_ring, is_loop_place, found_in, items_with, TwoPlaces, EachJoin}
use Rattle.theorems.specs.Linked.{is_item, item_times, LoopsSound}
use Rattle.theorems.specs.Ends.{one_at, TwoEdges}
use Rattle.theorems.proofs.Ends.{ends_active, two_edges, one_edge}
use Rattle.theorems.specs.Changes.{AsRing, AsJoin}
use Rattle.theorems.proofs.Changes.{ring_is}
use Rattle.theorems.specs.ChangeRuns.{Steps}
use Rattle.theorems.proofs.ChangeRuns.{run_steps}
use Rattle.theorems.proofs.Trails.{both_items, edge_times_lem, loop_sound}
use Rattle.theorems.specs.Trails.{edge_times, Closed, LoopSound}
use Rattle.theorems.proofs.RingLoops.{ring_keeps}
use Rattle.theorems.specs.Places.{in_item, out_item, times_of}
use Rattle.theorems.proofs.Places.{place_agrees, places_count}
use Rattle.theorems.proofs.EdgesAfter.{new_edge, actives_after}
use Rattle.theorems.specs.JoinLoops.{joined_items, new_item, LoopJoined, lost, gained}
use Rattle.theorems.proofs.JoinLoops.{loop_joined}
use Rattle.theorems.specs.LoopRuns.{items_of, SoundLoops}

-- the two items of an edge together
either_item : (c : ℕ) (u : Sense) (e : ℕ) (t : Sense)
    → cond (is_item e t (record { edge = c; sense = u })) 1 0 + cond (is_item e t (record { edge = c; sense = reverse u })) 1 0 ≡ one_at c e
unfolding one_at
either_item c u e t = both_items (eqb c e) u t

module _ (es : List EdgeData) (v a b : ℕ) (k : TwoEdges es v a b) (ls : List (List Item)) (s : LoopsSound es ls) where
  abbrev firsts : List Item → ℕ
  firsts l = times_of (in_item es v a) l

  abbrev seconds : List Item → ℕ
  seconds l = times_of (in_item es v b) l

  -- each of the two items that end at the corner stands once over all loops
  first_total : sum_of firsts ls ≡ 1
  first_total = s.once a (in_item es v a).sense ∙ ap (λ c. cond c 1 0) (ends_active (edge_data_at es a) v (omega (arith, k.first_once)))

  second_total : sum_of seconds ls ≡ 1
  second_total = s.once b (in_item es v b).sense ∙ ap (λ c. cond c 1 0) (ends_active (edge_data_at es b) v (omega (arith, k.second_once)))

  each : (l : List Item) → l ∈ ls → LoopJoined es v a b l (joined_items es v a b l)
  each l m = loop_joined es v a b k l (loop_sound es ls s l m)

  lost_total : (e : ℕ) (t : Sense) → sum_of (λ l. lost es v a b e t (firsts l) (seconds l)) ls ≡ lost es v a b e t 1 1
  lost_total e t =
      let p : Bool = is_item e t (in_item es v a) in
      let q : Bool = is_item e t (out_item es v b) in
      let u : Bool = is_item e t (in_item es v b) in
      let w : Bool = is_item e t (out_item es v a) in
      sum_both (λ l. cond p (firsts l) 0 + cond q (firsts l) 0) (λ l. cond u (seconds l) 0 + cond w (seconds l) 0) ls
      ∙ ap₂ (λ m n. m + n)
      (sum_both (λ l. cond p (firsts l) 0) (λ l. cond q (firsts l) 0) ls ∙ ap₂ (λ m n. m + n) (total p firsts first_total) (total q firsts first_total))
      (sum_both (λ l. cond u (seconds l) 0) (λ l. cond w (seconds l) 0) ls ∙ ap₂ (λ m n. m + n) (total u seconds second_total) (total w seconds second_total))
    where
      total : (c : Bool) (f : List Item → ℕ) → sum_of f ls ≡ 1 → sum_of (λ l. cond c (f l) 0) ls ≡ cond c 1 0
      total c f e = sum_cond c f ls ∙ ap (λ n. cond c n 0) e

  gained_total : (e : ℕ) (t : Sense) → sum_of (λ l. gained es e t (firsts l) (seconds l)) ls ≡ gained es e t 1 1
  gained_total e t =
      let p : Bool = is_item e t (new_item es Same) in
      let q : Bool = is_item e t (new_item es Reversed) in
      sum_both (λ l. cond p (firsts l) 0) (λ l. cond q (seconds l) 0) ls
      ∙ ap₂ (λ m n. m + n) (sum_cond p firsts ls ∙ ap (λ n. cond p n 0) first_total) (sum_cond q seconds ls ∙ ap (λ n. cond q n 0) second_total)

  pub join_keeps : LoopsSound (join_edges v a b es) (map (joined_items es v a b) ls)
  join_keeps = record { closed = closed; once = once; apart = apart }
    where
      closed : (l : List Item) → l ∈ map (joined_items es v a b) ls → Closed (join_edges v a b es) l
      closed l m = let r = map_in (joined_items es v a b) ls l m in subst (Closed (join_edges v a b es)) (sym r.2) (each r.0 r.1).closed

      apart : (l : List Item) → l ∈ map (joined_items es v a b) ls → (e : ℕ) → length (keep (λ (x : Item). eqb x.edge e) l) ≤ 1
      apart l m e =
          let r = map_in (joined_items es v a b) ls l m in
          subst (λ h. length (keep (λ (x : Item). eqb x.edge e) h) ≤ 1) (sym r.2) ((each r.0 r.1).apart e)

      once : (e : ℕ) (t : Sense) → sum_of (item_times e t) (map (joined_items es v a b) ls) ≡ cond (edge_data_at (join_edges v a b es) e).active 1 0
      once e t =
          let before : List Item → ℕ = λ l. item_times e t l + gained es e t (firsts l) (seconds l) in
          let after : List Item → ℕ = λ l. item_times e t (joined_items es v a b l) + lost es v a b e t (firsts l) (seconds l) in
          omega (
            arith,
            sum_map (item_times e t) (joined_items es v a b) ls,
            sum_same after before ls (λ l m. (each l m).counts e t),
            sum_both (λ l. item_times e t (joined_items es v a b l)) (λ l. lost es v a b e t (firsts l) (seconds l)) ls,
            sum_both (item_times e t) (λ l. gained es e t (firsts l) (seconds l)) ls,
            lost_total e t,
            gained_total e t,
            s.once e t,
            either_item a (in_item es v a).sense e t,
            either_item b (in_item es v b).sense e t,
            either_item (length es) Same e t,
            actives_after es v a b k e,
          )

-- ONE CHANGE

-- the loops after a join, as items
joined_items_lem : (es : List EdgeData) (v a b : ℕ) (ls : List FaceLoop) → items_of (replaced_all es v a b (length es) ls) ≡ map (joined_items es v a b) (items_of ls)
unfolding replaced_in joined_items
joined_items_lem es v a b [] = refl
joined_items_lem es v a b (l ∷ ls) = ap (λ r. joined_items es v a b l.items ∷ r) (joined_items_lem es v a b ls)

module _ {s t : Joining} {v : ℕ} where
  pub ring_kept : AsRing s v t → SoundLoops s → SoundLoops t
  unfolding ring_at
  ring_kept r sound = subst SoundLoops (sym r.after) (ring_keeps s.edges v r.edge (one_edge s.edges v r.edge r.ends) (items_of s.loops) sound)

  pub join_kept : AsJoin s v t → SoundLoops s → SoundLoops t
  unfolding join_at
  join_kept r sound =
      let es : List EdgeData = s.edges in
      let k = two_edges es v r.first r.second r.ends r.lower in
      subst SoundLoops (sym r.after)
      (subst (LoopsSound (join_edges v r.first r.second es)) (sym (joined_items_lem es v r.first r.second s.loops))
      (join_keeps es v r.first r.second k (items_of s.loops) sound))

  -- the new edge is active
  new_active : AsJoin s v t → (edge_data_at t.edges (length s.edges)).active ≡ true
  unfolding join_at joined_edge
  new_active r =
      let es : List EdgeData = s.edges in
      let k = two_edges es v r.first r.second r.ends r.lower in
      ap (λ (j : Joining). (edge_data_at j.edges (length es)).active) r.after ∙ ap (λ (e : EdgeData). e.active) (new_edge es v r.first r.second k)

-- a count over the loops that is, in each, that of the two items that end at the corner
two_in_all : (es : List EdgeData) (v a b : ℕ) → TwoEdges es v a b → (ls : List FaceLoop) → LoopsSound es (items_of ls) → (f : FaceLoop → ℕ)
    → ((l : FaceLoop) → l ∈ ls → f l ≡ times_of (in_item es v a) l.items + times_of (in_item es v b) l.items) → sum_of f ls ≡ 2
two_in_all es v a b k ls s f each =
    let fa : List Item → ℕ = times_of (in_item es v a) in
    let fb : List Item → ℕ = times_of (in_item es v b) in
    omega (
      arith,
      sum_same f (λ l. fa l.items + fb l.items) ls each,
      sum_both (λ (l : FaceLoop). fa l.items) (λ l. fb l.items) ls,
      sum_map fa (λ (l : FaceLoop). l.items) ls,
      sum_map fb (λ (l : FaceLoop). l.items) ls,
      first_total es v a b k (items_of ls) s,
      second_total es v a b k (items_of ls) s,
    )

pub join_places : (c : Change) → AsJoin c.before c.corner c.after → SoundLoops c.before → TwoPlaces c
join_places c r sound =
    record {
      places = flat_map_length (λ (l : FaceLoop). keep (is_loop_place es v) (neighbours l.items)) ls
          ∙ two_in_all es v a b k ls sound (λ l. length (keep (is_loop_place es v) (neighbours l.items))) (λ l m. places_count es v a b k l.items (one l m));
      found = by_ends (λ x y. length (found_in es v x y ls))
          ∙ keep_sum (λ (l : FaceLoop). not (eqb (place_in es v a b l.items) (length l.items))) ls
          ∙ two_in_all es v a b k ls sound (λ l. cond (not (eqb (place_in es v a b l.items) (length l.items))) 1 0)
          (λ l m. (each es v a b k (items_of ls) sound l.items (in_map (λ x. x.items) m)).places);
      replaced = replaced;
      agrees = λ l m p i. by_ends (λ x y. is_place es v x y p) ∙ place_agrees es v a b k l.items (one l m) p i;
    }
  where
    es : List EdgeData
    es = c.before.edges

    ls : List FaceLoop
    ls = c.before.loops

    v : ℕ
    v = c.corner

    a : ℕ
    a = r.first

    b : ℕ
    b = r.second

    k : TwoEdges es v a b
    k = two_edges es v a b r.ends r.lower

    -- what is said of the ends at the corner is said of the two edges
    by_ends : {A : Type 0} (f : ℕ → ℕ → A) → f (get_or (ends_of c) 0 0) (get_or (ends_of c) 1 0) ≡ f a b
    by_ends f = ap₂ f (ap (λ l. get_or l 0 0) r.ends) (ap (λ l. get_or l 1 0) r.ends)

    -- each loop is sound
    one : (l : FaceLoop) → l ∈ ls → LoopSound es l.items
    one l m = loop_sound es (items_of ls) sound l.items (in_map (λ x. x.items) m)

    replaced : length (items_with (length c.before.edges) c.after.loops) ≡ 2
    replaced =
        let n : ℕ = length es in
        let ls' : List FaceLoop = c.after.loops in
        let after : SoundLoops c.after = join_kept r sound in
        let new = ap (λ x. cond {A = ℕ} x 1 0) (new_active r) in
        omega (
          arith,
          flat_map_length (λ (l : FaceLoop). keep (λ x. eqb x.edge n) l.items) ls',
          sum_same (λ (l : FaceLoop). edge_times n l.items) (λ l. item_times n Same l.items + item_times n Reversed l.items) ls' (λ l m. edge_times_lem n Same l.items),
          sum_both (λ (l : FaceLoop). item_times n Same l.items) (λ l. item_times n Reversed l.items) ls',
          sum_map (item_times n Same) (λ (l : FaceLoop). l.items) ls',
          sum_map (item_times n Reversed) (λ (l : FaceLoop). l.items) ls',
          after.once n Same,
          after.once n Reversed,
        )

-- A RUN

steps_places : (names : List ℕ) (s t : Joining) (cs : List Change) → Steps names s cs t → SoundLoops s → EachJoin cs × SoundLoops t
steps_places names s t [] r sound = (λ c m. absurd (Memᴰ.not-nil m), subst SoundLoops r sound)
steps_places names s t (c ∷ cs) r sound =
    let before : SoundLoops c.before = subst SoundLoops (sym r.0) sound in
    let after : SoundLoops c.after = ⊎_elim (λ m. ring_kept m before) (λ m. join_kept m before) r.2 in
    let ih = steps_places names c.after t cs r.3 after in (
      λ x m join.
          ⊎_elim
          (λ e. subst TwoPlaces (sym e)
          (⊎_elim (λ q. absurd (true≢false (sym (ring_is c q) ∙ ap is_ring (sym e) ∙ join))) (λ q. join_places c q before) r.2))
          (λ q. ih.0 x q join)
          (Memᴰ.cases_cons m),
      ih.1,
    )

-- from sound loops, each join of a run finds exactly two loop places, and the loops are sound at its end
pub run_places : (answers : List Answer) (f : Fanned) (s t : Joining) (cs : List Change) → SoundLoops s → Run answers f s cs t → EachJoin cs × SoundLoops t
run_places answers f s t cs sound r = steps_places f.names s t cs (run_steps answers f s t cs r) sound
