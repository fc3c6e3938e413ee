-- The join of two edges at a corner in linked loops: one slot in each of two loops is rewritten, and the loops are then those of the rules.
use Rattle.std.specs.Prelude.{ℕ, zero, suc, ◌+◌, ◌*◌, ◌/◌, ◌%◌, ◌≤◌, ◌<◌, ◌≡◌, refl, List, [], ◌∷◌, ◌++◌, map, cond, length, get_or, take, drop}
use Rattle.std.proofs.Common.{arith, subst, ◌∙◌, ⊎_elim, eq-eqb, ne_eqb}
use Rattle.std.proofs.Math.Decide.{ℕ_discrete, dec_lt}
use Rattle.std.proofs.Math.Path.{sym, ap}
use mathlib.Core.List.Memᴰ
use Rattle.lists.specs.Lists.{◌∈◌, below, sum_of}
use Rattle.lists.specs.Runs.{in_below, below_in}
use Rattle.lists.specs.Members.{in_map, map_in}
use Rattle.lists.specs.Sums.{sum_nil, sum_cons}
use Rattle.lists.specs.TurnedLists.{turn_in}
use Rattle.rules.specs.declared.Sense.TheVariants.{Same, Reversed}
use Rattle.rules.specs.declared.Item.{Item}
use Rattle.rules.specs.declared.EdgeData.{EdgeData}
use Rattle.rules.specs.Sense.{sense_of, sense_number}
use Rattle.rules.specs.Join.{edge_data_at, place_in}
use Rattle.edges.specs.Table.{item_in, item_number, Laid}
use Rattle.edges.specs.LoopLaws.{item_is}
use Rattle.theorems.specs.Linked.{LoopsSound}
use Rattle.theorems.specs.Ends.{ends_one, TwoEdges}
use Rattle.theorems.proofs.Ends.{ends_active}
use Rattle.theorems.proofs.EdgesAfter.{active_inside}
use Rattle.theorems.specs.Trails.{LoopSound}
use Rattle.theorems.proofs.Trails.{loop_sound}
use Rattle.theorems.specs.Places.{in_sense, in_item, out_item, times_of, Found}
use Rattle.theorems.proofs.Places.{place_cases, found_once}
use Rattle.theorems.specs.JoinLoops.{joined_items, new_item}
use Rattle.theorems.proofs.JoinLoops.{joined_found, joined_missed}
use Rattle.links.specs.Tables.{LinkTables, IsLoop, ring_at, loop_of, Linked, fused_at, Fusable}
use Rattle.links.specs.Chains.{map_turned, Front, front}
use Rattle.links.specs.Fuse.{owner_is, can_fuse, Fused, fused}

-- all loops
abbrev pub loops_of : LinkTables → List (List Item)
loops_of t = map (loop_of t) (below (length t.stretches))

-- the number of the item of edge a that ends at fan v
unfoldable pub in_code : List EdgeData → ℕ → ℕ → ℕ
in_code es v a = item_number a (in_sense v (edge_data_at es a))

in_code_lem : (es : List EdgeData) (v a : ℕ) → item_in (in_code es v a) ≡ in_item es v a
unfolding in_code
in_code_lem es v a = item_is a (in_sense v (edge_data_at es a))

-- an item has one number
sense_number_lem : (n : ℕ) → n < 2 → sense_number (sense_of n) ≡ n
sense_number_lem zero h = refl
sense_number_lem (suc zero) h = refl
sense_number_lem (suc (suc n)) h = absurd (omega arith)

item_back : (x : ℕ) → item_number (item_in x).edge (item_in x).sense ≡ x
item_back x = let r : x % 2 < 2 = omega arith in omega (arith, sense_number_lem (x % 2) r)

item_one : (x y : ℕ) → item_in x ≡ item_in y → x ≡ y
item_one x y e = sym (item_back x) ∙ ap (λ (i : Item). item_number i.edge i.sense) e ∙ item_back y

-- a sum that is not 0 has a term that is not 0
sum_there : {A : Type 0} (f : A → ℕ) (l : List A) → 1 ≤ sum_of f l → (x : A) × (x ∈ l) × (1 ≤ f x)
sum_there f [] h = absurd (omega (arith, sum_nil f))
sum_there f (x ∷ l) h =
    elim (dec_lt 0 (f x)) [
      | yes k ↦ (x, Memᴰ.head refl, omega arith)
      | no k ↦ let r = sum_there f l (omega (arith, sum_cons f x l)) in (r.0, Memᴰ.tail r.1, r.2)
    ]

-- the join of edges a and b at corner v: the loops are those of the rules
pub record Joined (es : List EdgeData) (v a b : ℕ) (t t' : LinkTables) : Type 0 where
  pub linked : Linked t'
  pub loops : (k : ℕ) → IsLoop t.stretches k → loop_of t' k ≡ joined_items es v a b (loop_of t k)
  pub count : length t'.stretches ≡ length t.stretches
  pub room : length t'.spots ≡ length t.spots
  pub laid : (items : List ℕ) → Laid t.stretches items → Laid t'.stretches items

-- the item with number c stands in loop j, where turned to the front
record At (t : LinkTables) (j c : ℕ) (rest : List Item) : Type 0 where
  is : IsLoop t.stretches j
  at : ℕ
  next : ℕ
  others : List ℕ
  shape : drop at (ring_at t j) ++ take at (ring_at t j) ≡ c ∷ next ∷ others
  are : map item_in others ≡ rest

module _ (es : List EdgeData) (v a b : ℕ) (two : TwoEdges es v a b) (t : LinkTables) (linked : Linked t) (sound : LoopsSound es (loops_of t)) (room : 2 * length es + 1 < length t.spots) where
  sound_at : (j : ℕ) → IsLoop t.stretches j → LoopSound es (loop_of t j)
  sound_at j q = loop_sound es (loops_of t) sound (loop_of t j) (in_map (loop_of t) (in_below (length t.stretches) j (omega arith)))

  -- an item that ends at the corner stands in some loop
  somewhere : (c : ℕ) → ends_one v (edge_data_at es c) ≡ 1 → (j : ℕ) × IsLoop t.stretches j × (1 ≤ times_of (in_item es v c) (loop_of t j))
  somewhere c once =
      let one = sound.once c (in_item es v c).sense ∙ ap (λ h. cond {A = ℕ} h 1 0) (ends_active (edge_data_at es c) v (omega (arith, once))) in
      let r = sum_there (times_of (in_item es v c)) (loops_of t) (omega arith) in
      let w = map_in (loop_of t) (below (length t.stretches)) r.0 r.1 in
      let q = below_in (length t.stretches) w.0 w.1 in
      (w.0, omega arith, subst (λ l. 1 ≤ times_of (in_item es v c) l) w.2 r.2)

  first_loop : (j : ℕ) × IsLoop t.stretches j × Found es v a b (loop_of t j) (in_item es v a) (out_item es v b)
  first_loop =
      let s = somewhere a two.first_once in (
        s.0,
        s.1,
        ⊎_elim (λ w. w)
            (λ r. absurd (⊎_elim (λ w. omega (arith, s.2, (found_once es v a b b a (loop_of t s.0) (sound_at s.0 s.1) w).1)) (λ w. omega (arith, s.2, w.no_first)) r))
            (place_cases es v a b two (loop_of t s.0) (sound_at s.0 s.1)),
      )

  second_loop : (j : ℕ) × IsLoop t.stretches j × Found es v a b (loop_of t j) (in_item es v b) (out_item es v a)
  second_loop =
      let s = somewhere b two.second_once in (
        s.0,
        s.1,
        ⊎_elim (λ w. absurd (omega (arith, s.2, (found_once es v a b a b (loop_of t s.0) (sound_at s.0 s.1) w).1)))
            (λ r. ⊎_elim (λ w. w) (λ w. absurd (omega (arith, s.2, w.no_second))) r)
            (place_cases es v a b two (loop_of t s.0) (sound_at s.0 s.1)),
      )

  place_at : (j c d : ℕ) → IsLoop t.stretches j → (w : Found es v a b (loop_of t j) (in_item es v c) (out_item es v d)) → At t j (in_code es v c) w.rest
  place_at j c d q w =
      let i : ℕ = place_in es v a b (loop_of t j) in
      let r : List ℕ = ring_at t j in
      let f : Front item_in (drop i r ++ take i r) (in_item es v c) (out_item es v d) w.rest =
      front item_in (drop i r ++ take i r) (in_item es v c) (out_item es v d) w.rest
      (map_turned item_in i r ∙ w.shape) in
      let e : f.first ≡ in_code es v c = item_one f.first (in_code es v c) (f.is_first ∙ sym (in_code_lem es v c)) in
      record { is = q; at = i; next = f.second; others = f.others; shape = f.shape ∙ ap (λ z. z ∷ f.second ∷ f.others) e; are = f.are_others }

  -- an item stands in one loop
  one_loop : (j c : ℕ) (rest : List Item) (w : At t j c rest) → get_or t.owners (get_or t.spots c 0) 0 ≡ j
  one_loop j c rest w = owner_is t linked j w.is w.at c w.next w.others w.shape

  -- the new edge stands in no loop yet
  absent : (x : ℕ) → (item_in x).edge ≡ length es → (j : ℕ) → IsLoop t.stretches j → x ∈ ring_at t j → ⊥
  absent x e j q m = let z = active_inside es (item_in x).edge ((sound_at j q).actives (item_in x) (in_map item_in m)) in omega arith

  ka : ℕ
  ka = first_loop.0

  kb : ℕ
  kb = second_loop.0

  first_at : At t ka (in_code es v a) first_loop.2.rest
  unfolding ka
  first_at = place_at first_loop.0 a b first_loop.1 first_loop.2

  second_at : At t kb (in_code es v b) second_loop.2.rest
  unfolding kb
  second_at = place_at second_loop.0 b a second_loop.1 second_loop.2

  -- the two places are in two loops
  differ : kb ≡ ka → ⊥
  unfolding ka kb
  differ e =
      let one = (found_once es v a b a b (loop_of t ka) (sound_at ka first_loop.1) first_loop.2).1 in
      let other = (found_once es v a b b a (loop_of t kb) (sound_at kb second_loop.1) second_loop.2).0 in
      omega (arith, ap (λ j. times_of (in_item es v b) (loop_of t j)) e)

  abbrev once : LinkTables
  once = fused_at t (in_code es v a) (item_number (length es) Same)

  first_fused : Fused t once ka (item_number (length es) Same) first_at.others
  first_fused =
      let w : At t ka (in_code es v a) first_loop.2.rest = first_at in
      let e : (item_number (length es) Same) / 2 ≡ length es = omega arith in
      fused t linked ka w.is w.at (in_code es v a) w.next w.others w.shape (item_number (length es) Same) (omega arith) (absent (item_number (length es) Same) e)

  -- the other loop is as it was
  other_ring : ring_at once kb ≡ ring_at t kb
  other_ring = first_fused.others kb second_at.is differ

  still_at : drop second_at.at (ring_at once kb) ++ take second_at.at (ring_at once kb) ≡ in_code es v b ∷ second_at.next ∷ second_at.others
  still_at = subst (λ r. drop second_at.at r ++ take second_at.at r ≡ in_code es v b ∷ second_at.next ∷ second_at.others) (sym other_ring) second_at.shape

  still_is : IsLoop once.stretches kb
  still_is = let q = second_at.is in omega (arith, first_fused.loops)

  still_absent : (j : ℕ) → IsLoop once.stretches j → (item_number (length es) Reversed) ∈ ring_at once j → ⊥
  still_absent j q m =
      let w : At t ka (in_code es v a) first_loop.2.rest = first_at in
      let x : ℕ = item_number (length es) Reversed in
      let e : x / 2 ≡ length es = omega arith in
      let q₀ : IsLoop t.stretches j = omega (arith, first_fused.loops) in
      elim (ℕ_discrete j ka) [
        | yes p ↦
            ⊎_elim (λ (h : x ≡ item_number (length es) Same). omega arith)
            (λ h. absent x e ka w.is (turn_in w.at (ring_at t ka) x (subst (λ l. x ∈ l) (sym w.shape) (Memᴰ.tail (Memᴰ.tail h)))))
            (Memᴰ.cases_cons (subst (λ l. x ∈ l) (ap (ring_at once) p ∙ first_fused.own) m))
        | no p ↦ absent x e j q₀ (subst (λ l. x ∈ l) (first_fused.others j q₀ p) m)
      ]

  abbrev twice : LinkTables
  twice = fused_at once (in_code es v b) (item_number (length es) Reversed)

  second_fused : Fused once twice kb (item_number (length es) Reversed) second_at.others
  second_fused =
      fused once first_fused.linked kb still_is second_at.at (in_code es v b) second_at.next second_at.others still_at (item_number (length es) Reversed) (omega (arith, first_fused.room)) still_absent

  -- each loop after the join
  first_now : loop_of twice ka ≡ joined_items es v a b (loop_of t ka)
  unfolding ka
  first_now =
      ap (map item_in) (second_fused.others ka (omega (arith, first_fused.loops, first_at.is)) (λ e. differ (sym e)) ∙ first_fused.own)
      ∙ (λ i. item_is (length es) Same i ∷ first_at.are i)
      ∙ sym (joined_found es v a b (loop_of t ka) (in_item es v a) (out_item es v b) first_loop.2 ∙ ap (λ h. new_item es (cond h Same Reversed) ∷ first_loop.2.rest) (eq-eqb a a refl))

  second_now : loop_of twice kb ≡ joined_items es v a b (loop_of t kb)
  unfolding kb
  second_now =
      ap (map item_in) second_fused.own
      ∙ (λ i. item_is (length es) Reversed i ∷ second_at.are i)
      ∙ sym (joined_found es v a b (loop_of t kb) (in_item es v b) (out_item es v a) second_loop.2
      ∙ ap (λ h. new_item es (cond h Same Reversed) ∷ second_loop.2.rest) (ne_eqb b a (λ (q : b ≡ a). omega (arith, two.lower))))

  other_now : (j : ℕ) → IsLoop t.stretches j → (j ≡ ka → ⊥) → (j ≡ kb → ⊥) → loop_of twice j ≡ joined_items es v a b (loop_of t j)
  other_now j q na nb =
      ap (map item_in) (second_fused.others j (omega (arith, first_fused.loops)) nb ∙ first_fused.others j q na)
      ∙ sym
      (⊎_elim
      (λ w. absurd (na (sym (one_loop j (in_code es v a) w.rest (place_at j a b q w)) ∙ one_loop ka (in_code es v a) first_loop.2.rest first_at)))
      (λ r.
      ⊎_elim (λ w. absurd (nb (sym (one_loop j (in_code es v b) w.rest (place_at j b a q w)) ∙ one_loop kb (in_code es v b) second_loop.2.rest second_at)))
      (λ w. joined_missed es v a b (loop_of t j) w)
      r)
      (place_cases es v a b two (loop_of t j) (sound_at j q)))

  -- both places replaced
  pub joined_twice : Joined es v a b t (fused_at (fused_at t (in_code es v a) (item_number (length es) Same)) (in_code es v b) (item_number (length es) Reversed))
  joined_twice = record {
    linked = second_fused.linked;
    loops = λ j q.
        elim (ℕ_discrete j ka) [
          | yes e ↦ subst (λ i. loop_of twice i ≡ joined_items es v a b (loop_of t i)) (sym e) first_now
          | no na ↦
              elim (ℕ_discrete j kb) [
                | yes e ↦ subst (λ i. loop_of twice i ≡ joined_items es v a b (loop_of t i)) (sym e) second_now
                | no nb ↦ other_now j q na nb
              ]
        ];
    count = second_fused.loops ∙ first_fused.loops;
    room = second_fused.room ∙ first_fused.room;
    laid = λ items l. second_fused.laid items (first_fused.laid items l);
  }

  -- in each of the two loops the two items can be made one
  pub first_can : Fusable t (in_code es v a)
  first_can =
      let w : At t ka (in_code es v a) first_loop.2.rest = first_at in
      can_fuse t linked ka w.is w.at (in_code es v a) w.next w.others w.shape

  pub second_can : Fusable (fused_at t (in_code es v a) (item_number (length es) Same)) (in_code es v b)
  second_can = can_fuse once first_fused.linked kb still_is second_at.at (in_code es v b) second_at.next second_at.others still_at

-- what a join needs: sound loops, the two edges that end at the corner, and room for the new edge's items
pub record Joinable (es : List EdgeData) (v a b new : ℕ) (t : LinkTables) : Type 0 where
  pub linked : Linked t
  pub sound : LoopsSound es (loops_of t)
  pub two : TwoEdges es v a b
  pub number : new ≡ length es
  pub room : 2 * new + 1 < length t.spots
  pub few : new < 2147483647

module _ (es : List EdgeData) (v a b new : ℕ) (t : LinkTables) (j : Joinable es v a b new t) (x y : ℕ) (ex : x ≡ in_code es v a) (ey : y ≡ in_code es v b) (n m : ℕ)
    (en : n ≡ item_number new Same) (em : m ≡ item_number new Reversed) where
  rooms : 2 * length es + 1 < length t.spots
  rooms = omega (arith, j.room, j.number)

  pub fuse_first : Fusable t x
  fuse_first = subst (Fusable t) (sym ex) (first_can es v a b j.two t j.linked j.sound rooms)

  module _ (u : LinkTables) (eu : u ≡ fused_at t x n) where
    once_is : u ≡ fused_at t (in_code es v a) (item_number (length es) Same)
    once_is = eu ∙ (λ i. fused_at t (ex i) ((en ∙ ap (λ k. item_number k Same) j.number) i))

    pub fuse_second : Fusable u y
    fuse_second =
        subst (λ (s : LinkTables). Fusable s y) (sym once_is)
        (subst (Fusable (fused_at t (in_code es v a) (item_number (length es) Same))) (sym ey) (second_can es v a b j.two t j.linked j.sound rooms))

    pub join_is : (w : LinkTables) → w ≡ fused_at u y m → Joined es v a b t w
    join_is w ew =
        let last = em ∙ ap (λ k. item_number k Reversed) j.number in
        subst (Joined es v a b t) (sym (ew ∙ (λ i. fused_at (once_is i) (ey i) (last i)))) (joined_twice es v a b j.two t j.linked j.sound rooms)
