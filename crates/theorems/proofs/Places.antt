-- The loop places of a join: where an item of one of its two edges ends at the corner, the other edge's item follows.
use Rattle.std.specs.Prelude.{◌≡◌, refl, ◌⊎◌, true, false, ◌&&◌, cond, List, ◌∷◌, ℕ, zero, suc, ◌+◌, ◌<◌, length}
use Rattle.std.specs.Prelude.{get_or}
use Rattle.std.proofs.Common.{sym, ap, ap₂, ◌∙◌, true≢false, arith}
use Rattle.std.proofs.Math.Logic.{inl, inr, ⊎_elim}
use Rattle.std.proofs.Math.Bool.{Bool}
use mathlib.Core.List.Memᴰ
use Rattle.std.proofs.Math.Decide.{dec_lt}
use Rattle.std.proofs.Math.Dec.{eqb}
use borrow.Author.Tests.{eqb-true, eq-eqb, ne_eqb}
use Rattle.lists.specs.Lists.{◌∈◌, keep, Neighbours, neighbours}
use Rattle.lists.specs.Tests.{both_ways, or_cases, or_first, or_second, and_both, both_and, equal_or_not}
use Rattle.lists.specs.Members.{keep_same, position_le, position_hit}
use Rattle.lists.specs.Sums.{sum_same, sum_both, keep_sum}
use Rattle.lists.specs.Cyclic.{length_neighbours}
use Rattle.lists.specs.KeepCounts.{keep_cons, keep_counts, counted_one, position_fails}
use Rattle.lists.specs.TurnedLists.{turn_count, turn_pair, in_neighbours, neighbour_here, neighbour_next, keep_here}
use Rattle.rules.specs.declared.Sense.{Sense}
use Rattle.rules.specs.declared.Sense.TheVariants.{Same, Reversed}
use Rattle.rules.specs.declared.Item.{Item}
use Rattle.rules.specs.declared.EdgeData.{EdgeData}
use Rattle.rules.specs.Sense.{reverse}
use Rattle.rules.specs.Join.{edge_data_at, start_fan, end_fan, item_start, item_end, of_both, is_place, place_in, far_end}
use Rattle.theorems.specs.Linked.{is_item, item_times}
use Rattle.theorems.specs.Ends.{ends_one, TwoEdges}
use Rattle.theorems.proofs.Ends.{one_end}
use Rattle.theorems.proofs.Corners.{far_start, far_end_lem}
use Rattle.theorems.proofs.Trails.{reverse_twice, is_item_lem, item_is, edge_times_lem, end_counts, start_counts, closed_next}
use Rattle.theorems.specs.Trails.{LoopSound}
use Rattle.theorems.specs.Places.{in_sense, in_item, out_item, times_of, Found, Missed}

-- ONE EDGE WITH ONE END AT A FAN

reverse_start : (t : Sense) (e : EdgeData) → start_fan (reverse t) e ≡ end_fan t e
reverse_start Same e = refl
reverse_start Reversed e = refl

pub reverse_end : (t : Sense) (e : EdgeData) → end_fan (reverse t) e ≡ start_fan t e
reverse_end Same e = refl
reverse_end Reversed e = refl

module _ (e : EdgeData) (v : ℕ) (once : ends_one v e ≡ 1) where
  in_sense_lem : ((e.start ≡ v) × (e.end ≡ v → ⊥) × (in_sense v e ≡ Reversed)) ⊎ ((e.start ≡ v → ⊥) × (e.end ≡ v) × (in_sense v e ≡ Same))
  in_sense_lem =
      ⊎_elim (λ w. inl (w.0, w.1, ap (λ c. cond c Reversed Same) (eq-eqb e.start v w.0)))
      (λ w. inr (w.0, w.1, ap (λ c. cond c Reversed Same) (ne_eqb e.start v w.0)))
      (one_end e v once)

  in_end : end_fan (in_sense v e) e ≡ v
  in_end = ⊎_elim (λ w. ap (λ t. end_fan t e) w.2 ∙ w.0) (λ w. ap (λ t. end_fan t e) w.2 ∙ w.1) in_sense_lem

  pub in_far : start_fan (in_sense v e) e ≡ far_end v e
  in_far =
      ⊎_elim (λ w. ap (λ t. start_fan t e) w.2 ∙ sym (far_start e v w.0)) (λ w. ap (λ t. start_fan t e) w.2 ∙ sym (far_end_lem e v w.0)) in_sense_lem

  -- it ends there in no other sense
  in_only : (t : Sense) → end_fan t e ≡ v → t ≡ in_sense v e
  in_only Same p = ⊎_elim (λ w. absurd (w.1 p)) (λ w. sym w.2) in_sense_lem
  in_only Reversed p = ⊎_elim (λ w. sym w.2) (λ w. absurd (w.0 p)) in_sense_lem

  out_only : (t : Sense) → start_fan t e ≡ v → t ≡ reverse (in_sense v e)
  out_only t p = sym (reverse_twice t) ∙ ap reverse (in_only (reverse t) (reverse_end t e ∙ p))

module _ (es : List EdgeData) (v a : ℕ) (once : ends_one v (edge_data_at es a) ≡ 1) where
  ends_as : (x : Item) → x.edge ≡ a → item_end es x ≡ v → x ≡ in_item es v a
  ends_as x p q =
      let s : x.sense ≡ in_sense v (edge_data_at es a) = in_only (edge_data_at es a) v once x.sense (ap (λ c. end_fan x.sense (edge_data_at es c)) (sym p) ∙ q) in
      λ i. record { edge = p i; sense = s i }

  starts_as : (x : Item) → x.edge ≡ a → item_start es x ≡ v → x ≡ out_item es v a
  starts_as x p q =
      let s : x.sense ≡ reverse (in_sense v (edge_data_at es a)) = out_only (edge_data_at es a) v once x.sense (ap (λ c. start_fan x.sense (edge_data_at es c)) (sym p) ∙ q) in
      λ i. record { edge = p i; sense = s i }

  in_ends : item_end es (in_item es v a) ≡ v
  in_ends = in_end (edge_data_at es a) v once

  out_starts : item_start es (out_item es v a) ≡ v
  out_starts = reverse_start (in_sense v (edge_data_at es a)) (edge_data_at es a) ∙ in_ends

-- THE PLACES OF A JOIN

module _ (es : List EdgeData) (v a b : ℕ) (k : TwoEdges es v a b) where
  differ : a ≡ b → ⊥
  differ e = omega (arith, k.lower)

  -- an item of an active edge that ends at the corner is one of two, and so is one that starts there
  ends_here : (x : Item) → (edge_data_at es x.edge).active ≡ true → item_end es x ≡ v → (x ≡ in_item es v a) ⊎ (x ≡ in_item es v b)
  ends_here x act e =
      let n = end_counts (edge_data_at es x.edge) x.sense v act e in
      ⊎_elim (λ w. inl (ends_as es v a k.first_once x w.0 e))
      (λ w.
      ⊎_elim (λ u. inr (ends_as es v b k.second_once x u.0 e)) (λ u. absurd (omega (arith, k.others x.edge w.0 u.0))) (equal_or_not x.edge b))
      (equal_or_not x.edge a)

  starts_here : (x : Item) → (edge_data_at es x.edge).active ≡ true → item_start es x ≡ v → (x ≡ out_item es v a) ⊎ (x ≡ out_item es v b)
  starts_here x act e =
      let n = start_counts (edge_data_at es x.edge) x.sense v act e in
      ⊎_elim (λ w. inl (starts_as es v a k.first_once x w.0 e))
      (λ w.
      ⊎_elim (λ u. inr (starts_as es v b k.second_once x u.0 e)) (λ u. absurd (omega (arith, k.others x.edge w.0 u.0))) (equal_or_not x.edge b))
      (equal_or_not x.edge a)

  -- what the test for a place says
  place_pair : (q : Neighbours Item) → is_place es v a b q ≡ true
      → ((q.here ≡ in_item es v a) × (q.next ≡ out_item es v b)) ⊎ ((q.here ≡ in_item es v b) × (q.next ≡ out_item es v a))
  unfolding is_place
  place_pair q t =
      let h : Bool = eqb (item_end es q.here) v in
      let n : Bool = eqb (item_start es q.next) v in
      let r = and_both (of_both a b q) (h && n) t in
      let f = and_both h n r.1 in
      let end : item_end es q.here ≡ v = eqb-true (item_end es q.here) v f.0 in
      let start : item_start es q.next ≡ v = eqb-true (item_start es q.next) v f.1 in
      let ha : Bool = eqb q.here.edge a in
      let hb : Bool = eqb q.here.edge b in
      let na : Bool = eqb q.next.edge a in
      let nb : Bool = eqb q.next.edge b in
      ⊎_elim
      (λ w.
      let u = and_both ha nb w in
      inl (ends_as es v a k.first_once q.here (eqb-true q.here.edge a u.0) end, starts_as es v b k.second_once q.next (eqb-true q.next.edge b u.1) start))
      (λ w.
      let u = and_both hb na w in
      inr (ends_as es v b k.second_once q.here (eqb-true q.here.edge b u.0) end, starts_as es v a k.first_once q.next (eqb-true q.next.edge a u.1) start))
      (or_cases (ha && nb) (hb && na) r.0)

  pair_first : (q : Neighbours Item) → q.here ≡ in_item es v a → q.next ≡ out_item es v b → is_place es v a b q ≡ true
  unfolding is_place
  pair_first q p n =
      both_and (of_both a b q) (eqb (item_end es q.here) v && eqb (item_start es q.next) v)
      (or_first (eqb q.here.edge a && eqb q.next.edge b) (eqb q.here.edge b && eqb q.next.edge a)
      (both_and (eqb q.here.edge a) (eqb q.next.edge b) (eq-eqb q.here.edge a (ap (λ (x : Item). x.edge) p)) (eq-eqb q.next.edge b (ap (λ (x : Item). x.edge) n))))
      (both_and (eqb (item_end es q.here) v) (eqb (item_start es q.next) v)
      (eq-eqb (item_end es q.here) v (ap (item_end es) p ∙ in_ends es v a k.first_once))
      (eq-eqb (item_start es q.next) v (ap (item_start es) n ∙ out_starts es v b k.second_once)))

  pair_second : (q : Neighbours Item) → q.here ≡ in_item es v b → q.next ≡ out_item es v a → is_place es v a b q ≡ true
  unfolding is_place
  pair_second q p n =
      both_and (of_both a b q) (eqb (item_end es q.here) v && eqb (item_start es q.next) v)
      (or_second (eqb q.here.edge a && eqb q.next.edge b) (eqb q.here.edge b && eqb q.next.edge a)
      (both_and (eqb q.here.edge b) (eqb q.next.edge a) (eq-eqb q.here.edge b (ap (λ (x : Item). x.edge) p)) (eq-eqb q.next.edge a (ap (λ (x : Item). x.edge) n))))
      (both_and (eqb (item_end es q.here) v) (eqb (item_start es q.next) v)
      (eq-eqb (item_end es q.here) v (ap (item_end es) p ∙ in_ends es v b k.second_once))
      (eq-eqb (item_start es q.next) v (ap (item_start es) n ∙ out_starts es v a k.first_once)))

  -- both items of an edge do not stand in one loop
  not_both : (l : List Item) → LoopSound es l → (c : ℕ) → in_item es v c ∈ l → out_item es v c ∈ l → ⊥
  not_both l s c m n =
      let t : Sense = in_sense v (edge_data_at es c) in
      let p = keep_counts (is_item c t) m (is_item_lem c t (in_item es v c) refl refl) in
      let q = keep_counts (is_item c (reverse t)) n (is_item_lem c (reverse t) (out_item es v c) refl refl) in
      omega (arith, s.apart c, edge_times_lem c t l)

  found : (l : List Item) → place_in es v a b l < length l → Found es v a b l (in_item es v a) (out_item es v b) ⊎ Found es v a b l (in_item es v b) (out_item es v a)
  found l h =
      let none : Item = record { edge = 0; sense = Same } in
      let d : Neighbours Item = record { here = none; next = none } in
      let i : ℕ = place_in es v a b l in
      let q : Neighbours Item = get_or (neighbours l) i d in
      let hit : is_place es v a b q ≡ true = position_hit (is_place es v a b) (neighbours l) d (omega (arith, length_neighbours l)) in
      ⊎_elim
      (λ w. ⊎_elim (λ p. absurd (differ (ap (λ (x : Item). x.edge) (sym w.0 ∙ sym p.1 ∙ w.1))))
      (λ p. inl (record { inside = h; rest = p.0; shape = p.1 ∙ ap₂ (λ x y. x ∷ y ∷ p.0) w.0 w.1 })) (turn_pair l d i h))
      (λ w. ⊎_elim (λ p. absurd (differ (ap (λ (x : Item). x.edge) (sym w.1 ∙ p.1 ∙ w.0))))
      (λ p. inr (record { inside = h; rest = p.0; shape = p.1 ∙ ap₂ (λ x y. x ∷ y ∷ p.0) w.0 w.1 })) (turn_pair l d i h))
      (place_pair q hit)

  -- after an item that ends at the corner comes one that starts there
  next_here : (l : List Item) → LoopSound es l → (q : Neighbours Item) → q ∈ neighbours l → item_end es q.here ≡ v → (q.next ≡ out_item es v a) ⊎ (q.next ≡ out_item es v b)
  next_here l s q m e = starts_here q.next (s.actives q.next (neighbour_next l q m)) (closed_next es l s.closed q m ∙ e)

  -- an item that ends at the corner is with its next item a place of the join
  ends_place : (l : List Item) → LoopSound es l → (q : Neighbours Item) → q ∈ neighbours l → item_end es q.here ≡ v → is_place es v a b q ≡ true
  ends_place l s q m e =
      let both : (c : ℕ) → q.here ≡ in_item es v c → q.next ≡ out_item es v c → ⊥ =
      (λ c p n. not_both l s c (Memᴰ.cast (sym p) (neighbour_here l q m)) (Memᴰ.cast (sym n) (neighbour_next l q m))) in
      ⊎_elim
      (λ p. ⊎_elim (λ n. absurd (both a p n)) (λ n. pair_first q p n) (next_here l s q m e))
      (λ p. ⊎_elim (λ n. pair_second q p n) (λ n. absurd (both b p n)) (next_here l s q m e))
      (ends_here q.here (s.actives q.here (neighbour_here l q m)) e)

  place_ends : (q : Neighbours Item) → is_place es v a b q ≡ true → item_end es q.here ≡ v
  place_ends q t =
      ⊎_elim (λ w. ap (item_end es) w.0 ∙ in_ends es v a k.first_once) (λ w. ap (item_end es) w.0 ∙ in_ends es v b k.second_once) (place_pair q t)

  -- the test that finds a place of the join holds of exactly the items that end at the corner
  pub place_agrees : (l : List Item) → LoopSound es l → (q : Neighbours Item) → q ∈ neighbours l → is_place es v a b q ≡ eqb (item_end es q.here) v
  place_agrees l s q m =
      ⊎_elim
      (λ w. ends_place l s q m w.0 ∙ sym w.1)
      (λ w. ⊎_elim (λ t. absurd (w.0 (place_ends q t))) (λ t. t ∙ sym w.1) (both_ways (is_place es v a b q)))
      (equal_or_not (item_end es q.here) v)

  -- so the places it finds in a loop are the items that end at the corner, each with its next
  pub places_agree : (l : List Item) → LoopSound es l → keep (is_place es v a b) (neighbours l) ≡ keep (λ q. eqb (item_end es q.here) v) (neighbours l)
  places_agree l s = keep_same (is_place es v a b) (λ q. eqb (item_end es q.here) v) (neighbours l) (place_agrees l s)

  missed : (l : List Item) → LoopSound es l → place_in es v a b l ≡ length l → Missed es v a b l
  missed l s e =
      record {
        outside = e;
        no_first = absent (in_item es v a) (in_ends es v a k.first_once);
        no_second = absent (in_item es v b) (in_ends es v b k.second_once);
      }
    where
      fails : (q : Neighbours Item) → q ∈ neighbours l → is_place es v a b q ≡ false
      fails = position_fails (is_place es v a b) (neighbours l) (e ∙ sym (length_neighbours l))

      absent : (x : Item) → item_end es x ≡ v → times_of x l ≡ 0
      absent x end = go (times_of x l) refl
        where
          go : (n : ℕ) → times_of x l ≡ n → times_of x l ≡ 0
          go zero h = h
          go (suc n) h =
              let r = counted_one (is_item x.edge x.sense) l (omega arith) in
              let w = in_neighbours l r.0 r.1 in
              let here : w.0.here ≡ x = sym w.2 ∙ item_is x.edge x.sense r.0 r.2 in
              absurd (true≢false (sym (ends_place l s w.0 w.1 (ap (item_end es) here ∙ end)) ∙ fails w.0 w.1))

  -- a loop has the place where the first edge leads, or the one where the second does, or none
  pub place_cases : (l : List Item) → LoopSound es l
      → Found es v a b l (in_item es v a) (out_item es v b) ⊎ (Found es v a b l (in_item es v b) (out_item es v a) ⊎ Missed es v a b l)
  place_cases l s =
      elim (dec_lt (place_in es v a b l) (length l)) [
        | yes h ↦ ⊎_elim inl (λ w. inr (inl w)) (found l h)
        | no h ↦ inr (inr (missed l s (let z = position_le (is_place es v a b) (neighbours l) in omega (arith, length_neighbours l))))
      ]

  -- the loop places of a loop are as many as the items in it that end at the corner
  pub places_count : (l : List Item) → LoopSound es l
      → length (keep (λ (q : Neighbours Item). eqb (item_end es q.here) v) (neighbours l)) ≡ times_of (in_item es v a) l + times_of (in_item es v b) l
  places_count l s =
      let A : Item = in_item es v a in
      let B : Item = in_item es v b in
      let fa : Item → ℕ = λ x. cond (is_item A.edge A.sense x) 1 0 in
      let fb : Item → ℕ = λ x. cond (is_item B.edge B.sense x) 1 0 in
      keep_here (λ x. eqb (item_end es x) v) l
      ∙ keep_sum (λ x. eqb (item_end es x) v) l
      ∙ sum_same (λ x. cond (eqb (item_end es x) v) 1 0) (λ x. fa x + fb x) l (λ x m. one x (s.actives x m))
      ∙ sum_both fa fb l
      ∙ sym (ap₂ (λ m n. m + n) (keep_sum (is_item A.edge A.sense) l) (keep_sum (is_item B.edge B.sense) l))
    where
      hits : (e : ℕ) (t : Sense) (x : Item) → x ≡ record { edge = e; sense = t } → Path ℕ (cond (is_item e t x) 1 0) 1
      hits e t x p = ap (λ c. cond c 1 0) (is_item_lem e t x (ap (λ (y : Item). y.edge) p) (ap (λ (y : Item). y.sense) p))

      misses : (e : ℕ) (t : Sense) (x : Item) → (x ≡ record { edge = e; sense = t } → ⊥) → Path ℕ (cond (is_item e t x) 1 0) 0
      misses e t x n = ⊎_elim (λ h. absurd (n (item_is e t x h))) (λ h. ap (λ c. cond c 1 0) h) (both_ways (is_item e t x))

      one : (x : Item) → (edge_data_at es x.edge).active ≡ true
          → Path ℕ (cond (eqb (item_end es x) v) 1 0) (cond (is_item a (in_item es v a).sense x) 1 0 + cond (is_item b (in_item es v b).sense x) 1 0)
      one x act =
          let ta : Sense = (in_item es v a).sense in
          let tb : Sense = (in_item es v b).sense in
          ⊎_elim
          (λ w.
          let z = ap (λ c. cond {A = ℕ} c 1 0) w.1 in
          ⊎_elim
          (λ p. omega (arith, z, hits a ta x p, misses b tb x (λ q. differ (ap (λ (y : Item). y.edge) (sym p ∙ q)))))
          (λ p. omega (arith, z, hits b tb x p, misses a ta x (λ q. differ (ap (λ (y : Item). y.edge) (sym q ∙ p)))))
          (ends_here x act w.0))
          (λ w.
          let z = ap (λ c. cond {A = ℕ} c 1 0) w.1 in
          omega (
            arith,
            z,
            misses a ta x (λ p. w.0 (ap (item_end es) p ∙ in_ends es v a k.first_once)),
            misses b tb x (λ p. w.0 (ap (item_end es) p ∙ in_ends es v b k.second_once)),
          ))
          (equal_or_not (item_end es x) v)

-- where a place is found, its first item stands once in the loop, and the other item that ends at the corner does not
pub found_once : (es : List EdgeData) (v a b c d : ℕ) (l : List Item) → LoopSound es l → Found es v a b l (in_item es v c) (out_item es v d)
    → (times_of (in_item es v c) l ≡ 1) × (times_of (in_item es v d) l ≡ 0)
found_once es v a b c d l s w =
    let x : Item = in_item es v c in
    let y : Item = out_item es v d in
    let p = count x.edge x.sense in
    let q = count y.edge y.sense in
    let hx = ap (λ t. cond {A = ℕ} t 1 0) (is_item_lem x.edge x.sense x refl refl) in
    let hy = ap (λ t. cond {A = ℕ} t 1 0) (is_item_lem y.edge y.sense y refl refl) in
    let tc = edge_times_lem c x.sense l in
    let td = edge_times_lem d (in_sense v (edge_data_at es d)) l in
    (omega (arith, s.apart c), omega (arith, s.apart d))
  where
    count : (e : ℕ) (t : Sense) → item_times e t l ≡ cond (is_item e t (in_item es v c)) 1 0 + (cond (is_item e t (out_item es v d)) 1 0 + item_times e t w.rest)
    count e t =
        let z = ap (λ m. item_times e t m) w.shape in
        omega (
          arith,
          turn_count (is_item e t) (place_in es v a b l) l,
          keep_cons (is_item e t) (in_item es v c) (out_item es v d ∷ w.rest),
          keep_cons (is_item e t) (out_item es v d) w.rest,
        )
