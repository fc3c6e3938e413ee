-- A join keeps the loops sound: in the two loops with a place its two items become one.
use Rattle.std.specs.Prelude.{◌≡◌, refl, Bool, true, false, not, cond, List, ◌∷◌, ℕ, zero, suc, ◌+◌, ◌≤◌, ◌<◌, length}
use Rattle.std.specs.Prelude.{eqb}
use Rattle.std.proofs.Math.Path.{sym, ap}
use Rattle.std.proofs.Common.{◌∙◌, subst, ⊎_elim, arith, eqb-true, eq-eqb, ne_eqb, lt-ltb, le-ltb}
use mathlib.Core.List.Memᴰ
use Rattle.std.proofs.Math.Decide.{ℕ_discrete}
use Rattle.lists.specs.Lists.{◌∈◌, keep}
use Rattle.lists.specs.KeepCounts.{keep_cons, counted_one}
use Rattle.lists.specs.TurnedLists.{turn_count, turn_in}
use Rattle.rules.specs.declared.Sense.{Sense}
use Rattle.rules.specs.declared.Sense.TheVariants.{Same, Reversed}
use Rattle.rules.specs.declared.Item.{Item}
use Rattle.rules.specs.declared.EdgeData.{EdgeData}
use Rattle.rules.specs.Join.{edge_data_at, start_fan, end_fan, item_start, item_end, place_in, turned, one_for_two, joined_edge}
use Rattle.rules.specs.Join.{join_edges}
use Rattle.theorems.specs.Linked.{is_item, item_times}
use Rattle.theorems.specs.Ends.{TwoEdges}
use Rattle.theorems.proofs.EdgesAfter.{active_inside, new_edge, fans_stay}
use Rattle.theorems.specs.Trails.{edge_times, Closed, SameFans, LoopSound}
use Rattle.theorems.proofs.Trails.{closed_turned, closed_same, closed_replaced}
use Rattle.theorems.specs.Places.{in_sense, in_item, out_item, times_of, Found, Missed}
use Rattle.theorems.proofs.Places.{reverse_end, in_far, place_cases, found_once}
use Rattle.theorems.specs.JoinLoops.{joined_items, new_item, lost, gained, LoopJoined}

pub joined_found : (es : List EdgeData) (v a b : ℕ) (l : List Item) (x y : Item) (w : Found es v a b l x y)
    → joined_items es v a b l ≡ new_item es (cond (eqb x.edge a) Same Reversed) ∷ w.rest
unfolding joined_items one_for_two
joined_found es v a b l x y w = rw (lt-ltb (place_in es v a b l) (length l) w.inside) (ap (one_for_two a (length es)) w.shape)

pub joined_missed : (es : List EdgeData) (v a b : ℕ) (l : List Item) → Missed es v a b l → joined_items es v a b l ≡ l
unfolding joined_items
joined_missed es v a b l w = rw (le-ltb (place_in es v a b l) (length l) (omega (arith, w.outside)))

-- ONE LOOP

-- two items at the front become one: how often each item stands in the loop
front_counts : (i : ℕ) (l rest : List Item) (x y n : Item) → turned i l ≡ x ∷ y ∷ rest → (p : Item → Bool)
    → length (keep p (n ∷ rest)) + (cond (p x) 1 0 + cond (p y) 1 0) ≡ length (keep p l) + cond (p n) 1 0
front_counts i l rest x y n shape p =
    let z = ap (λ m. length (keep p m)) shape in
    omega (arith, turn_count p i l, keep_cons p x (y ∷ rest), keep_cons p y rest, keep_cons p n rest)

one_times : (t : Bool) (n : ℕ) → n ≡ 1 → Path ℕ (cond t n 0) (cond t 1 0)
one_times t n e = ap (λ m. cond t m 0) e

none_times : (t : Bool) (n : ℕ) → n ≡ 0 → Path ℕ (cond t n 0) 0
none_times true n e = e
none_times false n e = refl

-- the new edge stands in no loop yet
new_absent : (es : List EdgeData) (l : List Item) → LoopSound es l → edge_times (length es) l ≡ 0
new_absent es l s = go (edge_times (length es) l) refl
  where
    go : (n : ℕ) → edge_times (length es) l ≡ n → edge_times (length es) l ≡ 0
    go zero h = h
    go (suc n) h =
        let r = counted_one (λ (x : Item). eqb x.edge (length es)) l (omega arith) in
        let e : r.0.edge ≡ length es = eqb-true r.0.edge (length es) r.2 in
        absurd (let z = active_inside es r.0.edge (s.actives r.0 r.1) in omega arith)

module _ (es : List EdgeData) (v a b : ℕ) (k : TwoEdges es v a b) where
  same_fans : (l m : List Item) → LoopSound es l → ((x : Item) → x ∈ m → x ∈ l) → SameFans es (join_edges v a b es) m
  same_fans l m s sub x i = fans_stay es v a b k x (active_inside es x.edge (s.actives x (sub x i)))

  -- a place turned to the front and replaced: the loop stays closed, and no edge stands in it twice
  replaced_closed : (l : List Item) (x y n : Item) → LoopSound es l → (w : Found es v a b l x y)
      → item_start (join_edges v a b es) n ≡ item_start es x → item_end (join_edges v a b es) n ≡ item_end es y → Closed (join_edges v a b es) (n ∷ w.rest)
  replaced_closed l x y n s w p q =
      let i : ℕ = place_in es v a b l in
      closed_replaced es (join_edges v a b es) x y n w.rest
      (same_fans l w.rest s (λ z m. turn_in i l z (subst (λ h. z ∈ h) (sym w.shape) (Memᴰ.tail (Memᴰ.tail m))))) p q
      (subst (Closed es) w.shape (closed_turned es i l s.closed))

  replaced_apart : (l : List Item) (x y : Item) (t : Sense) → LoopSound es l → (w : Found es v a b l x y) → (e : ℕ) → edge_times e (new_item es t ∷ w.rest) ≤ 1
  replaced_apart l x y t s w e =
      let c = front_counts (place_in es v a b l) l w.rest x y (new_item es t) w.shape (λ z. eqb z.edge e) in
      elim (ℕ_discrete (length es) e) [
        | yes q ↦
            let z = ap (λ j. edge_times j l) (sym q) ∙ new_absent es l s in
            let y = ap (λ h. cond {A = ℕ} h 1 0) (eq-eqb (length es) e q) in
            omega arith
        | no q ↦ let y = ap (λ h. cond {A = ℕ} h 1 0) (ne_eqb (length es) e q) in omega (arith, s.apart e)
      ]

  -- the new edge's items start and end where the items that they replace do
  first_fans : (item_start (join_edges v a b es) (new_item es Same) ≡ item_start es (in_item es v a)) × (item_end (join_edges v a b es) (new_item es Same) ≡ item_end es (out_item es v b))
  unfolding joined_edge
  first_fans =
      let p : EdgeData = edge_data_at es a in
      let q : EdgeData = edge_data_at es b in (
        ap (start_fan Same) (new_edge es v a b k) ∙ sym (in_far p v k.first_once),
        ap (end_fan Same) (new_edge es v a b k) ∙ sym (reverse_end (in_sense v q) q ∙ in_far q v k.second_once),
      )

  second_fans : (item_start (join_edges v a b es) (new_item es Reversed) ≡ item_start es (in_item es v b)) × (item_end (join_edges v a b es) (new_item es Reversed) ≡ item_end es (out_item es v a))
  unfolding joined_edge
  second_fans =
      let p : EdgeData = edge_data_at es a in
      let q : EdgeData = edge_data_at es b in (
        ap (start_fan Reversed) (new_edge es v a b k) ∙ sym (in_far q v k.second_once),
        ap (end_fan Reversed) (new_edge es v a b k) ∙ sym (reverse_end (in_sense v p) p ∙ in_far p v k.first_once),
      )

  found_test : (l : List Item) → place_in es v a b l < length l → Path ℕ (cond (not (eqb (place_in es v a b l) (length l))) 1 0) 1
  found_test l h = ap (λ t. cond (not t) 1 0) (ne_eqb (place_in es v a b l) (length l) (λ (e : place_in es v a b l ≡ length l). omega arith))

  first_joined : (l : List Item) → LoopSound es l → (w : Found es v a b l (in_item es v a) (out_item es v b)) → LoopJoined es v a b l (new_item es Same ∷ w.rest)
  first_joined l s w =
      let o = found_once es v a b a b l s w in
      record {
        closed = replaced_closed l (in_item es v a) (out_item es v b) (new_item es Same) s w first_fans.0 first_fans.1;
        counts = counts;
        apart = replaced_apart l (in_item es v a) (out_item es v b) Same s w;
        places = omega (arith, found_test l w.inside, o.0, o.1);
      }
    where
      counts : (e : ℕ) (t : Sense)
          → item_times e t (new_item es Same ∷ w.rest) + lost es v a b e t (times_of (in_item es v a) l) (times_of (in_item es v b) l)
          ≡ item_times e t l + gained es e t (times_of (in_item es v a) l) (times_of (in_item es v b) l)
      counts e t =
          let o = found_once es v a b a b l s w in
          let m : ℕ = times_of (in_item es v a) l in
          let n : ℕ = times_of (in_item es v b) l in
          omega (
            arith,
            front_counts (place_in es v a b l) l w.rest (in_item es v a) (out_item es v b) (new_item es Same) w.shape (is_item e t),
            one_times (is_item e t (in_item es v a)) m o.0,
            one_times (is_item e t (out_item es v b)) m o.0,
            one_times (is_item e t (new_item es Same)) m o.0,
            none_times (is_item e t (in_item es v b)) n o.1,
            none_times (is_item e t (out_item es v a)) n o.1,
            none_times (is_item e t (new_item es Reversed)) n o.1,
          )

  second_joined : (l : List Item) → LoopSound es l → (w : Found es v a b l (in_item es v b) (out_item es v a)) → LoopJoined es v a b l (new_item es Reversed ∷ w.rest)
  second_joined l s w =
      let o = found_once es v a b b a l s w in
      record {
        closed = replaced_closed l (in_item es v b) (out_item es v a) (new_item es Reversed) s w second_fans.0 second_fans.1;
        counts = counts;
        apart = replaced_apart l (in_item es v b) (out_item es v a) Reversed s w;
        places = omega (arith, found_test l w.inside, o.0, o.1);
      }
    where
      counts : (e : ℕ) (t : Sense)
          → item_times e t (new_item es Reversed ∷ w.rest) + lost es v a b e t (times_of (in_item es v a) l) (times_of (in_item es v b) l)
          ≡ item_times e t l + gained es e t (times_of (in_item es v a) l) (times_of (in_item es v b) l)
      counts e t =
          let o = found_once es v a b b a l s w in
          let m : ℕ = times_of (in_item es v a) l in
          let n : ℕ = times_of (in_item es v b) l in
          omega (
            arith,
            front_counts (place_in es v a b l) l w.rest (in_item es v b) (out_item es v a) (new_item es Reversed) w.shape (is_item e t),
            one_times (is_item e t (in_item es v b)) n o.0,
            one_times (is_item e t (out_item es v a)) n o.0,
            one_times (is_item e t (new_item es Reversed)) n o.0,
            none_times (is_item e t (in_item es v a)) m o.1,
            none_times (is_item e t (out_item es v b)) m o.1,
            none_times (is_item e t (new_item es Same)) m o.1,
          )

  missed_joined : (l : List Item) → LoopSound es l → Missed es v a b l → LoopJoined es v a b l l
  missed_joined l s w =
      record {
        closed = closed_same es (join_edges v a b es) l (same_fans l l s (λ x m. m)) s.closed;
        counts = counts;
        apart = s.apart;
        places = let z = ap (λ t. cond {A = ℕ} (not t) 1 0) (eq-eqb (place_in es v a b l) (length l) w.outside) in omega (arith, w.no_first, w.no_second);
      }
    where
      counts : (e : ℕ) (t : Sense)
          → item_times e t l + lost es v a b e t (times_of (in_item es v a) l) (times_of (in_item es v b) l)
          ≡ item_times e t l + gained es e t (times_of (in_item es v a) l) (times_of (in_item es v b) l)
      counts e t =
          let m : ℕ = times_of (in_item es v a) l in
          let n : ℕ = times_of (in_item es v b) l in
          omega (
            arith,
            none_times (is_item e t (in_item es v a)) m w.no_first,
            none_times (is_item e t (out_item es v b)) m w.no_first,
            none_times (is_item e t (new_item es Same)) m w.no_first,
            none_times (is_item e t (in_item es v b)) n w.no_second,
            none_times (is_item e t (out_item es v a)) n w.no_second,
            none_times (is_item e t (new_item es Reversed)) n w.no_second,
          )

  pub loop_joined : (l : List Item) → LoopSound es l → LoopJoined es v a b l (joined_items es v a b l)
  loop_joined l s =
      ⊎_elim
      (λ w.
      let e : joined_items es v a b l ≡ new_item es Same ∷ w.rest = joined_found es v a b l (in_item es v a) (out_item es v b) w
      ∙ ap (λ t. new_item es (cond t Same Reversed) ∷ w.rest) (eq-eqb a a refl) in
      subst (LoopJoined es v a b l) (sym e) (first_joined l s w))
      (λ r.
      ⊎_elim
      (λ w.
      let e : joined_items es v a b l ≡ new_item es Reversed ∷ w.rest = joined_found es v a b l (in_item es v b) (out_item es v a) w
      ∙ ap (λ t. new_item es (cond t Same Reversed) ∷ w.rest) (ne_eqb b a (λ (q : b ≡ a). omega (arith, k.lower))) in
      subst (LoopJoined es v a b l) (sym e) (second_joined l s w))
      (λ w. subst (LoopJoined es v a b l) (sym (joined_missed es v a b l w)) (missed_joined l s w))
      r)
      (place_cases es v a b k l s)
