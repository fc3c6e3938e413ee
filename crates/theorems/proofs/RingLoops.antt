-- A ring keeps the loops sound: a loop with the edge that becomes a ring has nothing else in it.
use Rattle.std.specs.Prelude.{◌≡◌, refl, Bool, true, cond, List, [], ◌∷◌, ℕ, zero, suc, length, set, eqb}
use Rattle.std.proofs.Common.{sym, ap, ◌∙◌, subst, ⊎_elim, arith, get_or-set_same, get_or-set_other, eqb-true, eq-eqb}
use Rattle.lists.specs.Lists.{◌∈◌, keep, sum_of, Neighbours}
use Rattle.lists.specs.Tests.{equal_or_not}
use Rattle.lists.specs.Membership.{in_get_or}
use Rattle.lists.specs.Tables.{set_each}
use Rattle.lists.specs.Cyclic.{length_neighbours}
use Rattle.lists.specs.KeepCounts.{keep_cons, keep_counts, counted_one}
use Rattle.lists.specs.TurnedLists.{turn_count, turn_pair, in_neighbours, neighbour_next}
use Rattle.rules.specs.declared.Sense.{Sense}
use Rattle.rules.specs.declared.Sense.TheVariants.{Same, Reversed}
use Rattle.rules.specs.declared.Item.{Item}
use Rattle.rules.specs.declared.EdgeData.{EdgeData}
use Rattle.rules.specs.Job.{unset}
use Rattle.rules.specs.Join.{no_edge_data, edge_data_at, start_fan, end_fan, item_start, item_end, turned, ring_of}
use Rattle.theorems.specs.Linked.{item_times, LoopsSound}
use Rattle.theorems.proofs.Ends.{two_ends_lem}
use Rattle.theorems.specs.Ends.{OneEdge}
use Rattle.theorems.specs.Trails.{edge_times, Closed, LoopSound}
use Rattle.theorems.proofs.Trails.{start_counts, closed_unturned, closed_next, closed_same, loop_sound}

module _ (es : List EdgeData) (v a : ℕ) (k : OneEdge es v a) where
  abbrev ringed : List EdgeData
  ringed = set es a (ring_of (edge_data_at es a))

  ring_fans : (e : EdgeData) (t : Sense) → (start_fan t (ring_of e) ≡ unset) × (end_fan t (ring_of e) ≡ unset)
  ring_fans e Same = (refl, refl)
  ring_fans e Reversed = (refl, refl)

  -- an item of the edge ends at the corner
  ends_there : (x : Item) → x.edge ≡ a → item_end es x ≡ v
  ends_there x e = ap (λ c. end_fan x.sense (edge_data_at es c)) e ∙ go x.sense
    where
      go : (t : Sense) → end_fan t (edge_data_at es a) ≡ v
      go Same = (two_ends_lem (edge_data_at es a) v k.twice).1
      go Reversed = (two_ends_lem (edge_data_at es a) v k.twice).0

  -- and no item of another active edge starts there
  starts_there : (x : Item) → (edge_data_at es x.edge).active ≡ true → item_start es x ≡ v → x.edge ≡ a
  starts_there x act e =
      ⊎_elim (λ w. w.0) (λ w. absurd (omega (arith, k.others x.edge w.0, start_counts (edge_data_at es x.edge) x.sense v act e))) (equal_or_not x.edge a)

  -- a loop with an item of the edge has that item only
  alone : (l : List Item) → LoopSound es l → (x : Item) → x ∈ l → x.edge ≡ a → (i : ℕ) × (turned i l ≡ x ∷ [])
  alone l s x m e =
      let r = in_neighbours l x m in
      let q : Neighbours Item = r.0 in
      let w = in_get_or q r.1 in
      let i : ℕ = w.0 in
      let here : q.here.edge ≡ a = ap (λ (y : Item). y.edge) (sym r.2) ∙ e in
      let next : q.next.edge ≡ a = starts_there q.next (s.actives q.next (neighbour_next l q r.1))
      (closed_next es l s.closed q r.1 ∙ ends_there q.here here) in
      ⊎_elim
      (λ y. (i, y.0 ∙ ap (λ (p : Neighbours Item). p.here ∷ []) w.2 ∙ ap (λ z. z ∷ []) (sym r.2)))
      (λ y. absurd (twice i q.here q.next y.0 here next (y.1 ∙ ap (λ (p : Neighbours Item). p.here ∷ p.next ∷ y.0) w.2)))
      (turn_pair l q i (omega (arith, w.1, length_neighbours l)))
    where
      twice : (i : ℕ) (y z : Item) (t : List Item) → y.edge ≡ a → z.edge ≡ a → turned i l ≡ y ∷ z ∷ t → ⊥
      twice i y z t p q shape =
          let test : Item → Bool = λ u. eqb u.edge a in
          let b = ap (λ c. cond {A = ℕ} c 1 0) (eq-eqb y.edge a p) in
          let c = ap (λ c. cond {A = ℕ} c 1 0) (eq-eqb z.edge a q) in
          let d = ap (λ u. length (keep test u)) shape in
          omega (arith, s.apart a, turn_count test i l, keep_cons test y (z ∷ t), keep_cons test z t)

  pub ring_keeps : (ls : List (List Item)) → LoopsSound es ls → LoopsSound ringed ls
  ring_keeps ls s = record { closed = closed; once = once; apart = s.apart }
    where
      active : (e : ℕ) → (edge_data_at ringed e).active ≡ (edge_data_at es e).active
      active e = set_each (λ j (d : EdgeData). d.active ≡ (edge_data_at es j).active) es a (ring_of (edge_data_at es a)) no_edge_data k.inside refl e (λ n. refl)

      once : (e : ℕ) (t : Sense) → sum_of (item_times e t) ls ≡ cond (edge_data_at ringed e).active 1 0
      once e t = s.once e t ∙ ap (λ c. cond c 1 0) (sym (active e))

      single : (l : List Item) (x : Item) → x.edge ≡ a → ((i : ℕ) × (turned i l ≡ x ∷ [])) → Closed ringed l
      single l x e w =
          let d : edge_data_at ringed x.edge ≡ ring_of (edge_data_at es a) = ap (edge_data_at ringed) e ∙ get_or-set_same es a (ring_of (edge_data_at es a)) no_edge_data k.inside in
          let f = ring_fans (edge_data_at es a) x.sense in
          let start : item_start ringed x ≡ unset = ap (start_fan x.sense) d ∙ f.0 in
          let end : item_end ringed x ≡ unset = ap (end_fan x.sense) d ∙ f.1 in
          closed_unturned ringed w.0 l (subst (Closed ringed) (sym w.1) (unset, (start, end)))

      closed : (l : List Item) → l ∈ ls → Closed ringed l
      closed l m = go (edge_times a l) refl
        where
          one : LoopSound es l
          one = loop_sound es ls s l m

          other : (x : Item) → (x.edge ≡ a → ⊥) → (item_start ringed x ≡ item_start es x) × (item_end ringed x ≡ item_end es x)
          other x n =
              let d : edge_data_at ringed x.edge ≡ edge_data_at es x.edge = get_or-set_other es a x.edge (ring_of (edge_data_at es a)) no_edge_data n in
              (ap (start_fan x.sense) d, ap (end_fan x.sense) d)

          go : (n : ℕ) → edge_times a l ≡ n → Closed ringed l
          go zero h =
              closed_same es ringed l
              (λ x i. other x (λ e. let z = keep_counts (λ (y : Item). eqb y.edge a) i (eq-eqb x.edge a e) in omega arith))
              one.closed
          go (suc n) h =
              let r = counted_one (λ (y : Item). eqb y.edge a) l (omega arith) in
              let e : r.0.edge ≡ a = eqb-true r.0.edge a r.2 in
              single l r.0 e (alone l one r.0 r.1 e)
