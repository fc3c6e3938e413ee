-- Closed trails of items, how often an edge stands in them, and what soundness of all loops says of one.
use Rattle.std.specs.Prelude.{◌≡◌, refl, Bool, true, false, ◌&&◌, cond, List, [], ◌∷◌, ◌++◌, ℕ, ◌+◌, ◌≤◌, take, drop}
use Rattle.std.specs.Prelude.{eqb}
use Rattle.std.proofs.Common.{sym, ap, ◌∙◌, subst, ⊎_elim, arith, take-append-drop, eqb-true, eq-eqb}
use mathlib.Core.List.Memᴰ
use Rattle.lists.specs.Lists.{◌∈◌, Neighbours, neighbours_from, neighbours}
use Rattle.lists.specs.Tests.{both_ways, and_both, both_and}
use Rattle.lists.specs.KeepCounts.{keep_none, keep_cons, keep_counts, sum_member}
use Rattle.rules.specs.declared.Sense.{Sense}
use Rattle.rules.specs.declared.Sense.TheVariants.{Same, Reversed}
use Rattle.rules.specs.declared.Item.{Item}
use Rattle.rules.specs.declared.EdgeData.{EdgeData}
use Rattle.rules.proofs.SenseLaws.{tested_sense, sense_tested}
use Rattle.rules.specs.Sense.{reverse, same_sense}
use Rattle.rules.specs.Join.{edge_data_at, start_fan, end_fan, item_start, item_end, turned}
use Rattle.theorems.specs.Linked.{Trail, is_item, item_times, LoopsSound}
use Rattle.theorems.specs.Ends.{ends_one}
use Rattle.theorems.proofs.Ends.{one_at_same, active_ends}
use Rattle.theorems.specs.Trails.{edge_times, Closed, SameFans, LoopSound}

-- SENSES AND ITEMS

pub reverse_twice : (t : Sense) → reverse (reverse t) ≡ t
reverse_twice Same = refl
reverse_twice Reversed = refl

-- the two senses of an edge are counted together: an item counted in either, and a sense counted for either item
both_senses : (p : Bool) (s t : Sense) → cond (p && same_sense t s) 1 0 + cond (p && same_sense t (reverse s)) 1 0 ≡ cond p 1 0
both_senses true Same Same = refl
both_senses true Same Reversed = refl
both_senses true Reversed Same = refl
both_senses true Reversed Reversed = refl
both_senses false s t = refl

pub both_items : (p : Bool) (s t : Sense) → cond (p && same_sense s t) 1 0 + cond (p && same_sense (reverse s) t) 1 0 ≡ cond p 1 0
both_items true Same Same = refl
both_items true Same Reversed = refl
both_items true Reversed Same = refl
both_items true Reversed Reversed = refl
both_items false s t = refl

pub is_item_lem : (e : ℕ) (t : Sense) (x : Item) → x.edge ≡ e → x.sense ≡ t → is_item e t x ≡ true
is_item_lem e t x p q = both_and (eqb x.edge e) (same_sense x.sense t) (eq-eqb x.edge e p) (ap (λ u. same_sense u t) q ∙ sense_tested t)

pub item_is : (e : ℕ) (t : Sense) (x : Item) → is_item e t x ≡ true → x ≡ record { edge = e; sense = t }
item_is e t x h =
    let r = and_both (eqb x.edge e) (same_sense x.sense t) h in
    let p : x.edge ≡ e = eqb-true x.edge e r.0 in
    let q : x.sense ≡ t = tested_sense x.sense t r.1 in
    λ i. record { edge = p i; sense = q i }

pub edge_times_lem : (e : ℕ) (t : Sense) (l : List Item) → edge_times e l ≡ item_times e t l + item_times e (reverse t) l
edge_times_lem e t [] = omega (arith, keep_none {A = Item} (λ x. eqb x.edge e), keep_none (is_item e t), keep_none (is_item e (reverse t)))
edge_times_lem e t (x ∷ l) =
    omega (
      arith,
      keep_cons (λ x. eqb x.edge e) x l,
      keep_cons (is_item e t) x l,
      keep_cons (is_item e (reverse t)) x l,
      both_senses (eqb x.edge e) t x.sense,
      edge_times_lem e t l,
    )

-- an active edge ends at the fans where its items start and end
pub end_counts : (e : EdgeData) (t : Sense) (v : ℕ) → e.active ≡ true → end_fan t e ≡ v → 1 ≤ ends_one v e
end_counts e Same v h p = omega (arith, active_ends e v h, one_at_same e.end v p)
end_counts e Reversed v h p = omega (arith, active_ends e v h, one_at_same e.start v p)

pub start_counts : (e : EdgeData) (t : Sense) (v : ℕ) → e.active ≡ true → start_fan t e ≡ v → 1 ≤ ends_one v e
start_counts e Same v h p = omega (arith, active_ends e v h, one_at_same e.start v p)
start_counts e Reversed v h p = omega (arith, active_ends e v h, one_at_same e.end v p)

-- TRAILS

trail_split : (es : List EdgeData) (l r : List Item) (x z : ℕ) → Trail es x (l ++ r) z → (y : ℕ) × Trail es x l y × Trail es y r z
trail_split es [] r x z t = (x, refl, t)
trail_split es (i ∷ l) r x z t = let q = trail_split es l r (item_end es i) z t.1 in (q.0, (t.0, q.1), q.2)

trail_append : (es : List EdgeData) (l r : List Item) (x y z : ℕ) → Trail es x l y → Trail es y r z → Trail es x (l ++ r) z
trail_append es [] r x y z t u = subst (λ w. Trail es w r z) (sym t) u
trail_append es (i ∷ l) r x y z t u = (t.0, trail_append es l r (item_end es i) y z t.1 u)

-- a closed trail stays closed when turned, and comes from a closed one
pub closed_turned : (es : List EdgeData) (i : ℕ) (l : List Item) → Closed es l → Closed es (turned i l)
closed_turned es i l c =
    let q = trail_split es (take i l) (drop i l) c.0 c.0 (subst (λ w. Trail es c.0 w c.0) (sym (take-append-drop i l)) c.1) in
    (q.0, trail_append es (drop i l) (take i l) q.0 c.0 q.0 q.2 q.1)

pub closed_unturned : (es : List EdgeData) (i : ℕ) (l : List Item) → Closed es (turned i l) → Closed es l
closed_unturned es i l c =
    let q = trail_split es (drop i l) (take i l) c.0 c.0 c.1 in
    (q.0, subst (λ w. Trail es q.0 w q.0) (take-append-drop i l) (trail_append es (take i l) (drop i l) q.0 c.0 q.0 q.2 q.1))

trail_next : (es : List EdgeData) (first i : Item) (l : List Item) → Trail es (item_end es i) l (item_start es first) → (q : Neighbours Item) → q ∈ neighbours_from first i l
    → item_start es q.next ≡ item_end es q.here
unfolding neighbours_from
trail_next es first i [] t q m =
    ⊎_elim (λ e. ap (λ p. item_start es p.next) e ∙ sym t ∙ sym (ap (λ p. item_end es p.here) e)) (λ k. absurd (Memᴰ.not-nil k)) (Memᴰ.cases_cons m)
trail_next es first i (j ∷ l) t q m =
    ⊎_elim (λ e. ap (λ p. item_start es p.next) e ∙ t.0 ∙ sym (ap (λ p. item_end es p.here) e)) (λ k. trail_next es first j l t.1 q k) (Memᴰ.cases_cons m)

-- in a closed trail each item starts where the one before it, cyclically, ends
pub closed_next : (es : List EdgeData) (l : List Item) → Closed es l → (q : Neighbours Item) → q ∈ neighbours l → item_start es q.next ≡ item_end es q.here
unfolding neighbours
closed_next es [] c q m = absurd (Memᴰ.not-nil m)
closed_next es (i ∷ l) c q m = trail_next es i i l (subst (λ w. Trail es (item_end es i) l w) (sym c.1.0) c.1.1) q m

trail_same : (es es' : List EdgeData) (l : List Item) (x y : ℕ) → SameFans es es' l → Trail es x l y → Trail es' x l y
trail_same es es' [] x y h t = t
trail_same es es' (i ∷ l) x y h t =
    let e = h i (Memᴰ.head refl) in
    (e.0 ∙ t.0, subst (λ w. Trail es' w l y) (sym e.1) (trail_same es es' l (item_end es i) y (λ z m. h z (Memᴰ.tail m)) t.1))

pub closed_same : (es es' : List EdgeData) (l : List Item) → SameFans es es' l → Closed es l → Closed es' l
closed_same es es' l h c = (c.0, trail_same es es' l c.0 c.0 h c.1)

-- two items at the front of a closed trail become one that starts where the first does and ends where the second does
pub closed_replaced : (es es' : List EdgeData) (x y n : Item) (l : List Item) → SameFans es es' l → item_start es' n ≡ item_start es x → item_end es' n ≡ item_end es y
    → Closed es (x ∷ y ∷ l) → Closed es' (n ∷ l)
closed_replaced es es' x y n l h p q c =
    (c.0, (p ∙ c.1.0, subst (λ w. Trail es' w l c.0) (sym q) (trail_same es es' l (item_end es y) c.0 h c.1.1.1)))

-- ONE LOOP

pub loop_sound : (es : List EdgeData) (ls : List (List Item)) → LoopsSound es ls → (l : List Item) → l ∈ ls → LoopSound es l
loop_sound es ls s l m = record { closed = s.closed l m; actives = actives; apart = s.apart l m }
  where
    actives : (x : Item) → x ∈ l → (edge_data_at es x.edge).active ≡ true
    actives x i =
        let one : 1 ≤ item_times x.edge x.sense l = keep_counts (is_item x.edge x.sense) i (is_item_lem x.edge x.sense x refl refl) in
        let all = sum_member (item_times x.edge x.sense) m in
        let sum = s.once x.edge x.sense in
        ⊎_elim (λ t. t) (λ t. absurd (let z = ap (λ c. cond {A = ℕ} c 1 0) t in omega arith)) (both_ways (edge_data_at es x.edge).active)
