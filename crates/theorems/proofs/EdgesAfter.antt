-- The edges after a join: two become inactive, their ends stay, and the new one comes last.
use Rattle.std.specs.Prelude.{◌≡◌, true, List, [], ◌∷◌, ◌++◌, ℕ, ◌+◌, ◌<◌, set}
use Rattle.std.proofs.Math.Path.{refl, ap}
use Rattle.std.proofs.Common.{sym, ◌∙◌, true≢false, arith, length-set}
use Rattle.std.proofs.Math.Bool.{cond}
use Rattle.std.proofs.Math.Decide.{dec_lt, ℕ_discrete}
use Rattle.std.proofs.Math.ListN.{length, get_or, get_or-eq_default}
use Rattle.lists.specs.Tables.{set_two, get_or_snoc_before, get_or_snoc_last, length_snoc}
use Rattle.rules.specs.declared.Sense.{Sense}
use Rattle.rules.specs.declared.Sense.TheVariants.{Same, Reversed}
use Rattle.rules.specs.declared.Item.{Item}
use Rattle.rules.specs.declared.EdgeData.{EdgeData}
use Rattle.rules.specs.Join.{no_edge_data, edge_data_at, start_fan, end_fan, item_start, item_end, joined_edge, retired}
use Rattle.rules.specs.Join.{join_edges}
use Rattle.theorems.specs.Ends.{active_one, one_at, TwoEdges}
use Rattle.theorems.proofs.Ends.{one_at_same, one_at_other, ends_active}

-- an active edge exists
pub active_inside : (es : List EdgeData) (e : ℕ) → (edge_data_at es e).active ≡ true → e < length es
active_inside es e h =
    elim (dec_lt e (length es)) [
      | yes k ↦ k
      | no k ↦ absurd (true≢false (sym h ∙ ap (λ (d : EdgeData). d.active) (get_or-eq_default es no_edge_data {n = e} (omega arith))))
    ]

fans_same : (d e : EdgeData) (t : Sense) → (d.start ≡ e.start) × (d.end ≡ e.end) → (start_fan t d ≡ start_fan t e) × (end_fan t d ≡ end_fan t e)
fans_same d e Same p = (p.0, p.1)
fans_same d e Reversed p = (p.1, p.0)

module _ (es : List EdgeData) (v a b : ℕ) (k : TwoEdges es v a b) where
  pub first_in : a < length es
  first_in = omega (arith, k.lower, k.inside)

  pub apart_edges : a ≡ b → ⊥
  apart_edges e = omega (arith, k.lower)

  abbrev stored : List EdgeData
  stored = set (set es a (retired (edge_data_at es a))) b (retired (edge_data_at es b))

  stored_length : length stored ≡ length es
  stored_length = length-set (set es a (retired (edge_data_at es a))) b (retired (edge_data_at es b)) ∙ length-set es a (retired (edge_data_at es a))

  -- what each edge is after the join: those before it but for their activity, then the new one
  pub old_edge : (e : ℕ) → e < length es → edge_data_at (join_edges v a b es) e ≡ edge_data_at stored e
  unfolding join_edges
  old_edge e h = get_or_snoc_before stored (joined_edge v (edge_data_at es a) (edge_data_at es b)) no_edge_data e (omega (arith, stored_length))

  pub new_edge : edge_data_at (join_edges v a b es) (length es) ≡ joined_edge v (edge_data_at es a) (edge_data_at es b)
  unfolding join_edges
  new_edge =
      let d : EdgeData = joined_edge v (edge_data_at es a) (edge_data_at es b) in
      ap (λ n. get_or (stored ++ (d ∷ [])) n no_edge_data) (sym stored_length) ∙ get_or_snoc_last stored d no_edge_data

  pub no_edge_lem : (e : ℕ) → length es < e → edge_data_at (join_edges v a b es) e ≡ no_edge_data
  unfolding join_edges
  no_edge_lem e h =
      let d : EdgeData = joined_edge v (edge_data_at es a) (edge_data_at es b) in
      get_or-eq_default (stored ++ (d ∷ [])) no_edge_data {n = e} (omega (arith, length_snoc stored d, stored_length))

  -- the ends of the edges before it stay
  pub fans_stay : (x : Item) → x.edge < length es → (item_start (join_edges v a b es) x ≡ item_start es x) × (item_end (join_edges v a b es) x ≡ item_end es x)
  fans_stay x h =
      let p = set_two (λ e (d : EdgeData). (d.start ≡ (edge_data_at es e).start) × (d.end ≡ (edge_data_at es e).end)) es a b (retired (edge_data_at es a)) (retired (edge_data_at es b)) no_edge_data
      first_in k.inside apart_edges (refl, refl) (refl, refl) x.edge (λ m n. (refl, refl)) in
      let r = fans_same (edge_data_at stored x.edge) (edge_data_at es x.edge) x.sense p in
      (ap (start_fan x.sense) (old_edge x.edge h) ∙ r.0, ap (end_fan x.sense) (old_edge x.edge h) ∙ r.1)

  -- two edges become inactive, the new one is active
  pub actives_after : (e : ℕ) → active_one (edge_data_at (join_edges v a b es) e) + (one_at a e + one_at b e) ≡ active_one (edge_data_at es e) + one_at (length es) e
  unfolding joined_edge
  actives_after e =
      elim (dec_lt e (length es)) [
        | yes h ↦
            let p = set_two (λ j (d : EdgeData). active_one d + (one_at a j + one_at b j) ≡ active_one (edge_data_at es j)) es a b
            (retired (edge_data_at es a)) (retired (edge_data_at es b)) no_edge_data
            first_in k.inside apart_edges
            (let z = ap (λ c. cond {A = ℕ} c 1 0) (ends_active (edge_data_at es a) v (omega (arith, k.first_once))) in
            omega (arith, one_at_same a a refl, one_at_other b a (λ q. apart_edges (sym q))))
            (let z = ap (λ c. cond {A = ℕ} c 1 0) (ends_active (edge_data_at es b) v (omega (arith, k.second_once))) in
            omega (arith, one_at_same b b refl, one_at_other a b apart_edges))
            e (λ m n. omega (arith, one_at_other a e (λ q. m (sym q)), one_at_other b e (λ q. n (sym q)))) in
            let z = ap active_one (old_edge e h) in
            omega (arith, one_at_other (length es) e (λ (q : length es ≡ e). omega arith))
        | no h ↦
            let d = ap active_one (get_or-eq_default es no_edge_data {n = e} (omega arith)) in
            let na = one_at_other a e (λ (q : a ≡ e). omega (arith, first_in)) in
            let nb = one_at_other b e (λ (q : b ≡ e). omega (arith, k.inside)) in
            elim (ℕ_discrete e (length es)) [
              | yes q ↦ let z = ap (λ j. active_one (edge_data_at (join_edges v a b es) j)) q ∙ ap active_one new_edge in omega (arith, one_at_same (length es) e (sym q))
              | no q ↦ let z = ap active_one (no_edge_lem e (omega arith)) in omega (arith, one_at_other (length es) e (λ y. q (sym y)))
            ]
      ]
