-- Fans: new successor and twin of a kept use with ends have one fan, a fan is named by such a use, and all its uses start at one point.
use Prim.Native.Nat.{ℕ, zero, suc, ◌<◌}
use Rattle.std.proofs.Common.{arith, sym, ap, ◌∙◌, subst, ⊎_elim, eq-eqb}
use Rattle.std.specs.Prelude.{◌≡◌, true, false, not, cond, List, length}
use Rattle.std.proofs.Math.Path.{refl}
use Rattle.std.proofs.lemmas.Bool.{not-true}
use Rattle.lists.specs.Lists.{below, iterate}
use Rattle.lists.specs.Tests.{both_ways, and_both, both_and, not_is}
use Rattle.lists.specs.Runs.{in_below, below_in, below_nodup}
use Rattle.lists.specs.Members.{in_keep, keep_in, keep_nodup, get_or_map}
use Rattle.rules.specs.Outcome.{Ok}
use Rattle.rules.specs.Sense.{reverse}
use Rattle.rules.specs.Job.{Job, edge_at, ring, start_by, end_by, point_at}
use Rattle.rules.specs.Load.{loaded}
use Rattle.rules.specs.declared.Rules.{Rules}
use Rattle.rules.specs.Read.{no_use, use_at, edge_of_use, use_start, old_successor}
use Rattle.rules.specs.Groups.{label_of, is_lowest, Lowest}
use Rattle.rules.specs.Merge.{is_removed}
use Rattle.rules.specs.Walk.{over, turn}
use Rattle.rules.specs.Fans.{kept_with_ends, names_fan, start_points, fan_point}
use Rattle.rules.specs.Sew.{Walked}
use Rattle.theorems.specs.Demand3.{KeptUse, Meets, Settled}
use Rattle.theorems.proofs.Connected.{value_equivalence, fans_length, fans_lowest, fans_corner, fans_within}
use Rattle.rules.proofs.SenseLaws.{other_sense, start_reverse, end_reverse}
use Rattle.theorems.specs.Ground.{on_ring, start_of, end_of, Ground}
use Rattle.theorems.proofs.Ground.{ground}
use Rattle.theorems.specs.Fanning.{twin, succ, EndedUse, fan_labels, fan_starts, FansHold, OneStart}

-- USES

pub ended_kept : (j : Job) (w : Walked) (h : ℕ) → EndedUse j w h → KeptUse w h
ended_kept j w h e = (e.0, not-true (is_removed w.merge.removed h) (and_both _ (not (on_ring j w h)) e.1).0)

pub ended_ring : (j : Job) (w : Walked) (h : ℕ) → EndedUse j w h → on_ring j w h ≡ false
ended_ring j w h e = not-true (on_ring j w h) (and_both (not (is_removed w.merge.removed h)) _ e.1).1

pub kept_ended : (j : Job) (w : Walked) (h : ℕ) → KeptUse w h → on_ring j w h ≡ false → EndedUse j w h
kept_ended j w h k r = (k.0, both_and _ _ (not_is (is_removed w.merge.removed h) k.1) (not_is (on_ring j w h) r))

module _ (j : Job) (w : Walked) (G : Ground j w) where
  pub ring_twin : (h : ℕ) → h < length w.uses → on_ring j w (twin w h) ≡ on_ring j w h
  ring_twin h lt = ap (λ e. ring (edge_at j.edges e)) (G.twins.edge h lt)

  pub twin_sense : (h : ℕ) → h < length w.uses → (use_at w.uses (twin w h)).sense ≡ reverse (use_at w.uses h).sense
  twin_sense h lt = other_sense (use_at w.uses (twin w h)).sense (use_at w.uses h).sense (G.twins.sense h lt)

  -- a twin starts where its use ends, and ends where it starts
  start_twin : (h : ℕ) → h < length w.uses → start_of j w (twin w h) ≡ end_of j w h
  start_twin h lt =
      ap (point_at j.points)
      (ap (λ e. start_by (use_at w.uses (twin w h)).sense (edge_at j.edges e)) (G.twins.edge h lt)
      ∙ ap (λ s. start_by s (edge_of_use j.edges (use_at w.uses h))) (twin_sense h lt) ∙ start_reverse (use_at w.uses h).sense (edge_of_use j.edges (use_at w.uses h)))

  end_twin : (h : ℕ) → h < length w.uses → end_of j w (twin w h) ≡ start_of j w h
  end_twin h lt =
      ap (point_at j.points)
      (ap (λ e. end_by (use_at w.uses (twin w h)).sense (edge_at j.edges e)) (G.twins.edge h lt)
      ∙ ap (λ s. end_by s (edge_of_use j.edges (use_at w.uses h))) (twin_sense h lt) ∙ end_reverse (use_at w.uses h).sense (edge_of_use j.edges (use_at w.uses h)))

  -- the uses of a turn are all of rings or none is; they start at one point
  ring_turn : (k h : ℕ) → h < length w.uses → on_ring j w (turn w.uses w.twins h k) ≡ on_ring j w h
  unfolding iterate
  ring_turn zero h lt = refl
  ring_turn (suc k) h lt =
      let t = G.twins.below h lt in
      ring_turn k (over w.uses w.twins h) (G.linked.next_below (twin w h) t) ∙ G.next_ring (twin w h) t ∙ ring_twin h lt

  start_turn : (k h : ℕ) → h < length w.uses → on_ring j w h ≡ false → start_of j w (turn w.uses w.twins h k) ≡ start_of j w h
  unfolding iterate
  start_turn zero h lt e = refl
  start_turn (suc k) h lt e =
      let t = G.twins.below h lt in
      let r = ring_twin h lt ∙ e in
      start_turn k (over w.uses w.twins h) (G.linked.next_below (twin w h) t) (G.next_ring (twin w h) t ∙ r) ∙ G.next_start (twin w h) t r ∙ end_twin h lt

  -- the new successor of a kept use is kept, and of a ring where that is
  pub succ_kept : (h : ℕ) → KeptUse w h → KeptUse w (succ w h)
  succ_kept h k = let m : Meets w h = G.walks.unbroken.meets h k in subst (KeptUse w) (sym m.successor_is) m.kept

  pub ring_succ : (h : ℕ) → KeptUse w h → on_ring j w (succ w h) ≡ on_ring j w h
  ring_succ h k =
      let m : Meets w h = G.walks.unbroken.meets h k in
      ap (on_ring j w) m.successor_is ∙ ring_turn m.passings (old_successor w.uses h) (G.linked.next_below h k.0) ∙ G.next_ring h k.0

  -- it starts where the twin starts
  start_succ : (h : ℕ) → KeptUse w h → on_ring j w h ≡ false → start_of j w (succ w h) ≡ start_of j w (twin w h)
  start_succ h k e =
      let m : Meets w h = G.walks.unbroken.meets h k in
      ap (start_of j w) m.successor_is ∙ start_turn m.passings (old_successor w.uses h) (G.linked.next_below h k.0) (G.next_ring h k.0 ∙ e)
      ∙ G.next_start h k.0 e ∙ sym (start_twin h k.0)

  pub twin_kept : (h : ℕ) → KeptUse w h → KeptUse w (twin w h)
  twin_kept h k = (G.twins.below h k.0, G.linked.removed_twin h k.0 ∙ k.1)

  -- new successor and twin of a kept use with ends are such
  pub ended_succ : (h : ℕ) → EndedUse j w h → EndedUse j w (succ w h)
  ended_succ h e = let k = ended_kept j w h e in kept_ended j w (succ w h) (succ_kept h k) (ring_succ h k ∙ ended_ring j w h e)

  pub ended_twin : (h : ℕ) → EndedUse j w h → EndedUse j w (twin w h)
  ended_twin h e = kept_ended j w (twin w h) (twin_kept h (ended_kept j w h e)) (ring_twin h e.0 ∙ ended_ring j w h e)

-- FANS

module _ (j : Job) (w : Walked) (G : Ground j w) where
  -- one more than the point where a kept use with ends starts, and 0 for any other use
  abbrev mark : ℕ → ℕ
  mark h = cond (kept_with_ends j.edges w.uses w.merge.removed h) (suc (start_of j w h)) 0

  mark_ended : (h : ℕ) → EndedUse j w h → mark h ≡ suc (start_of j w h)
  mark_ended h e = ap (λ t. cond t (suc (start_of j w h)) 0) e.1

  ended_mark : (h v : ℕ) → h < length w.uses → mark h ≡ suc v → EndedUse j w h × (start_of j w h ≡ v)
  ended_mark h v lt e =
      ⊎_elim
      (λ t. let z = mark_ended h (lt, t) in ((lt, t), omega arith))
      (λ t. let z : Path ℕ (mark h) 0 = ap (λ b. cond b (suc (start_of j w h)) 0) t in absurd (omega arith))
      (both_ways (kept_with_ends j.edges w.uses w.merge.removed h))

  -- the new successor of a kept use with ends is a use
  pub succ_below : (h : ℕ) → h < length w.uses → kept_with_ends j.edges w.uses w.merge.removed h ≡ true → succ w h < length w.uses
  succ_below h lt t = (ended_succ j w G h (lt, t)).0

  -- a fan's label is its lowest use; each use has one
  pub fan_lowest : Lowest (fan_labels j w)
  fan_lowest = fans_lowest j.edges w.uses w.twins w.merge.removed w.successors succ_below G.twins.below

  pub fan_size : length (fan_labels j w) ≡ length w.uses
  fan_size = fans_length j.edges w.uses w.twins w.merge.removed w.successors

  -- new successor and twin of a kept use with ends have one mark, so all uses of a fan have
  corner_mark : (h : ℕ) → h < length w.uses → kept_with_ends j.edges w.uses w.merge.removed h ≡ true → mark (succ w h) ≡ mark (twin w h)
  corner_mark h lt t =
      let e : EndedUse j w h = (lt, t) in
      mark_ended (succ w h) (ended_succ j w G h e) ∙ ap suc (start_succ j w G h (ended_kept j w h e) (ended_ring j w h e)) ∙ sym (mark_ended (twin w h) (ended_twin j w G h e))

  -- the use that names a fan has ends, and starts where the fan's uses start
  name_ended : (h : ℕ) → EndedUse j w h → EndedUse j w (label_of (fan_labels j w) h) × (start_of j w (label_of (fan_labels j w) h) ≡ start_of j w h)
  name_ended h e =
      let lt : h < length (fan_labels j w) = omega (arith, e.0, fan_size) in
      let below : label_of (fan_labels j w) h < length w.uses = omega (arith, fan_lowest.low h lt, e.0) in
      ended_mark (label_of (fan_labels j w) h) (start_of j w h) below
      (fans_within j.edges w.uses w.twins w.merge.removed w.successors succ_below G.twins.below (value_equivalence mark) corner_mark
      (label_of (fan_labels j w) h) h below e.0 (fan_lowest.stands h lt)
      ∙ mark_ended h e)

  point_is : (h : ℕ) → h < length w.uses → fan_point (fan_starts j w) h ≡ start_of j w h
  unfolding start_points
  point_is h lt = get_or_map (λ u. point_at j.points (use_start j.edges u)) w.uses h 0 no_use lt

  pub fans_hold : FansHold j w
  fans_hold = record {
    onward = λ h e. fans_corner j.edges w.uses w.twins w.merge.removed w.successors succ_below G.twins.below h e.0 e.1;
    named = λ h e.
        let l = (name_ended h e).0 in
        in_keep (names_fan j.edges w.uses w.merge.removed (fan_labels j w)) (in_below (length w.uses) (label_of (fan_labels j w) h) l.0)
        (both_and _ _ l.1 (eq-eqb _ _ (fan_lowest.stands h (omega (arith, e.0, fan_size)))));
    nodup = keep_nodup (names_fan j.edges w.uses w.merge.removed (fan_labels j w)) (below (length w.uses)) (below_nodup (length w.uses));
    ended = λ v m.
        let r = keep_in (names_fan j.edges w.uses w.merge.removed (fan_labels j w)) (below (length w.uses)) v m in
        (below_in (length w.uses) v r.0, (and_both _ (is_lowest (fan_labels j w) v) r.1).0);
    one_point = λ h e.
        let l = name_ended h e in
        point_is (label_of (fan_labels j w) h) l.0.0 ∙ l.1 ∙ sym (point_is h e.0);
  }

-- for every job that loads and pairs, merges and walks
pub fan_starts_lem : (rules : Rules) (job : List ℕ) (j : Job) (w : Walked) → loaded job ≡ Ok j → Settled rules j w → OneStart j w
fan_starts_lem rules job j w l s h k e f one =
    let G = ground rules job j w l s in
    let F = fans_hold j w G in
    let at = point_is j w G in
    sym (at h e.0) ∙ sym (F.one_point h e) ∙ ap (fan_point (fan_starts j w)) one ∙ F.one_point k f ∙ at k f.0
