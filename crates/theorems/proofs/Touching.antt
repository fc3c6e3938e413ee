-- A fan lies in one boundary and in one lump, so that contact tests may read both at the use that names the fan.
use Prim.Native.Nat.{ℕ, zero, suc, ◌<◌}
use Rattle.std.proofs.Common.{arith, ◌∙◌, subst}
use Rattle.std.specs.Prelude.{◌≡◌, true, List, map}
use Rattle.std.proofs.Math.Path.{refl, sym, ap}
use Rattle.std.proofs.Math.ListN.{length, get_or}
use Rattle.lists.specs.Lists.{iterate, index_of}
use Rattle.lists.specs.Members.{get_or_map}
use Rattle.rules.specs.declared.Use.{Use}
use Rattle.rules.specs.Outcome.{Ok}
use Rattle.rules.specs.Job.{Job}
use Rattle.rules.specs.Load.{loaded}
use Rattle.rules.specs.Read.{uses_of, face_of_use, old_successor}
use Rattle.rules.specs.Groups.{label_of, lowest_members}
use Rattle.rules.specs.declared.Rules.{Rules}
use Rattle.rules.specs.Merge.{boundaries}
use Rattle.rules.specs.Walk.{over, turn}
use Rattle.rules.specs.Fans.{kept_with_ends}
use Rattle.rules.specs.Contact.{use_label}
use Rattle.rules.specs.Shells.{Nested, lump_labels}
use Rattle.rules.specs.Sew.{Walked}
use Rattle.theorems.specs.Demand3.{Meets, KeptUse, Settled}
use Rattle.theorems.proofs.Connected.{value_equivalence, boundaries_twin, fans_within}
use Rattle.theorems.proofs.Reading.{use_face_below}
use Rattle.theorems.proofs.Loading.{loaded_sound}
use Rattle.theorems.proofs.Merging.{merge_boundaries, merge_boundaries_length}
use Rattle.theorems.specs.Ground.{Ground}
use Rattle.theorems.proofs.Ground.{ground, settled_uses}
use Rattle.theorems.specs.Fanning.{twin, succ, EndedUse, fan_labels}
use Rattle.theorems.proofs.Fanning.{ended_kept, succ_below, fan_lowest, fan_size}

module _ (rules : Rules) (job : List ℕ) (j : Job) (w : Walked) (l : loaded job ≡ Ok j) (s : Settled rules j w) where
  abbrev G : Ground j w
  G = ground rules job j w l s

  face : (h : ℕ) → h < length w.uses → face_of_use w.uses h < length j.faces
  face = subst (λ (u : List Use). (h : ℕ) → h < length u → face_of_use u h < length j.faces) (settled_uses rules j w s) (use_face_below j (loaded_sound job j l))

  -- the boundary of a use's face
  abbrev side : ℕ → ℕ
  side h = label_of (boundaries w.uses w.twins (length j.faces)) (face_of_use w.uses h)

  side_twin : (h : ℕ) → h < length w.uses → side (twin w h) ≡ side h
  side_twin h lt = sym (boundaries_twin w.uses w.twins (length j.faces) face G.twins.below h lt)

  side_next : (h : ℕ) → h < length w.uses → side (old_successor w.uses h) ≡ side h
  side_next h lt = ap (label_of (boundaries w.uses w.twins (length j.faces))) (G.linked.next_face h lt)

  side_turn : (k h : ℕ) → h < length w.uses → side (turn w.uses w.twins h k) ≡ side h
  unfolding iterate
  side_turn zero h lt = refl
  side_turn (suc k) h lt =
      let b = G.twins.below h lt in
      side_turn k (over w.uses w.twins h) (G.linked.next_below (twin w h) b) ∙ side_next (twin w h) b ∙ side_twin h lt

  side_succ : (h : ℕ) → KeptUse w h → side (succ w h) ≡ side h
  side_succ h k =
      let m : Meets w h = G.walks.unbroken.meets h k in
      ap side m.successor_is ∙ side_turn m.passings (old_successor w.uses h) (G.linked.next_below h k.0) ∙ side_next h k.0

  corner_side : (h : ℕ) → h < length w.uses → kept_with_ends j.edges w.uses w.merge.removed h ≡ true → side (succ w h) ≡ side (twin w h)
  corner_side h lt e = side_succ h (ended_kept j w h (lt, e)) ∙ sym (side_twin h lt)

  -- the boundary at the use that names a fan is that of each of its uses
  pub one_boundary : (h : ℕ) → EndedUse j w h → use_label w.uses w.merge.boundaries (label_of (fan_labels j w) h) ≡ use_label w.uses w.merge.boundaries h
  one_boundary h e =
      let lt : h < length (fan_labels j w) = omega (arith, e.0, fan_size j w G) in
      let below : label_of (fan_labels j w) h < length w.uses = omega (arith, (fan_lowest j w G).low h lt, e.0) in
      let b : w.merge.boundaries ≡ boundaries w.uses w.twins (length j.faces) =
      merge_boundaries rules.table j.answers j.faces (uses_of j) w.twins w.merge s.surfaces ∙ ap (λ (u : List Use). boundaries u w.twins (length j.faces)) (settled_uses rules j w s) in
      let r : side (label_of (fan_labels j w) h) ≡ side h =
      fans_within j.edges w.uses w.twins w.merge.removed w.successors (succ_below j w G) G.twins.below (value_equivalence side) corner_side
      (label_of (fan_labels j w) h) h below e.0 ((fan_lowest j w G).stands h lt) in
      ap (λ bs. use_label w.uses bs (label_of (fan_labels j w) h)) b ∙ r ∙ sym (ap (λ bs. use_label w.uses bs h) b)

  -- so is the lump
  pub one_lump : (ns : List Nested) (h : ℕ) → EndedUse j w h
      → use_label w.uses (lump_labels w.merge.boundaries ns) (label_of (fan_labels j w) h) ≡ use_label w.uses (lump_labels w.merge.boundaries ns) h
  unfolding lump_labels
  one_lump ns h e =
      let lt : h < length (fan_labels j w) = omega (arith, e.0, fan_size j w G) in
      let below : label_of (fan_labels j w) h < length w.uses = omega (arith, (fan_lowest j w G).low h lt, e.0) in
      let size = merge_boundaries_length rules.table j.answers j.faces (uses_of j) w.twins w.merge s.surfaces in
      let lump : ℕ → ℕ = λ b. get_or (map (λ (n : Nested). n.home) ns) (index_of b (lowest_members w.merge.boundaries)) 0 in
      let at : (u : ℕ) → u < length w.uses → use_label w.uses (map lump w.merge.boundaries) u ≡ lump (use_label w.uses w.merge.boundaries u) =
      (λ u lt. get_or_map lump w.merge.boundaries (face_of_use w.uses u) 0 0 (omega (arith, face u lt, size))) in
      at (label_of (fan_labels j w) h) below ∙ ap lump (one_boundary h e) ∙ sym (at h e.0)
