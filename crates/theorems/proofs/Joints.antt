-- Joints: a use of a ring is alone in its loop; any other ends at the point where its old successor starts, whichever way its face is selected.
use Prim.Native.Nat.{ℕ, zero, suc, ◌<◌}
use Rattle.std.proofs.Common.{not-suc-le-zero, arith, sym, ap, ◌∙◌, subst, true≢false}
use Rattle.std.specs.Prelude.{◌≡◌, refl, ◌⊎◌, true, false, not, length, get_or}
use Rattle.std.proofs.Math.Logic.{inl, inr, ⊎_elim}
use Rattle.std.proofs.lemmas.Bool.{false≢true}
use mathlib.Core.List.{List, [], ◌∷◌, map, reverse as backwards}
use borrow.Author.Tests.{eqb-true, eq-eqb, not-true}
use Rattle.lists.specs.Lists.{Neighbours, neighbours, all}
use Rattle.lists.specs.Tests.{or_cases, and_both}
use Rattle.lists.specs.Membership.{get_or_in}
use Rattle.lists.specs.Members.{all_in}
use Rattle.lists.specs.Cyclic.{next_place, length_neighbours, neighbours_at}
use Rattle.lists.specs.CyclicPlaces.{next_place_below, get_or_reverse, each_backwards}
use Rattle.rules.specs.declared.Sense.{Sense}
use Rattle.rules.specs.declared.Sense.TheVariants.{Same, Reversed}
use Rattle.rules.specs.declared.Edge.{Edge}
use Rattle.rules.specs.declared.Item.{Item}
use Rattle.rules.specs.declared.Use.{Use}
use Rattle.rules.proofs.SenseLaws.{start_reverse, end_reverse}
use Rattle.rules.specs.Job.{Content, of_items, at_vertex, Job, edge_at, face_at, ring, of_ring, point_at, start_vertex}
use Rattle.rules.specs.Job.{end_vertex}
use Rattle.rules.specs.Load.{joint, lone_ring, jointed}
use Rattle.rules.specs.Read.{reversed_item, traversed, content_items, uses_of, use_at, old_successor, edge_of_use, use_start}
use Rattle.theorems.specs.Sound.{Sound}
use Rattle.theorems.specs.Reading.{no_item, item_at}
use Rattle.theorems.proofs.Reading.{traversed_length, reversed_at, items_length, SeatIn, seat, seat_use}
use Rattle.theorems.proofs.Reading.{seat_next, seat_next_use}
use Rattle.theorems.specs.Joints.{Meeting, use_end, RingNext, EndsNext}

-- JOINTS OF ITEMS

module _ (points : List ℕ) (es : List Edge) where
  -- what a joint is
  joint_meets : (p : Neighbours Item) → joint points es p ≡ true → Meeting points es p.here p.next
  unfolding joint
  joint_meets p e =
      let a = and_both (not (of_ring es p.here)) _ e in
      let b = and_both (not (of_ring es p.next)) _ a.1 in
      record { here = not-true _ a.0; next = not-true _ b.0; point = eqb-true _ _ b.1 }

  -- uses that meet at one vertex, as document 01 has it, are a joint: what joined by vertex joins by point
  pub one_vertex_joins : (x y : Item) → of_ring es x ≡ false → of_ring es y ≡ false → end_vertex es x ≡ start_vertex es y
      → joint points es (record { here = x; next = y }) ≡ true
  unfolding joint
  one_vertex_joins x y here next vertex = rw (here, next, eq-eqb _ _ (ap (point_at points) vertex))

  -- in the other sense the other meets the one
  meeting_reversed : (x y : Item) → Meeting points es x y → Meeting points es (reversed_item y) (reversed_item x)
  meeting_reversed x y m = record {
    here = m.next;
    next = m.here;
    point =
        ap (point_at points) (end_reverse y.sense (edge_at es y.edge)) ∙ sym m.point
        ∙ sym (ap (point_at points) (start_reverse x.sense (edge_at es x.edge)));
  }

  -- the item at a place of a loop and the one after: a ring alone, or a meeting
  abbrev MeetsAt : List Item → ℕ → Type 0
  MeetsAt xs k =
      ((of_ring es (item_at xs k) ≡ true) × (next_place k (length xs) ≡ k)) ⊎ Meeting points es (item_at xs k) (item_at xs (next_place k (length xs)))

  joints_meet : (xs : List Item) → all (joint points es) (neighbours xs) ≡ true → (k : ℕ) → k < length xs
      → Meeting points es (item_at xs k) (item_at xs (next_place k (length xs)))
  joints_meet xs e k h =
      let d : Neighbours Item = record { here = no_item; next = no_item } in
      let m = get_or_in (neighbours xs) k d (omega (arith, length_neighbours xs)) in
      subst (λ (p : Neighbours Item). Meeting points es p.here p.next) (neighbours_at xs no_item d k h)
      (joint_meets (get_or (neighbours xs) k d) (all_in (joint points es) (neighbours xs) e _ m))

  -- a loop whose joints hold, whichever way it is traversed
  meets_traversed : (s : Sense) (xs : List Item) → all (joint points es) (neighbours xs) ≡ true → (k : ℕ) → k < length xs
      → Meeting points es (item_at (traversed s xs) k) (item_at (traversed s xs) (next_place k (length (traversed s xs))))
  meets_traversed Same xs e k h = joints_meet xs e k h
  meets_traversed Reversed xs e k h =
      let n : ℕ = length xs in
      let ys : List Item = backwards (map reversed_item xs) in
      let b : next_place k n < n = next_place_below k n h in
      let at : (i : ℕ) → i < n → reversed_item (item_at (backwards xs) i) ≡ item_at ys i =
      λ i q. ap reversed_item (get_or_reverse xs no_item i q) ∙ sym (reversed_at xs i q) in
      let r = each_backwards (λ x y. Meeting points es (reversed_item y) (reversed_item x)) xs no_item (λ i q. meeting_reversed _ _ (joints_meet xs e i q)) k h in
      subst (λ m. Meeting points es (item_at ys k) (item_at ys (next_place k m))) (sym (traversed_length Reversed xs))
      (subst (Meeting points es (item_at ys k)) (at (next_place k n) b)
      (subst (λ x. Meeting points es x (reversed_item (item_at (backwards xs) (next_place k n)))) (at k h) r))

  lone_meets : (s : Sense) (xs : List Item) → lone_ring es xs ≡ true → (k : ℕ) → k < length xs → MeetsAt (traversed s xs) k
  unfolding lone_ring
  lone_meets s [] e k h = absurd (false≢true e)
  lone_meets s (x ∷ y ∷ ys) e k h = absurd (false≢true e)
  lone_meets s (x ∷ []) e (suc k) h = absurd (omega arith)
  lone_meets Same (x ∷ []) e zero h = inl (e, refl)
  lone_meets Reversed (x ∷ []) e zero h = inl (e, refl)

  content_meets : (s : Sense) (c : Content) → ((xs : List Item) → c ≡ of_items xs → jointed points es xs ≡ true) → (k : ℕ) → k < length (content_items c)
      → MeetsAt (traversed s (content_items c)) k
  unfolding jointed
  content_meets s (of_items xs) joints k h =
      ⊎_elim (λ e. lone_meets s xs e k h) (λ e. inr (meets_traversed s xs e k h))
      (or_cases (lone_ring es xs) (all (joint points es) (neighbours xs)) (joints xs refl))
  content_meets s (at_vertex v) joints k h = absurd (not-suc-le-zero h)

-- JOINTS OF USES

-- a use and its old successor: the same use of a ring, or uses with ends that meet
pub next_joint : (j : Job) → Sound j → (h : ℕ) → h < length (uses_of j) → RingNext j.edges (uses_of j) h ⊎ EndsNext j.points j.edges (uses_of j) h
next_joint j sound h lt =
    ⊎_elim
    (λ w.
    let same : old_successor us h ≡ h = seat_next j s ∙ omega (arith, w.1, s.here) in
    let r : ring (edge_of_use es (use_at us h)) ≡ true = ap (λ (u : Use). ring (edge_of_use es u)) (seat_use j s) ∙ w.0 in
    inl (record { here = r; next = ap (λ k. ring (edge_of_use es (use_at us k))) same ∙ r; alone = same }))
    (λ m.
    inr
    (record {
      here = ap (λ (u : Use). ring (edge_of_use es u)) (seat_use j s) ∙ m.here;
      next = ap (λ (u : Use). ring (edge_of_use es u)) (seat_next_use j s) ∙ m.next;
      point =
          ap (λ (u : Use). point_at j.points (use_start es u)) (seat_next_use j s) ∙ sym m.point
          ∙ sym (ap (λ (u : Use). point_at j.points (use_end es u)) (seat_use j s));
    }))
    (content_meets j.points es (face_at j.faces s.loop.face).selected s.loop.content (λ xs. sound.joints s.loop xs s.member) s.place
    (omega (arith, s.inside, items_length j.faces s.loop)))
  where
    es : List Edge
    es = j.edges

    us : List Use
    us = uses_of j

    s : SeatIn j h
    s = seat j h lt

-- a use and its old successor are both of rings or neither is
pub next_ring : (j : Job) → Sound j → (h : ℕ) → h < length (uses_of j)
    → ring (edge_of_use j.edges (use_at (uses_of j) (old_successor (uses_of j) h))) ≡ ring (edge_of_use j.edges (use_at (uses_of j) h))
next_ring j sound h lt = ⊎_elim (λ r. r.next ∙ sym r.here) (λ r. r.next ∙ sym r.here) (next_joint j sound h lt)

-- the old successor of a use of a ring is the use
pub ring_alone : (j : Job) → Sound j → (h : ℕ) → h < length (uses_of j) → ring (edge_of_use j.edges (use_at (uses_of j) h)) ≡ true
    → old_successor (uses_of j) h ≡ h
ring_alone j sound h lt e = ⊎_elim (λ r. r.alone) (λ r. absurd (true≢false (sym e ∙ r.here))) (next_joint j sound h lt)

-- the old successor of a use with ends starts at the point where the use ends
pub next_starts : (j : Job) → Sound j → (h : ℕ) → h < length (uses_of j) → ring (edge_of_use j.edges (use_at (uses_of j) h)) ≡ false
    → point_at j.points (use_start j.edges (use_at (uses_of j) (old_successor (uses_of j) h))) ≡ point_at j.points (use_end j.edges (use_at (uses_of j) h))
next_starts j sound h lt e = ⊎_elim (λ r. absurd (true≢false (sym r.here ∙ e))) (λ r. r.point) (next_joint j sound h lt)
