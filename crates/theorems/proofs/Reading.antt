-- Reading: which loop and item a use comes from; the old successor is a use, is one to one and keeps the face.
use Rattle.std.specs.Prelude.{ℕ, zero, suc, ◌+◌, ◌-◌, ◌≤◌, ◌<◌, ◌≡◌, refl, Bool, true, false, cond, List, [], ◌∷◌, ◌++◌}
use Rattle.std.specs.Prelude.{map, reverse as backwards, length, eqb, ltb}
use Rattle.std.proofs.Common.{not-suc-le-zero, arith, sym, ap, ◌∙◌, subst, ⊎_elim, length-append, get_or-append-add}
use Rattle.std.proofs.Common.{ne_eqb, ltb-true, ltb-false}
use mathlib.Core.List.Memᴰ
use Rattle.std.proofs.lemmas.List.{length-map, length-reverse}
use Rattle.std.proofs.Math.ListN.{get_or-append}
use Rattle.std.proofs.Math.Dec.{eqb-suc-suc}
use Rattle.lists.specs.Lists.{◌∈◌, sum_of}
use Rattle.lists.specs.Tests.{both_ways}
use Rattle.lists.specs.Membership.{get_or_in}
use Rattle.lists.specs.Members.{get_or_map}
use Rattle.lists.specs.Cyclic.{next_place}
use Rattle.lists.specs.CyclicPlaces.{next_place_below, place_before, get_or_reverse}
use Rattle.lists.specs.Onto.{onto_one_to_one}
use Rattle.rules.specs.declared.Sense.{Sense}
use Rattle.rules.specs.declared.Sense.TheVariants.{Same, Reversed}
use Rattle.rules.specs.declared.Face.{Face}
use Rattle.rules.specs.declared.Item.{Item}
use Rattle.rules.specs.declared.Use.{Use}
use Rattle.rules.specs.Job.{Loop, Job, face_at}
use Rattle.rules.specs.Read.{reversed_item, traversed, content_items, loop_items, loop_uses, read, uses_of, no_use, use_at}
use Rattle.rules.specs.Read.{face_of_use, old_successor}
use Rattle.theorems.specs.Sound.{Sound}
use Rattle.theorems.specs.Reading.{no_item, item_at, use_of, items_in, Seat}

-- THE ITEMS OF A LOOP AS ITS FACE IS SELECTED

pub traversed_length : (s : Sense) (xs : List Item) → length (traversed s xs) ≡ length xs
traversed_length Same xs = refl
traversed_length Reversed xs = length-reverse (map reversed_item xs) ∙ length-map xs reversed_item

-- an item of the loop in the other sense, from the other end
pub reversed_at : (xs : List Item) (k : ℕ) → k < length xs → item_at (backwards (map reversed_item xs)) k ≡ reversed_item (item_at xs (length xs - suc k))
reversed_at xs k h =
    let e : length (map reversed_item xs) ≡ length xs = length-map xs reversed_item in
    get_or_reverse (map reversed_item xs) no_item k (omega (arith, e)) ∙ ap (λ n. item_at (map reversed_item xs) (n - suc k)) e
    ∙ get_or_map reversed_item xs (length xs - suc k) no_item no_item (omega arith)

-- each item's edge is that of an item of the loop
pub traversed_edge : (s : Sense) (xs : List Item) (k : ℕ) → k < length xs → (x : Item) × (x ∈ xs) × ((item_at (traversed s xs) k).edge ≡ x.edge)
traversed_edge Same xs k h = (item_at xs k, get_or_in xs k no_item h, refl)
traversed_edge Reversed xs k h =
    let m : ℕ = length xs - suc k in
    (item_at xs m, get_or_in xs m no_item (omega arith), ap (λ (x : Item). x.edge) (reversed_at xs k h))

-- ONE LOOP

pub loop_length : (face first h : ℕ) (xs : List Item) → length (loop_uses face first h xs) ≡ length xs
unfolding loop_uses
loop_length face first h [] = refl
loop_length face first h (x ∷ []) = refl
loop_length face first h (x ∷ y ∷ ys) = ap suc (loop_length face first (suc h) (y ∷ ys))

-- a use that leads to a number, with the face and the item given
abbrev leading : ℕ → Item → ℕ → Use
leading face x n = record { edge = x.edge; face = face; sense = x.sense; next = n }

loop_from : (face first h : ℕ) (xs : List Item) (k : ℕ) → k < length xs
    → use_at (loop_uses face first h xs) k ≡ leading face (item_at xs k) (cond (eqb (suc k) (length xs)) first (suc (h + k)))
unfolding loop_uses
loop_from face first h [] k lt = absurd (not-suc-le-zero lt)
loop_from face first h (x ∷ []) zero lt = refl
loop_from face first h (x ∷ []) (suc k) lt = absurd (omega arith)
loop_from face first h (x ∷ y ∷ ys) zero lt =
    let n : ℕ = suc (suc (length ys)) in
    let t : eqb 1 n ≡ false = ne_eqb 1 n (λ (e : 1 ≡ n). omega arith) in
    let z : h ≡ h + zero = omega arith in
    ap (λ m. leading face x (suc m)) z ∙ sym (ap (λ (b : Bool). leading face x (cond b first (suc (h + zero)))) t)
loop_from face first h (x ∷ y ∷ ys) (suc k) lt =
    let e : suc h + k ≡ h + suc k = omega arith in
    loop_from face first (suc h) (y ∷ ys) k (omega arith)
    ∙ ap (λ n. leading face (item_at (y ∷ ys) k) (cond (eqb (suc k) (suc (length ys))) first (suc n))) e
    ∙ sym (ap (λ (b : Bool). leading face (item_at (y ∷ ys) k) (cond b first (suc (h + suc k)))) (eqb-suc-suc (suc k) (suc (length ys))))

-- the use at a place of a loop
pub loop_at_lem : (face a : ℕ) (xs : List Item) (k : ℕ) → k < length xs → use_at (loop_uses face a a xs) k ≡ use_of face a xs k
loop_at_lem face a xs k h = loop_from face a a xs k h ∙ go (eqb (suc k) (length xs))
  where
    go : (b : Bool) → leading face (item_at xs k) (cond b a (suc (a + k))) ≡ leading face (item_at xs k) (a + cond b 0 (suc k))
    go true = let e : a ≡ a + 0 = omega arith in ap (leading face (item_at xs k)) e
    go false = let e : suc (a + k) ≡ a + suc k = omega arith in ap (leading face (item_at xs k)) e

-- ALL LOOPS

pub items_length : (fs : List Face) (l : Loop) → length (loop_items fs l) ≡ items_in l
items_length fs l = traversed_length (face_at fs l.face).selected (content_items l.content)

pub read_length : (fs : List Face) (a : ℕ) (ls : List Loop) → length (read fs a ls) ≡ sum_of items_in ls
unfolding read sum_of
read_length fs a [] = refl
read_length fs a (l ∷ ls) =
    let here : List Use = loop_uses l.face a a (loop_items fs l) in
    omega (
      arith,
      length-append here (read fs (a + length here) ls),
      loop_length l.face a a (loop_items fs l),
      items_length fs l,
      read_length fs (a + length here) ls,
    )

-- the number of uses of a job
pub uses_length : (j : Job) → length (uses_of j) ≡ sum_of items_in j.loops
uses_length j = read_length j.faces 0 j.loops

-- each use has its loop and its place there
pub read_at : (fs : List Face) (a : ℕ) (ls : List Loop) (i : ℕ) → i < length (read fs a ls) → Seat fs a ls i
unfolding read
read_at fs a [] i h = absurd (not-suc-le-zero h)
read_at fs a (l ∷ ls) i h = ⊎_elim (λ t. within (ltb-true i n t)) (λ t. beyond (ltb-false i n t) (read_at fs (a + n) ls)) (both_ways (ltb i n))
  where
    xs : List Item
    xs = loop_items fs l

    us : List Use
    us = loop_uses l.face a a xs

    n : ℕ
    n = length us

    rest : List Use
    rest = read fs (a + n) ls

    long : n ≡ length xs
    long = loop_length l.face a a xs

    within : i < n → Seat fs a (l ∷ ls) i
    within lt = record {
      loop = l;
      first = 0;
      place = i;
      member = Memᴰ.head refl;
      inside = omega (arith, long);
      here = omega arith;
      room = omega (arith, long, length-append us rest);
      each = λ k q.
          let e : 0 + k ≡ k = omega arith in
          let z : a ≡ a + 0 = omega arith in
          ap (use_at (us ++ rest)) e ∙ get_or-append us rest no_use k (omega (arith, long)) ∙ loop_at_lem l.face a xs k q ∙ ap (λ b. use_of l.face b xs k) z;
    }

    beyond : n ≤ i → ((k : ℕ) → k < length rest → Seat fs (a + n) ls k) → Seat fs a (l ∷ ls) i
    beyond le seats =
        let s : Seat fs (a + n) ls (i - n) = seats (i - n) (omega (arith, length-append us rest)) in
        record {
          loop = s.loop;
          first = n + s.first;
          place = s.place;
          member = Memᴰ.tail s.member;
          inside = s.inside;
          here = omega (arith, s.here);
          room = omega (arith, s.room, length-append us rest);
          each = λ k q.
              let e : n + s.first + k ≡ n + (s.first + k) = omega arith in
              let z : a + n + s.first ≡ a + (n + s.first) = omega arith in
              ap (use_at (us ++ rest)) e ∙ get_or-append-add us rest (s.first + k) no_use ∙ s.each k q ∙ ap (λ b. use_of s.loop.face b (loop_items fs s.loop) k) z;
        }

-- THE OLD SUCCESSOR

module _ (j : Job) where
  -- the seat of a use of the job
  abbrev pub SeatIn : ℕ → Type 0
  SeatIn h = Seat j.faces 0 j.loops h

  pub seat : (h : ℕ) → h < length (uses_of j) → SeatIn h
  seat h lt = read_at j.faces 0 j.loops h lt

  -- the items of the loop of a seat, and its place after
  abbrev pub seat_items : {h : ℕ} → SeatIn h → List Item
  seat_items s = loop_items j.faces s.loop

  abbrev pub place_after : {h : ℕ} → SeatIn h → ℕ
  place_after s = next_place s.place (length (seat_items s))

  -- a use is the item at its seat
  pub seat_use : {h : ℕ} (s : SeatIn h) → use_at (uses_of j) h ≡ use_of s.loop.face (0 + s.first) (seat_items s) s.place
  seat_use s = ap (use_at (uses_of j)) s.here ∙ s.each s.place s.inside

  -- the old successor stands at the place after, in the same loop
  pub seat_next : {h : ℕ} (s : SeatIn h) → old_successor (uses_of j) h ≡ s.first + place_after s
  seat_next s = ap (λ (u : Use). u.next) (seat_use s) ∙ omega arith

  pub after_inside : {h : ℕ} (s : SeatIn h) → place_after s < length (seat_items s)
  after_inside s = next_place_below s.place (length (seat_items s)) s.inside

  pub seat_next_use : {h : ℕ} (s : SeatIn h)
      → use_at (uses_of j) (old_successor (uses_of j) h) ≡ use_of s.loop.face (0 + s.first) (seat_items s) (place_after s)
  seat_next_use s = ap (use_at (uses_of j)) (seat_next s) ∙ s.each (place_after s) (after_inside s)

-- the old successor is a use
pub next_below : (j : Job) (h : ℕ) → h < length (uses_of j) → old_successor (uses_of j) h < length (uses_of j)
next_below j h lt =
    let s = seat j h lt in
    omega (arith, seat_next j s, after_inside j s, s.room)

-- each use is an old successor
pub next_onto : (j : Job) (h : ℕ) → h < length (uses_of j) → (k : ℕ) × (k < length (uses_of j)) × (old_successor (uses_of j) k ≡ h)
next_onto j h lt =
    let s = seat j h lt in
    let p = place_before s.place (length (seat_items j s)) s.inside in
    (s.first + p.0, omega (arith, p.1, s.room), ap (λ (u : Use). u.next) (s.each p.0 p.1) ∙ omega (arith, p.2, s.here))

-- no two uses have one old successor
pub next_one_to_one : (j : Job) (h k : ℕ) → h < length (uses_of j) → k < length (uses_of j) → old_successor (uses_of j) h ≡ old_successor (uses_of j) k → h ≡ k
next_one_to_one j = onto_one_to_one (old_successor (uses_of j)) (length (uses_of j)) (next_onto j)

-- the old successor lies in the same face
pub next_face_lem : (j : Job) (h : ℕ) → h < length (uses_of j) → face_of_use (uses_of j) (old_successor (uses_of j) h) ≡ face_of_use (uses_of j) h
next_face_lem j h lt =
    let s = seat j h lt in
    ap (λ (u : Use). u.face) (seat_next_use j s) ∙ sym (ap (λ (u : Use). u.face) (seat_use j s))

-- a use's edge exists
pub use_edge_below : (j : Job) → Sound j → (h : ℕ) → h < length (uses_of j) → (use_at (uses_of j) h).edge < length j.edges
use_edge_below j sound h lt =
    let s = seat j h lt in
    let xs : List Item = content_items s.loop.content in
    let r = traversed_edge (face_at j.faces s.loop.face).selected xs s.place (omega (arith, s.inside, items_length j.faces s.loop)) in
    subst (λ e. e < length j.edges) (sym (ap (λ (u : Use). u.edge) (seat_use j s) ∙ r.2)) (sound.items s.loop s.member r.0 r.1)

-- a use's face exists
pub use_face_below : (j : Job) → Sound j → (h : ℕ) → h < length (uses_of j) → face_of_use (uses_of j) h < length j.faces
use_face_below j sound h lt =
    let s = seat j h lt in
    subst (λ f. f < length j.faces) (sym (ap (λ (u : Use). u.face) (seat_use j s))) (sound.face s.loop s.member)
