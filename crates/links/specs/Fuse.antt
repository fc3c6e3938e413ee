-- Two slots of a loop made one: that loop has one item for two and starts with it, and every other loop stays.
use Prim.Native.Nat.{ℕ, suc, ◌+◌, ◌-◌, ◌≤◌, ◌<◌}
use native.Mathlib.Omega.{arith}
use Rattle.std.proofs.Math.Decide.{ℕ_discrete, dec_lt}
use Rattle.std.specs.Prelude.{◌≡◌, List, ◌∷◌, ◌++◌, length, take, drop, ltb}
use Rattle.std.proofs.Math.Path.{refl, sym, ap, subst}
use Rattle.std.proofs.Common.{◌∙◌, ⊎_elim, length-append, length-take, take-append-drop, lt-ltb, le-ltb}
use mathlib.Core.List.Memᴰ
use Rattle.std.proofs.Math.Bool.{cond}
use Rattle.std.proofs.Math.ListN.{get_or, set, length-set, get_or-eq_default}
use Rattle.std.proofs.Math.Seq.{take-set-lt, get_or-set_same, get_or-set_other}
use borrow.Rule.Slice.PartMut.{put_mid}
use Rattle.fields.specs.declared.Span.{Span}
use Rattle.fields.specs.Spans.{no_span, span_at}
use Rattle.lists.specs.Stretches.{stretch, part_get, part_set}
use Rattle.lists.specs.Lists.{◌∈◌, Nodup}
use Rattle.lists.specs.Members.{in_map, map_same}
use Rattle.lists.specs.TurnedLists.{turn_in}
use Rattle.edges.specs.Table.{Laid}
use Rattle.links.specs.Tables.{LinkTables, links_of, follow, IsLoop, own_end, slots_at, codes_at, ring_at, Chain, Own, Held, Stands, Linked, Turned, shorter, fused_in, fused_at, FusableIn, Fusable}
use Rattle.links.specs.Chains.{chain_follow, chain_turned, chain_other, nodup_turned, map_turned, Front, front}

-- a loop that stands in some slots has no others
pub stands_in : (t : LinkTables) (k : ℕ) (l : List ℕ) → Stands t k l → slots_at t k ≡ l
stands_in t k l s = ap (follow t.nexts (get_or t.heads k 0)) (sym s.size) ∙ chain_follow t.nexts (get_or t.heads k 0) (get_or t.heads k 0) l s.closed

-- WHAT THE CODE FINDS AND STORES

pub own_next : (stretches : List Span) (size k : ℕ) → k + 1 < length stretches → own_end stretches size k ≡ (span_at stretches (k + 1)).start
unfolding own_end
own_next stretches size k h = ap (λ c. cond c (span_at stretches (k + 1)).start size) (lt-ltb (k + 1) (length stretches) h)

pub own_last : (stretches : List Span) (size k : ℕ) → length stretches ≤ k + 1 → own_end stretches size k ≡ size
unfolding own_end
own_last stretches size k h = ap (λ c. cond c (span_at stretches (k + 1)).start size) (le-ltb (k + 1) (length stretches) h)

-- the slot of the item y, its loop, and where the loop's own stretch starts and ends, as the code finds them
module _ (t : LinkTables) (y p k bound : ℕ) (s : Span) (can : Fusable t y) (ep : p ≡ get_or t.spots y 0) (ek : k ≡ get_or t.owners p 0) (es : s ≡ span_at t.stretches k)
    (eb : bound ≡ own_end t.stretches (length t.codes) k) where
  abbrev start : ℕ
  start = s.start

  start_is : start ≡ (span_at t.stretches k).start
  start_is = ap (λ (z : Span). z.start) es

  here_can : FusableIn t k p
  here_can = subst (λ z. FusableIn t z p) (sym ek) (subst (λ z. FusableIn t (get_or t.owners z 0) z) (sym ep) can)

  -- a loop's own stretch is there to be lent, and slot p lies in it
  lent_codes : bound ≤ length t.codes
  lent_codes = omega (arith, here_can.held.codes_hold)

  lent_nexts : bound ≤ length t.nexts
  lent_nexts = omega (arith, here_can.held.nexts_hold)

  slot_after : start ≤ p
  slot_after = omega (arith, start_is, here_can.own.from_start)

  next_is : get_or (stretch t.nexts start bound) (p - start) 0 ≡ get_or t.nexts p 0
  next_is = part_get t.nexts start bound p 0 slot_after (omega (arith, here_can.own.to_end))

  -- the loop is one of the loops
  is_loop : k < length t.stretches
  is_loop =
      elim (dec_lt k (length t.stretches)) [
        | yes h ↦ h
        | no h ↦ absurd (omega (arith, here_can.ending, ap (λ (z : Span). z.end) (get_or-eq_default t.stretches no_span {n = k} (omega (arith, h)))))
      ]

  -- what stands in the tables when the lent parts are back, where the stretches are the first of a table
  pub fuse_is : (x n : ℕ) (codes nexts : List ℕ) (head : ℕ) (spots : List ℕ) (table stretches : List Span) → t.stretches ≡ take n table
      → Turned (stretch t.codes start bound) (stretch t.nexts start bound) start p x codes nexts head
      → spots ≡ set t.spots x p → stretches ≡ set table k (shorter s)
      → links_of (put_mid start (bound - start) t.codes codes) (put_mid start (bound - start) t.nexts nexts) (set t.heads k head) t.owners spots (take n stretches) ≡ fused_at t y x
  unfolding fused_in
  fuse_is x n codes nexts head spots table stretches first w es' et =
      let below : k < n = omega (arith, is_loop, ap length first, length-take n table) in
      let shorter_now : take n stretches ≡ set t.stretches k (shorter (span_at t.stretches k)) =
      ap (take n) et ∙ take-set-lt n table k (shorter s) below ∙ (λ i. set (sym first i) k (shorter (es i))) in
      let after : get_or (stretch t.nexts start bound) (get_or (stretch t.nexts start bound) (p - start) 0 - start) 0 ≡ get_or t.nexts (get_or t.nexts p 0) 0 =
      ap (λ z. get_or (stretch t.nexts start bound) (z - start) 0) next_is
      ∙ part_get t.nexts start bound (get_or t.nexts p 0) 0 (omega (arith, start_is, here_can.next_own.from_start)) (omega (arith, here_can.next_own.to_end)) in
      let ec : put_mid start (bound - start) t.codes codes ≡ set t.codes p x =
      part_set t.codes codes start bound p x slot_after (omega (arith, here_can.own.to_end)) lent_codes w.items in
      let en : put_mid start (bound - start) t.nexts nexts ≡ set t.nexts p (get_or t.nexts (get_or t.nexts p 0) 0) =
      part_set t.nexts nexts start bound p (get_or t.nexts (get_or t.nexts p 0) 0) slot_after (omega (arith, here_can.own.to_end)) lent_nexts
      (w.links ∙ ap (set (stretch t.nexts start bound) (p - start)) after) in
      (λ i. links_of (ec i) (en i) (set t.heads k (w.front i)) t.owners (es' i) (shorter_now i))
      ∙ (λ i. fused_in t ((ek ∙ ap (λ z. get_or t.owners z 0) ep) i) (ep i) x)

-- loop k with one item for the first two, and every other loop as it was
pub record Fused (t t' : LinkTables) (k item : ℕ) (rest : List ℕ) : Type 0 where
  pub linked : Linked t'
  pub own : ring_at t' k ≡ item ∷ rest
  pub others : (j : ℕ) → IsLoop t.stretches j → (j ≡ k → ⊥) → ring_at t' j ≡ ring_at t j
  pub loops : length t'.stretches ≡ length t.stretches
  pub room : length t'.spots ≡ length t.spots
  pub laid : (items : List ℕ) → Laid t.stretches items → Laid t'.stretches items

module _ (t : LinkTables) (linked : Linked t) (k : ℕ) (is : IsLoop t.stretches k) (i x y : ℕ) (rest : List ℕ) (shape : drop i (ring_at t k) ++ take i (ring_at t k) ≡ x ∷ y ∷ rest) where
  here : Stands t k (slots_at t k)
  here = linked k is

  -- the slots of the first two items and of the others
  place : Front (λ s. get_or t.codes s 0) (drop i (slots_at t k) ++ take i (slots_at t k)) x y rest
  place =
      let f : ℕ → ℕ = λ s. get_or t.codes s 0 in
      let l : List ℕ = slots_at t k in
      front f (drop i l ++ take i l) x y rest (map_turned f i l ∙ shape)

  of_loop : (s : ℕ) → s ∈ (place.first ∷ place.second ∷ place.others) → s ∈ slots_at t k
  of_loop s m = turn_in i (slots_at t k) s (subst (λ l. s ∈ l) (sym place.shape) m)

  first_in : place.first ∈ slots_at t k
  first_in = of_loop place.first (Memᴰ.head refl)

  distinct : Nodup (place.first ∷ place.second ∷ place.others)
  distinct = subst Nodup place.shape (nodup_turned i (slots_at t k) here.apart)

  spot_is : get_or t.spots x 0 ≡ place.first
  spot_is = ap (λ c. get_or t.spots c 0) (sym place.is_first) ∙ here.spotted place.first first_in

  -- the slot of the first item knows the loop
  pub owner_is : get_or t.owners (get_or t.spots x 0) 0 ≡ k
  owner_is = ap (λ s. get_or t.owners s 0) spot_is ∙ here.owned place.first first_in

  two_there : (span_at t.stretches k).start + suc (suc (length place.others)) ≡ (span_at t.stretches k).end
  two_there =
      let l : List ℕ = slots_at t k in
      let n = ap length place.shape in
      let e = ap length (take-append-drop i l) in
      let s = here.size in
      omega (arith, length-append (drop i l) (take i l), length-append (take i l) (drop i l))

  -- the loop has two items
  pub two_items : (span_at t.stretches k).start + 2 ≤ (span_at t.stretches k).end
  two_items = omega (arith, two_there)

  -- the slot of the first item leads to that of the second
  next_slot_lem : get_or t.nexts place.first 0 ≡ place.second
  next_slot_lem =
      let c = chain_turned t.nexts (slots_at t k) i (get_or t.heads k 0) here.closed in
      let d : Chain t.nexts c.0 (place.first ∷ place.second ∷ place.others) c.0 = subst (λ l. Chain t.nexts c.0 l c.0) place.shape c.1 in
      d.1.0

  -- the two can be made one
  pub can_fuse : Fusable t x
  can_fuse = subst (λ z. FusableIn t z (get_or t.spots x 0)) (sym owner_is) (subst (FusableIn t k) (sym spot_is) can)
    where
      can : FusableIn t k place.first
      can = record {
        held = here.held;
        own = here.within place.first first_in;
        next_own = subst (Own t k) (sym next_slot_lem) (here.within place.second (of_loop place.second (Memᴰ.tail (Memᴰ.head refl))));
        ending = omega (arith, two_items);
      }

  module _ (item : ℕ) (room : item < length t.spots) (fresh : (j : ℕ) → IsLoop t.stretches j → item ∈ ring_at t j → ⊥) where
    abbrev after : LinkTables
    after = fused_in t k place.first item

    stretch_now : span_at after.stretches k ≡ shorter (span_at t.stretches k)
    unfolding fused_in
    stretch_now = get_or-set_same t.stretches k (shorter (span_at t.stretches k)) no_span is

    stretch_other : (j : ℕ) → (j ≡ k → ⊥) → span_at after.stretches j ≡ span_at t.stretches j
    unfolding fused_in
    stretch_other j n = get_or-set_other t.stretches k j (shorter (span_at t.stretches k)) no_span n

    start_of_lem : (j : ℕ) → (span_at after.stretches j).start ≡ (span_at t.stretches j).start
    start_of_lem j =
        elim (ℕ_discrete j k) [
          | yes e ↦ ap (λ z. (span_at after.stretches z).start) e ∙ ap (λ (s : Span). s.start) stretch_now ∙ sym (ap (λ z. (span_at t.stretches z).start) e)
          | no n ↦ ap (λ (s : Span). s.start) (stretch_other j n)
        ]

    end_now : (span_at after.stretches k).end ≡ (span_at t.stretches k).end - 1
    end_now = ap (λ (s : Span). s.end) stretch_now

    end_other : (j : ℕ) → (j ≡ k → ⊥) → (span_at after.stretches j).end ≡ (span_at t.stretches j).end
    end_other j n = ap (λ (s : Span). s.end) (stretch_other j n)

    head_now : get_or after.heads k 0 ≡ place.first
    unfolding fused_in
    head_now = get_or-set_same t.heads k place.first 0 here.held.room

    head_other : (j : ℕ) → (j ≡ k → ⊥) → get_or after.heads j 0 ≡ get_or t.heads j 0
    unfolding fused_in
    head_other j n = get_or-set_other t.heads k j place.first 0 n

    code_now : get_or after.codes place.first 0 ≡ item
    unfolding fused_in
    code_now = get_or-set_same t.codes place.first item 0 (omega (arith, (here.within place.first first_in).to_end, here.held.codes_hold))

    code_other : (s : ℕ) → (s ≡ place.first → ⊥) → get_or after.codes s 0 ≡ get_or t.codes s 0
    unfolding fused_in
    code_other s n = get_or-set_other t.codes place.first s item 0 n

    -- an item that stands in a loop still knows its slot
    spot_other : (j s : ℕ) → IsLoop t.stretches j → s ∈ slots_at t j → (s ≡ place.first → ⊥) → get_or after.spots (get_or after.codes s 0) 0 ≡ s
    unfolding fused_in
    spot_other j s q m n =
        ap (λ c. get_or after.spots c 0) (code_other s n)
        ∙ get_or-set_other t.spots item (get_or t.codes s 0) place.first 0 (λ (e : get_or t.codes s 0 ≡ item). fresh j q (subst (λ c. c ∈ ring_at t j) e (in_map (λ s. get_or t.codes s 0) m)))
        ∙ (linked j q).spotted s m

    spot_now : get_or after.spots (get_or after.codes place.first 0) 0 ≡ place.first
    unfolding fused_in
    spot_now = ap (λ c. get_or after.spots c 0) code_now ∙ get_or-set_same t.spots item place.first 0 room

    -- each loop's own stretch is what it was
    ends_kept : (j : ℕ) → own_end after.stretches (length after.codes) j ≡ own_end t.stretches (length t.codes) j
    unfolding fused_in own_end
    ends_kept j =
        λ i. cond (ltb (j + 1) (length-set t.stretches k (shorter (span_at t.stretches k)) i)) (start_of_lem (j + 1) i) (length-set t.codes place.first item i)

    own_kept : (j s : ℕ) → Own t j s → Own after j s
    own_kept j s w = record { from_start = omega (arith, w.from_start, start_of_lem j); to_end = omega (arith, w.to_end, ends_kept j) }

    held_kept : (j : ℕ) → Held t j → Held after j
    unfolding fused_in
    held_kept j w = record {
      codes_hold = omega (arith, w.codes_hold, ends_kept j, length-set t.codes place.first item);
      nexts_hold = omega (arith, w.nexts_hold, ends_kept j, length-set t.nexts place.first (get_or t.nexts (get_or t.nexts place.first 0) 0));
      room = omega (arith, w.room, length-set t.heads k place.first);
    }

    same_owner : (s : ℕ) → get_or after.owners s 0 ≡ get_or t.owners s 0
    unfolding fused_in
    same_owner s = refl

    -- the other slots of the loop lead on as they did
    chain_now : Chain after.nexts (get_or after.heads k 0) (place.first ∷ place.others) (get_or after.heads k 0)
    unfolding fused_in
    chain_now =
        let p : ℕ = place.first in
        let v : ℕ = get_or t.nexts (get_or t.nexts p 0) 0 in
        let c = chain_turned t.nexts (slots_at t k) i (get_or t.heads k 0) here.closed in
        let d : Chain t.nexts c.0 (p ∷ place.second ∷ place.others) c.0 = subst (λ l. Chain t.nexts c.0 l c.0) place.shape c.1 in
        let old : Chain after.nexts (get_or t.nexts place.second 0) place.others c.0 =
        chain_other t.nexts place.others p v (get_or t.nexts place.second 0) c.0 (λ m. distinct.0 (Memᴰ.tail m)) d.1.1 in
        let next : get_or after.nexts p 0 ≡ get_or t.nexts place.second 0 =
        get_or-set_same t.nexts p v 0 (omega (arith, (here.within p first_in).to_end, here.held.nexts_hold)) ∙ ap (λ z. get_or t.nexts z 0) d.1.0 in (
          head_now,
          subst (λ z. Chain after.nexts z place.others (get_or after.heads k 0)) (sym next)
              (subst (λ z. Chain after.nexts (get_or t.nexts place.second 0) place.others z) (d.0 ∙ sym head_now) old),
        )

    chain_kept : (j : ℕ) (l : List ℕ) → (place.first ∈ l → ⊥) → (x y : ℕ) → Chain t.nexts x l y → Chain after.nexts x l y
    unfolding fused_in
    chain_kept j l out x y c = chain_other t.nexts l place.first (get_or t.nexts (get_or t.nexts place.first 0) 0) x y out c

    stands_now : Stands after k (place.first ∷ place.others)
    stands_now = record {
      closed = chain_now;
      size = omega (arith, end_now, start_of_lem k, two_there);
      held = held_kept k here.held;
      apart = (λ m. distinct.0 (Memᴰ.tail m), distinct.1.1);
      owned = λ s m. same_owner s ∙ here.owned s (sub s m);
      spotted = λ s m. ⊎_elim (λ e. subst (λ z. get_or after.spots (get_or after.codes z 0) 0 ≡ z) (sym e) spot_now)
          (λ q. spot_other k s is (sub s m) (λ e. distinct.0 (Memᴰ.tail (subst (λ z. z ∈ place.others) e q)))) (Memᴰ.cases_cons m);
      within = λ s m. own_kept k s (here.within s (sub s m));
    }
      where
        sub : (s : ℕ) → s ∈ (place.first ∷ place.others) → s ∈ slots_at t k
        sub s m = of_loop s (⊎_elim (λ e. Memᴰ.head e) (λ q. Memᴰ.tail (Memᴰ.tail q)) (Memᴰ.cases_cons m))

    -- the slot is in no other loop
    not_there : (j s : ℕ) → IsLoop t.stretches j → (j ≡ k → ⊥) → s ∈ slots_at t j → s ≡ place.first → ⊥
    not_there j s q n m e = n (sym ((linked j q).owned s m) ∙ ap (λ z. get_or t.owners z 0) e ∙ here.owned place.first first_in)

    stands_other : (j : ℕ) → IsLoop t.stretches j → (j ≡ k → ⊥) → Stands after j (slots_at t j)
    stands_other j q n =
        let o : Stands t j (slots_at t j) = linked j q in
        record {
          closed = subst (λ h. Chain after.nexts h (slots_at t j) h) (sym (head_other j n))
              (chain_kept j (slots_at t j) (λ m. not_there j place.first q n m refl) (get_or t.heads j 0) (get_or t.heads j 0) o.closed);
          size = omega (arith, o.size, end_other j n, start_of_lem j);
          held = held_kept j o.held;
          apart = o.apart;
          owned = λ s m. same_owner s ∙ o.owned s m;
          spotted = λ s m. spot_other j s q m (not_there j s q n m);
          within = λ s m. own_kept j s (o.within s m);
        }

    loops_kept : length after.stretches ≡ length t.stretches
    unfolding fused_in
    loops_kept = length-set t.stretches k (shorter (span_at t.stretches k))

    spots_kept : length after.spots ≡ length t.spots
    unfolding fused_in
    spots_kept = length-set t.spots item place.first

    linked_now : Linked after
    linked_now j q =
        let q₀ : IsLoop t.stretches j = omega (arith, loops_kept) in
        elim (ℕ_discrete j k) [
          | yes e ↦ subst (λ z. Stands after z (slots_at after z)) (sym e) (subst (Stands after k) (sym (stands_in after k (place.first ∷ place.others) stands_now)) stands_now)
          | no n ↦ subst (Stands after j) (sym (stands_in after j (slots_at t j) (stands_other j q₀ n))) (stands_other j q₀ n)
        ]

    laid_now : (items : List ℕ) → Laid t.stretches items → Laid after.stretches items
    laid_now items l = record {
      order = λ j q.
          elim (ℕ_discrete j k) [
            | yes e ↦ omega (arith, end_now, start_of_lem j, two_there, ap (λ z. (span_at after.stretches z).end) e, ap (λ z. (span_at t.stretches z).start) e)
            | no n ↦ omega (arith, end_other j n, start_of_lem j, l.order j (omega (arith, loops_kept)))
          ];
      inside = λ j q. omega (arith, falls j, l.inside j (omega (arith, loops_kept)));
      apart = λ j q. omega (arith, falls j, start_of_lem (j + 1), l.apart j (omega (arith, loops_kept)));
    }
      where
        falls : (j : ℕ) → (span_at after.stretches j).end ≤ (span_at t.stretches j).end
        falls j =
            elim (ℕ_discrete j k) [
              | yes e ↦ omega (arith, end_now, ap (λ z. (span_at after.stretches z).end) e, ap (λ z. (span_at t.stretches z).end) e)
              | no n ↦ omega (arith, end_other j n)
            ]

    fused_in_lem : Fused t after k item rest
    fused_in_lem = record {
      linked = linked_now;
      own = ap (codes_at after.codes) (stands_in after k (place.first ∷ place.others) stands_now)
          ∙ (λ j. code_now j ∷ map_same (λ s. get_or after.codes s 0) (λ s. get_or t.codes s 0) place.others
          (λ s m. code_other s (λ e. distinct.0 (Memᴰ.tail (subst (λ z. z ∈ place.others) e m)))) j)
          ∙ ap (λ r. item ∷ r) place.are_others;
      others = λ j q n.
          ap (codes_at after.codes) (stands_in after j (slots_at t j) (stands_other j q n))
          ∙ map_same (λ s. get_or after.codes s 0) (λ s. get_or t.codes s 0) (slots_at t j) (λ s m. code_other s (not_there j s q n m));
      loops = loops_kept;
      room = spots_kept;
      laid = laid_now;
    }

    -- the two items at the front of a turned loop made one
    pub fused : Fused t (fused_at t x item) k item rest
    fused = subst (λ u. Fused t u k item rest) (λ j. fused_in t (sym owner_is j) (sym spot_is j) item) fused_in_lem
