-- Loops that lie one after the other linked: each slot leads to the next of its loop and the last to the first.
use Prim.Native.Nat.{ℕ, zero, suc, ◌+◌, ◌-◌, ◌≤◌, ◌<◌}
use native.Mathlib.Omega.{arith}
use Rattle.std.proofs.Math.Decide.{ℕ_discrete, dec_lt}
use Rattle.std.proofs.Common.{not-suc-le-zero, add-one, ap, ◌∙◌, inl, inr, ⊎_elim, length-set, get_or-set_same, get_or-set_other, drop-cons}
use Rattle.std.specs.Prelude.{◌≡◌, ◌⊎◌, List, ◌∷◌, map, length, get_or, set, take, drop}
use Rattle.std.proofs.Math.Path.{refl, sym, subst}
use Rattle.fields.specs.declared.Span.{Span}
use Rattle.fields.specs.Spans.{span_at, place_after, after_wraps, after_on}
use Rattle.lists.specs.Lists.{◌∈◌, from}
use Rattle.lists.specs.Runs.{from_in, from_nodup, length_from}
use Rattle.lists.specs.Members.{map_same}
use Rattle.edges.specs.Table.{loop_at, Laid}
use Rattle.links.specs.Tables.{LinkTables, IsLoop, own_end, codes_at, ring_at, Chain, Stands, Linked}
use Rattle.links.specs.Fuse.{stands_in, own_next, own_last}
use Rattle.links.specs.Lay.{laid_before}

-- slot r lies in loop j
pub record InLoop (stretches : List Span) (j r : ℕ) : Type 0 where
  pub is : IsLoop stretches j
  pub from_start : (span_at stretches j).start ≤ r
  pub to_end : r < (span_at stretches j).end

-- what linking needs: the loops are laid out, no item stands twice in them, and there are so many slots for items and loops and so many numbers of items
pub record Linkable (items : List ℕ) (stretches : List Span) (slots codes : ℕ) : Type 0 where
  pub laid : Laid stretches items
  pub spread : (j k r s : ℕ) → InLoop stretches j r → InLoop stretches k s → get_or items r 0 ≡ get_or items s 0 → r ≡ s
  pub known : (j r : ℕ) → InLoop stretches j r → get_or items r 0 < codes
  pub items_fit : length items ≤ slots
  pub loops_fit : length stretches ≤ slots

-- tables of so many slots and so many numbers of items
pub record Sized (t : LinkTables) (slots codes : ℕ) : Type 0 where
  pub codes_size : length t.codes ≡ slots
  pub nexts_size : length t.nexts ≡ slots
  pub heads_size : length t.heads ≡ slots
  pub owners_size : length t.owners ≡ slots
  pub spots_size : length t.spots ≡ codes

-- slot r of loop j has been linked, where linking has come to slot s of loop k
abbrev pub Reached : ℕ → ℕ → ℕ → ℕ → Type 0
Reached k s j r = (j < k) ⊎ ((j ≡ k) × (r < s))

-- what the tables have of slot r of loop j
pub record SlotLinked (items : List ℕ) (stretches : List Span) (t : LinkTables) (j r : ℕ) : Type 0 where
  pub code : get_or t.codes r 0 ≡ get_or items r 0
  pub next : get_or t.nexts r 0 ≡ place_after (span_at stretches j).start (span_at stretches j).end r
  pub owner : get_or t.owners r 0 ≡ j
  pub spot : get_or t.spots (get_or items r 0) 0 ≡ r

-- the slots are linked up to slot s of loop k, and each loop before k starts where it was laid out
pub record Linking (items : List ℕ) (stretches : List Span) (slots codes : ℕ) (t : LinkTables) (k s : ℕ) : Type 0 where
  pub ready : Linkable items stretches slots codes
  pub sized : Sized t slots codes
  pub same : t.stretches ≡ stretches
  pub linked : (j r : ℕ) → InLoop stretches j r → Reached k s j r → SlotLinked items stretches t j r
  pub headed : (j : ℕ) → j < k → IsLoop stretches j → get_or t.heads j 0 ≡ (span_at stretches j).start

-- a slot lies in one loop
in_one : (stretches : List Span) (items : List ℕ) → Laid stretches items → (j k r : ℕ) → InLoop stretches j r → InLoop stretches k r → j ≡ k
in_one stretches items laid j k r p q =
    elim (ℕ_discrete j k) [
      | yes e ↦ e
      | no n ↦
          elim (dec_lt j k) [
            | yes h ↦ absurd (omega (arith, laid_before stretches items laid j k h q.is, p.to_end, q.from_start))
            | no h ↦ absurd (omega (arith, laid_before stretches items laid k j (omega (arith, n)) p.is, q.to_end, p.from_start))
          ]
    ]

-- nothing is linked yet
pub linking_none : (items : List ℕ) (stretches : List Span) (slots codes : ℕ) (t : LinkTables) → Linkable items stretches slots codes → Sized t slots codes → t.stretches ≡ stretches
    → Linking items stretches slots codes t 0 0
linking_none items stretches slots codes t ready sized same = record {
  ready = ready;
  sized = sized;
  same = same;
  linked = λ j r q w. absurd (⊎_elim (λ z. not-suc-le-zero z) (λ z. not-suc-le-zero z.1) w);
  headed = λ j h q. absurd (not-suc-le-zero h);
}

module _ (items : List ℕ) (stretches : List Span) (slots codes : ℕ) (t : LinkTables) (k : ℕ) (is : IsLoop stretches k) (own : Span) (is_own : own ≡ span_at stretches k) where
  start_is : own.start ≡ (span_at stretches k).start
  start_is = ap (λ (z : Span). z.start) is_own

  end_is : own.end ≡ (span_at stretches k).end
  end_is = ap (λ (z : Span). z.end) is_own

  -- from the first slot of a loop
  pub linking_from : Linking items stretches slots codes t k 0 → Linking items stretches slots codes t k own.start
  linking_from u = record {
    ready = u.ready;
    sized = u.sized;
    same = u.same;
    linked = λ j r q w. u.linked j r q (⊎_elim inl (λ z. absurd (omega (arith, z.1, q.from_start, start_is, ap (λ i. (span_at stretches i).start) z.0))) w);
    headed = u.headed;
  }

  -- past the last slot of a loop, which starts at its first
  pub linking_past : (s : ℕ) (heads : List ℕ) → Linking items stretches slots codes t k s → own.end ≤ s → heads ≡ set t.heads k own.start
      → Linking items stretches slots codes (record t { heads = heads }) (k + 1) 0
  linking_past s heads u h eh = record {
    ready = u.ready;
    sized = record {
      codes_size = u.sized.codes_size;
      nexts_size = u.sized.nexts_size;
      heads_size = ap length eh ∙ length-set t.heads k own.start ∙ u.sized.heads_size;
      owners_size = u.sized.owners_size;
      spots_size = u.sized.spots_size;
    };
    same = u.same;
    linked = λ j r q w.
        let l = u.linked j r q
        (elim (ℕ_discrete j k) [
          | yes z ↦ inr (z, omega (arith, q.to_end, end_is, ap (λ i. (span_at stretches i).end) z))
          | no n ↦ ⊎_elim (λ z. inl (omega (arith, n))) (λ z. absurd (not-suc-le-zero z.1)) w
        ]) in
        record { code = l.code; next = l.next; owner = l.owner; spot = l.spot };
    headed = λ j b q.
        elim (ℕ_discrete j k) [
          | yes z ↦
              ap (λ i. get_or heads i 0) z ∙ ap (λ l. get_or l k 0) eh ∙ get_or-set_same t.heads k own.start 0 (omega (arith, is, u.ready.loops_fit, u.sized.heads_size)) ∙ start_is
              ∙ sym (ap (λ i. (span_at stretches i).start) z)
          | no n ↦ ap (λ l. get_or l j 0) eh ∙ get_or-set_other t.heads k j own.start 0 n ∙ u.headed j (omega (arith, n)) q
        ];
  }

  -- one slot more
  pub linking_more : (s x q : ℕ) (list nexts owners spots : List ℕ) → Linking items stretches slots codes t k s → own.start ≤ s → s < own.end → x ≡ get_or items s 0
      → q ≡ place_after own.start own.end s → list ≡ set t.codes s x → nexts ≡ set t.nexts s q → owners ≡ set t.owners s k → spots ≡ set t.spots x s
      → Linking items stretches slots codes (record t { codes = list; nexts = nexts; owners = owners; spots = spots }) k (s + 1)
  linking_more s x q list nexts owners spots u low high ex eq ec en eo et = record {
    ready = u.ready;
    sized = record {
      codes_size = ap length ec ∙ length-set t.codes s x ∙ u.sized.codes_size;
      nexts_size = ap length en ∙ length-set t.nexts s q ∙ u.sized.nexts_size;
      heads_size = u.sized.heads_size;
      owners_size = ap length eo ∙ length-set t.owners s k ∙ u.sized.owners_size;
      spots_size = ap length et ∙ length-set t.spots x s ∙ u.sized.spots_size;
    };
    same = u.same;
    linked = λ j r p w.
        elim (ℕ_discrete r s) [
          | yes z ↦
              let j_is : j ≡ k = in_one stretches items u.ready.laid j k s (subst (InLoop stretches j) z p) here in
              subst (λ i. SlotLinked items stretches after i r) (sym j_is) (subst (SlotLinked items stretches after k) (sym z) now)
          | no n ↦ kept j r p n (u.linked j r p (⊎_elim inl (λ z. inr (z.0, omega (arith, z.1, n))) w))
        ];
    headed = u.headed;
  }
    where
      after : LinkTables
      after = record t { codes = list; nexts = nexts; owners = owners; spots = spots }

      here : InLoop stretches k s
      here = record { is = is; from_start = omega (arith, start_is); to_end = omega (arith, end_is) }

      inside : s < slots
      inside = omega (arith, here.to_end, u.ready.laid.inside k is, u.ready.items_fit)

      now : SlotLinked items stretches after k s
      now = record {
        code = ap (λ l. get_or l s 0) ec ∙ get_or-set_same t.codes s x 0 (omega (arith, inside, u.sized.codes_size)) ∙ ex;
        next = ap (λ l. get_or l s 0) en ∙ get_or-set_same t.nexts s q 0 (omega (arith, inside, u.sized.nexts_size)) ∙ eq ∙ (λ i. place_after (is_own i).start (is_own i).end s);
        owner = ap (λ l. get_or l s 0) eo ∙ get_or-set_same t.owners s k 0 (omega (arith, inside, u.sized.owners_size));
        spot = ap (λ l. get_or l (get_or items s 0) 0) et ∙ ap (λ z. get_or (set t.spots x s) z 0) (sym ex)
            ∙ get_or-set_same t.spots x s 0 (omega (arith, ex, u.ready.known k s here, u.sized.spots_size));
      }

      kept : (j r : ℕ) → InLoop stretches j r → (r ≡ s → ⊥) → SlotLinked items stretches t j r → SlotLinked items stretches after j r
      kept j r p n o = record {
        code = ap (λ l. get_or l r 0) ec ∙ get_or-set_other t.codes s r x 0 n ∙ o.code;
        next = ap (λ l. get_or l r 0) en ∙ get_or-set_other t.nexts s r q 0 n ∙ o.next;
        owner = ap (λ l. get_or l r 0) eo ∙ get_or-set_other t.owners s r k 0 n ∙ o.owner;
        spot = ap (λ l. get_or l (get_or items r 0) 0) et ∙ get_or-set_other t.spots x (get_or items r 0) s 0 (λ z. n (u.ready.spread j k r s p here (z ∙ ex))) ∙ o.spot;
      }

-- ALL LOOPS

-- slots one after the other, the last of which leads to y
chain_from_lem : (nexts : List ℕ) (a m y : ℕ) → ((r : ℕ) → a ≤ r → r + 1 < a + suc m → get_or nexts r 0 ≡ r + 1) → get_or nexts (a + m) 0 ≡ y → Chain nexts a (from a (suc m)) y
unfolding from
chain_from_lem nexts a zero y on last = let z : a ≡ a + 0 = omega arith in (refl, ap (λ r. get_or nexts r 0) z ∙ last)
chain_from_lem nexts a (suc m) y on last =
    let z : suc a + m ≡ a + suc m = omega arith in
    let e : get_or nexts a 0 ≡ suc a = on a (omega arith) (omega arith) ∙ add-one a in (
      refl,
      subst (λ w. Chain nexts w (from (suc a) (suc m)) y) (sym e)
          (chain_from_lem nexts (suc a) m y (λ r p q. on r (omega arith) (omega arith)) (ap (λ r. get_or nexts r 0) z ∙ last)),
    )

-- the members of a list from place a on
members_from : (l : List ℕ) (a m : ℕ) → a + m ≤ length l → map (λ s. get_or l s 0) (from a m) ≡ take m (drop a l)
unfolding from
members_from l a zero h = refl
members_from l a (suc m) h = ap (λ r. get_or l a 0 ∷ r) (members_from l (suc a) m (omega arith)) ∙ ap (take (suc m)) (sym (drop-cons l a 0 (omega arith)))

-- every loop is linked, and is the loop that was laid out
pub record LinkedLoops (items : List ℕ) (t : LinkTables) : Type 0 where
  pub linked : Linked t
  pub same : (k : ℕ) → IsLoop t.stretches k → ring_at t k ≡ loop_at items (span_at t.stretches k)

module _ (items : List ℕ) (slots codes : ℕ) (t : LinkTables) (n : ℕ) (all : length t.stretches ≤ n) (u : Linking items t.stretches slots codes t n 0) where
  module _ (k : ℕ) (is : IsLoop t.stretches k) where
    abbrev start : ℕ
    start = (span_at t.stretches k).start

    abbrev end : ℕ
    end = (span_at t.stretches k).end

    slot : (r : ℕ) → start ≤ r → r < end → SlotLinked items t.stretches t k r
    slot r p q = u.linked k r (record { is = is; from_start = p; to_end = q }) (inl (omega arith))

    slot_in : (r : ℕ) → r ∈ from start (end - start) → SlotLinked items t.stretches t k r
    slot_in r m = let w = from_in start (end - start) r m in slot r w.0 (omega arith)

    head_is : get_or t.heads k 0 ≡ start
    head_is = u.headed k (omega arith) is

    chain : (m : ℕ) → m ≡ end - start → Chain t.nexts (get_or t.heads k 0) (from start m) (get_or t.heads k 0)
    unfolding from
    chain zero e = refl
    chain (suc m) e =
        let last : (start + m) + 1 ≡ end = omega arith in
        subst (λ w. Chain t.nexts w (from start (suc m)) w) (sym head_is)
        (chain_from_lem t.nexts start m start
        (λ r p q. (slot r p (omega arith)).next ∙ sym (after_on start end r (λ (z : r + 1 ≡ end). omega arith)))
        ((slot (start + m) (omega arith) (omega arith)).next ∙ sym (after_wraps start end (start + m) last)))

    inside : end ≤ length items
    inside = u.ready.laid.inside k is

    -- the loop ends in its own stretch, which lies in the list
    own_after : end ≤ own_end t.stretches (length t.codes) k
    own_after =
        elim (dec_lt (k + 1) (length t.stretches)) [
          | yes p ↦ omega (arith, own_next t.stretches (length t.codes) k p, u.ready.laid.apart k p)
          | no p ↦ omega (arith, own_last t.stretches (length t.codes) k (omega (arith, p)), inside, u.ready.items_fit, u.sized.codes_size)
        ]

    own_inside : own_end t.stretches (length t.codes) k ≤ length t.codes
    own_inside =
        elim (dec_lt (k + 1) (length t.stretches)) [
          | yes p ↦ omega (arith, own_next t.stretches (length t.codes) k p, u.ready.laid.order (k + 1) p, u.ready.laid.inside (k + 1) p, u.ready.items_fit, u.sized.codes_size)
          | no p ↦ omega (arith, own_last t.stretches (length t.codes) k (omega (arith, p)))
        ]

    stands : Stands t k (from start (end - start))
    stands = record {
      closed = chain (end - start) refl;
      size = length_from start (end - start);
      held = record { codes_hold = own_inside; nexts_hold = omega (arith, own_inside, u.sized.codes_size, u.sized.nexts_size); room = omega (arith, is, u.ready.loops_fit, u.sized.heads_size) };
      apart = from_nodup start (end - start);
      owned = λ s m. (slot_in s m).owner;
      spotted = λ s m. ap (λ c. get_or t.spots c 0) (slot_in s m).code ∙ (slot_in s m).spot;
      within = λ s m. let w = from_in start (end - start) s m in record { from_start = w.0; to_end = omega (arith, w.0, w.1, own_after) };
    }

    ring_is : ring_at t k ≡ loop_at items (span_at t.stretches k)
    ring_is =
        ap (codes_at t.codes) (stands_in t k (from start (end - start)) stands)
        ∙ map_same (λ s. get_or t.codes s 0) (λ s. get_or items s 0) (from start (end - start)) (λ s m. (slot_in s m).code)
        ∙ members_from items start (end - start) (omega (arith, inside, u.ready.laid.order k is))

  all_linked : LinkedLoops items t
  all_linked = record {
    linked = λ k is. subst (Stands t k) (sym (stands_in t k (from (start k is) (end k is - start k is)) (stands k is))) (stands k is);
    same = ring_is;
  }

pub linked_all : (items : List ℕ) (stretches : List Span) (slots codes : ℕ) (t : LinkTables) (n : ℕ) → length stretches ≤ n → Linking items stretches slots codes t n 0 → LinkedLoops items t
linked_all items stretches slots codes t n all u =
    all_linked items slots codes t n (omega (arith, ap length u.same)) (subst (λ l. Linking items l slots codes t n 0) (sym u.same) u)
