-- Loops as linked slots: each slot holds an item and leads to the next slot of its loop, so that a join rewrites two slots
-- however long the loops are.
use Rattle.std.specs.Prelude.{ℕ, zero, suc, ◌+◌, ◌-◌, ◌≤◌, ◌<◌, ◌≡◌, List, [], ◌∷◌, map, cond, length, get_or, set, ltb}
use Rattle.fields.specs.declared.Span.{Span}
use Rattle.fields.specs.Spans.{span_at}
use Rattle.lists.specs.Lists.{◌∈◌, Nodup}
use Rattle.rules.specs.declared.Item.{Item}
use Rattle.edges.specs.Table.{item_in}

-- the item list while edges are joined, with what stands in each slot; the slot after it, the slot where each loop starts, the loop of each slot, the slot of each item,
-- and the stretch of each loop in the list that the loops were laid out in
pub record LinkTables : Type 0 where
  pub codes : List ℕ
  pub nexts : List ℕ
  pub heads : List ℕ
  pub owners : List ℕ
  pub spots : List ℕ
  pub stretches : List Span

abbrev pub links_of : List ℕ → List ℕ → List ℕ → List ℕ → List ℕ → List Span → LinkTables
links_of codes nexts heads owners spots stretches = record { codes = codes; nexts = nexts; heads = heads; owners = owners; spots = spots; stretches = stretches }

-- n slots, each led to by the one before it, from slot x on
unfoldable pub follow : List ℕ → ℕ → ℕ → List ℕ
follow nexts x zero = []
follow nexts x (suc n) = x ∷ follow nexts (get_or nexts x 0) n

-- loop k is one of the loops
abbrev pub IsLoop : List Span → ℕ → Type 0
IsLoop stretches k = k < length stretches

-- how many items loop k has
abbrev pub size_at : List Span → ℕ → ℕ
size_at stretches k = (span_at stretches k).end - (span_at stretches k).start

-- where loop k's own stretch of a list of that size ends: where the next loop starts, or at the list's end
unfoldable pub own_end : List Span → ℕ → ℕ → ℕ
own_end stretches size k = cond (ltb (k + 1) (length stretches)) (span_at stretches (k + 1)).start size

-- the slots of loop k
abbrev pub slots_at : LinkTables → ℕ → List ℕ
slots_at t k = follow t.nexts (get_or t.heads k 0) (size_at t.stretches k)

-- what stands in some slots
abbrev pub codes_at : List ℕ → List ℕ → List ℕ
codes_at codes l = map (λ s. get_or codes s 0) l

-- loop k, its items as numbers
abbrev pub ring_at : LinkTables → ℕ → List ℕ
ring_at t k = codes_at t.codes (slots_at t k)

-- loop k
abbrev pub loop_of : LinkTables → ℕ → List Item
loop_of t k = map item_in (ring_at t k)

-- slots that lead from slot x on to slot y
abbrev pub Chain : List ℕ → ℕ → List ℕ → ℕ → Type 0
Chain nexts x [] y = x ≡ y
Chain nexts x (s ∷ l) y = (x ≡ s) × Chain nexts (get_or nexts s 0) l y

-- slot s lies in loop k's own stretch
pub record Own (t : LinkTables) (k s : ℕ) : Type 0 where
  pub from_start : (span_at t.stretches k).start ≤ s
  pub to_end : s < own_end t.stretches (length t.codes) k

-- loop k's own stretch lies in the item list and in the links
pub record Held (t : LinkTables) (k : ℕ) : Type 0 where
  pub codes_hold : own_end t.stretches (length t.codes) k ≤ length t.codes
  pub nexts_hold : own_end t.stretches (length t.codes) k ≤ length t.nexts
  pub room : k < length t.heads

-- loop k stands in the slots l, which lie in its own stretch: they lead back to the first, no slot is twice there, each knows the loop,
-- and each item knows its slot
pub record Stands (t : LinkTables) (k : ℕ) (l : List ℕ) : Type 0 where
  pub closed : Chain t.nexts (get_or t.heads k 0) l (get_or t.heads k 0)
  pub size : length l ≡ size_at t.stretches k
  pub held : Held t k
  pub apart : Nodup l
  pub owned : (s : ℕ) → s ∈ l → get_or t.owners s 0 ≡ k
  pub spotted : (s : ℕ) → s ∈ l → get_or t.spots (get_or t.codes s 0) 0 ≡ s
  pub within : (s : ℕ) → s ∈ l → Own t k s

-- each loop stands in its slots
abbrev pub Linked : LinkTables → Type 0
Linked t = (k : ℕ) → IsLoop t.stretches k → Stands t k (slots_at t k)

-- a loop's own stretch of the item list and of the links, which starts at `start`, and its head, after the item in slot p and the next one
-- turned to the front and the item x took their place
pub record Turned (codes nexts : List ℕ) (start p x : ℕ) (codes' nexts' : List ℕ) (head' : ℕ) : Type 0 where
  pub items : codes' ≡ set codes (p - start) x
  pub links : nexts' ≡ set nexts (p - start) (get_or nexts (get_or nexts (p - start) 0 - start) 0)
  pub front : head' ≡ p

-- a stretch with one member less
abbrev pub shorter : Span → Span
shorter s = record { start = s.start; end = s.end - 1 }

-- slot p of loop k takes the item x for its own and the next slot's; the loop then starts there, and has one item less
unfoldable pub fused_in : LinkTables → ℕ → ℕ → ℕ → LinkTables
fused_in t k p x = record {
  codes = set t.codes p x;
  nexts = set t.nexts p (get_or t.nexts (get_or t.nexts p 0) 0);
  heads = set t.heads k p;
  owners = t.owners;
  spots = set t.spots x p;
  stretches = set t.stretches k (shorter (span_at t.stretches k));
}

-- the same at the slot of the item y
abbrev pub fused_at : LinkTables → ℕ → ℕ → LinkTables
fused_at t y x = let p = get_or t.spots y 0 in fused_in t (get_or t.owners p 0) p x

-- what a join in loop k at slot p needs: the loop's own stretch lies in the tables, slot p and the next one lie in the stretch, and there is an end to move
pub record FusableIn (t : LinkTables) (k p : ℕ) : Type 0 where
  pub held : Held t k
  pub own : Own t k p
  pub next_own : Own t k (get_or t.nexts p 0)
  pub ending : 1 ≤ (span_at t.stretches k).end

-- the same at the slot of the item y
abbrev pub Fusable : LinkTables → ℕ → Type 0
Fusable t y = let p = get_or t.spots y 0 in FusableIn t (get_or t.owners p 0) p
