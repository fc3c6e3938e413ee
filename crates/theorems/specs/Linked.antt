-- What one stage hands to the theorems of the next: twins, links of the walks, the loops of joining.
use Rattle.std.specs.Prelude.{ℕ, ◌<◌, ◌≤◌, ◌≡◌, ◌⊎◌, List, [], ◌∷◌, Bool, true, false, ◌&&◌, cond, length, eqb}
use Rattle.lists.specs.Lists.{◌∈◌, keep, sum_of}
use Rattle.rules.specs.declared.Sense.{Sense}
use Rattle.rules.specs.declared.Item.{Item}
use Rattle.rules.specs.declared.Use.{Use}
use Rattle.rules.specs.declared.EdgeData.{EdgeData}
use Rattle.rules.specs.Sense.{same_sense}
use Rattle.rules.specs.Job.{unset}
use Rattle.rules.specs.Read.{use_at, face_of_use, old_successor}
use Rattle.rules.specs.Groups.{label_of}
use Rattle.rules.specs.Pair.{twin_of}
use Rattle.rules.specs.Merge.{is_removed}
use Rattle.rules.specs.Join.{edge_data_at, item_start, item_end}

-- pairing that refuses nothing: each use has a twin, another use of its edge in the other sense, whose twin it is
pub record Twins (us : List Use) (ts : List ℕ) : Type 0 where
  pub size : length ts ≡ length us
  pub below : (h : ℕ) → h < length us → twin_of ts h < length us
  pub twice : (h : ℕ) → h < length us → twin_of ts (twin_of ts h) ≡ h
  pub other : (h : ℕ) → h < length us → twin_of ts h ≡ h → ⊥
  pub edge : (h : ℕ) → h < length us → (use_at us (twin_of ts h)).edge ≡ (use_at us h).edge
  pub sense : (h : ℕ) → h < length us → same_sense (use_at us (twin_of ts h)).sense (use_at us h).sense ≡ false

-- reading, pairing and merging: what the walks rest on
pub record Linked (us : List Use) (ts : List ℕ) (rm : List Bool) (groups : List ℕ) : Type 0 where
  pub size : length rm ≡ length us
  pub twin_below : (h : ℕ) → h < length us → twin_of ts h < length us
  pub twin_twice : (h : ℕ) → h < length us → twin_of ts (twin_of ts h) ≡ h
  pub next_below : (h : ℕ) → h < length us → old_successor us h < length us
  pub next_one_to_one : (h k : ℕ) → h < length us → k < length us → old_successor us h ≡ old_successor us k → h ≡ k
  pub next_face : (h : ℕ) → h < length us → face_of_use us (old_successor us h) ≡ face_of_use us h
  pub removed_twin : (h : ℕ) → h < length us → is_removed rm (twin_of ts h) ≡ is_removed rm h
  pub removed_group : (h : ℕ) → h < length us → is_removed rm h ≡ true → label_of groups (face_of_use us (twin_of ts h)) ≡ label_of groups (face_of_use us h)

-- JOINING

-- an edge has no ends
abbrev pub NoEnds : EdgeData → Type 0
NoEnds e = (e.start ≡ unset) × (e.end ≡ unset)

-- an edge has no ends, or starts and ends at fans of a list
abbrev pub RingOrFans : List ℕ → EdgeData → Type 0
RingOrFans names e = NoEnds e ⊎ ((e.start ∈ names) × (e.end ∈ names))

-- each edge is such
abbrev pub EndsAreFans : List EdgeData → List ℕ → Type 0
EndsAreFans es names = (e : ℕ) → RingOrFans names (edge_data_at es e)

-- the items lead from x to y
abbrev pub Trail : List EdgeData → ℕ → List Item → ℕ → Type 0
Trail es x [] y = x ≡ y
Trail es x (i ∷ is) y = (item_start es i ≡ x) × Trail es (item_end es i) is y

-- an item is edge e in sense t
abbrev pub is_item : ℕ → Sense → Item → Bool
is_item e t x = eqb x.edge e && same_sense x.sense t

-- how often edge e stands in sense t in some items
abbrev pub item_times : ℕ → Sense → List Item → ℕ
item_times e t l = length (keep (is_item e t) l)

-- the loops lead back to their starts; each active edge stands once in either sense over all loops and no other edge does; never twice in one loop
pub record LoopsSound (es : List EdgeData) (ls : List (List Item)) : Type 0 where
  pub closed : (l : List Item) → l ∈ ls → (x : ℕ) × Trail es x l x
  pub once : (e : ℕ) (t : Sense) → sum_of (item_times e t) ls ≡ cond (edge_data_at es e).active 1 0
  pub apart : (l : List Item) → l ∈ ls → (e : ℕ) → length (keep (λ x. eqb x.edge e) l) ≤ 1
