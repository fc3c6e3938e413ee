-- The items of a loop after a join, how often an edge stands in them, and the two loops that a join makes one.
use Rattle.std.specs.Prelude.{◌≡◌, not, cond, List, ℕ, ◌+◌, ◌≤◌, length, eqb, ltb}
use Rattle.rules.specs.declared.Sense.{Sense}
use Rattle.rules.specs.declared.Sense.TheVariants.{Same, Reversed}
use Rattle.rules.specs.declared.Item.{Item}
use Rattle.rules.specs.declared.EdgeData.{EdgeData}
use Rattle.rules.specs.Join.{place_in, turned, one_for_two, join_edges}
use Rattle.theorems.specs.Linked.{is_item, item_times}
use Rattle.theorems.specs.Trails.{edge_times, Closed}
use Rattle.theorems.specs.Places.{in_item, out_item, times_of}

-- the items of a loop after the join of edges a and b at corner v
unfoldable pub joined_items : List EdgeData → ℕ → ℕ → ℕ → List Item → List Item
joined_items es v a b l = cond (ltb (place_in es v a b l) (length l)) (one_for_two a (length es) (turned (place_in es v a b l) l)) l

-- the new edge's item
abbrev pub new_item : List EdgeData → Sense → Item
new_item es t = record { edge = length es; sense = t }

-- ONE LOOP

-- what the join takes from a loop and what it puts there, of edge e in sense t, if the first items of its places stand there m and n times
abbrev pub lost : List EdgeData → ℕ → ℕ → ℕ → ℕ → Sense → ℕ → ℕ → ℕ
lost es v a b e t m n =
    (cond (is_item e t (in_item es v a)) m 0 + cond (is_item e t (out_item es v b)) m 0) + (cond (is_item e t (in_item es v b)) n 0 + cond (is_item e t (out_item es v a)) n 0)

abbrev pub gained : List EdgeData → ℕ → Sense → ℕ → ℕ → ℕ
gained es e t m n = cond (is_item e t (new_item es Same)) m 0 + cond (is_item e t (new_item es Reversed)) n 0

-- a loop and its items after the join
pub record LoopJoined (es : List EdgeData) (v a b : ℕ) (l m : List Item) : Type 0 where
  pub closed : Closed (join_edges v a b es) m
  pub counts : (e : ℕ) (t : Sense)
      → item_times e t m + lost es v a b e t (times_of (in_item es v a) l) (times_of (in_item es v b) l)
      ≡ item_times e t l + gained es e t (times_of (in_item es v a) l) (times_of (in_item es v b) l)
  pub apart : (e : ℕ) → edge_times e m ≤ 1
  pub places : cond (not (eqb (place_in es v a b l) (length l))) 1 0 ≡ times_of (in_item es v a) l + times_of (in_item es v b) l
