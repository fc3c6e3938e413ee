-- The joints of a loop's items as its payload has them, one at a time.
use Prim.Native.Nat.{ℕ, ◌+◌, ◌*◌, ◌/◌, ◌<◌, ◌≤◌}
use Rattle.std.proofs.Common.{arith, ◌∙◌, ⊎_elim, ne_eqb, refl}
use Rattle.std.proofs.Math.Bool.{and-true}
use Rattle.lists.specs.Tests.{both_ways}
use Rattle.std.specs.Prelude.{◌≡◌, ◌≢◌, Bool, ◌&&◌, ◌||◌, not, length, drop, eqb, cond, Option, Some, None}
use Rattle.std.proofs.Math.Path.{ap}
use mathlib.Core.List.{List, [], ◌∷◌}
use Rattle.std.proofs.Math.Bool.{true, false}
use Rattle.lists.specs.Lists.{all, neighbours, neighbours_from}
use Rattle.rules.specs.declared.Edge.{Edge}
use Rattle.rules.specs.declared.Item.{Item}
use Rattle.rules.specs.declared.Kind.{Kind}
use Rattle.rules.specs.declared.Kind.TheVariants.{LoopRecord}
use Rattle.rules.specs.Job.{items_of, of_ring, start_point, end_point}
use Rattle.rules.specs.Kinds.{number_of}
use Rattle.rules.specs.Load.{joint, lone_ring, jointed, right_joints}
use Rattle.job.specs.Apart.{other_kind}
use Rattle.job.specs.Lists.{item_in}
use Rattle.job.specs.ItemLaws.{items_more, items_none}
use Rattle.records.specs.declared.Ends.{Ends}

-- the points where an item starts and ends, unless it is of a ring
abbrev pub ends_of : List ℕ → List Edge → Item → Option Ends
ends_of points es x = let ends = Some (record { start = start_point points es x; end = end_point points es x }) in cond (of_ring es x) None ends

module _ (points : List ℕ) (es : List Edge) where
  -- the items left are joined from a point on, and the last leads to the point where the first starts
  unfoldable pub joins_on : ℕ → ℕ → List Item → Bool
  joins_on start end [] = eqb end start
  joins_on start end (y ∷ ys) = not (of_ring es y) && (eqb end (start_point points es y) && joins_on start (end_point points es y) ys)

  -- so are they where the first and the one before them are of no ring
  on_is : (f b : Item) (ys : List Item) → of_ring es f ≡ false → of_ring es b ≡ false
      → all (joint points es) (neighbours_from f b ys) ≡ joins_on (start_point points es f) (end_point points es b) ys
  unfolding all neighbours_from joint joins_on
  on_is f b [] p q = rw (p, q) (and-true (eqb (end_point points es b) (start_point points es f)))
  on_is f b (y ∷ ys) p q =
      rw q
      (⊎_elim
      (λ r. rw r refl)
      (λ r. rw r (ap (λ t. eqb (end_point points es b) (start_point points es y) && t) (on_is f y ys p r)))
      (both_ways (of_ring es y)))

  -- all joints of a payload's items
  abbrev pub all_joints : List ℕ → Bool
  all_joints x = all (joint points es) (neighbours (items_of x))

  module _ (x : List ℕ) where
    pub joins_first : 0 < length x / 2 → of_ring es (item_in x 0) ≡ false
        → all_joints x ≡ joins_on (start_point points es (item_in x 0)) (end_point points es (item_in x 0)) (items_of (drop (2 * 1) x))
    unfolding neighbours
    joins_first h e = ap (λ l. all (joint points es) (neighbours l)) (items_more x 0 h) ∙ on_is (item_in x 0) (item_in x 0) (items_of (drop (2 * 1) x)) e e

    pub joins_more : (start end i : ℕ) → i < length x / 2 → joins_on start end (items_of (drop (2 * i) x))
        ≡ (not (of_ring es (item_in x i)) && (eqb end (start_point points es (item_in x i)) && joins_on start (end_point points es (item_in x i)) (items_of (drop (2 * (i + 1)) x))))
    unfolding joins_on
    joins_more start end i h = ap (joins_on start end) (items_more x i h)

    pub joins_last : (start end i : ℕ) → length x / 2 ≤ i → joins_on start end (items_of (drop (2 * i) x)) ≡ eqb end start
    unfolding joins_on
    joins_last start end i h = ap (joins_on start end) (items_none x i h)

    -- the first is of a ring
    pub joins_of_first : 0 < length x / 2 → of_ring es (item_in x 0) ≡ true → all_joints x ≡ false
    unfolding all neighbours neighbours_from joint
    joins_of_first h e =
        ap (λ l. all (joint points es) (neighbours l)) (items_more x 0 h) ∙ ring_first (items_of (drop (2 * 1) x))
      where
        ring_first : (ys : List Item) → all (joint points es) (neighbours_from (item_in x 0) (item_in x 0) ys) ≡ false
        ring_first [] = rw e refl
        ring_first (y ∷ ys) = rw e refl

    pub joins_none : length x / 2 ≤ 0 → all_joints x ≡ true
    unfolding all neighbours
    joins_none h = ap (λ l. all (joint points es) (neighbours l)) (items_none x 0 h)

-- a ring's use alone, or joints
lone_is : (es : List Edge) (x : List ℕ) → lone_ring es (items_of x) ≡ (eqb (length x / 2) 1 && of_ring es (item_in x 0))
unfolding lone_ring items_of item_in
lone_is es [] = refl
lone_is es (e ∷ []) = refl
lone_is es (e ∷ s ∷ []) = refl
lone_is es (e ∷ s ∷ f ∷ []) = refl
lone_is es (e ∷ s ∷ f ∷ t ∷ x) = rw (ne_eqb (length (e ∷ s ∷ f ∷ t ∷ x) / 2) 1 (λ q. omega arith)) refl

pub jointed_is : (points : List ℕ) (es : List Edge) (x : List ℕ) → jointed points es (items_of x) ≡ ((eqb (length x / 2) 1 && of_ring es (item_in x 0)) || all_joints points es x)
unfolding jointed
jointed_is points es x = ap (λ b. b || all_joints points es x) (lone_is es x)

-- refusal 6 looks at the items of a loop
pub loop_joints : (points : List ℕ) (es : List Edge) (x : List ℕ) (k : Kind) → k ≡ LoopRecord → right_joints k points es x ≡ jointed points es (items_of x)
unfolding right_joints number_of
loop_joints points es x k e = ap (λ j. right_joints j points es x) e

-- and at no other record
pub no_loop : (k : Kind) (points : List ℕ) (es : List Edge) (x : List ℕ) → k ≢ LoopRecord → right_joints k points es x ≡ true
unfolding right_joints number_of
no_loop k points es x h = rw (other_kind k LoopRecord h)

-- what a walk along the items asks
pub ruleset along = (joins_more, joins_last, joins_first, joins_of_first, joins_none)
