-- Laws of the fans: one use's step, and the groups after some of the uses.
use Rattle.std.specs.Prelude.{ℕ, ◌+◌, ◌<◌, ◌≡◌, Bool, true, false, length, get_or}
use Rattle.std.proofs.Math.Path.{sym, subst}
use mathlib.Core.List.{List, foldl}
use Rattle.lists.specs.Lists.{from, below}
use Rattle.lists.specs.Prefixes.{foldl_below}
use Rattle.std.proofs.lemmas.List.{get_or_default}
use Rattle.rules.specs.declared.Edge.{Edge}
use Rattle.rules.specs.declared.Use.{Use}
use Rattle.rules.specs.Job.{unset}
use Rattle.rules.specs.Groups.{alone}
use Rattle.rules.specs.Fans.{kept_with_ends, fan_step}
use Rattle.groups.specs.Parents.{Stands, JoinedIn}

-- FANS

module _ (es : List Edge) (us : List Use) (ts : List ℕ) (rm : List Bool) (ss : List ℕ) where
  -- the table stands for the fans after h uses
  abbrev pub FannedAt : List ℕ → ℕ → Type 0
  FannedAt labels h = Stands labels (foldl (fan_step es us ts rm ss) (alone (length us)) (below h))

  pub fanned_start : (labels : List ℕ) (n : ℕ) → n ≡ length us → Stands labels (alone n) → FannedAt labels 0
  unfolding from
  fanned_start labels n e s = subst (λ k. Stands labels (alone k)) e s

  -- a kept use with ends more, whose successor and twin t join; and any other
  module _ (labels after : List ℕ) (h : ℕ) (kept : Bool) (f : FannedAt labels h) (k : kept ≡ kept_with_ends es us rm h) where
    on : Stands after (fan_step es us ts rm ss (foldl (fan_step es us ts rm ss) (alone (length us)) (below h)) h) → FannedAt after (h + 1)
    on = subst (Stands after) (sym (foldl_below (fan_step es us ts rm ss) (alone (length us)) h))

    pub fanned_joins : (mid : List ℕ) (t past : ℕ) → kept ≡ true → h < length ss → t ≡ get_or ts h 0 → JoinedIn labels mid (get_or ss h past) t → after ≡ mid → FannedAt after (h + 1)
    unfolding fan_step
    fanned_joins mid t past y lt et j e = on (rw (← k, y, get_or_default ss h unset past lt, ← et, e) (j.stands _ f))

    pub fanned_leaves : kept ≡ false → after ≡ labels → FannedAt after (h + 1)
    unfolding fan_step
    fanned_leaves y e = on (rw (← k, y, e) f)
