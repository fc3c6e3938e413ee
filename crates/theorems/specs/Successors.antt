-- Passing over the removed uses of a turn to a kept one.
use Rattle.std.specs.Prelude.{ℕ, ◌<◌, ◌≡◌, List, Bool, false, length, get_or}
use Rattle.lists.specs.Gaps.{Run}
use Rattle.rules.specs.declared.Use.{Use}
use Rattle.rules.specs.Read.{old_successor}
use Rattle.rules.specs.Merge.{is_removed}
use Rattle.rules.specs.Walk.{over, turn, meets, passing, successors, passed_counts, successor}

-- h is one of n uses, and kept
abbrev pub Kept : ℕ → List Bool → ℕ → Type 0
Kept n rm h = (h < n) × (is_removed rm h ≡ false)

-- what passing over from use h does: it passes a run of removed uses, fewer than there are uses, and meets a kept one
pub record Passes (us : List Use) (ts : List ℕ) (rm : List Bool) (h : ℕ) : Type 0 where
  pub count : ℕ
  pub few : count < length us
  pub run : Run (over us ts) (is_removed rm) (old_successor us h) count
  pub met : passing us ts rm h ≡ meets (turn us ts (old_successor us h) count) count
  pub successor_is : successor (successors us ts rm) h ≡ turn us ts (old_successor us h) count
  pub passed_is : get_or (passed_counts us ts rm) h 0 ≡ count
