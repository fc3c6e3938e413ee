-- Stamps: a table with e + 1 at each label met at edge e, and lower numbers elsewhere.
use Rattle.std.specs.Prelude.{ℕ, ◌+◌, ◌≤◌, List, Bool, ◌&&◌, cond, get_or, set, eqb}
use Rattle.rules.specs.declared.Use.{Use}
use Rattle.rules.specs.Contact.{use_label, is_lower_use}

-- no stamp is above e
abbrev pub Stale : List ℕ → ℕ → Type 0
Stale stamps e = (l : ℕ) → get_or stamps l 0 ≤ e

-- use h is the lower of its pair, and its label was met
unfoldable pub meets : List Use → List ℕ → List ℕ → List ℕ → ℕ → ℕ → Bool
meets us ts labels stamps e h = is_lower_use ts h && eqb (get_or stamps (use_label us labels h) 0) (e + 1)

-- the stamps after use h
unfoldable pub stamped_by : List Use → List ℕ → List ℕ → List ℕ → ℕ → ℕ → List ℕ
stamped_by us ts labels stamps e h = cond (is_lower_use ts h) (set stamps (use_label us labels h) (e + 1)) stamps
