-- Fans on chains: those whose points leave one remainder by the number of chains are on one chain, the last first.
use Rattle.std.specs.Prelude.{ℕ, ◌%◌, ◌<◌, ◌≤◌, List, Bool, true, ◌&&◌, cond, get_or, take, eqb, ltb, Option, None, Some}
use Rattle.lists.specs.Lists.{◌∈◌, some}
use Rattle.rules.specs.declared.Use.{Use}
use Rattle.rules.specs.Fans.{fan_point}
use Rattle.rules.specs.Contact.{use_label, touches}
use Rattle.fields.specs.Chains.{chain, next_in}

-- fan g stands at point p and has label l
unfoldable pub stands_with : List Use → List ℕ → List ℕ → ℕ → ℕ → ℕ → Bool
stands_with us starts labels p l g = eqb p (fan_point starts g) && eqb l (use_label us labels g)

-- the point of the fan at place k
abbrev pub point_at : List ℕ → List ℕ → ℕ → ℕ
point_at starts names k = fan_point starts (get_or names k 0)

-- each of the first k fans is on the chain of its point, one of w chains
pub record Bucketed (w : ℕ) (starts names heads nexts : List ℕ) (k : ℕ) : Type 0 where
  pub entries : (b : ℕ) → get_or heads b 0 ≤ k
  pub holds : (j : ℕ) → j < k → j ∈ chain (next_in nexts) (get_or heads (point_at starts names j % w) 0)

-- the fan at place k touches an earlier one
abbrev pub touches_earlier : List Use → List ℕ → List ℕ → List ℕ → ℕ → Bool
touches_earlier us starts labels names k = some (touches us starts labels (get_or names k 0)) (take k names)

-- p is lower than the lowest point so far
abbrev pub is_lower : ℕ → Option ℕ → Bool
is_lower p None = true
is_lower p (Some lowest) = ltb p lowest

-- the lower of the lowest point so far and the point of the fan at place k where that touches an earlier one
unfoldable pub lowered : List Use → List ℕ → List ℕ → List ℕ → ℕ → Option ℕ → Option ℕ
lowered us starts labels names k lowest =
    let p = point_at starts names k in
    cond (is_lower p lowest && touches_earlier us starts labels names k) (Some p) lowest
