-- Walks: turns, the successor and the passed count of each kept use, and the loops.
use Rattle.std.specs.Prelude.{ℕ, zero, suc, Bool, ◌||◌, cond, length, get_or, eqb}
use mathlib.Core.List.{List, [], ◌∷◌, ◌++◌, map, foldl}
use Rattle.lists.specs.Lists.{below, has, some, iterate}
use Rattle.rules.specs.declared.Use.{Use}
use Rattle.rules.specs.Job.{unset}
use Rattle.rules.specs.Read.{old_successor}
use Rattle.rules.specs.Pair.{twin_of}
use Rattle.rules.specs.Merge.{is_removed}

-- Walks: the old successor of a use's twin
abbrev pub over : List Use → List ℕ → ℕ → ℕ
over us ts h = old_successor us (twin_of ts h)

-- Walks, the term "turn": a use and all that "old successor of its twin", repeated, yields; its k-th use
abbrev pub turn : List Use → List ℕ → ℕ → ℕ → ℕ
turn us ts h k = iterate (over us ts) k h

-- Walks: passing over meets a kept use after so many passings, or the walk breaks
pub data Passing : Type 0 where
  meets : ℕ → ℕ → Passing
  breaks : Passing

-- Walks: from use h on, after k passings, looking at most so often: while it is removed, pass it over; each passing counts one
unfoldable pub pass : List Use → List ℕ → List Bool → ℕ → ℕ → ℕ → Passing
pass us ts rm zero h k = breaks
pass us ts rm (suc most) h k =
    let on = pass us ts rm most (over us ts h) (suc k) in
    cond (is_removed rm h) on (meets h k)

-- Walks: from the old successor on; a turn has no more uses than there are
abbrev pub passing : List Use → List ℕ → List Bool → ℕ → Passing
passing us ts rm h = pass us ts rm (length us) (old_successor us h) 0

abbrev pub met_use : Passing → ℕ
met_use (meets h k) = h
met_use breaks = unset

abbrev pub met_after : Passing → ℕ
met_after (meets h k) = k
met_after breaks = 0

-- Walks: the successor of a kept use; a removed use has none
unfoldable pub successor_of : List Use → List ℕ → List Bool → ℕ → ℕ
successor_of us ts rm h =
    let on = met_use (passing us ts rm h) in
    cond (is_removed rm h) unset on

-- Walks: the passed count of a kept use; a removed use has none
unfoldable pub passed_of : List Use → List ℕ → List Bool → ℕ → ℕ
passed_of us ts rm h =
    let on = met_after (passing us ts rm h) in
    cond (is_removed rm h) 0 on

-- each use: its successor, its passed count
unfoldable pub successors : List Use → List ℕ → List Bool → List ℕ
successors us ts rm = map (successor_of us ts rm) (below (length us))

unfoldable pub passed_counts : List Use → List ℕ → List Bool → List ℕ
passed_counts us ts rm = map (passed_of us ts rm) (below (length us))

-- the successor of use h, from the list
abbrev pub successor : List ℕ → ℕ → ℕ
successor ss h = get_or ss h unset

-- Walks: successors lead back to the loop's start, or the walk breaks
pub data Circuit : Type 0 where
  closes : List ℕ → Circuit
  never_closes : Circuit

-- a use, then the rest of its loop
abbrev pub led_by : ℕ → Circuit → Circuit
led_by h (closes hs) = closes (h ∷ hs)
led_by h never_closes = never_closes

-- Walks: the uses from h on, at most so many, until the successor is the loop's start
unfoldable pub circuit : List ℕ → ℕ → ℕ → ℕ → Circuit
circuit ss zero start h = never_closes
circuit ss (suc most) start h =
    let on = led_by h (circuit ss most start (successor ss h)) in
    cond (eqb (successor ss h) start) (closes (h ∷ [])) on

-- the uses of a loop
abbrev pub circuit_uses : Circuit → List ℕ
circuit_uses (closes hs) = hs
circuit_uses never_closes = []

-- a use stands in one of the loops
abbrev pub visited : ℕ → List Circuit → Bool
visited h cs = some (λ c. has h (circuit_uses c)) cs

-- a loop starts at a kept use that is in none so far
unfoldable pub loop_step : List Bool → List ℕ → List Circuit → ℕ → List Circuit
loop_step rm ss cs h =
    let more = cs ++ (circuit ss (length ss) h h ∷ []) in
    cond (is_removed rm h || visited h cs) cs more

-- Walks: loops start at ascending unvisited kept uses
abbrev pub circuits : List Bool → List ℕ → List Circuit
circuits rm ss = foldl (loop_step rm ss) [] (below (length ss))

-- the loops by their uses
abbrev pub loops_of : List Circuit → List (List ℕ)
loops_of cs = map circuit_uses cs
