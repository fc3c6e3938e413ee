-- Fans: the kept uses with ends round each corner.
use Rattle.std.specs.Prelude.{ℕ, Bool, ◌&&◌, not, cond, length, get_or}
use mathlib.Core.List.{List, map, foldl}
use Rattle.lists.specs.Lists.{below, keep}
use Rattle.rules.specs.declared.Edge.{Edge}
use Rattle.rules.specs.declared.Use.{Use}
use Rattle.rules.specs.Job.{ring, point_at}
use Rattle.rules.specs.Read.{use_at, edge_of_use, use_start}
use Rattle.rules.specs.Groups.{alone, joined, is_lowest}
use Rattle.rules.specs.Pair.{twin_of}
use Rattle.rules.specs.Merge.{is_removed}
use Rattle.rules.specs.Walk.{successor}

-- Fans: a kept use with ends
abbrev pub kept_with_ends : List Edge → List Use → List Bool → ℕ → Bool
kept_with_ends es us rm h = not (is_removed rm h) && not (ring (edge_of_use es (use_at us h)))

-- Fans: for a kept use with ends, new successor and twin join
unfoldable pub fan_step : List Edge → List Use → List ℕ → List Bool → List ℕ → List ℕ → ℕ → List ℕ
fan_step es us ts rm ss g h =
    let both = joined g (successor ss h) (twin_of ts h) in
    cond (kept_with_ends es us rm h) both g

-- Fans: each use's fan; the lowest use names the fan
abbrev pub fans : List Edge → List Use → List ℕ → List Bool → List ℕ → List ℕ
fans es us ts rm ss = foldl (fan_step es us ts rm ss) (alone (length us)) (below (length us))

-- Fans: use h names a fan
abbrev pub names_fan : List Edge → List Use → List Bool → List ℕ → ℕ → Bool
names_fan es us rm g h = kept_with_ends es us rm h && is_lowest g h

-- the fans by name, ascending
abbrev pub fan_names : List Edge → List Use → List Bool → List ℕ → List ℕ
fan_names es us rm g = keep (names_fan es us rm g) (below (length us))

-- the point where each use starts
unfoldable pub start_points : List ℕ → List Edge → List Use → List ℕ
start_points points es us = map (λ u. point_at points (use_start es u)) us

-- Fans: a fan's point is where its uses start
abbrev pub fan_point : List ℕ → ℕ → ℕ
fan_point starts f = get_or starts f 0
