-- What the code of the walks gives: passing over, one loop, the loops as places in a table of uses.
use Rattle.std.specs.Prelude.{ℕ, ◌+◌, ◌<◌, ◌≤◌, ◌≡◌, Bool, true, false, length, get_or, take, set, replicate}
use mathlib.Core.List.{List, [], ◌∷◌, map, flat_map, foldl}
use Rattle.std.proofs.lemmas.List.Edits.{sets}
use Rattle.lists.specs.Lists.{below}
use Rattle.lists.specs.Cuts.{start_at}
use Rattle.lists.specs.Stretches.{stretch}
use Rattle.rules.specs.declared.Use.{Use}
use Rattle.fields.specs.declared.Span.{Span}
use Rattle.fields.specs.Spans.{span_at}
use Rattle.rules.specs.Walk.{Passing, met_use, met_after, successor_of, passed_of, Circuit, closes, circuit_uses, visited, loop_step}

-- the use that passing over meets and after how many passings, as numbers that fit a table
pub record Met (most : ℕ) (p : Passing) (at passed : ℕ) : Type 0 where
  pub met : at ≡ met_use p
  pub after : passed ≡ met_after p
  pub fits : at < 4294967296
  pub few : passed ≤ most

-- the successor and the passed count of use h, as numbers that fit a table
pub record Succeeds (us : List Use) (ts : List ℕ) (rm : List Bool) (h at passed : ℕ) : Type 0 where
  pub met : at ≡ successor_of us ts rm h
  pub after : passed ≡ passed_of us ts rm h
  pub fits : at < 4294967296
  pub few : passed ≤ length us

-- the circuit closes
abbrev pub Closes : Circuit → Type 0
Closes c = c ≡ closes (circuit_uses c)

-- the flags with those of some uses set
unfoldable pub marked : List Bool → List ℕ → List Bool
marked v [] = v
marked v (x ∷ xs) = marked (set v x true) xs

-- no use is visited
unfoldable pub unvisited : ℕ → List Bool
unvisited n = replicate n false

-- the uses of one loop marked, and written from a place on
pub record Round (hs : List ℕ) (seen : List Bool) (ways : List ℕ) (at : ℕ) (seen' : List Bool) (ways' : List ℕ) (end : ℕ) : Type 0 where
  pub marks : seen' ≡ marked seen hs
  pub writes : ways' ≡ sets ways at hs
  pub ends : end ≡ at + length hs

-- the uses of a loop, from its stretch
abbrev pub loop_in : List ℕ → Span → List ℕ
loop_in ways s = stretch ways s.start s.end

abbrev pub loops_in : List ℕ → List Span → List (List ℕ)
loops_in ways stretches = map (loop_in ways) stretches

-- the stretches follow one another, from the first place on, and none is empty
pub record Following (ways : List ℕ) (stretches : List Span) : Type 0 where
  pub first : 0 < length stretches → (span_at stretches 0).start ≡ 0
  pub follow : (i : ℕ) → i + 1 < length stretches → (span_at stretches (i + 1)).start ≡ (span_at stretches i).end
  pub rise : (i : ℕ) → i < length stretches → (span_at stretches i).start < (span_at stretches i).end
  pub within : (i : ℕ) → i < length stretches → (span_at stretches i).end ≤ length ways

-- the loops that start below use h
abbrev pub started : List Bool → List ℕ → ℕ → List Circuit
started rm ss h = foldl (loop_step rm ss) [] (below h)

-- where loop i stands, when the uses of all loops are put one after the other
abbrev pub span_of : List Circuit → ℕ → Span
span_of cs i = record { start = start_at circuit_uses cs i; end = start_at circuit_uses cs (i + 1) }

-- loops in the tables: their uses one after the other, marked as visited, and where each starts and ends
pub record Held (n : ℕ) (cs : List Circuit) (seen : List Bool) (ways : List ℕ) (stretches : List Span) (count at : ℕ) : Type 0 where
  pub seen_size : length seen ≡ n
  pub ways_size : length ways ≡ n
  pub stretches_size : length stretches ≡ n
  pub room : at ≤ n
  pub many : count ≡ length cs
  pub reach : at ≡ length (flat_map circuit_uses cs)
  pub front : take at ways ≡ flat_map circuit_uses cs
  pub marks : (x : ℕ) → get_or seen x false ≡ visited x cs
  pub spans : take count stretches ≡ map (span_of cs) (below count)

-- the loops that start below use h, in the tables
abbrev pub Walking : List Bool → List ℕ → ℕ → List Bool → List ℕ → List Span → ℕ → ℕ → Type 0
Walking rm ss h seen ways stretches count at = (count ≤ h) × Held (length ss) (started rm ss h) seen ways stretches count at
