-- Joining over the tables of edges, items and stretches: the tables of ends, what a sweep finds, and what the stage answers.
use Rattle.std.specs.Prelude.{ℕ, ◌+◌, ◌-◌, ◌<◌, ◌≤◌, ◌≡◌, List, [], ◌∷◌, Bool, false, cond, length, get_or, set, take, eqb, ltb, min, max}
use Rattle.std.specs.Prelude.{Option, Some, None, IfOk}
use Rattle.lists.specs.Lists.{◌∈◌, keep}
use Rattle.fields.specs.declared.Span.{Span}
use Rattle.rules.specs.declared.EdgeData.{EdgeData}
use Rattle.rules.specs.declared.Refusal.{Refusal}
use Rattle.rules.specs.Outcome.{Outcome, Ok, Err, ◌>>=◌}
use Rattle.rules.specs.Job.{Answer}
use Rattle.rules.specs.Fans.{fan_point}
use Rattle.rules.specs.Join.{Joining, edge_data_at, ends_at, two_ends, far_end, joined_edge, join_edges, join_at, ring_at}
use Rattle.rules.specs.Join.{not_singular, may_join, Tried, unchanged, changed, sweep, maximal_edges}
use Rattle.edges.specs.Table.{face_loops_in, Laid}
use Rattle.links.specs.Tables.{LinkTables}
use Rattle.links.specs.JoinLinks.{Joined}
use Rattle.maximal_edges.specs.declared.Change.{Change}
use Rattle.maximal_edges.specs.declared.Change.TheVariants.{Ring, Join}
use Rattle.maximal_edges.specs.declared.Joins.{Joins}
use Rattle.maximal_edges.specs.declared.Corner.{Corner}
use Rattle.maximal_edges.specs.declared.Resume.{Resume}

-- THE STAGE

-- what the tables stand for
unfoldable pub state_in : List EdgeData → ℕ → List ℕ → List Span → List ℕ → ℕ → ℕ → Joining
state_in rows n items stretches faces joins rings = record { edges = take n rows; loops = face_loops_in items stretches faces; joins = joins; rings = rings }

-- what the whole run gives for the faces of the loops
abbrev pub whole_run : List Answer → List ℕ → List ℕ → List EdgeData → ℕ → List ℕ → List Span → List ℕ → Outcome Joining
whole_run answers starts names rows n items stretches faces =
    maximal_edges answers starts names (length names) (state_in rows n items stretches faces 0 0)

-- what later stages need of a run that is not refused: the loops lie one after the other, there are at most 2,047 edges,
-- and at most as many changes as fans; the table has the edges
pub record Fitting (names : List ℕ) (rows : List EdgeData) (items : List ℕ) (stretches : List Span) (k : Joins) : Type 0 where
  pub laid : Laid stretches items
  pub few : k.edges ≤ 2047
  pub changes : k.joins + k.rings ≤ length names
  pub room : k.edges ≤ length rows

-- what the stage leaves in the tables and answers
pub record Ran (answers : List Answer) (starts names : List ℕ) (rows : List EdgeData) (n : ℕ) (items : List ℕ) (stretches : List Span)
    (rows' : List EdgeData) (items' : List ℕ) (stretches' : List Span) (r : Outcome Joins) : Type 0 where
  pub run : (faces : List ℕ) → length faces ≤ length stretches
      → (r >>= λ k. Ok (state_in rows' k.edges items' stretches' faces k.joins k.rings)) ≡ whole_run answers starts names rows n items stretches faces
  pub fitting : IfOk r (λ k. Fitting names rows' items' stretches' k)

-- CORNERS

-- a fan at which no end was counted
abbrev pub no_corner : Corner
no_corner = record { ends = 0; low = 0; high = 0 }

-- what is known of fan v
abbrev pub corner_at : List Corner → ℕ → Corner
corner_at corners v = get_or corners v no_corner

-- one end more at a corner, of edge e, the highest so far
abbrev pub one_more : ℕ → Corner → Corner
one_more e c = record { ends = c.ends + 1; low = cond (eqb c.ends 0) e c.low; high = e }

-- the same at fan v
abbrev pub count_end : ℕ → ℕ → List Corner → List Corner
count_end v e corners = set corners v (one_more e (corner_at corners v))

-- what is known of a fan with such ends, once they are counted
abbrev pub corner_with : List ℕ → Corner
corner_with l = record { ends = length l; low = get_or l 0 0; high = get_or l (length l - 1) 0 }

-- such ends are counted at each fan
pub record Noted (corners : List Corner) (ends : ℕ → List ℕ) : Type 0 where
  pub size : length corners ≤ 2048
  pub each : (v : ℕ) → v < length corners → corner_at corners v ≡ corner_with (ends v)

-- no ends, and those of the edges below e
abbrev pub Blank : List Corner → Type 0
Blank corners = Noted corners (λ v. [])

abbrev pub Counted : List EdgeData → List Corner → ℕ → Type 0
Counted es corners e = Noted corners (λ v. ends_at (take e es) v)

-- the number of active edge ends at each fan; and, where there are exactly two, the lower edge and the higher
pub record Tabled (es : List EdgeData) (corners : List Corner) : Type 0 where
  pub size : length corners ≤ 2048
  pub counts : (v : ℕ) → v < length corners → (corner_at corners v).ends ≡ length (ends_at es v)
  pub pairs : (v : ℕ) → v < length corners → length (ends_at es v) ≡ 2 → ends_at es v ≡ (corner_at corners v).low ∷ (corner_at corners v).high ∷ []

-- of the two edges at a corner, edge a gives way to edge n, which is the higher one then
abbrev pub given_way : ℕ → ℕ → Corner → Corner
given_way a n c = record { ends = c.ends; low = cond (eqb c.low a) c.high c.low; high = n }

-- the same at fan v
abbrev pub give_way : ℕ → ℕ → ℕ → List Corner → List Corner
give_way v a n corners = set corners v (given_way a n (corner_at corners v))

-- no ends at fan v; and at the far ends p of edge a and q of edge b, edge n in their places
abbrev pub corners_joined : ℕ → ℕ → ℕ → ℕ → ℕ → ℕ → List Corner → List Corner
corners_joined v p q a b n corners = give_way q b n (give_way p a n (set corners v no_corner))

-- WHAT A SWEEP FINDS

-- a change made to a state
abbrev pub change_of : Joining → Change → Joining
change_of s (Ring v a) = ring_at s a
change_of s (Join v a b) = join_at s v a b

-- no change, or a change, as what a corner does to a state
abbrev pub tried_by : Joining → Option Change → Tried
tried_by s None = unchanged
tried_by s (Some k) = changed (change_of s k)

-- the corner of a change
abbrev pub corner_of : Change → ℕ
corner_of (Ring v a) = v
corner_of (Join v a b) = v

-- the change of the corner of edges a and b
abbrev pub change_at : ℕ → ℕ → ℕ → Change
change_at v a b = cond (eqb a b) (Ring v a) (Join v a b)

-- whether the corner of edges a and b may change
abbrev pub may_change : List Answer → List EdgeData → ℕ → ℕ → ℕ → Outcome Bool
may_change answers es a b point =
    cond (eqb a b) (not_singular answers (edge_data_at es a) point) (may_join answers (edge_data_at es a) (edge_data_at es b) point)

-- corner v with the active ends of edges a and b is tried
abbrev pub try_corner : List Answer → List ℕ → List EdgeData → ℕ → ℕ → ℕ → Outcome (Option Change)
try_corner answers starts es v a b = may_change answers es a b (fan_point starts v) >>= λ yes. Ok (cond yes (Some (change_at v a b)) None)

-- a change is at a fan with exactly two active edge ends
abbrev pub Real : List EdgeData → List ℕ → Change → Type 0
Real es names (Ring v a) = (v ∈ names) × (ends_at es v ≡ a ∷ a ∷ [])
Real es names (Join v a b) = (v ∈ names) × (ends_at es v ≡ a ∷ b ∷ []) × (a < b)

-- STILL CORNERS

-- the positions of the first fans of the list, and of all
abbrev pub RankedTo : List ℕ → List ℕ → ℕ → Type 0
RankedTo names ranks i = (k : ℕ) → k < i → get_or ranks (get_or names k 0) 0 ≡ k

abbrev pub Ranked : List ℕ → List ℕ → Type 0
Ranked names ranks = RankedTo names ranks (length names)

-- a fan does not change: if exactly two edges end there, the answers do not let them
abbrev pub Still : List Answer → List ℕ → List EdgeData → ℕ → Type 0
Still answers starts es v = (a b : ℕ) → ends_at es v ≡ a ∷ b ∷ [] → may_change answers es a b (fan_point starts v) ≡ Ok false

-- those before a position are still
abbrev pub AllStill : List Answer → List ℕ → List ℕ → List EdgeData → ℕ → Type 0
AllStill answers starts names es i = (k : ℕ) → k < i → k < length names → Still answers starts es (get_or names k 0)

-- those before position `top` are still, but the ones at `low` and `high`
pub record StillBut (answers : List Answer) (starts names : List ℕ) (es : List EdgeData) (from : Resume) : Type 0 where
  pub low_high : from.low ≤ from.high
  pub high_top : from.high ≤ from.top
  pub others : (k : ℕ) → k < from.top → k < length names → (k ≡ from.low → ⊥) → (k ≡ from.high → ⊥) → Still answers starts es (get_or names k 0)

-- where a sweep goes on after position i: at `high` and at `top`, while they are to come, then one by one
abbrev pub next_after : Resume → ℕ → ℕ
next_after from i = cond (ltb i from.high) from.high (cond (ltb i from.top) from.top (i + 1))

-- where the next sweep begins after a ring at position i, and after a join there with far ends at positions p and q
abbrev pub after_ring : Resume → ℕ → Resume
after_ring from i = record { low = next_after from i; high = next_after from i; top = next_after from i }

abbrev pub after_join : Resume → ℕ → ℕ → ℕ → Resume
after_join from i p q = record { low = min (next_after from i) (min p q); high = min (next_after from i) (max p q); top = next_after from i }

-- fan v stands at a position, and the fans before the next one to be tried are still but it
pub record Found (answers : List Answer) (starts names : List ℕ) (es : List EdgeData) (from : Resume) (v : ℕ) : Type 0 where
  pub at : ℕ
  pub inside : at < length names
  pub here : get_or names at 0 ≡ v
  pub before : (k : ℕ) → k < next_after from at → k < length names → (k ≡ at → ⊥) → Still answers starts es (get_or names k 0)

-- a sweep, in any state with such edges: a change is at such a fan, and only where some fan has two ends is anything refused
pub record Swept (answers : List Answer) (starts names : List ℕ) (es : List EdgeData) (from : Resume) (r : Outcome (Option Change)) : Type 0 where
  pub same : (s : Joining) → s.edges ≡ es → (r >>= λ k. Ok (tried_by s k)) ≡ sweep answers starts s names
  pub real : (k : Change) → r ≡ Ok (Some k) → Real es names k
  pub past : (k : Change) → r ≡ Ok (Some k) → Found answers starts names es from (corner_of k)
  pub some : (e : Refusal) → r ≡ Err e → 1 ≤ length (keep (two_ends es) names)

-- THE TWO CHANGES

-- the far end of edge a, of n edges, from corner v
abbrev pub far_at : List EdgeData → ℕ → ℕ → ℕ → ℕ
far_at rows n v a = far_end v (edge_data_at (take n rows) a)

-- the join of edges a and b, of n edges, at corner v: the new edge takes their places in the loops and at their far ends
pub record JoinedAt (n v a b : ℕ) (rows : List EdgeData) (t : LinkTables) (corners : List Corner) (rows' : List EdgeData) (t' : LinkTables) (corners' : List Corner) (new : EdgeData) : Type 0 where
  pub edges : take (n + 1) rows' ≡ join_edges v a b (take n rows)
  pub loops : Joined (take n rows) v a b t t'
  pub table : corners' ≡ corners_joined v (far_at rows n v a) (far_at rows n v b) a b n corners
  pub made : new ≡ joined_edge v (edge_data_at (take n rows) a) (edge_data_at (take n rows) b)
