-- The edges and loops of the result before any change, in their tables.
use Rattle.std.specs.Prelude.{ℕ, ◌*◌, ◌≤◌, ◌≡◌, List, length, get_or, take}
use Rattle.rules.specs.declared.EdgeData.{EdgeData}
use Rattle.rules.specs.Sew.{unjoined}
use Rattle.theorems.specs.Linked.{EndsAreFans}
use Rattle.fields.specs.declared.Span.{Span}
use Rattle.edges.specs.Table.{Tabled}
use Rattle.maximal_edges.specs.Joined.{state_in}
use Rattle.maximal_edges.specs.Hung.{SoundIn}
use Rattle.rebuild.specs.Fanning.{Fanning}

-- tables for the edges, their owners and the loops of n uses
pub record Roomy (n : ℕ) (rows : List EdgeData) (owns items : List ℕ) (stretches : List Span) (faces : List ℕ) : Type 0 where
  pub rows_size : length rows ≡ n
  pub owns_size : length owns ≡ n
  pub owns_blank : (k : ℕ) → get_or owns k 0 ≡ 0
  pub items_size : length items ≡ n
  pub stretches_size : length stretches ≡ n
  pub faces_size : length faces ≡ n

-- the tables have the edges and loops over the fans, so many edges at the front; each edge has no ends or two fans, there
-- is room for twice as many, and the loops are sound and fit the tables of joining
pub record Lined (v : Fanning) (rows : List EdgeData) (edges : ℕ) (items : List ℕ) (stretches : List Span) (faces : List ℕ) : Type 0 where
  pub drawn : state_in rows edges items stretches faces 0 0 ≡ unjoined v.job v.fan
  pub tables : Tabled (take edges rows) items stretches faces
  pub ended : EndsAreFans (take edges rows) v.fan.names
  pub room : 2 * edges ≤ length rows
  pub few : edges ≤ 1024
  pub sound : SoundIn rows edges items stretches 2048
