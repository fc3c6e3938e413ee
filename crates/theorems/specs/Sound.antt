-- What every loaded job has: the facts that the theorems and the code take from loading.
use Rattle.std.specs.Prelude.{ℕ, ◌<◌, ◌≤◌, ◌≡◌, ◌⊎◌, List, true, length}
use Rattle.lists.specs.Lists.{◌∈◌}
use Rattle.rules.specs.declared.Edge.{Edge}
use Rattle.rules.specs.declared.Item.{Item}
use Rattle.rules.specs.declared.Counts.{Counts}
use Rattle.rules.specs.Job.{unset, of_items, at_vertex, Loop, Job, edge_at}
use Rattle.rules.specs.Load.{jointed}
use Rattle.rules.specs.Read.{content_items, uses_of}
use Rattle.theorems.specs.Selected.{Distinct}

-- an edge is a ring without vertices, or has two vertices that exist
abbrev pub EndsExist : ℕ → Edge → Type 0
EndsExist vertices e = ((e.start ≡ unset) × (e.end ≡ unset)) ⊎ ((e.start < vertices) × (e.end < vertices))

-- the counts are the lengths of the job's lists
pub record Counted (c : Counts) (j : Job) : Type 0 where
  pub vertices : c.vertices ≡ length j.points
  pub edges : c.edges ≡ length j.edges
  pub faces : c.faces ≡ length j.faces
  pub loops : c.loops ≡ length j.loops
  pub stretches : c.loops ≡ length j.stretches
  pub uses : c.uses ≡ length (uses_of j)
  pub answers : c.answers ≡ length j.answers

-- the limits
pub record Limited (c : Counts) : Type 0 where
  pub vertices : c.vertices ≤ 1024
  pub edges : c.edges ≤ 1024
  pub faces : c.faces ≤ 256
  pub loops : c.loops ≤ 1024
  pub uses : c.uses ≤ 2048
  pub answers : c.answers ≤ 2048

-- edges have their ends; each loop has its face, and items that join or a vertex; no face is selected twice
pub record Sound (j : Job) : Type 0 where
  pub ends : (e : ℕ) → e < length j.edges → EndsExist (length j.points) (edge_at j.edges e)
  pub face : (l : Loop) → l ∈ j.loops → l.face < length j.faces
  pub items : (l : Loop) → l ∈ j.loops → (x : Item) → x ∈ content_items l.content → x.edge < length j.edges
  pub joints : (l : Loop) (xs : List Item) → l ∈ j.loops → l.content ≡ of_items xs → jointed j.points j.edges xs ≡ true
  pub vertex : (l : Loop) (v : ℕ) → l ∈ j.loops → l.content ≡ at_vertex v → v < length j.points
  pub few : length (uses_of j) ≤ 2048
  pub distinct : Distinct j.faces
