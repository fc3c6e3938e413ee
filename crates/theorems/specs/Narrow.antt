-- Numbers below 4,294,967,296, which four bytes hold, and what has such numbers alone.
use Prim.Native.Nat.{ℕ, ◌≤◌, ◌<◌}
use Rattle.std.specs.Prelude.{◌≡◌}
use mathlib.Core.List.{List}
use Rattle.std.proofs.Math.ListN.{length}
use Rattle.lists.specs.Lists.{◌∈◌}
use Rattle.rules.specs.declared.Edge.{Edge}
use Rattle.rules.specs.declared.Face.{Face}
use Rattle.rules.specs.declared.Item.{Item}
use Rattle.rules.specs.declared.EdgeData.{EdgeData}
use Rattle.rules.specs.Frame.{Record}
use Rattle.rules.specs.Job.{Job}
use Rattle.rules.specs.Body.{Member, BodyFace, Body}
use Rattle.theorems.specs.Reporting.{Small}

-- each number is below a bound
abbrev pub Below : ℕ → List ℕ → Type 0
Below n l = (x : ℕ) → x ∈ l → x < n

-- a number that four bytes hold
abbrev pub Low : ℕ → Type 0
Low n = n < 4294967296

-- THE FIELDS OF A JOB

-- the numbers of a face that a body tells
pub record LowFace (f : Face) : Type 0 where
  pub surface : Low f.surface
  pub body : Low f.body
  pub source : Low f.source

-- points, curves and faces of a job have four bytes
pub record LowJob (j : Job) : Type 0 where
  pub points : (p : ℕ) → p ∈ j.points → Low p
  pub curves : (e : Edge) → e ∈ j.edges → Low e.curve
  pub faces : (f : Face) → f ∈ j.faces → LowFace f

-- EDGES AND JOINING

-- curve, ends and faces of an edge have four bytes; it has two faces
pub record LowEdge (e : EdgeData) : Type 0 where
  pub curve : Low e.curve
  pub start : Low e.start
  pub end : Low e.end
  pub two : length e.faces ≡ 2
  pub faces : Below 4294967296 e.faces

-- each edge of a list is such
abbrev pub LowEdges : List EdgeData → Type 0
LowEdges es = (e : EdgeData) → e ∈ es → LowEdge e

-- SHELLS

-- at most so many faces, each below that number
abbrev pub FewFaces : ℕ → List ℕ → Type 0
FewFaces n fs = Below n fs × (length fs ≤ n)

-- A BODY

-- the numbers of a member have four bytes
pub record LowMember (m : Member) : Type 0 where
  pub body : Low m.body
  pub source : Low m.source

-- every number of a body has four bytes
pub record LowBody (b : Body) : Type 0 where
  pub totals : Small b.totals
  pub vertices : Below 4294967296 b.vertices
  pub edges : (e : Edge) → e ∈ b.edges → Low e.curve × Low e.start × Low e.end
  pub surfaces : (f : BodyFace) → f ∈ b.faces → Low f.surface
  pub members : (f : BodyFace) → f ∈ b.faces → (m : Member) → m ∈ f.members → LowMember m
  pub items : (f : BodyFace) → f ∈ b.faces → (xs : List Item) → xs ∈ f.loops → (x : Item) → x ∈ xs → Low x.edge
  pub points : (f : BodyFace) → f ∈ b.faces → Below 4294967296 f.points
  pub lumps : (lump : List (List ℕ)) → lump ∈ b.lumps → (shell : List ℕ) → shell ∈ lump → Below 4294967296 shell

-- THE RECORDS

-- kind and fields of a record fit their bytes
abbrev pub Narrow : Record → Type 0
Narrow r = (r.kind < 65536) × Below 4294967296 r.fields
