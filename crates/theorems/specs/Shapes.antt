-- The shape of the rows of a stage, as docs/STAGES.md says it.
use Prim.Native.Nat.{ℕ, ◌+◌, ◌*◌, ◌<◌}
use Rattle.std.specs.Prelude.{◌≡◌, ◌⊎◌, true}
use mathlib.Core.List.{List, [], ◌∷◌, ◌++◌, map}
use Rattle.std.proofs.Math.ListN.{length, get_or}
use Rattle.lists.specs.Lists.{◌∈◌}
use Rattle.rules.specs.declared.EdgeData.{EdgeData}
use Rattle.rules.specs.Edges.{FaceLoop}
use Rattle.rules.specs.Stage.{edge_fields, face_loop_fields}
use Rattle.theorems.specs.Narrow.{Below}

-- a row of `fixed` fields and `counted` more for each that its second field counts, all of four bytes
pub record Shaped (fixed counted : ℕ) (row : List ℕ) : Type 0 where
  pub shape : length row ≡ fixed + counted * get_or row 1 0
  pub second : (counted ≡ 0) ⊎ (1 < length row)
  pub fields : Below 4294967296 row

-- every row has one shape
abbrev pub AllShaped : ℕ → ℕ → List (List ℕ) → Type 0
AllShaped fixed counted rows = (row : List ℕ) → row ∈ rows → Shaped fixed counted row

-- the rows of edges and joining: three counts, so many edges of seven fields as the third counts, then the loops
pub record Laid (rows : List (List ℕ)) : Type 0 where
  pub counts : List ℕ
  pub edges : List (List ℕ)
  pub loops : List (List ℕ)
  pub laid : rows ≡ counts ∷ (edges ++ loops)
  pub first : Shaped 3 0 counts
  pub third : get_or counts 2 0 ≡ length edges
  pub edge : AllShaped 7 0 edges
  pub loop : AllShaped 2 2 loops

-- the rows of edges alone: no join, no ring made, and every edge active
pub record Fresh (rows : List (List ℕ)) : Type 0 where
  pub edges : List EdgeData
  pub loops : List FaceLoop
  pub rows_are : rows ≡ (0 ∷ 0 ∷ length edges ∷ []) ∷ (map edge_fields edges ++ map face_loop_fields loops)
  pub active : (e : EdgeData) → e ∈ edges → e.active ≡ true
