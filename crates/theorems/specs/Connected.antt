-- Numbers that pairs connect, and the pairs of boundaries and of fans.
use Rattle.std.specs.Prelude.{◌≡◌, Bool, ℕ, ◌<◌}
use Rattle.std.proofs.Math.Bool.{true}
use mathlib.Core.List.{List}
use Rattle.std.proofs.Math.ListN.{length}
use Rattle.rules.specs.declared.Edge.{Edge}
use Rattle.rules.specs.declared.Use.{Use}
use Rattle.rules.specs.Read.{face_of_use}
use Rattle.rules.specs.Pair.{twin_of}
use Rattle.rules.specs.Merge.{other_face}
use Rattle.rules.specs.Walk.{successor}
use Rattle.rules.specs.Fans.{kept_with_ends}

-- a and b are connected by pairs of P: the least equivalence that has them
pub data Connected (P : ℕ → ℕ → Type 0) : ℕ → ℕ → Type 0 where
  pair : {a b : ℕ} → P a b → Connected P a b
  same : {a : ℕ} → Connected P a a
  back : {a b : ℕ} → Connected P a b → Connected P b a
  chain : {a b c : ℕ} → Connected P a b → Connected P b c → Connected P a c

pub record Equivalence (E : ℕ → ℕ → Type 0) : Type 0 where
  pub same : (i : ℕ) → E i i
  pub back : (i k : ℕ) → E i k → E k i
  pub chain : (i k j : ℕ) → E i k → E k j → E i j

-- BOUNDARIES

-- the selected faces of a use and its twin
abbrev pub TwinFaces : List Use → List ℕ → ℕ → ℕ → Type 0
TwinFaces us ts a b = (h : ℕ) × (h < length us) × (face_of_use us h ≡ a) × (other_face us ts h ≡ b)

-- FANS

-- the new successor and the twin of a kept use with ends
abbrev pub RoundCorner : List Edge → List Use → List ℕ → List Bool → List ℕ → ℕ → ℕ → Type 0
RoundCorner es us ts rm ss a b = (h : ℕ) × (h < length us) × (kept_with_ends es us rm h ≡ true) × (successor ss h ≡ a) × (twin_of ts h ≡ b)
