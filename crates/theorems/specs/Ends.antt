-- How many of an edge's ends stand at a fan, and corners with the ends of exactly two edges or of one.
use Rattle.std.specs.Prelude.{◌≡◌, ◌&&◌, cond, ℕ, ◌+◌, ◌<◌, length, eqb}
use mathlib.Core.List.{List}
use Rattle.rules.specs.declared.EdgeData.{EdgeData}
use Rattle.rules.specs.Join.{edge_data_at}

-- 1 where two numbers are equal, else 0
unfoldable pub one_at : ℕ → ℕ → ℕ
one_at a x = cond (eqb a x) 1 0

-- the ends of one edge at a fan, if the edge is active
unfoldable pub ends_one : ℕ → EdgeData → ℕ
ends_one v e = cond (e.active && eqb e.start v) 1 0 + cond (e.active && eqb e.end v) 1 0

-- 1 for an active edge
abbrev pub active_one : EdgeData → ℕ
active_one e = cond e.active 1 0

-- TWO ENDS

-- two edges end at a fan, each once, and no other
pub record TwoEdges (es : List EdgeData) (v a b : ℕ) : Type 0 where
  pub lower : a < b
  pub inside : b < length es
  pub first_once : ends_one v (edge_data_at es a) ≡ 1
  pub second_once : ends_one v (edge_data_at es b) ≡ 1
  pub others : (x : ℕ) → (x ≡ a → ⊥) → (x ≡ b → ⊥) → ends_one v (edge_data_at es x) ≡ 0

-- one edge ends at a fan twice, and no other
pub record OneEdge (es : List EdgeData) (v a : ℕ) : Type 0 where
  pub inside : a < length es
  pub twice : ends_one v (edge_data_at es a) ≡ 2
  pub others : (x : ℕ) → (x ≡ a → ⊥) → ends_one v (edge_data_at es x) ≡ 0
