-- What a sweep's change is: at a corner with exactly two active edge ends, a ring or a join.
use Rattle.std.specs.Prelude.{◌≡◌, ◌⊎◌, [], ◌∷◌, ℕ, ◌<◌}
use Rattle.rules.specs.Join.{Joining, ends_at, join_at, ring_at}

-- one edge with both ends at corner v becomes a ring
pub record AsRing (s : Joining) (v : ℕ) (t : Joining) : Type 0 where
  pub edge : ℕ
  pub ends : ends_at s.edges v ≡ edge ∷ edge ∷ []
  pub after : t ≡ ring_at s edge

-- two edges with an end each at corner v are joined
pub record AsJoin (s : Joining) (v : ℕ) (t : Joining) : Type 0 where
  pub first : ℕ
  pub second : ℕ
  pub ends : ends_at s.edges v ≡ first ∷ second ∷ []
  pub lower : first < second
  pub after : t ≡ join_at s v first second

-- a change from s to t at corner v
abbrev pub Made : Joining → ℕ → Joining → Type 0
Made s v t = AsRing s v t ⊎ AsJoin s v t
