-- The uses of each edge as a chain, the last use first.
use Rattle.std.specs.Prelude.{ℕ, ◌<◌, ◌≤◌, ◌≡◌, List, reverse as backwards, length, get_or}
use Rattle.rules.specs.declared.Use.{Use}
use Rattle.rules.specs.Pair.{uses_of_edge}
use Rattle.fields.specs.Chains.{chain, next_in, Falling}

-- the uses on the chain of edge e
abbrev pub uses_on : List ℕ → List ℕ → ℕ → List ℕ
uses_on firsts nexts e = chain (next_in nexts) (get_or firsts e 0)

-- uses, and how many edges have their uses on a chain
pub record ByEdge : Type 0 where
  pub uses : List Use
  pub edges : ℕ

-- the tables have the chain of each edge
pub record Linked (us : List Use) (firsts nexts : List ℕ) : Type 0 where
  pub falling : Falling (next_in nexts)
  pub heads : (e : ℕ) → get_or firsts e 0 ≤ length us
  pub chains : (e : ℕ) → e < length firsts → uses_on firsts nexts e ≡ backwards (uses_of_edge us e)
