-- Runs of edge joining by what each change is, and how many corners have exactly two active edge ends.
use Rattle.std.specs.Prelude.{◌≡◌, List, [], ◌∷◌, ℕ, length}
use Rattle.lists.specs.Lists.{◌∈◌, keep}
use Rattle.rules.specs.Join.{Joining, two_ends}
use Rattle.theorems.specs.Demand3.{Change}
use Rattle.theorems.specs.Changes.{Made}

-- STEPS

-- the changes of a list lead from s to t, each at a corner among the fans
abbrev pub Steps : List ℕ → Joining → List Change → Joining → Type 0
Steps names s [] t = s ≡ t
Steps names s (c ∷ cs) t = (c.before ≡ s) × (c.corner ∈ names) × Made c.before c.corner c.after × Steps names c.after cs t

-- THE NUMBER OF CHANGES

-- the fans of a list with exactly two ends
abbrev pub twos : Joining → List ℕ → ℕ
twos s names = length (keep (two_ends s.edges) names)
