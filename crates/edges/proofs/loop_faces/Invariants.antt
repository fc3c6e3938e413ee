use Rattle.std.specs.Prelude.{◌≡◌, ℕ, ◌<◌, get_or}
use Rattle.edges.specs.Table.{loop_face}
use Rattle.edges.proofs.loop_faces.Given as goal

abbrev pub invariant-loop-k : goal.invariant-loop-k
invariant-loop-k l = (j : ℕ) → j < l.k → get_or l.faces j 0 ≡ loop_face l.uses l.numbers l.ways l.stretches j
