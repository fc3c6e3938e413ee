use Rattle.std.proofs.Common.{◌≡◌, ℕ, ◌<◌, false, get_or}
use Rattle.rules.specs.Merge.{removes}
use Rattle.merge_faces.proofs.remove.Given as goal

abbrev pub invariant-loop-h : goal.invariant-loop-h
invariant-loop-h l = (j : ℕ) → j < l.h → get_or l.removed j false ≡ removes l.uses l.twins l.groups j
