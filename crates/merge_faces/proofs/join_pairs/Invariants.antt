use Rattle.merge_faces.specs.Merging.{JoinedPairs}
use Rattle.merge_faces.proofs.join_pairs.Given as goal

abbrev pub invariant-loop-h : goal.invariant-loop-h
invariant-loop-h l = JoinedPairs l.uses l.twins l.h l.fn.g l.groups
