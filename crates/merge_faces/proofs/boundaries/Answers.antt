use Rattle.std.proofs.Common.{refl}
use Rattle.merge_faces.specs.MergingLaws.{boundaries_are}
use Rattle.merge_faces.proofs.boundaries.Goals as goal

pub returns : goal.returns
returns c = boundaries_are _ _ _ _ _ _ _ _ c.new-alone.ensures c.join_pairs-joined.ensures refl c.labels_of.ensures
