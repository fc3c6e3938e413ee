use Rattle.std.specs.Prelude.{◌<◌, ◌≡◌}
use Rattle.lists.specs.Lists.{some}
use Rattle.rules.specs.Load.{same_source}
use Rattle.job.specs.Lists.{face_in, faces_in}
use Rattle.selected.specs.Sources.{found_from}
use Rattle.selected.proofs.selected_before.Given as goal

abbrev pub invariant-loop-i : goal.invariant-loop-i
invariant-loop-i l =
    let face = face_in l.bytes l.at in
    (l.i < 256) × (found_from l.bytes l.index (record { heads = l.heads; nexts = l.nexts }) face l.i ≡ some (same_source face) (faces_in l.bytes l.index l.fn.counts))

abbrev pub decreases-loop-i : goal.decreases-loop-i
decreases-loop-i l = l.i
