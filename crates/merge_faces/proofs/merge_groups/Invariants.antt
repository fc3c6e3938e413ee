use Rattle.std.proofs.Common.{◌≤◌, length}
use Rattle.rules.specs.Merge.{merge_step}
use Rattle.merge_faces.specs.MergingLaws.{MergingAt}
use Rattle.merge_faces.proofs.merge_groups.Given as goal

abbrev pub invariant-loop-h : goal.invariant-loop-h
invariant-loop-h l =
    MergingAt (merge_step l.table l.job.answers l.job.faces l.uses l.twins) (length l.uses) (length l.job.faces) l.labels l.joins l.h × (l.joins ≤ l.h)
