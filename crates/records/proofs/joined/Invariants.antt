use Rattle.records.specs.Joints.{all_joints, joins_on}
use Rattle.job.specs.Raw.{points as points_of, edges as edges_of}
use Rattle.rules.specs.Job.{items_of}
use Rattle.std.specs.Prelude.{◌*◌, ◌≡◌, drop}
use Rattle.records.proofs.joined.Given as goal

abbrev pub invariant-loop-i : goal.invariant-loop-i
invariant-loop-i l =
    let points = points_of l.raw in
    let edges = edges_of l.raw in
    all_joints points edges l.payload ≡ joins_on points edges l.first.start l.end (items_of (drop (2 * l.i) l.payload))
