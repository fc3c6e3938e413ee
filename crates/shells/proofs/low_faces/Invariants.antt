use Rattle.std.proofs.Common.{◌≡◌, length}
use Rattle.lists.specs.Backwards.{LeftOf}
use Rattle.shells.specs.ShellLaws.{LowFrom}
use Rattle.shells.proofs.low_faces.Given as goal

abbrev pub invariant-loop-f : goal.invariant-loop-f
invariant-loop-f l =
    let it = l.f-iterator.iter in
    (it.count ≡ 0) × LeftOf l.faces.members it.iter.rest.now × LowFrom l.boundaries l.faces.members l.lows (length it.iter.rest.now)
