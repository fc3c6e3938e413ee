use Rattle.std.proofs.Common.{◌≡◌, length}
use Rattle.lists.specs.Backwards.{LeftOf}
use Rattle.members.specs.Chain.{Chaining}
use Rattle.members.proofs.Members.new.Given as goal

abbrev pub invariant-loop-i : goal.invariant-loop-i
invariant-loop-i l =
    let it = l.i-iterator.iter in
    (it.count ≡ 0) × LeftOf l.groups it.iter.rest.now × Chaining l.groups l.first l.next (length it.iter.rest.now)
