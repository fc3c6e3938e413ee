use Rattle.std.proofs.Common.{rules, arith, ◌<◌, length}
use Rattle.members.specs.Chain.{rest_more}
use Rattle.members.proofs.MembersOfIterator.next.Goals as goal

pub returns-clause-steps : goal.returns-clause-steps
returns-clause-steps c =
    let inside : c.self.inside.at < length c.self.inside.next.now = search rules in
    rw (← c.self.view_is) (rest_more _ c.self.inside.next.now c.self.invariant.1 (omega (arith, c.self.invariant.0)) (search rules))
