use Rattle.std.proofs.Common.{arith, rules}
use Rattle.rules.specs.Groups.{members_of}
use Rattle.body.specs.Solids.{faces_of}
use Rattle.body.specs.Writing.{length_head, wrote_record}
use Rattle.body.specs.FaceLaws.{length_members, member_start, member_step, member_place, member_all}
use Rattle.body.proofs.put_members.Goals as goal

pub loop-i-init : goal.loop-i-init
loop-i-init c = member_start _ _ (search rules)

pub put_member-p-requires : goal.put_member-p-requires
put_member-p-requires c = omega (arith, length_head, member_place _ c.loop-i.invariant c.of-i-items.ensures.1)

pub loop-i-preserved : goal.loop-i-preserved
loop-i-preserved c = member_step _ _ c.loop-i.invariant c.in-Some.ensures.steps c.put_member-p.ensures.0

pub returns : goal.returns
returns c = (
  wrote_record _ _ _ _ _ _ _ _ _ c.put_head-p.ensures
      (omega (arith, length_members (faces_of c.args.s.now) (members_of c.args.members.now c.args.m), c.count-size.ensures.0))
      (member_all _ c.loop-i.invariant c.in-None.ensures.steps.0),
  omega (arith, length_head, member_place _ c.loop-i.invariant c.of-i-items.ensures.1),
)
