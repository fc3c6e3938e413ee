use Rattle.contact.specs.StampLaws.{meeting_start, meeting_stop, meeting_step, meeting_end}
use Rattle.std.proofs.Common.{rules}
use Rattle.contact.proofs.pairs_meet.Goals as goal

pub loop-h-init : goal.loop-h-init
loop-h-init c = search (rules, meeting_start)

pub returns-then-meet : goal.returns-then-meet
returns-then-meet c =
    meeting_stop _ _ _ _ _ _ c.loop-h.invariant.1 c.args.pairs.now.low c.in-Some.h c.next.new.self _ _ (search rules) c.meet.ensures.0 c.meet.ensures.1 c.if-meet.true

pub loop-h-preserved : goal.loop-h-preserved
loop-h-preserved c = search (rules, meeting_step)

pub returns : goal.returns
returns c = search (rules, meeting_end)
