use Rattle.std.proofs.Common.{arith}
use Rattle.stages_out.specs.Writing.{ends_written, ends_short}
use Rattle.stages_out.proofs.write_fitting.Goals as goal

pub returns-then-out-needed : goal.returns-then-out-needed
returns-then-out-needed g c = λ bytes writes. rw c.at.ensures (ends_short bytes _ (omega (arith, (writes _ _ _ _ c.put-needed.ensures).0.1)) c.if-out-needed.true)

pub returns : goal.returns
returns g c =
    λ bytes writes.
    let first = writes _ _ _ _ c.put-needed.ensures in
    ends_written bytes _ (omega (arith, first.0.1)) c.if-out-needed.false (first.1 _ _ _ _ c.put.ensures)
