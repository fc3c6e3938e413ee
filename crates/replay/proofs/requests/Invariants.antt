use Rattle.std.proofs.Common.{◌*◌, ◌^◌, ◌≤◌}
use Rattle.replay.proofs.requests.Given as goal

-- each answer takes its two numbers and the payload
abbrev pub invariant-loop-n : goal.invariant-loop-n
invariant-loop-n l = l.p ≤ 2 ^ 33 * l.n
