use Rattle.std.proofs.Common.{◌+◌, ◌≤◌, length}
use Rattle.replay.proofs.run_answers.Given as goal

-- each answer takes a byte at least
abbrev pub invariant-loop : goal.invariant-loop
invariant-loop g l = (l.differences ≤ l.counter) × (l.counter + length l.reader ≤ length l.initial.reader)
