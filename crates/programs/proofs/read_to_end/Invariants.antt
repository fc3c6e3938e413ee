use Rattle.std.proofs.Common.{length, ◌-◌, ◌≤◌}
use Rattle.programs.proofs.read_to_end.Given as goal

abbrev pub invariant-loop-done : goal.invariant-loop-done
invariant-loop-done g l = l.done ≤ length l.buffer

abbrev pub decreases-loop-done : goal.decreases-loop-done
decreases-loop-done g l = length l.buffer - l.done
