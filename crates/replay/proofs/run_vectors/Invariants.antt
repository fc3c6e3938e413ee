use Rattle.std.proofs.Common.{◌+◌, ◌*◌, ◌≤◌, length}
use Rattle.replay.proofs.run_vectors.Given as goal

-- a vector has fewer than 2^32 answers; each answer, and each vector, takes a byte at least
abbrev pub invariant-loop-vector : goal.invariant-loop-vector
invariant-loop-vector g l =
    (l.answers ≤ 4294967295 * l.vector)
    × (l.differences ≤ l.answers)
    × (l.answers + l.vector + length l.reader ≤ length l.initial.reader)
