use Rattle.std.proofs.Common.{◌≡◌, ℕ, ◌<◌, get_or}
use Rattle.rules.specs.Job.{point_at}
use Rattle.rules.specs.Read.{use_at, use_start}
use Rattle.fans.proofs.start_points.Given as goal

abbrev pub invariant-loop-h : goal.invariant-loop-h
invariant-loop-h l = (j : ℕ) → j < l.h → get_or l.starts j 0 ≡ point_at l.job.points (use_start l.job.edges (use_at l.uses j))
