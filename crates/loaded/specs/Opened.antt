-- What loading leaves: an index that finds the answers, and counts of the job that the bytes hold.
use Rattle.std.specs.Prelude.{ℕ, ◌≡◌, List}
use Rattle.rules.specs.declared.Counts.{Counts}
use Rattle.rules.specs.Outcome.{Ok}
use Rattle.rules.specs.Job.{Job}
use Rattle.rules.specs.Load.{loaded}
use Rattle.theorems.specs.Sound.{Counted, Limited}
use Rattle.job.specs.Lists.{job_in}
use Rattle.answers.specs.Index.{Indexed}

-- the index finds the answers; the counts are those of the job's lists, and within the limits
pub record Opened (bytes ix : List ℕ) (c : Counts) : Type 0 where
  pub indexed : Indexed bytes ix c
  pub counted : Counted c (job_in bytes ix c)
  pub limited : Limited c

-- a job that some bytes hold
pub record Loads (j : Job) : Type 0 where
  pub bytes : List ℕ
  pub loads : loaded bytes ≡ Ok j
