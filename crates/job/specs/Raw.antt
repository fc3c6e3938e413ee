-- The lists of a job as it stands while it is read.
use Rattle.std.specs.Prelude.{ℕ, List}
use Rattle.rules.specs.declared.Edge.{Edge}
use Rattle.rules.specs.declared.Face.{Face}
use Rattle.rules.specs.Job.{Answer}
use Rattle.job.specs.declared.RawJob.{RawJob}
use Rattle.job.specs.Lists.{points_in, edges_in, faces_in, answers_in}

abbrev pub points : RawJob → List ℕ
points raw = points_in raw.bytes.now raw.counts

abbrev pub edges : RawJob → List Edge
edges raw = edges_in raw.bytes.now raw.counts

abbrev pub faces : RawJob → List Face
faces raw = faces_in raw.bytes.now raw.index.now raw.counts

abbrev pub answers : RawJob → List Answer
answers raw = answers_in raw.bytes.now raw.index.now raw.counts
