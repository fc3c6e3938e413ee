-- Every job has what sewing promises of it.
use Rattle.std.specs.Prelude.{List, ℕ}
use Rattle.rules.specs.declared.Rules.{Rules}
use Rattle.theorems.proofs.Assembly.{demand3}
use Rattle.theorems.proofs.FaceJoined.{face_joins}
use Rattle.theorems.proofs.FaceMembering.{face_members}
use Rattle.theorems.proofs.Loading.{faces_distinct}
use Rattle.theorems.specs.Promises.{Promises}

pub promises : (rules : Rules) (job : List ℕ) → Promises rules job
promises rules job = record {
  demand3 = demand3 rules job;
  face_joins = face_joins rules job;
  face_members = face_members rules job;
  faces_distinct = faces_distinct job;
}
