use Rattle.std.proofs.Common.{sym}
use Rattle.std.specs.Prelude.{ℕ}
use Rattle.std.proofs.lemmas.List.{length-replicate}
use Rattle.replay.proofs.blank.Goals as goal

pub returns : goal.returns
returns c = sym (length-replicate {A = ℕ} 3000001 0)
