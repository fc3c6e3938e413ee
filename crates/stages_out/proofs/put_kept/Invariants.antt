use Rattle.std.proofs.Common.{get_or}
use Rattle.rules.specs.Fields.{field_bytes}
use Rattle.rules.specs.Stage.{kept_fields}
use Rattle.stages_out.specs.Writing.{Rowed}
use Rattle.stages_out.proofs.put_kept.Given as goal

abbrev pub invariant-loop-k : goal.invariant-loop-k
invariant-loop-k l = Rowed (λ i. field_bytes (kept_fields (get_or l.kept i (record { face = 0; point = 0 })))) 8 l.initial.out 0 l.out l.p l.k-index
