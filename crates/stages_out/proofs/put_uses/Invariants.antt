use Rattle.rules.specs.Fields.{field_bytes}
use Rattle.rules.specs.Read.{use_at}
use Rattle.rules.specs.Stage.{use_fields}
use Rattle.stages_out.specs.Writing.{Rowed}
use Rattle.stages_out.proofs.put_uses.Given as goal

abbrev pub invariant-loop-u : goal.invariant-loop-u
invariant-loop-u l = Rowed (λ i. field_bytes (use_fields (use_at l.uses i))) 16 l.initial.out 0 l.out l.p l.u-index
