use Rattle.rules.specs.Fields.{field_bytes}
use Rattle.stages_out.specs.Rows.{pair_row}
use Rattle.stages_out.specs.Writing.{Rowed}
use Rattle.stages_out.proofs.put_pairs.Given as goal

abbrev pub invariant-loop-f : goal.invariant-loop-f
invariant-loop-f l = Rowed (λ f. field_bytes (pair_row l.b-items l.groups f)) 8 l.initial.out 0 l.out l.p l.f
