use Rattle.rules.specs.Fields.{field_bytes}
use Rattle.rules.specs.Join.{edge_data_at}
use Rattle.rules.specs.Stage.{edge_fields}
use Rattle.stages_out.specs.Writing.{Rowed}
use Rattle.result_out.proofs.put_edges.Given as goal

abbrev pub invariant-loop-e : goal.invariant-loop-e
invariant-loop-e l = Rowed (λ i. field_bytes (edge_fields (edge_data_at l.edges i))) 28 l.initial.out l.at l.out l.p l.e-index
