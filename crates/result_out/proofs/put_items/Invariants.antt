use Rattle.std.proofs.Common.{get_or}
use Rattle.rules.specs.Fields.{field_bytes}
use Rattle.rules.specs.Body.{item_fields}
use Rattle.edges.specs.Table.{item_in}
use Rattle.stages_out.specs.Writing.{Rowed}
use Rattle.result_out.proofs.put_items.Given as goal

abbrev pub invariant-loop-x : goal.invariant-loop-x
invariant-loop-x l = Rowed (λ i. field_bytes (item_fields (item_in (get_or l.part i 0)))) 8 l.initial.out l.at l.out l.p l.x-index
