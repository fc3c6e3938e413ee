use Rattle.std.proofs.Common.{get_or}
use Rattle.rules.specs.Fields.{field_bytes}
use Rattle.rules.specs.Body.{item_fields}
use Rattle.edges.specs.Table.{item_in}
use Rattle.stages_out.specs.Writing.{Rowed}
use Rattle.body.specs.Numbers.{number_in, renumbered_by}
use Rattle.body.proofs.put_items.Given as goal

abbrev pub invariant-loop-x : goal.invariant-loop-x
invariant-loop-x l = Rowed (λ k. field_bytes (item_fields (renumbered_by (number_in l.numbers) (item_in (get_or l.part k 0))))) 8 l.initial.out l.at l.out l.p l.x-index
