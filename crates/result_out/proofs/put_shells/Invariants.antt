use Rattle.rules.specs.Fields.{field_bytes}
use Rattle.rules.specs.Stage.{shell_fields}
use Rattle.shells.specs.Table.{row_at, nested_row}
use Rattle.stages_out.specs.Writing.{Rowed}
use Rattle.result_out.proofs.put_shells.Given as goal

abbrev pub invariant-loop-s : goal.invariant-loop-s
invariant-loop-s l = Rowed (λ k. field_bytes (shell_fields ((nested_row l.shells (row_at l.shells.rows.now k)).shell))) 1032 l.initial.out 0 l.out l.p l.s-index
