use Rattle.shells.specs.Table.{row_at, is_void}
use Rattle.stages_out.specs.Writing.{Rowed, row_or}
use Rattle.result_out.proofs.RowLaws.{row_bytes}
use Rattle.result_out.proofs.put_voids.Given as goal

abbrev pub invariant-loop-s : goal.invariant-loop-s
invariant-loop-s l =
    Rowed (row_or (λ k. is_void l.home (row_at l.shells.rows.now k)) (λ k. row_bytes l.shells l.number (row_at l.shells.rows.now k))) 1032 l.initial.out l.at l.out l.p l.s-index
