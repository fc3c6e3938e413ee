use Rattle.shells.specs.Table.{row_at, is_void}
use Rattle.stages_out.specs.Writing.{Rowed, row_or}
use Rattle.body.specs.ShellLaws.{shell_row}
use Rattle.body.proofs.put_voids.Given as goal

abbrev pub invariant-loop-s : goal.invariant-loop-s
invariant-loop-s l =
    Rowed (row_or (λ k. is_void l.home (row_at l.shells.rows.now k)) (λ k. shell_row l.shells (row_at l.shells.rows.now k))) 1030 l.initial.out l.at l.out l.p l.s-index
