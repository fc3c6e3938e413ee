use Rattle.shells.specs.Table.{row_at}
use Rattle.stages_out.specs.Writing.{Rowed, row_or}
use Rattle.body.specs.ShellLaws.{lump_row}
use Rattle.body.proofs.put_lumps.Given as goal

abbrev pub invariant-loop-s : goal.invariant-loop-s
invariant-loop-s l =
    Rowed (row_or (λ k. (row_at l.shells.rows.now k).outer) (λ k. lump_row l.shells (row_at l.shells.rows.now k))) 264716 l.initial.out l.at l.out l.p l.s-index
