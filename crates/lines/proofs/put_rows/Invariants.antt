use Rattle.lines.specs.Cut.{Going}
use Rattle.rules.specs.Rows.{row_text}
use Rattle.lines.specs.Text.{row_at, row_size}
use lib.ListN.{length}
use Rattle.lines.proofs.put_rows.Given as goal

abbrev pub invariant-loop-rest : goal.invariant-loop-rest
invariant-loop-rest l =
    Going (row_at l.fixed l.counted) (row_size l.fixed l.counted) row_text l.initial.page l.at l.bytes l.rest l.page l.p

abbrev pub decreases-loop-rest : goal.decreases-loop-rest
decreases-loop-rest l = length l.rest
