use Rattle.rules.specs.Fields.{field_bytes}
use Rattle.fields.specs.Spans.{span_at}
use Rattle.walk.specs.Walks.{loop_in}
use Rattle.stages_out.specs.Rows.{round_row}
use Rattle.stages_out.specs.Writing.{Rowed}
use Rattle.stages_out.proofs.put_loops.Given as goal

abbrev pub invariant-loop-s : goal.invariant-loop-s
invariant-loop-s l =
    Rowed (λ i. field_bytes (round_row l.uses l.numbers (loop_in l.ways (span_at l.s-items i)))) 8200 l.initial.out 0 l.out l.p l.s-index
