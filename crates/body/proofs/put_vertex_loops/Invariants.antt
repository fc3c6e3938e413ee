use Rattle.std.proofs.Common.{get_or, eqb}
use Rattle.rules.specs.Frame.{framed}
use Rattle.rules.specs.Body.{vertex_loop_record}
use Rattle.stages_out.specs.Writing.{Rowed, row_or}
use Rattle.body.proofs.put_vertex_loops.Given as goal

abbrev pub invariant-loop-k : goal.invariant-loop-k
invariant-loop-k l =
    Rowed (row_or (λ i. eqb (get_or l.kept i (record { face = 0; point = 0 })).face l.f) (λ i. framed (vertex_loop_record (get_or l.kept i (record { face = 0; point = 0 })).point)))
    10 l.initial.out l.at l.out l.p l.k-index
