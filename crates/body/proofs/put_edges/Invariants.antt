use Rattle.std.proofs.Common.{get_or}
use Rattle.rules.specs.Frame.{framed}
use Rattle.rules.specs.Body.{edge_record}
use Rattle.stages_out.specs.Writing.{Rowed, row_or}
use Rattle.body.specs.Numbers.{number_in, placed, blank}
use Rattle.body.proofs.put_edges.Given as goal

abbrev pub invariant-loop-edge : goal.invariant-loop-edge
invariant-loop-edge l =
    Rowed (row_or (λ k. (get_or l.rows k blank).active) (λ k. framed (edge_record (placed (number_in l.vertices) (get_or l.rows k blank))))) 22 l.initial.out l.at l.out l.p l.edge-index
