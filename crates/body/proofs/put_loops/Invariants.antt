use Rattle.std.proofs.Common.{map, eqb}
use Rattle.rules.specs.Frame.{framed}
use Rattle.rules.specs.Body.{loop_record}
use Rattle.edges.specs.Table.{face_loop_at}
use Rattle.stages_out.specs.Writing.{Rowed, row_or}
use Rattle.body.specs.Numbers.{number_in, renumbered_by}
use Rattle.body.proofs.put_loops.Given as goal

abbrev pub invariant-loop-k : goal.invariant-loop-k
invariant-loop-k l =
    Rowed (row_or (λ k. eqb (face_loop_at l.j.loops k).face l.f) (λ k. framed (loop_record (map (renumbered_by (number_in l.numbers)) (face_loop_at l.j.loops k).items))))
    16390 l.initial.out l.at l.out l.p l.k
