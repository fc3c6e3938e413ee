use Rattle.rules.specs.Fields.{field_bytes}
use Rattle.rules.specs.Stage.{face_loop_fields}
use Rattle.edges.specs.Table.{face_loop_at}
use Rattle.stages_out.specs.Writing.{Rowed}
use Rattle.result_out.proofs.put_loops.Given as goal

abbrev pub invariant-loop-k : goal.invariant-loop-k
invariant-loop-k l = Rowed (λ k. field_bytes (face_loop_fields (face_loop_at l.j.loops k))) 16392 l.initial.out l.at l.out l.p l.k
