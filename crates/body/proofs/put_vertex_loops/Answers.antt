use Rattle.std.proofs.Common.{arith, eqb, eq-eqb, ne_eqb}
use Rattle.rules.specs.declared.KeptVertexLoop.{KeptVertexLoop}
use Rattle.rules.specs.Frame.{framed}
use Rattle.rules.specs.Body.{vertex_loop_record}
use Rattle.stages_out.specs.Writing.{rowed_start, row_step, none_step, members_kept}
use Rattle.body.specs.Writing.{records_of, wrote_as}
use Rattle.body.proofs.put_vertex_loops.Goals.{then-k-f, else-k-f}
use Rattle.body.proofs.put_vertex_loops.Goals as goal

pub loop-k-init : goal.loop-k-init
loop-k-init c = rowed_start

pub loop-k-preserved : goal.loop-k-preserved
loop-k-preserved c =
    elim c.if-k-f.branch [
      | then-k-f w ↦ rw (w.out-is, w.p-is) (row_step _ _ c.loop-k.invariant (eq-eqb _ _ w.if-k-f.true) w.put_record-p.ensures.0 (omega arith))
      | else-k-f w ↦ rw (w.out-is, w.p-is) (none_step _ _ c.loop-k.invariant (ne_eqb _ _ w.if-k-f.false))
    ]

pub returns : goal.returns
returns c =
    let none : KeptVertexLoop = record { face = 0; point = 0 } in
    let all = members_kept (λ (k : KeptVertexLoop). eqb k.face c.args.f) (λ k. framed (vertex_loop_record k.point)) c.args.kept.now none c.loop-k.invariant (omega arith) in
    (wrote_as _ _ _ _ _ _ (records_of vertex_loop_record (λ (k : KeptVertexLoop). k.point) _) all, omega arith)
