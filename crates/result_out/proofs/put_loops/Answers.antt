use Rattle.std.proofs.Common.{arith}
use Rattle.rules.specs.Stage.{face_loop_fields}
use Rattle.edges.specs.LoopLaws.{faces_count, face_at}
use Rattle.stages_out.specs.Writing.{rowed_start, rowed_step, fields_members}
use Rattle.result_out.proofs.put_loops.Goals as goal

pub loop-k-init : goal.loop-k-init
loop-k-init c = rowed_start

pub loop_items-requires : goal.loop_items-requires
loop_items-requires c = omega (arith, faces_count c.args.j.now.loops c.loop_faces-faces.ensures.0)

pub put_loop-p-requires : goal.put_loop-p-requires
put_loop-p-requires c = (c.loop_items.ensures.1, omega (arith, c.loop-k.invariant.small))

pub loop-k-preserved : goal.loop-k-preserved
loop-k-preserved c =
    let own = face_at c.args.j.now.loops c.loop-k.k c.loop_faces-faces.ensures.0 (omega arith) in
    rowed_step c.loop-k.invariant (rw (own, c.loop_items.ensures.0) at c.put_loop-p.ensures.0) c.put_loop-p.ensures.1

pub returns : goal.returns
returns c = fields_members face_loop_fields _ _ c.loop-k.invariant (omega (arith, faces_count c.args.j.now.loops c.loop_faces-faces.ensures.0))
