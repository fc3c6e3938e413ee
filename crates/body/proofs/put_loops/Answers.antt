use Rattle.std.proofs.Common.{arith, sym, ◌∙◌, map, eqb, eq-eqb, ne_eqb}
use Rattle.rules.specs.Edges.{FaceLoop}
use Rattle.rules.specs.Body.{loop_record}
use Rattle.rules.specs.Frame.{framed}
use Rattle.edges.specs.LoopLaws.{faces_count, face_at}
use Rattle.stages_out.specs.Writing.{rowed_start, row_step, none_step, members_kept}
use Rattle.body.specs.Numbers.{number_in, renumbered_by}
use Rattle.body.specs.Writing.{records_of, wrote_as}
use Rattle.body.proofs.put_loops.Goals.{then-face-f, else-face-f}
use Rattle.body.proofs.put_loops.Goals as goal

pub loop-k-init : goal.loop-k-init
loop-k-init c = rowed_start

pub loop_items-requires : goal.loop_items-requires
loop_items-requires c = omega (arith, faces_count c.args.j.now.loops c.loop_faces-faces.ensures.0)

pub loop-k-preserved : goal.loop-k-preserved
loop-k-preserved c =
    let own = face_at c.args.j.now.loops c.loop-k.k c.loop_faces-faces.ensures.0 (omega arith) in
    elim c.if-face-f.branch [
      | then-face-f w ↦
          rw (w.out-is, w.p-is)
          (row_step _ _ c.loop-k.invariant (eq-eqb _ _ (sym own ∙ w.if-face-f.true)) (rw (← w.loop_items.ensures.0) w.put_loop-p.ensures.0) (omega arith))
      | else-face-f w ↦
          rw (w.out-is, w.p-is) (none_step _ _ c.loop-k.invariant (ne_eqb _ _ (λ e. w.if-face-f.false (own ∙ e))))
    ]

pub returns : goal.returns
returns c =
    let number = number_in c.args.numbers.now in
    let loops = c.args.j.now.loops in
    let own = λ (l : FaceLoop). map (renumbered_by number) l.items in
    let count = faces_count loops c.loop_faces-faces.ensures.0 in
    let all = members_kept (λ (l : FaceLoop). eqb l.face c.args.f) (λ l. framed (loop_record (own l))) loops _ c.loop-k.invariant (omega (arith, count)) in
    (wrote_as _ _ _ _ _ _ (records_of loop_record own _) all, omega arith)
