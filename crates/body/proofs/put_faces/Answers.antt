use Rattle.std.proofs.Common.{arith, ap, refl, get_or}
use Rattle.rules.specs.Join.{Joining}
use Rattle.members.specs.Group.{leading_at}
use Rattle.stages_out.specs.Writing.{rowed_start, rowed_step, rowed_as}
use Rattle.body.specs.FaceLaws.{face_wrote, face_rows}
use Rattle.body.proofs.put_faces.Goals as goal

pub loop-f-init : goal.loop-f-init
loop-f-init c = rowed_start

pub put_members-r-requires : goal.put_members-r-requires
put_members-r-requires c = (
  omega arith,
  rw c.new-members.ensures (leading_at _ _ _ (get_or c.args.s.now.members.now c.loop-f.f 0) c.args.s.now.sized.own c.loop-f-test.true refl),
)

pub loop-f-preserved : goal.loop-f-preserved
loop-f-preserved c =
    rowed_step c.loop-f.invariant
    (face_wrote _ _ _ _ _ _ _ (rw (ap (λ (j : Joining). j.edges) c.j.view_is) at c.number_edges-count.ensures) _ _ _ _ _ _ _ _ _ _ _ _
    c.put_face-q.ensures.0 c.put_members-r.ensures.0 c.put_loops-t.ensures.0 c.put_vertex_loops-p.ensures.0)
    (omega arith)

pub returns : goal.returns
returns c = (
  rw (← c.new-members.ensures) (rowed_as c.loop-f.invariant (face_rows _ _ _ _ _ _ _ (omega arith))),
  omega (arith, c.loop-f.invariant.small, c.args.s.now.sized.few_members),
)
