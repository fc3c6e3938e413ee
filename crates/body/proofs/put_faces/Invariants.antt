use Rattle.std.proofs.Common.{get_or}
use Rattle.rules.specs.Frame.{framed_all}
use Rattle.rules.specs.Join.{active_edges}
use Rattle.rules.specs.Body.{body_face, face_records}
use Rattle.stages_out.specs.Writing.{Rowed}
use Rattle.body.specs.Solids.{faces_of}
use Rattle.body.proofs.put_faces.Given as goal

abbrev pub invariant-loop-f : goal.invariant-loop-f
invariant-loop-f l =
    Rowed (λ f. framed_all (face_records (body_face (faces_of l.s) l.members (active_edges l.s.joining.now.edges) l.s.joining.now.loops l.s.kept.now f (get_or l.s.members.now f 0))))
    33579028 l.initial.out l.at l.out l.p l.f
