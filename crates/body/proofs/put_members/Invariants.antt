use Rattle.rules.specs.Groups.{members_of}
use Rattle.body.specs.Solids.{faces_of}
use Rattle.body.specs.FaceLaws.{Membered}
use Rattle.body.proofs.put_members.Given as goal

abbrev pub invariant-loop-i : goal.invariant-loop-i
invariant-loop-i l = Membered (faces_of l.s) (members_of l.members l.m) l.initial.out l.initial.p l.yielded l.i-iterator l.out l.p
