use Rattle.result_out.proofs.RowLaws.{Lumped}
use Rattle.result_out.proofs.put_lumps.Given as goal

abbrev pub invariant-loop-s : goal.invariant-loop-s
invariant-loop-s l = Lumped l.shells l.initial.out l.out l.p l.number l.s-index
