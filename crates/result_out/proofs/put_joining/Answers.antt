use Rattle.std.proofs.Common.{arith}
use Rattle.result_out.proofs.RowLaws.{joining_wrote}
use Rattle.result_out.proofs.put_joining.Goals as goal

pub put_edges-q-requires : goal.put_edges-q-requires
put_edges-q-requires c = (c.j.invariant.edges_few, omega arith)

pub returns : goal.returns
returns c = joining_wrote c.j.view_is _ _ _ _ _ _ _ c.put_fields-p.ensures.0 c.put_edges-q.ensures.0 c.put_loops.ensures
