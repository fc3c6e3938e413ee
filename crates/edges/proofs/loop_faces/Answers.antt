use Rattle.std.proofs.Common.{arith}
use Rattle.lists.specs.Tables.{table_is}
use Rattle.edges.proofs.loop_faces.Goals as goal

pub returns : goal.returns
returns c = table_is _ _ _ 0 c.loop-k.auto.faces (λ j h. c.loop-k.invariant j (omega arith))
