use Rattle.std.proofs.Common.{arith}
use Rattle.stages_out.specs.Writing.{wrote_same}
use Rattle.result_out.proofs.RowLaws.{edge_fields_lem}
use Rattle.result_out.proofs.put_edge.Goals as goal

pub returns : goal.returns
returns c = (
  wrote_same _ _ _ _ _ _ (edge_fields_lem _ _ _ (omega arith) c.from-sense.ensures.0 c.from-active.ensures) c.put_fields.ensures.0,
  omega arith,
)
