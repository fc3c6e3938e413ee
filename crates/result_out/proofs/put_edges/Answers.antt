use Rattle.rules.specs.Join.{no_edge_data}
use Rattle.rules.specs.Stage.{edge_fields}
use Rattle.std.proofs.Common.{arith, subst}
use Rattle.stages_out.specs.Writing.{rowed_start, rowed_step, fields_members}
use Rattle.std.proofs.lemmas.List.{get_or_default}
use Rattle.rules.specs.Fields.{field_bytes}
use Rattle.fields.specs.Wrote.{Wrote}
use Rattle.result_out.proofs.put_edges.Goals as goal

pub loop-e-init : goal.loop-e-init
loop-e-init c = rowed_start

pub loop-e-preserved : goal.loop-e-preserved
loop-e-preserved c =
    let at = get_or_default c.args.edges.now c.loop-e.e-index _ no_edge_data (omega arith) in
    rowed_step c.loop-e.invariant (subst (λ e. Wrote c.loop-e.out c.loop-e.p (field_bytes (edge_fields e)) c.put_edge-p.new.out c.put_edge-p.result) at c.put_edge-p.ensures.0) c.put_edge-p.ensures.1

pub returns : goal.returns
returns c = (fields_members edge_fields _ no_edge_data c.loop-e.invariant (omega arith), omega (arith, c.loop-e.invariant.small))
