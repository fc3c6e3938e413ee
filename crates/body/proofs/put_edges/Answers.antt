use Rattle.std.proofs.Common.{arith}
use Rattle.rules.specs.declared.EdgeData.{EdgeData}
use Rattle.rules.specs.Body.{edge_record}
use Rattle.rules.specs.Frame.{framed}
use Rattle.stages_out.specs.Writing.{rowed_start, row_step, none_step, members_kept}
use Rattle.body.specs.Numbers.{number_in, placed, blank}
use Rattle.body.specs.Writing.{records_of, wrote_as}
use Rattle.body.proofs.put_edges.Goals.{then-edge, else-edge}
use Rattle.body.proofs.put_edges.Goals as goal

pub loop-edge-init : goal.loop-edge-init
loop-edge-init c = rowed_start

pub loop-edge-preserved : goal.loop-edge-preserved
loop-edge-preserved c =
    elim c.if-edge.branch [
      | then-edge w ↦ rw (w.out-is, w.p-is) (row_step _ _ c.loop-edge.invariant w.if-edge.true w.put_edge-p.ensures.0 (omega arith))
      | else-edge w ↦ rw (w.out-is, w.p-is) (none_step _ _ c.loop-edge.invariant w.if-edge.false)
    ]

pub returns : goal.returns
returns c =
    let number = number_in c.args.vertices.now in
    let all = members_kept (λ (x : EdgeData). x.active) (λ x. framed (edge_record (placed number x))) c.args.rows.now blank c.loop-edge.invariant (omega arith) in
    (wrote_as _ _ _ _ _ _ (records_of edge_record (placed number) _) all, omega arith)
