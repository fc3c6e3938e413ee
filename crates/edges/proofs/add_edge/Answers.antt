use Rattle.std.proofs.Common.{refl, sym, ◌∙◌, set}
use Rattle.edges.proofs.add_edge.Goals as goal

pub returns-then-is_lower : goal.returns-then-is_lower
returns-then-is_lower c =
    let kept = sym c.is_lower.ensures ∙ c.if-is_lower.true in
    record {
      table = rw kept (c.put_entry.ensures ∙ (λ i. set c.args.rows.now c.args.count (c.edge_of-x.ensures i)));
      owners = rw kept (c.put-then-is_lower.ensures ∙ (λ i. set (c.put.ensures i) (c.get.ensures.0 i) c.args.count));
      next = rw kept refl;
    }
