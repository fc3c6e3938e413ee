use Rattle.maximal_edges.specs.ChangeLaws.{stored_join}
use Rattle.rules.specs.Join.{joined_edge}
use native.Mathlib.Omega.{arith}
use Rattle.maximal_edges.proofs.join_at.Goals as goal

pub returns : goal.returns
unfolding joined_edge
returns g c = record {
  edges = stored_join c.args.rows.now c.args.v c.requires.room c.requires.lower c.requires.inside c.edge_at-x.ensures c.edge_at-y.ensures
      c.retired.ensures c.retired-2.ensures c.joined_edge-e.ensures c.put_entry.ensures c.put_entry-2.ensures c.put_entry-3.ensures;
  loops = c.join_places.ensures;
  table = grind arith;
  made = grind arith;
}
