use Rattle.std.proofs.Common.{ap}
use Rattle.rules.specs.Join.{Joining}
use Rattle.body.specs.BodyLaws.{body_wrote}
use Rattle.body.proofs.put_records.Goals as goal

pub returns : goal.returns
returns c =
    let edges = ap (λ (j : Joining). j.edges) c.j.view_is in
    body_wrote c.args.s.now _ _ _ _ _ _ _ _ _ _ _ _ c.put_totals.ensures.1 c.put_totals.ensures.0
    (rw edges at c.put_vertices-count.ensures.1) (rw edges at c.put_edges-p.ensures.0) c.put_faces-q.ensures.0 c.put_lumps.ensures
