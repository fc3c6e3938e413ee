use Rattle.lines.specs.LineLaws.{joining_wrote}
use Rattle.lines.proofs.put_joining.Goals as goal

pub returns : goal.returns
returns c =
    joining_wrote _ _ _ _ _ _ _ _ _ _ _ _ _ c.front-counts.ensures c.back-rest.ensures c.word-end.ensures.0
    c.front-edges.ensures c.back-loops.ensures c.put_rows-p.ensures.0 c.put_rows-q.ensures.0 c.put_rows.ensures.0
