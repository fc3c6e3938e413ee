use Rattle.lines.specs.LineLaws.{refusal_wrote}
use Rattle.lines.proofs.put_refusal.Goals as goal

pub returns : goal.returns
returns c =
    refusal_wrote _ _ _ _ _ _ _ _ _ _ _ c.put_text-p.ensures c.put_field-q.ensures c.put_field-r.ensures
    c.put_text.ensures
