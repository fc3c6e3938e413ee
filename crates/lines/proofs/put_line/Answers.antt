use Rattle.std.proofs.Common.{ap, ◌/◌}
use Rattle.lines.specs.LineLaws.{line_wrote}
use Rattle.lines.proofs.put_line.Goals as goal

pub returns : goal.returns
returns c =
    line_wrote _ _ _ _ _ _ _ _ _ _ _ _ _ c.half-kind.ensures.0 (ap (λ v. v / 4) c.word-n.ensures.0)
    c.plain_fields.ensures.0 c.back.ensures c.put_name-p.ensures c.put_fields-q.ensures c.put_text.ensures
