use Rattle.lines.specs.LineLaws.{row_wrote}
use native.Mathlib.Omega.{arith}
use Rattle.lines.proofs.put_row.Goals as goal

pub returns : goal.returns
returns c =
    row_wrote _ _ _ _ _ _ _ _ _ _ _ _ _ c.word.ensures.0 (omega (arith, c.requires)) c.back.ensures
    c.put_number-p.ensures c.put_fields-q.ensures c.put_text.ensures
