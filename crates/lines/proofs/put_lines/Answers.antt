use Rattle.std.proofs.Common.{rules}
use Rattle.rules.specs.Listing.{line_of}
use Rattle.lines.specs.LineLaws.{record_some, line_short, record_next}
use Rattle.lines.specs.Cut.{going_step, going_end}
use Rattle.lines.specs.Text.{record_at, record_size}
use native.Mathlib.Omega.{arith}
use Rattle.lines.proofs.put_lines.Goals as goal

pub loop-rest-preserved : goal.loop-rest-preserved
loop-rest-preserved c =
    going_step record_at record_size line_of _ _ _ record_some line_short _ _ _ _ _ _ _ c.loop-rest.invariant
    (search rules) (record_next _ _ c.word.ensures.0) (omega (arith, c.word.ensures.1)) c.back-rest.ensures
    c.put_line-p.ensures

pub returns : goal.returns
returns c =
    going_end record_at record_size line_of _ _ _ _ _ _ c.loop-rest.invariant (search rules)
