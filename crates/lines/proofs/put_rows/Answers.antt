use Rattle.std.proofs.Common.{rules}
use Rattle.rules.specs.Fields.{fields_in}
use Rattle.rules.specs.Rows.{row_text}
use Rattle.fields.specs.Wrote.{Wrote}
use Rattle.lines.specs.LineLaws.{row_some, row_short, row_is, counted_small}
use Rattle.lines.specs.Cut.{going_step, going_end}
use Rattle.lines.specs.Text.{row_at, row_size}
use Prim.Native.Nat.{◌*◌}
use mathlib.Core.Path.{ap, subst}
use native.Mathlib.Omega.{arith}
use Rattle.lines.proofs.put_rows.Goals as goal

pub loop-rest-preserved : goal.loop-rest-preserved
loop-rest-preserved c =
    let a = c.args in
    let l = c.loop-rest in
    let n = row_is _ a.fixed a.counted _ c.word.ensures.0 in
    going_step (row_at a.fixed a.counted) (row_size a.fixed a.counted) row_text _ _ _
    (row_some a.fixed a.counted c.requires.2) (row_short a.fixed a.counted c.requires.2) _ _ _ _ _ _ _ l.invariant
    (search rules) (ap (λ k. 4 * k) n)
    (omega (arith, c.requires.3, counted_small a.counted c.word.result c.requires.4 c.word.ensures.1))
    c.back-rest.ensures
    (subst (λ k. Wrote l.page l.p (row_text (fields_in k l.rest.now)) c.put_row-p.new.page c.put_row-p.result) n
    c.put_row-p.ensures)

pub returns : goal.returns
returns c =
    let a = c.args in (
      going_end (row_at a.fixed a.counted) (row_size a.fixed a.counted) row_text _ _ _ _ _ _ c.loop-rest.invariant
          (search rules),
      omega (arith, c.requires, c.loop-rest.invariant.most),
    )
