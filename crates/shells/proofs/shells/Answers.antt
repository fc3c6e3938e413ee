use Rattle.shells.specs.ShellLaws.{shells_start, shells_same, shells_stop, shells_more}
use Rattle.rules.proofs.OutcomeLaws.{hands_on}
use Rattle.std.proofs.Common.{sym, ap, ◌∙◌, arith, length, length-set, get_or}
use Rattle.std.proofs.lemmas.List.{take_more_set}
use Rattle.shells.specs.Steps.{shell_by}
use Rattle.shells.proofs.shells.Goals as goal
use Rattle.shells.proofs.shells.Goals.{then-label-b+in_ok-table, else-label-b}

pub loop-b-init : goal.loop-b-init
loop-b-init c = (c.low_faces-lows.ensures, c.requires, omega arith, shells_start _ _ _ _)

pub returns-in_err-table : goal.returns-in_err-table
returns-in_err-table c =
    let i = c.loop-b.invariant in
    let told = sym c.boundaries-boundaries.ensures.0 in
    let label = ap (λ l. get_or l c.loop-b.b 0) told in
    rw (hands_on c.from_residual.result c.from_residual.ensures.1) (
      shells_stop _ _ _ _ _ _ i.3 (label ∙ c.if-label-b.true) _ (i.0 c.loop-b.b (omega arith)) _
          (c.shell_of.ensures ∙ ap (shell_by _ _ c.low_faces-lows.result) c.if-label-b.true) (omega (arith, ap length told)) (c.in_err-table.was),
      tt,
    )

pub loop-b-preserved : goal.loop-b-preserved
loop-b-preserved c =
    let i = c.loop-b.invariant in
    let label = ap (λ l. get_or l c.loop-b.b 0) (sym c.boundaries-boundaries.ensures.0) in
    elim c.if-label-b.branch [
      | then-label-b+in_ok-table w ↦
          rw (w.count-is, w.table-is) (
            i.0,
            length-set c.loop-b.table c.loop-b.count w.in_ok-table.field-0 ∙ i.1,
            omega arith,
            rw (take_more_set c.loop-b.table c.loop-b.count w.in_ok-table.field-0 (omega arith))
                (shells_more _ _ _ _ _ _ i.3 (label ∙ w.if-label-b.true) _ (i.0 c.loop-b.b (omega arith)) _
                (w.shell_of.ensures ∙ ap (shell_by _ _ c.low_faces-lows.result) w.if-label-b.true) _ (w.in_ok-table.was)),
          )
      | else-label-b w ↦ rw (w.count-is, w.table-is) (i.0, i.1, omega arith, shells_same _ _ _ _ _ _ i.3 (λ e. w.if-label-b.false (sym label ∙ e)))
    ]
