use Rattle.std.proofs.Common.{arith, sym, ◌∙◌}
use Rattle.shells.specs.Table.{no_row, is_void}
use Rattle.stages_out.specs.Writing.{rowed_start, row_step, none_step, members_kept}
use Rattle.body.specs.Writing.{wrote_as}
use Rattle.body.specs.ShellLaws.{shell_row, voids_are}
use Rattle.body.proofs.put_voids.Goals.{then-is_void_of, else-is_void_of}
use Rattle.body.proofs.put_voids.Goals as goal

pub loop-s-init : goal.loop-s-init
loop-s-init c = rowed_start

pub loop-s-preserved : goal.loop-s-preserved
loop-s-preserved c =
    elim c.if-is_void_of.branch [
      | then-is_void_of w ↦
          rw (w.out-is, w.p-is) (row_step _ _ c.loop-s.invariant (sym c.is_void_of.ensures ∙ w.if-is_void_of.true) w.put_shell-p.ensures.0 (omega arith))
      | else-is_void_of w ↦ rw (w.out-is, w.p-is) (none_step _ _ c.loop-s.invariant (sym c.is_void_of.ensures ∙ w.if-is_void_of.false))
    ]

pub returns : goal.returns
returns c =
    let s = c.args.shells.now in
    let all = members_kept (is_void c.args.home) (shell_row s) s.rows.now no_row c.loop-s.invariant (omega arith) in
    (wrote_as _ _ _ _ _ _ (voids_are s _) all, omega arith)
