use Rattle.std.proofs.Common.{arith, sym, ◌∙◌}
use Rattle.stages_out.specs.Writing.{rowed_start, rowed_step, fields_members, wrote_same}
use Rattle.lists.specs.Rows.{flat_map_map}
use Rattle.rules.specs.Stage.{shell_fields}
use Rattle.shells.specs.declared.ShellRow.{ShellRow}
use Rattle.shells.specs.Table.{no_row, nested_row}
use Rattle.result_out.proofs.RowLaws.{flag_kind}
use Rattle.result_out.proofs.put_shells.Goals as goal

pub loop-s-init : goal.loop-s-init
loop-s-init c = rowed_start

pub loop-s-preserved : goal.loop-s-preserved
loop-s-preserved c = rowed_step c.loop-s.invariant (rw (c.from-outer.ensures ∙ flag_kind _) at c.put_shell-p.ensures.0) c.put_shell-p.ensures.1

pub returns : goal.returns
returns c =
    let s = c.args.shells.now in
    let shell = λ (x : ShellRow). (nested_row s x).shell in
    wrote_same _ _ _ _ _ _ (sym (flat_map_map shell_fields shell s.rows.now)) (fields_members (λ x. shell_fields (shell x)) s.rows.now no_row c.loop-s.invariant (omega arith))
