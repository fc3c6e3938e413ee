use Rattle.std.proofs.Common.{arith, ◌∙◌, sym, eq-eqb, ne_eqb}
use Rattle.fields.specs.Tabled.{length_bytes32}
use Rattle.stages_out.specs.Writing.{rowed_start, row_step, none_step, rows_kept, wrote_same}
use Rattle.stages_out.proofs.ShellFaces.{own_faces}
use Rattle.stages_out.proofs.put_shell_faces.Goals.{then-get-b, else-get-b}
use Rattle.stages_out.proofs.put_shell_faces.Goals as goal

pub loop-f-init : goal.loop-f-init
loop-f-init c = rowed_start

pub loop-f-preserved : goal.loop-f-preserved
loop-f-preserved c =
    elim c.if-get-b.branch [
      | then-get-b w ↦ rw (w.out-is, w.p-is)
          (row_step _ _ c.loop-f.invariant (eq-eqb _ _ (sym c.get.ensures.0 ∙ w.if-get-b.true)) w.put_word-p.ensures (omega (arith, length_bytes32)))
      | else-get-b w ↦ rw (w.out-is, w.p-is) (none_step _ _ c.loop-f.invariant (ne_eqb _ _ (λ e. w.if-get-b.false (c.get.ensures.0 ∙ e))))
    ]

pub returns : goal.returns
returns c = (wrote_same _ _ _ _ _ _ (own_faces _ _ _) (rows_kept _ _ c.loop-f.invariant (omega arith)), omega (arith, c.loop-f.invariant.small, c.requires.0))
