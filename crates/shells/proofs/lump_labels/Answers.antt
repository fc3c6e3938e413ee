use Rattle.shells.specs.LumpLaws.{labels_start, labels_few, labels_own, labels_old, labels_end}
use Rattle.std.proofs.Common.{arith, refl, ap, ◌∙◌}
use Rattle.shells.proofs.lump_labels.Goals.{then-b-f, else-b-f}
use Rattle.shells.proofs.lump_labels.Goals as goal

pub loop-f-init : goal.loop-f-init
loop-f-init c = labels_start _ _ _ c.requires.0 c.requires.1

pub overflow_add-count : goal.overflow_add-count
overflow_add-count c = omega (arith, labels_few _ _ _ _ _ c.loop-f.invariant c.loop-f-test.true, c.loop-f-test.true)

pub loop-f-preserved : goal.loop-f-preserved
loop-f-preserved c =
    let s = c.loop-f.invariant in
    let lt = c.loop-f-test.true in
    elim c.if-b-f.branch [
      | then-b-f w ↦
          rw w.count-is (labels_own _ _ _ _ _ s lt _ _ _ refl w.if-b-f.true (ap (λ row. row.home) w.shell_at.ensures) (w.labels-is ∙ w.put.ensures))
      | else-b-f w ↦
          rw w.count-is (labels_old _ _ _ _ _ s lt _ _ _ refl w.if-b-f.false w.get.ensures.0 (w.labels-is ∙ w.put-else-b-f.ensures))
    ]

pub returns : goal.returns
returns c = λ bs members. labels_end _ bs members _ _ _ _ c.loop-f.invariant (omega arith)
