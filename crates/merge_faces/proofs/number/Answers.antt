use Rattle.std.proofs.Common.{◌∙◌, ap, ◌≡◌, set, length, arith}
use Rattle.merge_faces.specs.Numbering.{own_more, other_more}
use Rattle.merge_faces.proofs.number.Goals.{then-g-f, else-g-f}
use Rattle.merge_faces.proofs.number.Goals as goal

pub loop-f-preserved : goal.loop-f-preserved
loop-f-preserved c =
    let n = c.loop-f in
    let k = n.invariant in
    let lt = c.loop-f-test.true in
    let long : length n.numbers ≡ length c.args.groups.now = omega (arith, n.auto.numbers, c.requires) in
    elim c.if-g-f.branch [
      | then-g-f w ↦ own_more _ _ _ _ _ _ k lt long w.if-g-f.true ((λ i. (w.members-is i).entries) ∙ w.push.ensures) (w.numbers-is ∙ w.put.ensures ∙ ap (set n.numbers n.f) w.len.ensures)
      | else-g-f w ↦ other_more _ _ _ _ _ _ k lt long c.requires.0 w.if-g-f.false (λ i. (w.members-is i).entries) (w.numbers-is ∙ w.put-else-g-f.ensures ∙ ap (set n.numbers n.f) w.get-k.ensures.0)
    ]
