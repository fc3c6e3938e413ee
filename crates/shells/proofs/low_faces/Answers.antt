use Rattle.std.proofs.Common.{arith, refl, sym, ap, ◌∙◌, ◌≡◌, length, set, subst}
use Rattle.lists.specs.Tables.{length_snoc}
use Rattle.lists.specs.Backwards.{left_all, left_fewer, left_taken}
use Rattle.shells.specs.ShellLaws.{LowFrom, low_start, low_step}
use Rattle.shells.proofs.low_faces.Goals as goal

pub loop-f-init : goal.loop-f-init
loop-f-init c =
    let from = ap (λ r. r.iter) c.into_iter-f-iterator.ensures.into_iter_gives ∙ c.rev-f-items.ensures.source in
    let all = ap (λ e. e.iter.rest.now) from ∙ ap (λ i. i.rest.now) c.enumerate.ensures.source ∙ c.iter.ensures.rest ∙ c.members-members.ensures.0 in (
      ap (λ e. e.count) from ∙ c.enumerate.ensures.count,
      left_all _ _ all,
      subst (LowFrom _ _ _) (sym (ap length all)) (low_start _ _ _ refl),
    )

pub loop-f-preserved : goal.loop-f-preserved
loop-f-preserved c =
    let i = c.loop-f.invariant in
    let s = c.in-Some.ensures.steps in
    let fewer = c.next.new.self.iter.iter.rest.now in
    let one = length_snoc fewer c.in-Some.m.now in
    let number : c.in-Some.f ≡ length fewer = omega (arith, s.1.1, i.0) in (
      s.0 ∙ i.0,
      left_fewer _ _ _ _ i.1 s.1.0,
      low_step _ _ _ _ _ _ _ _ i.2 (omega (arith, ap length s.1.0, one)) (omega (arith, ap length s.1.0, one)) (left_taken _ _ _ _ i.1 s.1.0)
          c.get.ensures.0 (c.put.ensures ∙ ap (set c.loop-f.lows c.get.result) number),
    )
