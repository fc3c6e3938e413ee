use Rattle.std.proofs.Common.{arith, sym, ap, ◌∙◌, ◌≡◌, ◌<◌, suc, length, get_or, subst}
use Rattle.std.proofs.lemmas.List.{length-append}
use Rattle.lists.specs.Tables.{length_snoc}
use Rattle.lists.specs.Backwards.{left_all, left_fewer, left_taken}
use Rattle.members.specs.Chain.{Chaining, chaining_start, chaining_step}
use Rattle.members.proofs.Members.new.Goals as goal

pub loop-i-init : goal.loop-i-init
loop-i-init c =
    let from = ap (λ r. r.iter) c.into_iter-i-iterator.ensures.into_iter_gives ∙ c.rev-i-items.ensures.source in
    let all = ap (λ e. e.iter.rest.now) from ∙ ap (λ i. i.rest.now) c.enumerate.ensures.source ∙ c.iter.ensures.rest in (
      ap (λ e. e.count) from ∙ c.enumerate.ensures.count,
      left_all _ _ all,
      subst (Chaining _ _ _) (sym (ap length all)) (chaining_start _ _ c.requires.0 c.requires.1),
    )

pub loop-i-preserved : goal.loop-i-preserved
loop-i-preserved c =
    let k = c.loop-i.invariant in
    let s = c.in-Some.ensures.steps in
    let left = c.loop-i.i-iterator.iter.iter.rest.now in
    let fewer = c.next.new.self.iter.iter.rest.now in
    let number : c.in-Some.i ≡ length fewer = omega (arith, s.1.1, k.0) in
    let one : length left ≡ suc (length fewer) = ap length s.1.0 ∙ length_snoc fewer c.in-Some.group.now in
    let inside : c.in-Some.i < length c.args.groups.now = omega (arith, number, one, ap length k.1.1, length-append left k.1.0) in (
      s.0 ∙ k.0,
      left_fewer _ _ _ _ k.1 s.1.0,
      subst (Chaining _ _ _) number
          (chaining_step _ _ _ _ _ _ _ _ _ c.requires.2 (omega arith) inside k.2
          (left_taken _ _ _ _ k.1 s.1.0 ∙ ap (λ n. get_or c.args.groups.now n 0) (sym number)) c.get-later.ensures.0 c.put.ensures
          c.put-in-loop-i.ensures),
    )
