use Rattle.std.specs.Prelude.{◌≡◌, length}
use Rattle.std.proofs.Common.{arith, subst}
use Rattle.links.specs.Lay.{laid_upto, upto_none, upto_part}
use Rattle.links.proofs.lay_loops.Goals as goal

pub loop-k-init : goal.loop-k-init
loop-k-init c = upto_none _ _ _ _ _

pub loop-k-preserved : goal.loop-k-preserved
loop-k-preserved c =
    rw c.range.ensures.0 (rw c.range.ensures.1 (upto_part _ _ _ _ _ c.requires _ _ _ _
    c.loop-k-test.true c.loop-k.invariant c.get.ensures.0 (rw c.range.ensures.0 at (rw c.range.ensures.1 at c.lay_loop.ensures))))

pub returns : goal.returns
returns c =
    let a = c.args in
    let all : c.loop-k.k ≡ length a.stretches.now = omega arith in
    subst (λ n. c.loop-k.items ≡ laid_upto a.list.now a.nexts.now a.heads.now a.stretches.now a.items.now n) all c.loop-k.invariant
