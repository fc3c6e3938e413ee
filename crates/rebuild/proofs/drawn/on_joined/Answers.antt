use Rattle.std.proofs.Common.{arith, ◌∙◌}
use Rattle.std.proofs.lemmas.Result.{IfOk-at_ok}
use Rattle.progress.specs.KnownLaws.{seen}
use Rattle.progress.specs.Chain.{after_joining}
use Rattle.rebuild.proofs.drawn.on_joined.Goals as goal

pub on_shelled-requires : goal.on_shelled-requires
on_shelled-requires g c =
    let S = seen c.w.invariant (c.w.view_is ∙ c.walks-w.ensures) in
    (c.requires, rw (S.boundaries, S.members) at (IfOk-at_ok _ c.in_ok-n.was c.shells.ensures.1).2)

pub returns-in_err-n : goal.returns-in_err-n
unfolding after_joining
returns-in_err-n g c =
    let S = seen c.w.invariant (c.w.view_is ∙ c.walks-w.ensures) in
    let told = rw (S.boundaries, S.members, S.job) at c.shells.ensures.0 in
    grind arith

pub returns : goal.returns
unfolding after_joining
returns g c =
    let S = seen c.w.invariant (c.w.view_is ∙ c.walks-w.ensures) in
    let told = rw (S.boundaries, S.members, S.job) at c.shells.ensures.0 in
    grind arith
