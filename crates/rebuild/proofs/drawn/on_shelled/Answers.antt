use Rattle.std.proofs.Common.{arith, subst, ◌∙◌}
use Rattle.std.specs.Prelude.{OnOk}
use Rattle.shells.specs.Table.{Shelled}
use Rattle.rebuild.specs.Tables.{boundaries_of, members_of}
use Rattle.progress.specs.KnownLaws.{seen}
use Rattle.rebuild.specs.Homes.{homes_low}
use Rattle.rebuild.proofs.SolidLaws.{shells_few}
use Rattle.progress.specs.Chain.{after_shells}
use Rattle.rebuild.proofs.drawn.on_shelled.Goals as goal

pub invariant_of-shells : goal.invariant_of-shells
invariant_of-shells g c =
    let S = seen c.w.invariant (c.w.view_is ∙ c.walks-w.ensures) in
    record { few = shells_few c.args.d.now S.faces c.args.table.now c.requires.1; few_members = c.members-members.ensures.1 }

pub invariant_of-shells-2 : goal.invariant_of-shells-2
invariant_of-shells-2 g c =
    let S = seen c.w.invariant (c.w.view_is ∙ c.walks-w.ensures) in
    let told = c.nest.ensures (boundaries_of c.args.d.now) (members_of c.args.d.now) c.requires.1 in
    let nested = subst (λ r. OnOk r (Shelled (boundaries_of c.args.d.now) (members_of c.args.d.now) c.nest.new.table)) c.in_ok-nest.was told.1 in
    record { few = shells_few c.args.d.now S.faces c.nest.new.table nested; few_members = c.members-members.ensures.1 }

pub on_nested-requires : goal.on_nested-requires
on_nested-requires g c =
    let S = seen c.w.invariant (c.w.view_is ∙ c.walks-w.ensures) in
    let told = c.nest.ensures (boundaries_of c.args.d.now) (members_of c.args.d.now) c.requires.1 in
    (c.requires.0, rw (c.boundaries-boundaries.ensures.0 ∙ S.boundaries, c.members-members.ensures.0 ∙ S.members) (homes_low _ _ _ _ _ S.few_members (rw c.in_ok-nest.was at told.0)))

pub returns-then-is_asked : goal.returns-then-is_asked
unfolding after_shells
returns-then-is_asked g c =
    let S = seen c.w.invariant (c.w.view_is ∙ c.walks-w.ensures) in
    grind arith

pub returns-in_err-nest : goal.returns-in_err-nest
unfolding after_shells
returns-in_err-nest g c =
    let S = seen c.w.invariant (c.w.view_is ∙ c.walks-w.ensures) in
    let told = c.nest.ensures (boundaries_of c.args.d.now) (members_of c.args.d.now) c.requires.1 in
    grind arith

pub returns : goal.returns
unfolding after_shells
returns g c =
    let S = seen c.w.invariant (c.w.view_is ∙ c.walks-w.ensures) in
    let told = c.nest.ensures (boundaries_of c.args.d.now) (members_of c.args.d.now) c.requires.1 in
    grind arith
