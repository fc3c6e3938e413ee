use Rattle.std.proofs.Common.{arith, ap, ◌∙◌, length}
use Rattle.progress.specs.KnownLaws.{seen}
use Rattle.progress.proofs.settled.Walks.uses.Goals as goal

pub returns : goal.returns
returns c =
    let S = seen c.self.invariant c.self.view_is in
    (c.uses.ensures ∙ S.uses, omega (arith, ap length (c.uses.ensures ∙ S.uses), S.ground.few))
