use Rattle.std.proofs.Common.{arith}
use Rattle.std.proofs.lemmas.Iterator.Consumers.{count_from_yields_List, YieldsList-from_first}
use Rattle.members.proofs.Members.count.Goals as goal

pub returns : goal.returns
returns c =
    let counted = count_from_yields_List _ _ c.count.ensures.ran (YieldsList-from_first (λ x. x) (λ numbers. numbers) _ c.of.ensures.0) in
    (counted, omega (arith, counted, c.of.ensures.1))
