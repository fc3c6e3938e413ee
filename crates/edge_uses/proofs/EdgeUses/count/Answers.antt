use Rattle.std.proofs.Common.{◌∙◌}
use Rattle.std.proofs.lemmas.Iterator.Consumers.{YieldsList-from_first, count_from_yields_List}
use Rattle.std.proofs.lemmas.List.{length-reverse}
use Rattle.edge_uses.proofs.EdgeUses.count.Goals as goal

pub returns-clause-edge : goal.returns-clause-edge
returns-clause-edge c within =
    count_from_yields_List _ _ c.count.ensures.ran (YieldsList-from_first (λ h. h) (λ hs. hs) _ c.of.ensures.0)
    ∙ length-reverse _
