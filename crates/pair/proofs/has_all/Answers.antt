use Rattle.std.proofs.Common.{◌∙◌, rules, tests}
use Rattle.std.proofs.lemmas.Iterator.Consumers.{YieldsList-from_first}
use Rattle.lists.specs.Lists.{has}
use Rattle.lists.specs.ListEnds.{all_reverse}
use Rattle.lists.specs.Yielded.{all_yielded}
use Rattle.pair.proofs.has_all.Goals as goal

pub returns : goal.returns
returns c =
    let order = c.args.order.now in
    all_yielded (λ h. has h order) _ _ _ c.all.ensures.ran (YieldsList-from_first (λ h. h) (λ hs. hs) _ c.of.ensures.0) (λ x b q k. search (rules, tests))
    ∙ all_reverse _ _
