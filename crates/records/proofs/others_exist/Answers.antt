use Rattle.std.proofs.Common.{ap, ◌∙◌, drop, rules, tests}
use Rattle.std.proofs.lemmas.Iterator.Consumers.{YieldsList-from_first}
use Rattle.lists.specs.Yielded.{all_yielded}
use Rattle.rules.specs.Kinds.{exists}
use Rattle.records.specs.Payloads.{rest_left}
use Rattle.records.proofs.others_exist.Goals as goal

pub returns : goal.returns
returns c =
    let others = rest_left _ _ _ c.next.ensures.steps ∙ ap (drop 1) c.iter-others.ensures in
    all_yielded (exists c.args.count) _ _ _ c.all.ensures.ran (YieldsList-from_first (λ x. x) (λ l. l) _ others) (λ x b q k. search (rules, tests))
