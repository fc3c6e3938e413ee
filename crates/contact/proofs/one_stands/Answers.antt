use Rattle.std.proofs.Common.{get_or, rules, tests}
use Rattle.std.proofs.lemmas.Iterator.Consumers.{YieldsList-from_first}
use Rattle.lists.specs.Yielded.{some_yielded}
use Rattle.contact.specs.Buckets.{stands_with}
use Rattle.contact.proofs.one_stands.Goals as goal

pub returns : goal.returns
returns g c =
    let f = c.args.fans.now in
    rw (← c.get-entry.ensures.0)
    (some_yielded (λ k. stands_with f.uses.now f.starts.now f.labels.now c.args.p c.args.l (get_or f.names.now k 0)) _ _ _ c.any.ensures.ran
    (YieldsList-from_first (λ h. h) (λ hs. hs) _ c.new.ensures) (λ x b q k. search (rules, tests)))
