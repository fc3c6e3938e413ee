use Rattle.std.proofs.Common.{◌∙◌, refl, arith, rules, tests, length, ◌/◌}
use Rattle.std.proofs.lemmas.Iterator.{YieldsList-from_range}
use Rattle.lists.specs.Yielded.{all_yielded, yields_below}
use Rattle.records.specs.Payloads.{item_permitted, permit_all}
use Rattle.records.proofs.items_permitted.Goals as goal

pub returns : goal.returns
returns c =
    let a = c.args in
    all_yielded (item_permitted a.edges a.payload.now) _ _ _ c.all.ensures.ran
    (yields_below (length a.payload.now / 2) (YieldsList-from_range 0 _ _ refl (omega arith))) (λ x b q k. search (rules, tests))
    ∙ permit_all a.edges a.payload.now c.requires
