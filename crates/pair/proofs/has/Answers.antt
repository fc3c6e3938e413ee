use Rattle.std.proofs.Common.{eqb, rules, tests}
use Rattle.std.proofs.lemmas.Iterator.Consumers.{YieldsList-from_first}
use Rattle.lists.specs.Lists as lists
use Rattle.lists.specs.Yielded.{some_yielded}
use Rattle.pair.proofs.has.Goals as goal

pub returns : goal.returns
unfolding lists.has lists.some
returns c =
    some_yielded (λ x. eqb c.args.h x) _ _ _ c.any.ensures.ran (YieldsList-from_first (λ x. x) (λ numbers. numbers) _ c.iter.ensures) (λ x b q k. search (rules, tests))
