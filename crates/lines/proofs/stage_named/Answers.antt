use Rattle.std.proofs.Common.{rules, tests}
use Rattle.std.proofs.lemmas.Iterator.{YieldsList-from_slice}
use Rattle.std.proofs.lemmas.Iterator.Consumers.{YieldsList-from_copied}
use Rattle.std.proofs.lemmas.Iterator.Search.{find_from_yields_List}
use Rattle.lists.specs.Lists.{same}
use Rattle.rules.specs.Operation.{all_stages}
use Rattle.lines.specs.Text.{stage_name, stage_named}
use Rattle.lists.specs.SameLists.{pointwise_same}
use Rattle.lines.proofs.stage_named.Goals as goal

pub returns : goal.returns
unfolding stage_named
returns c =
    let found = find_from_yields_List (λ s. same c.args.name.now (stage_name s)) _ _ c.find.result c.find.ensures.ran
    (YieldsList-from_copied (YieldsList-from_slice all_stages cc)) (λ x b q k. search (rules, tests, pointwise_same)) in
    search rules
