use Rattle.std.proofs.Common.{arith}
use Rattle.std.proofs.lemmas.Grind.{common_steps}
use Rattle.std.proofs.lemmas.List.Edits.{map_over_more}
use Rattle.edges.specs.Table.{item_code}
use Rattle.edges.proofs.items.Goals as goal

pub loop-way-preserved : goal.loop-way-preserved
loop-way-preserved c =
    grind (arith, common_steps, map_over_more (item_code c.args.uses.now c.args.owns.now), c.item_of.ensures.0)
