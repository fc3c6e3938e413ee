use Rattle.std.proofs.Common.{rules, ◌∙◌}
use Rattle.pair.specs.EdgeLaws.{pair_other}
use Rattle.pair.proofs.pair_edge.Goals.{in_default-via-in-Some+in_default, in_default-via-in_default}
use Rattle.pair.proofs.pair_edge.Goals as goal

pub returns-in_default : goal.returns-in_default
returns-in_default c =
    c.pair_more.ensures
    ∙ elim c.in_default.branch [ in_default-via-in-Some+in_default w ↦ search (rules, pair_other) | in_default-via-in_default w ↦ search (rules, pair_other) ]
