use Rattle.std.proofs.Common.{arith, rules, ◌<◌}
use Rattle.rules.specs.Contact.{edge_touches}
use Rattle.contact.proofs.edge_touches.Goals as goal

-- the search finds this alone; with `more`, a wrong test fails at that line and not at a limit of the search
pub returns : goal.returns
unfolding edge_touches
returns c =
    let more : 2 < c.count-n.result = omega arith in
    search rules
