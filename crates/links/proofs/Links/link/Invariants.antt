use Rattle.links.specs.Link.{Linking}
use Rattle.links.proofs.Links.link.Given as goal

abbrev pub invariant-loop-k : goal.invariant-loop-k
invariant-loop-k g l = Linking l.items l.stretches g.row.SLOTS g.row.CODES l.self l.k 0
