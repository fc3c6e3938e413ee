use lib.ListN.{length}
use Rattle.rules.specs.Contact.{edge_touches}
use Rattle.contact.specs.Stamps.{Stale}
use Rattle.contact.specs.ClearLaws.{NoneBelow}
use mathlib.Core.Path.{◌≡◌}
use Rattle.contact.proofs.edges_clear.Given as goal

abbrev pub invariant-loop-e : goal.invariant-loop-e
invariant-loop-e l =
    (length l.stamps ≡ 256) × Stale l.stamps l.e × NoneBelow
    (edge_touches l.pairs.linked.now.uses l.pairs.twins.now l.pairs.labels.now) l.e
