use Rattle.contact.specs.ClearLaws.{none_stop}
use Rattle.contact.specs.StampLaws.{stale_none}
use Rattle.std.proofs.Common.{arith, refl, sym, ◌∙◌}
use Rattle.contact.proofs.edges_clear.Goals as goal

pub loop-e-init : goal.loop-e-init
loop-e-init c = (refl, stale_none 256, λ j h. absurd (omega arith))

pub returns-then-edge_touches : goal.returns-then-edge_touches
returns-then-edge_touches c =
    rw (c.at.ensures, ← c.edges-e-end.ensures)
    (none_stop _ _ c.loop-e.invariant.2 _ _ c.loop-e-test.true (sym c.edge_touches.ensures.0 ∙ c.if-edge_touches.true))
