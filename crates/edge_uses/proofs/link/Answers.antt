use Rattle.edge_uses.specs.LinkLaws.{linked_none, linked_step, linked_all}
use Rattle.std.proofs.Common.{rules, arith, refl, ◌∙◌, length-set}
use Rattle.edge_uses.proofs.link.Goals as goal

pub loop-h-init : goal.loop-h-init
loop-h-init c = search (rules, linked_none)

pub loop-h-preserved : goal.loop-h-preserved
loop-h-preserved c = (
  omega arith,
  length-set c.loop-h.nexts c.loop-h.h c.get.result ∙ c.loop-h.invariant.1,
  linked_step _ _ _ _ _ _ _ _ c.loop-h.invariant.2 (omega arith) (omega arith) c.use_edge-e.ensures.0 c.get.ensures.0 refl c.put.ensures,
)

pub new-requires : goal.new-requires
new-requires c = (linked_all _ _ _ _ c.loop-h.invariant.2 (omega arith) (omega arith), omega arith)
