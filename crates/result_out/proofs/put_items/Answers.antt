use Rattle.std.proofs.Common.{arith, sym}
use Rattle.lists.specs.Rows.{flat_map_map}
use Rattle.rules.specs.Body.{item_fields}
use Rattle.edges.specs.Table.{item_in}
use Rattle.stages_out.specs.Writing.{rowed_start, rowed_step, fields_members, wrote_same}
use Rattle.result_out.proofs.put_items.Goals as goal

pub loop-x-init : goal.loop-x-init
loop-x-init c = rowed_start

pub loop-x-preserved : goal.loop-x-preserved
loop-x-preserved c = rowed_step c.loop-x.invariant (rw (c.from.ensures.0, c.item_in-item.ensures) at c.put_fields-p.ensures.0) (omega arith)

pub returns : goal.returns
returns c = (
  wrote_same _ _ _ _ _ _ (sym (flat_map_map item_fields item_in c.args.part.now)) (fields_members (λ x. item_fields (item_in x)) _ 0 c.loop-x.invariant (omega arith)),
  omega (arith, c.loop-x.invariant.small),
)
