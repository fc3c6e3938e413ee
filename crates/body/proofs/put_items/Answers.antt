use Rattle.std.proofs.Common.{arith, rules}
use Rattle.rules.specs.Body.{item_fields}
use Rattle.edges.specs.Table.{item_in}
use Rattle.stages_out.specs.Writing.{rowed_start, fields_step, fields_members, wrote_same}
use Rattle.body.specs.Numbers.{number_in, renumbered_by}
use Rattle.body.specs.FaceLaws.{items_are}
use Rattle.body.proofs.put_items.Goals as goal

pub loop-x-init : goal.loop-x-init
loop-x-init c = rowed_start

pub loop-x-preserved : goal.loop-x-preserved
loop-x-preserved c = fields_step _ c.loop-x.invariant (rw (c.of-e.ensures, c.from.ensures.0, c.item_in-item.ensures) at c.put_fields-p.ensures.0) (search rules)

pub returns : goal.returns
returns c =
    let all = fields_members (λ x. item_fields (renumbered_by (number_in c.args.numbers.now) (item_in x))) _ 0 c.loop-x.invariant (omega arith) in
    (wrote_same _ _ _ _ _ _ (items_are _ _) all, omega arith)
