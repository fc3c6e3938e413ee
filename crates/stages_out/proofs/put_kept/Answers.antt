use Rattle.stages_out.specs.Writing.{rowed_start, fields_step, fields_members}
use Rattle.rules.specs.Stage.{kept_fields}
use Rattle.std.proofs.Common.{rules, arith}
use Rattle.stages_out.proofs.put_kept.Goals as goal

pub loop-k-init : goal.loop-k-init
loop-k-init c = rowed_start

pub loop-k-preserved : goal.loop-k-preserved
loop-k-preserved c = fields_step _ c.loop-k.invariant c.put_fields-p.ensures.0 (search rules)

pub returns : goal.returns
returns c = fields_members kept_fields _ (record { face = 0; point = 0 }) c.loop-k.invariant (omega arith)
