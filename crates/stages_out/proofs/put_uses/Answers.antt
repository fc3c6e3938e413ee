use Rattle.stages_out.specs.Writing.{rowed_start, fields_step, fields_members}
use Rattle.rules.specs.Read.{no_use}
use Rattle.rules.specs.Stage.{use_fields}
use Rattle.std.proofs.Common.{rules, arith}
use Rattle.stages_out.proofs.put_uses.Goals as goal

pub loop-u-init : goal.loop-u-init
loop-u-init c = rowed_start

pub loop-u-preserved : goal.loop-u-preserved
loop-u-preserved c = fields_step _ c.loop-u.invariant c.put_use-p.ensures (search rules)

pub returns : goal.returns
returns c = fields_members use_fields _ no_use c.loop-u.invariant (omega arith)
