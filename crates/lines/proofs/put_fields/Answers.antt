use Rattle.std.proofs.Common.{rules}
use Rattle.lines.specs.Writing.{plain_wrote, vertex_wrote}
use Rattle.lines.proofs.put_fields.Goals as goal
use Rattle.lines.proofs.put_fields.Goals.{then-i-plain, else-i-plain}

pub loop-i-preserved : goal.loop-i-preserved
loop-i-preserved c =
    elim c.if-i-plain.branch [
      | then-i-plain w ↦ search (rules, plain_wrote)
      | else-i-plain w ↦ search (rules, vertex_wrote)
    ]
