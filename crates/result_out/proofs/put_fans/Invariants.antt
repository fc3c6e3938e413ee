use Rattle.rules.specs.Fields.{field_bytes}
use Rattle.rules.specs.Fans.{kept_with_ends}
use Rattle.stages_out.specs.Writing.{Rowed, row_or}
use Rattle.result_out.specs.Rows.{fan_row}
use Rattle.result_out.proofs.put_fans.Given as goal

abbrev pub invariant-loop-h : goal.invariant-loop-h
invariant-loop-h l =
    Rowed (row_or (kept_with_ends l.own.job.now.edges l.own.uses.now l.own.removed.now) (λ h. field_bytes (fan_row l.fans l.starts h))) 12 l.initial.out 0 l.out l.p l.h
