use Rattle.rules.specs.Fields.{field_bytes}
use Rattle.rules.specs.Merge.{is_removed}
use Rattle.std.specs.Prelude.{not}
use Rattle.stages_out.specs.Rows.{walk_row}
use Rattle.stages_out.specs.Writing.{Rowed, row_or}
use Rattle.stages_out.proofs.put_walks.Given as goal

abbrev pub invariant-loop-h : goal.invariant-loop-h
invariant-loop-h l =
    Rowed (row_or (λ h. not (is_removed l.removed h)) (λ h. field_bytes (walk_row l.succ l.passed h))) 12 l.initial.out 0 l.out l.p l.h
