-- The numbers by which operations are packed.
use Rattle.std.specs.Prelude.{ℕ, cond, eqb, Option, Some, None}
use Rattle.rules.specs.declared.Stage.{Stage}
use Rattle.rules.specs.Operation.{stage_number, stage_of}
use Rattle.replay.specs.declared.Operation.{Operation}
use Rattle.replay.specs.declared.Operation.TheVariants.{Sewing, Single, LoopRequests, SewingInRoom, SewingWithTable, WalkWithTable, SewingForPrint, Unknown}

abbrev pub packed_number : Operation → ℕ
packed_number Sewing = 0
packed_number (Single stage) = stage_number stage
packed_number LoopRequests = 12
packed_number SewingInRoom = 13
packed_number SewingWithTable = 14
packed_number WalkWithTable = 15
packed_number SewingForPrint = 16
packed_number (Unknown n) = n

-- the operation of a number: a stage's by the stages' numbers; one that none has is unknown
abbrev pub packed_stage : ℕ → Option Stage → Operation
packed_stage n (Some stage) = Single stage
packed_stage n None = Unknown n

unfoldable pub packed_operation : ℕ → Operation
packed_operation n =
    cond (eqb n 0) Sewing
    (cond (eqb n 12) LoopRequests
    (cond (eqb n 13) SewingInRoom
    (cond (eqb n 14) SewingWithTable
    (cond (eqb n 15) WalkWithTable
    (cond (eqb n 16) SewingForPrint
    (packed_stage n (stage_of n)))))))
