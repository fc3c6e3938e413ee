use Rattle.std.proofs.Common.{arith, sym, ◌∙◌}
use Rattle.rules.specs.Outcome.{need}
use Rattle.std.specs.Prelude.{◌/◌}
use Rattle.rules.proofs.FieldLaws.{length_fields}
use Rattle.records.specs.Limits.{whole_fields}
use Rattle.load.specs.Judged.{judged}
use Rattle.load.specs.SourcesKept.{face_room}
use Rattle.load.proofs.judge.Goals as goal

pub returns-then-is_misplaced : goal.returns-then-is_misplaced
unfolding need
returns-then-is_misplaced c = grind (arith, judged c.requires.0)

pub returns-then-limit_passed : goal.returns-then-limit_passed
unfolding need
returns-then-limit_passed c = grind (arith, judged c.requires.0)

pub new-payload-requires : goal.new-payload-requires
new-payload-requires c = omega (arith, c.requires.0.small, c.requires.0.low)

pub fields_permitted-requires : goal.fields_permitted-requires
fields_permitted-requires c = grind (arith, whole_fields c.args.header.kind c.args.header.size, length_fields)

pub is_selected-requires-clause-room : goal.is_selected-requires-clause-room
is_selected-requires-clause-room c =
    face_room c.args.header.kind c.args.raw.now.counts (c.args.header.size / 4) (sym c.limit_passed.ensures ∙ c.if-limit_passed.false)

pub returns-then-not-fields_permitted : goal.returns-then-not-fields_permitted
unfolding need
returns-then-not-fields_permitted c = grind (arith, judged c.requires.0)

pub returns-then-is_selected : goal.returns-then-is_selected
unfolding need
returns-then-is_selected c = grind (arith, judged c.requires.0)

pub returns-then-not-right_joints : goal.returns-then-not-right_joints
unfolding need
returns-then-not-right_joints c = grind (arith, judged c.requires.0)

pub returns-then-is_answered : goal.returns-then-is_answered
unfolding need
returns-then-is_answered c = grind (arith, judged c.requires.0)

pub returns : goal.returns
unfolding need
returns c = grind (arith, judged c.requires.0)
