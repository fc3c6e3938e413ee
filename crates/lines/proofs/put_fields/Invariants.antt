use Rattle.rules.specs.Fields.{fields_in}
use Rattle.fields.specs.Wrote.{Wrote}
use Rattle.lines.specs.Text.{parted_text}
use Rattle.lines.proofs.put_fields.Given as goal

abbrev pub invariant-loop-i : goal.invariant-loop-i
invariant-loop-i l = Wrote l.initial.page l.at (parted_text l.plain (fields_in l.i l.bytes)) l.page l.p
