use mathlib.Core.Path.{◌≡◌}
use lib.ListN.{length}
use Rattle.fields.specs.Tabled.{Tabled}
use Rattle.fields.proofs.put_fields.Given as goal

abbrev pub invariant-loop-field : goal.invariant-loop-field
invariant-loop-field g l = (length l.out ≡ length l.initial.out) × Tabled l.initial.out l.at l.fields l.out l.p l.field-index
