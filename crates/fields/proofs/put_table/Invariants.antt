use mathlib.Core.Path.{◌≡◌}
use lib.ListN.{length}
use Rattle.fields.specs.Tabled.{Tabled}
use Rattle.fields.proofs.put_table.Given as goal

abbrev pub invariant-loop-x : goal.invariant-loop-x
invariant-loop-x l = (length l.out ≡ length l.initial.out) × Tabled l.initial.out l.at l.t l.out l.p l.x-index
