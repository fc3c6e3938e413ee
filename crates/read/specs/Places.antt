-- The places of a loop's items.
use Rattle.std.specs.Prelude.{ℕ, suc, ◌-◌}
use Rattle.rules.specs.declared.Sense.{Sense}
use Rattle.rules.specs.declared.Sense.TheVariants.{Same, Reversed}

-- which item, of n, stands at place i of a loop as its face is selected
abbrev pub place_of : Sense → ℕ → ℕ → ℕ
place_of Same n i = i
place_of Reversed n i = n - suc i
