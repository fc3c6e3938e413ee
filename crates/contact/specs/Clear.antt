-- Labels that the table of stamps has a place for.
use Rattle.std.specs.Prelude.{ℕ, ◌<◌, List}
use Rattle.rules.specs.Groups.{label_of}

-- each label, also past the end, is below 256
abbrev pub LowLabels : List ℕ → Type 0
LowLabels labels = (f : ℕ) → label_of labels f < 256
