-- A table that is filled from its start on, as contracts see it.
use Rattle.std.specs.Prelude.{List}

-- `entries` are those filled, and `rest` is what stands in the places left
pub record FilledTable (T : Type 0) : Type 0 where
  pub entries : List T
  pub rest : List T
