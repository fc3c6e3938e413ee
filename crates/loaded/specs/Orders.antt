-- The order round an edge, where it stands in the job's bytes.
use Rattle.std.specs.Prelude.{ℕ, List, drop}
use Rattle.rules.specs.Fields.{fields_in}
use Rattle.loaded.specs.declared.indexed.OrderAt.{OrderAt}

-- the uses of an order
abbrev pub order_in : List ℕ → OrderAt → List ℕ
order_in bytes o = fields_in o.count (drop o.from bytes)
