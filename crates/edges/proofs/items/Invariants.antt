use Rattle.std.specs.Prelude.{◌≡◌, ◌++◌, map, take, drop}
use Rattle.edges.specs.Table.{item_code}
use Rattle.edges.proofs.items.Given as goal

abbrev pub invariant-loop-way : goal.invariant-loop-way
invariant-loop-way l =
    l.ways ≡ map (item_code l.uses l.owns) (take l.way-index l.initial.ways) ++ drop l.way-index l.initial.ways
