use Rattle.std.proofs.Common.{◌≡◌}
use Rattle.rules.specs.Pair.{take_predecessors, last_of}
use Rattle.pair.proofs.take_predecessors.Given as goal

abbrev pub invariant-loop-h : goal.invariant-loop-h
invariant-loop-h l =
    take_predecessors l.uses l.e (last_of 0 l.order) l.order l.initial.twins ≡ take_predecessors l.uses l.e l.p l.h-iterator l.twins
