use Rattle.std.proofs.Common.{◌≡◌, length, take}
use Rattle.edge_uses.specs.Links.{Linked}
use Rattle.edge_uses.proofs.link.Given as goal

abbrev pub invariant-loop-h : goal.invariant-loop-h
invariant-loop-h l =
    (length l.firsts ≡ length l.initial.firsts) × (length l.nexts ≡ length l.initial.nexts)
    × Linked (take l.h l.uses) l.firsts (take l.h l.nexts)
