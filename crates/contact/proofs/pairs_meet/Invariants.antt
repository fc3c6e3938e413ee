use lib.ListN.{length}
use Rattle.contact.specs.StampLaws.{Meeting}
use mathlib.Core.Path.{◌≡◌}
use Rattle.contact.proofs.pairs_meet.Given as goal

abbrev pub invariant-loop-h : goal.invariant-loop-h
invariant-loop-h l =
    (length l.stamps ≡ length l.initial.stamps) × Meeting l.pairs.linked.now.uses l.pairs.twins.now l.pairs.labels.now l.stamps l.e l.h-iterator
