use Rattle.std.specs.Prelude.{◌≡◌, ◌-◌, length}
use Rattle.std.proofs.lemmas.List.Edits.{sets}
use Rattle.links.specs.Tables.{follow, codes_at}
use Rattle.links.proofs.lay_loop.Given as goal

-- what is left to store now gives what all of it gave at first
abbrev pub invariant-loop-x : goal.invariant-loop-x
invariant-loop-x l =
    sets l.part l.x-index (codes_at l.list (follow l.nexts l.p (length l.initial.part - l.x-index)))
    ≡ sets l.initial.part 0 (codes_at l.list (follow l.nexts l.head (length l.initial.part - 0)))
