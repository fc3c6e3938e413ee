use lib.Seq.{sets}
use lib.ListN.{take}
use mathlib.Core.Path.{◌≡◌}
use Rattle.lines.proofs.put_text.Given as goal

abbrev pub invariant-loop-i : goal.invariant-loop-i
invariant-loop-i l = l.page ≡ sets l.initial.page l.at (take l.i l.text)
