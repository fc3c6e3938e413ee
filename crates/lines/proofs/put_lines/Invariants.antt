use Rattle.rules.specs.Listing.{line_of}
use Rattle.lines.specs.Cut.{Going}
use Rattle.lines.specs.Text.{record_at, record_size}
use lib.ListN.{length}
use Rattle.lines.proofs.put_lines.Given as goal

abbrev pub invariant-loop-rest : goal.invariant-loop-rest
invariant-loop-rest l = Going record_at record_size line_of l.initial.page 0 l.body l.rest l.page l.p

abbrev pub decreases-loop-rest : goal.decreases-loop-rest
decreases-loop-rest l = length l.rest
