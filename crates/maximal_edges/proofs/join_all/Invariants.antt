use Rattle.maximal_edges.specs.RunLaws.{Going}
use Rattle.rules.specs.Join.{two_ends}
use Rattle.lists.specs.Lists.{keep}
use lib.ListN.{length, take}
use Rattle.maximal_edges.proofs.join_all.Given as goal

abbrev pub invariant-loop-change : goal.invariant-loop-change
invariant-loop-change g l =
    Going l.run.job.now.answers l.run.points.now l.run.names.now l.initial.rows l.count l.items l.initial.stretches l.rows l.made.edges l.links l.corners l.made.joins
    l.made.rings l.from

abbrev pub decreases-loop-change : goal.decreases-loop-change
decreases-loop-change g l = length (keep (two_ends (take l.made.edges l.rows)) l.run.names.now)
