use Rattle.rules.specs.Edges.{edge_data}
use Rattle.edges.specs.Made.{SoFar}
use Rattle.edges.proofs.edges.Given as goal

abbrev pub invariant-loop-h : goal.invariant-loop-h
invariant-loop-h l =
    SoFar l.s.twins.now l.s.removed.now
    (edge_data l.s.job.now.edges l.s.uses.now l.s.twins.now l.s.numbers.now l.s.succ.now l.s.fans.now) l.initial.owns l.rows l.owns l.count l.h
