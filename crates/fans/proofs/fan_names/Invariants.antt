use Rattle.rules.specs.Fans.{names_fan}
use Rattle.fans.specs.Naming.{Naming}
use Rattle.fans.proofs.fan_names.Given as goal

abbrev pub invariant-loop-h : goal.invariant-loop-h
invariant-loop-h g l = Naming (names_fan l.own.job.now.edges l.own.uses.now l.own.removed.now l.fans) l.names.entries l.h
