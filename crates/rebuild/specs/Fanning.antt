-- What is known from the fans on: a loaded job with its fans, and with the edges and loops over them, by the rules that sewing runs by.
use Rattle.rules.specs.declared.Rules.{Rules}
use Rattle.rules.specs.Job.{Job}
use Rattle.rules.specs.Sew.{Fanned, Joined}

-- a job with its fans
pub record Fanning : Type 0 where
  pub rules : Rules
  pub job : Job
  pub fan : Fanned

-- a job with the edges and loops over its fans
pub record Drawing : Type 0 where
  pub rules : Rules
  pub job : Job
  pub joined : Joined
