-- What demand 3 promises of the stages `walk` and `loops`.
use Rattle.std.specs.Prelude.{ℕ, ◌≡◌, List}
use Rattle.rules.specs.Outcome.{Ok}
use Rattle.rules.specs.Job.{Job}
use Rattle.rules.specs.Load.{loaded}
use Rattle.rules.specs.Rules.{ordinary}
use Rattle.rules.specs.Sew.{Walked}
use Rattle.theorems.specs.Demand3.{Settled, WalksHold}

-- what demand 3 promises of the walks of a job
abbrev pub Promised : List ℕ → Type 0
Promised bytes = (j : Job) (w : Walked) → loaded bytes ≡ Ok j → Settled ordinary j w → WalksHold w
