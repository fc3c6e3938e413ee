-- A point beside a kept vertex loop.
use Rattle.std.specs.Prelude.{ℕ, List, Bool, false, cond, eqb}
use Rattle.rules.specs.declared.KeptVertexLoop.{KeptVertexLoop}
use Rattle.rules.specs.Outcome.{Outcome, Ok}
use Rattle.rules.specs.Job.{Answer}
use Rattle.rules.specs.Questions.{ask_same}

-- whether a point in a merged face is that of a kept vertex loop
abbrev pub held_against : List Answer → ℕ → ℕ → KeptVertexLoop → Outcome Bool
held_against answers face point k =
    let put = ask_same answers 9 point k.point in
    cond (eqb k.face face) put (Ok false)
