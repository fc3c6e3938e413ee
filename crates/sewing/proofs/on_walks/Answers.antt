use Rattle.std.proofs.Common.{arith, ◌∙◌}
use Rattle.rules.specs.Walk.{loops_of}
use Rattle.stages_out.specs.Rows.{round_rows_lem}
use Rattle.progress.specs.Chain.{after_walks}
use Rattle.progress.specs.KnownLaws.{seen}
use Rattle.sewing.proofs.on_walks.Goals as goal

pub returns-then-is_asked : goal.returns-then-is_asked
unfolding after_walks
returns-then-is_asked c =
    let S = seen c.w.invariant c.w.view_is in
    let numbers = c.numbers.ensures.0 ∙ S.numbers in
    let rows = round_rows_lem c.args.w.now.walked (loops_of c.args.w.now.walked.circuits) in
    grind arith
