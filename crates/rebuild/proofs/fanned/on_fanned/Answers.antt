use Rattle.std.proofs.Common.{arith}
use Rattle.result_out.specs.Rows.{fan_rows_lem}
use Rattle.progress.specs.Chain.{after_fans}
use Rattle.rebuild.proofs.fanned.on_fanned.Goals as goal

pub returns-then-is_asked : goal.returns-then-is_asked
unfolding after_fans
returns-then-is_asked g c =
    let rows = fan_rows_lem c.args.f.now.fan c.args.f.now.job.edges in
    grind arith
