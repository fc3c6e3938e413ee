use Rattle.maximal_edges.specs.StillLaws.{ranked_more}
use Rattle.lists.specs.Membership.{get_or_in}
use Rattle.lists.specs.Runs.{pigeon_below}
use native.Mathlib.Omega.{arith}
use mathlib.Core.Path.{refl}
use Rattle.maximal_edges.proofs.rank.Goals as goal

pub put-requires : goal.put-requires
put-requires g c =
    let run = c.args.run.now in
    omega (arith, pigeon_below 2048 run.names.now run.nodup (λ v m. omega (arith, run.inside v m, c.requires)))

pub loop-i-preserved : goal.loop-i-preserved
loop-i-preserved g c =
    let l = c.loop-i in
    let run = c.args.run.now in
    ranked_more run.names.now l.ranks run.nodup c.loop-i-test.true refl
    (omega (arith, run.inside _ (get_or_in run.names.now l.i 0 c.loop-i-test.true))) c.put.ensures l.invariant
