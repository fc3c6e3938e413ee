use Rattle.std.proofs.Common.{arith, sym, ◌∙◌, ext_get_or}
use Rattle.std.proofs.lemmas.List.{length-map, get_or-map}
use Rattle.rules.specs.Job.{point_at}
use Rattle.rules.specs.Read.{no_use, use_start}
use Rattle.rules.specs.Fans.{start_points}
use Rattle.fans.proofs.start_points.Goals as goal

pub returns : goal.returns
unfolding start_points
returns c =
    let job = c.args.job.now in
    let uses = c.args.uses.now in
    ext_get_or 0 c.loop-h.starts _ (omega (arith, length-map uses (λ u. point_at job.points (use_start job.edges u))))
    (λ i h. c.loop-h.invariant i (omega arith) ∙ sym (get_or-map _ uses i no_use 0 (omega arith)))
