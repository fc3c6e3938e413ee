use Rattle.maximal_edges.specs.RunLaws.{going_start, ring_inside, ring_less, going_ring, join_inside, join_less, going_join, ran_done, ran_refused}
use Rattle.rules.specs.Outcome.{Ok}
use Rattle.std.proofs.Common.{Some, arith, rules, ap, ◌∙◌}
use Rattle.maximal_edges.proofs.join_all.Goals as goal

pub loop-change-init : goal.loop-change-init
loop-change-init g c =
    let run = c.args.run.now in
    let pre = c.requires in
    going_start run.job.now.answers run.points.now c.default-from.result c.default-from.ensures run.nodup (λ v m. omega (arith, run.inside v m))
    pre.room pre.count_few pre.laid pre.hung pre.linked pre.own pre.tabled

pub returns-in_err-change : goal.returns-in_err-change
returns-in_err-change g c =
    ran_refused c.loop-change.invariant c.sweep.ensures c.args.items.now c.args.stretches.now c.from_residual.result
    c.in_err-change.was c.from_residual.ensures.1

pub ring_at-requires : goal.ring_at-requires
ring_at-requires g c =
    let found = c.in_ok-change.was ∙ ap Ok (c.in-Some.is ∙ ap Some c.in-Ring.is) in
    (omega (arith, c.loop-change.invariant.size), ring_inside c.loop-change.invariant c.sweep.ensures found)

pub loop-change-smaller-in-Ring : goal.loop-change-smaller-in-Ring
loop-change-smaller-in-Ring g c =
    let found = c.in_ok-change.was ∙ ap Ok (c.in-Some.is ∙ ap Some c.in-Ring.is) in
    ring_less c.loop-change.invariant c.sweep.ensures found c.ring_at.new.rows c.ring_at.ensures.0

pub loop-change-preserved-in-Ring : goal.loop-change-preserved-in-Ring
loop-change-preserved-in-Ring g c =
    let found = c.in_ok-change.was ∙ ap Ok (c.in-Some.is ∙ ap Some c.in-Ring.is) in
    let ring = c.ring_at in
    going_ring c.loop-change.invariant c.sweep.ensures found ring.new.rows ring.ensures.0 c.rank.new.ranks c.rank.ensures ring.auto.rows ring.ensures.1
    c.after_ring-from.ensures

pub join_at-e-requires : goal.join_at-e-requires
join_at-e-requires g c =
    let found = c.in_ok-change.was ∙ ap Ok (c.in-Some.is ∙ ap Some c.in-Join.is) in
    let w = join_inside c.loop-change.invariant c.sweep.ensures found in
    (search rules, (w.0, (omega (arith, w.1), (w.2, (w.3, w.4)))))

pub loop-change-smaller : goal.loop-change-smaller
loop-change-smaller g c =
    let found = c.in_ok-change.was ∙ ap Ok (c.in-Some.is ∙ ap Some c.in-Join.is) in
    join_less c.loop-change.invariant c.sweep.ensures found c.join_at-e.ensures

pub loop-change-preserved : goal.loop-change-preserved
loop-change-preserved g c =
    let found = c.in_ok-change.was ∙ ap Ok (c.in-Some.is ∙ ap Some c.in-Join.is) in
    going_join c.loop-change.invariant c.sweep.ensures found c.join_at-e.ensures c.rank.new.ranks c.rank.ensures c.join_at-e.auto.rows
    c.after_join-from.ensures

pub returns : goal.returns
returns g c =
    ran_done c.loop-change.invariant c.sweep.ensures c.lay_loops.ensures (c.copy_from_slice.ensures.after ∙ c.stretches.ensures)
    (c.in_ok-change.was ∙ ap Ok c.in_default.is)
