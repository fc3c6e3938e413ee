use Rattle.std.proofs.Common.{◌≡◌, arith, sym, ap, ◌∙◌}
use Rattle.rules.specs.Outcome.{Err}
use Rattle.rules.specs.Load.{no_counts}
use Rattle.rules.proofs.OutcomeLaws.{bind_stop, hands_on}
use Rattle.load.specs.Follows.{load_long, load_empty, going_start, follows_start, follows_on, follows_refused, follows_done}
use Rattle.load.proofs.load_in.Goals as goal

pub returns-then-job-gt-MOST_BYTES-clause-loads : goal.returns-then-job-gt-MOST_BYTES-clause-loads
returns-then-job-gt-MOST_BYTES-clause-loads c = ap Err c.at.ensures ∙ sym (load_long c.args.job.now c.if-job-gt-MOST_BYTES.true)

pub returns-then-is_empty-clause-loads : goal.returns-then-is_empty-clause-loads
returns-then-is_empty-clause-loads c = ap Err c.at-then-is_empty.ensures ∙ sym (load_empty c.args.job.now (grind arith))

pub loop-at-init : goal.loop-at-init
loop-at-init c =
    let n = c.default-c.ensures in
    let nothing : c.default-c.result ≡ no_counts =
    λ i. record { part = n.0 i; vertices = n.1.0 i; edges = n.1.1.0 i; faces = n.1.1.1.0 i; loops = n.1.1.1.1.0 i; uses = n.1.1.1.1.1.0 i; answers = n.1.1.1.1.1.1 i } in (
      going_start c.args.job.now c.args.index.now _ c.default-c.result c.requires c.new-sources.ensures nothing c.if-job-gt-MOST_BYTES.false,
      follows_start c.args.job.now c.args.index.now c.default-c.result nothing c.if-job-gt-MOST_BYTES.false (grind arith),
    )

pub returns-in_err-c-clause-loads : goal.returns-in_err-c-clause-loads
returns-in_err-c-clause-loads c =
    let stops = follows_refused _ _ _ _ c.loop-at.invariant.1 _ c.loop-at-test.true (sym c.step.ensures.loads ∙ bind_stop _ c.in_err-c.was) in
    rw (hands_on _ c.from_residual.ensures.1) (sym stops)

pub loop-at-preserved : goal.loop-at-preserved
loop-at-preserved c =
    let on = c.in_ok-c.ensures.goes_on in
    (on.going, follows_on _ _ _ _ c.loop-at.invariant.1 _ _ _ c.loop-at-test.true (sym c.in_ok-c.ensures.loads) on.begins)

pub returns-clause-loads : goal.returns-clause-loads
returns-clause-loads c = sym (follows_done _ _ _ _ c.loop-at.invariant.1 c.loop-at-test.false)
