use Rattle.std.proofs.Common.{arith, sym, ap, ◌∙◌}
use Rattle.rules.specs.Outcome.{Err}
use Rattle.rules.proofs.OutcomeLaws.{bind_stop, hands_on}
use Rattle.load.specs.Stretches.{request_refused, request_high, request_low, request_at, request_within}
use Rattle.load.proofs.loop_stretch.Goals as goal

pub returns-in_err-c-clause-finds : goal.returns-in_err-c-clause-finds
returns-in_err-c-clause-finds c =
    let stops = request_refused c.args.job.now c.args.n _ (sym c.load_in.ensures.loads ∙ bind_stop _ c.in_err-c.was) in
    rw (hands_on _ c.from_residual.ensures.1) (sym stops)

pub returns-then-c-n-clause-finds : goal.returns-then-c-n-clause-finds
returns-then-c-n-clause-finds c = ap Err c.at.ensures ∙ sym (request_high _ _ _ c.args.n (sym c.in_ok-c.ensures.loads) c.if-c-n.true)

pub loop_start-start-requires : goal.loop_start-start-requires
loop_start-start-requires c = request_low _ _ _ c.args.n (sym c.in_ok-c.ensures.loads) c.if-c-n.false

pub loop_size-requires : goal.loop_size-requires
loop_size-requires c = request_low _ _ _ c.args.n (sym c.in_ok-c.ensures.loads) c.if-c-n.false

pub returns : goal.returns
returns c =
    let is = request_at _ _ _ c.args.n (sym c.in_ok-c.ensures.loads) c.if-c-n.false in
    let within = request_within _ _ _ c.args.n (sym c.in_ok-c.ensures.loads) c.if-c-n.false in
    record { finds = grind (arith, is); within = (omega arith, omega arith) }
