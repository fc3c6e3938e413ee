use Rattle.std.proofs.Common.{arith, sym, ap, ◌∙◌}
use Rattle.rules.specs.Outcome.{Err}
use Rattle.rules.proofs.OutcomeLaws.{bind_on, bind_stop, hands_on}
use Rattle.rules.specs.Kinds.{kind_of}
use Rattle.load.specs.Going.{step_cut, frame_here, step_taken, step_on, faces_some, faces_room, answers_room}
use Rattle.load.proofs.step.Goals as goal

pub returns-then-not-is_whole-clause-loads : goal.returns-then-not-is_whole-clause-loads
returns-then-not-is_whole-clause-loads c = ap Err c.at.ensures ∙ sym (step_cut _ _ _ _ (sym c.is_whole.ensures ∙ c.if-not-is_whole.true))

pub returns-in_err-judge-clause-loads : goal.returns-in_err-judge-clause-loads
returns-in_err-judge-clause-loads c =
    let here = frame_here c.args.job.now c.args.index.now c.args.c c.args.at (sym c.is_whole.ensures ∙ c.if-not-is_whole.false) in
    rw (hands_on _ c.from_residual.ensures.1) (sym (bind_stop _ c.in_err-judge.was) ∙ c.judge.ensures ∙ sym here)

pub keep-requires : goal.keep-requires
keep-requires c =
    let kind = c.from-kind.ensures ∙ ap kind_of c.half.ensures.0 in
    let taken = sym c.judge.ensures ∙ bind_on _ c.in_ok-judge.was in
    record {
      limited = (c.requires.0.limited, omega (arith, c.requires.0.small, c.requires.1));
      for_face = faces_room c.requires.0 kind c.word-size.ensures.0 taken;
      for_loop = faces_some c.requires.0 kind c.word-size.ensures.0 taken;
      for_answer = answers_room c.requires.0 kind c.word-size.ensures.0 taken;
    }

pub returns : goal.returns
returns c =
    let kind = c.from-kind.ensures ∙ ap kind_of c.half.ensures.0 in
    let taken = sym c.judge.ensures ∙ bind_on _ c.in_ok-judge.was in
    let whole = sym c.is_whole.ensures ∙ c.if-not-is_whole.false in
    rw (c.keep.ensures.places, c.keep.ensures.numbers, c.count_record-after.ensures) (record {
      loads = step_taken c.requires.0 kind c.word-size.ensures.0 taken whole;
      goes_on = step_on c.requires.0 kind c.word-size.ensures.0 taken whole;
    })
