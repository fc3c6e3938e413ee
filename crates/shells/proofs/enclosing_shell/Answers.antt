use Rattle.shells.specs.NestLaws.{enclosing_outer, enclosing_void, enclosing_end}
use Rattle.rules.proofs.OutcomeLaws.{hands_on, bind_on, bind_stop}
use Rattle.std.proofs.Common.{sym, ◌∙◌}
use Rattle.shells.proofs.enclosing_shell.Goals as goal
use Rattle.shells.proofs.enclosing_shell.Goals.{then-s+in_ok-taken, else-s}

pub returns-in_err-taken : goal.returns-in_err-taken
returns-in_err-taken c =
    rw (hands_on c.from_residual.result c.from_residual.ensures.1)
    (sym (enclosing_outer _ _ _ _ _ c.loop-s.invariant c.loop-s-test.true c.if-s.true ∙ bind_stop _ (sym c.in_err-taken.ensures)))

pub loop-s-preserved : goal.loop-s-preserved
loop-s-preserved c =
    elim c.if-s.branch [
      | then-s+in_ok-taken w ↦
          rw w.taken-is (enclosing_outer _ _ _ _ _ c.loop-s.invariant c.loop-s-test.true w.if-s.true ∙ bind_on _ (sym w.in_ok-taken.ensures))
      | else-s w ↦ rw w.taken-is (enclosing_void _ _ _ _ _ c.loop-s.invariant c.loop-s-test.true w.if-s.false)
    ]

pub returns : goal.returns
returns c = enclosing_end _ _ _ _ _ c.loop-s.invariant c.loop-s-test.false
