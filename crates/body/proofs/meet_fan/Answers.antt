use Rattle.std.proofs.Common.{arith, sym, ◌∙◌}
use Rattle.body.specs.Vertices.{fan_none, fan_old, fan_new}
use Rattle.body.proofs.meet_fan.Goals as goal

pub returns-then-v : goal.returns-then-v
returns-then-v c = (omega arith, λ before met ok' M. fan_none _ c.if-v.true M)

pub returns-then-get-ne0 : goal.returns-then-get-ne0
returns-then-get-ne0 c = (omega arith, λ before met ok' M. fan_old _ (λ z. c.if-get-ne0.true (c.get.ensures.0 ∙ z)) M)

pub returns : goal.returns
returns c = (
  omega arith,
  λ before met ok' M. rw c.put.ensures
      (fan_new _ _ _ c.if-v.false ok' (sym c.get.ensures.0 ∙ c.if-get-ne0.false) (rw c.get-2.ensures.0 at c.put_record.ensures.0) M),
)
