use Rattle.rules.proofs.SenseLaws.{answers_told}
use Rattle.rules.specs.declared.Sense.TheVariants.{Same, Reversed}
use mathlib.Core.Path.{refl}
use Rattle.rules.proofs.SenseMul.mul.Goals as goal

pub returns-in-Same-other : goal.returns-in-Same-other
returns-in-Same-other c =
    answers_told c.args.self c.args.other Same Same Same c.in-Same.is c.in-Same-other.is refl

pub returns-in-Reversed-other : goal.returns-in-Reversed-other
returns-in-Reversed-other c =
    answers_told c.args.self c.args.other Same Reversed Reversed c.in-Same.is c.in-Reversed-other.is refl

pub returns-in-Same-other-2 : goal.returns-in-Same-other-2
returns-in-Same-other-2 c =
    answers_told c.args.self c.args.other Reversed Same Reversed c.in-Reversed.is c.in-Same-other-2.is refl

pub returns-in-Reversed-other-2 : goal.returns-in-Reversed-other-2
returns-in-Reversed-other-2 c =
    answers_told c.args.self c.args.other Reversed Reversed Same c.in-Reversed.is c.in-Reversed-other-2.is refl
