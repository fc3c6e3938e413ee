use Rattle.std.proofs.Common.{rules, refl}
use Rattle.fields.proofs.filled.FilledClone.clone.Goals as goal

-- the fields of both tables are told by the facts that each field of one is the clone of the other's
pub returns : goal.returns
returns g c = record { cases = (_, _, search rules, refl, (c.in-Ok.ensures.cases, c.in-Ok-2.ensures.cases)) }
