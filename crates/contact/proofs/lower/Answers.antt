use Rattle.contact.specs.Buckets.{is_lower}
use Rattle.contact.specs.ContactLaws.{not_lower, lower_touches, lower_apart}
use Rattle.std.proofs.Common.{arith, rules, ◌≡◌, true, false}
use Rattle.contact.proofs.lower.Goals as goal

pub returns-then-not-is_lower : goal.returns-then-not-is_lower
returns-then-not-is_lower g c = let t : is_lower c.get-p.result c.args.lowest ≡ false = grind arith in search (rules, not_lower)

pub returns-then-one_stands : goal.returns-then-one_stands
returns-then-one_stands g c = let t : is_lower c.get-p.result c.args.lowest ≡ true = grind arith in search (rules, lower_touches)

pub returns : goal.returns
returns g c = let t : is_lower c.get-p.result c.args.lowest ≡ true = grind arith in search (rules, lower_apart)
