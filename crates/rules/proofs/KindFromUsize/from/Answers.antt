use Rattle.std.proofs.Common.{arith, sym}
use Rattle.rules.proofs.KindLaws.{no_kind}
use Rattle.rules.proofs.KindFromUsize.from.Goals as goal

pub returns-in_default : goal.returns-in_default
returns-in_default c =
    sym
    (no_kind c.args.k (omega arith) (omega arith) (omega arith) (omega arith) (omega arith) (omega arith) (omega arith)
    (omega arith) (omega arith) (omega arith) (omega arith) (omega arith) (omega arith))
