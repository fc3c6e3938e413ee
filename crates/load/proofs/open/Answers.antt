use Rattle.std.proofs.Common.{sym}
use Rattle.theorems.proofs.Loading.{loading_counted}
use Rattle.load.proofs.open.Goals as goal

pub new-requires : goal.new-requires
new-requires c =
    let counted = loading_counted _ _ (sym c.in_ok-counts.ensures.loads) in
    record { indexed = c.in_ok-counts.ensures.indexed; counted = counted.0; limited = counted.1 }
