-- Kinds are told apart by their numbers.
use Rattle.std.specs.Prelude.{◌≡◌, ◌≢◌, false, eqb}
use Rattle.std.proofs.Common.{ne_eqb}
use Rattle.rules.specs.declared.Kind.{Kind}
use Rattle.rules.specs.Kinds.{number_of}
use Rattle.rules.proofs.KindLaws.{one_kind}

pub other_kind : (k l : Kind) → k ≢ l → eqb (number_of k) (number_of l) ≡ false
other_kind k l h = ne_eqb (number_of k) (number_of l) (λ e. h (one_kind k l e))
