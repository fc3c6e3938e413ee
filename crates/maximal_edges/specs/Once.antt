-- That no number stands twice has one proof at most.
use Rattle.std.specs.Prelude.{ℕ, List, [], ◌∷◌}
use Rattle.std.specs.Coded.{×_prop, →_prop, Unit-prop}
use Rattle.lists.specs.Lists.{Nodup}

pub nodup_prop : (xs : List ℕ) → IsProp (Nodup xs)
nodup_prop [] = Unit-prop
nodup_prop (x ∷ xs) = ×_prop (→_prop (λ a b. absurd a)) (nodup_prop xs)
