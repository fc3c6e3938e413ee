-- The print-shop profile: every job has what its sewing promises. The statements are of `specs/PrintShop.antt`.
use Rattle.std.specs.Prelude.{ℕ, ◌≡◌, refl, List, [], ◌∷◌, map}
use Rattle.lists.specs.Lists.{keep}
use Rattle.rules.specs.FaultNumbers.{numbered_faults}
use Rattle.rules.specs.Rules.{print_shop}
use Rattle.theorems.proofs.Promised.{promises}
use Rattle.theorems.specs.PrintShop.{never_of, PrintPromises}
use Rattle.theorems.proofs.PrintEndings.{ends_but, ordinary_body, fault_free, accepted_clean}
use Rattle.theorems.proofs.PrintRefusals.{many_uses, many_fans, never_refused}
use Rattle.theorems.proofs.PrintOnly.{neither_refused}

-- the numbers of the refusals that cannot arise with a place
abbrev never_numbers : ℕ → List ℕ
never_numbers place = map (λ n. n.number) (keep (λ n. never_of n.fault place) numbered_faults)

never_with_seven : never_numbers 7 ≡ 12 ∷ 13 ∷ 20 ∷ 21 ∷ 22 ∷ 23 ∷ 30 ∷ 31 ∷ 32 ∷ 33 ∷ []
unfolding numbered_faults keep
never_with_seven = refl

never_with_eight : never_numbers 8 ≡ 12 ∷ 13 ∷ 23 ∷ 30 ∷ 31 ∷ 32 ∷ 33 ∷ []
unfolding numbered_faults keep
never_with_eight = refl

pub print_promises : (job : List ℕ) → PrintPromises job
print_promises job = record {
  promises = promises print_shop job;
  ends = ends_but job;
  body = ordinary_body job;
  free = fault_free job;
  clean = accepted_clean job;
  many_uses = many_uses job;
  many_fans = many_fans job;
  never = never_refused job;
  only = neither_refused job;
}
