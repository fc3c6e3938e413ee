-- The table of removed uses, and how many of its flags are set.
use Rattle.std.specs.Prelude.{ℕ, ◌+◌, ◌<◌, ◌≡◌, Bool, true, false, List, ◌∷◌, cond, length, get_or, count_by}
use Rattle.std.proofs.Common.{refl, arith}
use Rattle.std.proofs.lemmas.List.Recursion.{is_count_by}
use Rattle.lists.specs.Lists.{keep}
use Rattle.lists.specs.Tables.{table_is}
use Rattle.rules.specs.declared.Use.{Use}
use Rattle.rules.specs.Merge.{removes, removed_uses}

pub flags_are : (us : List Use) (ts g : List ℕ) (removed : List Bool) → length removed ≡ length us
    → ((h : ℕ) → h < length removed → get_or removed h false ≡ removes us ts g h) → removed ≡ removed_uses us ts g
unfolding removed_uses
flags_are us ts g removed e each = table_is (removes us ts g) removed (length us) false e (λ h lt. each h (rw e lt))

-- how many flags are set, as std counts them
pub set_flags : (flags : List Bool) → length (keep (λ set. set) flags) ≡ count_by (λ set. set) flags
unfolding keep
set_flags = is_count_by (λ flags. length (keep (λ set. set) flags)) (λ set. set) refl (λ flag flags. go flag (keep (λ set. set) flags))
  where
    go : (flag : Bool) (kept : List Bool) → length (cond flag (flag ∷ kept) kept) ≡ cond flag (1 + length kept) (length kept)
    go true kept = omega arith
    go false kept = refl
