-- The last of a list, by its place.
use Rattle.std.specs.Prelude.{ℕ, suc, ◌-◌, ◌<◌, ◌≡◌, List, [], ◌∷◌, length, get_or}
use Rattle.std.proofs.Common.{arith, ap, ◌∙◌}
use Rattle.rules.specs.Pair.{last_of}

pub last_at : (x : ℕ) (l : List ℕ) → 0 < length l → last_of x l ≡ get_or l (length l - 1) 0
unfolding last_of
last_at x [] h = absurd (omega arith)
last_at x (y ∷ []) h = let e : 0 ≡ 1 - 1 = omega arith in ap (λ k. get_or (y ∷ []) k 0) e
last_at x (y ∷ z ∷ l) h =
    let e : suc (suc (length l) - 1) ≡ suc (suc (length l)) - 1 = omega arith in
    last_at y (z ∷ l) (omega arith) ∙ ap (λ k. get_or (y ∷ z ∷ l) k 0) e
