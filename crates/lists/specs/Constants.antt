-- Lists of one value.
use Rattle.std.specs.Prelude.{◌≡◌, refl, ℕ, zero, suc, get_or, replicate}

-- a list of one value has it everywhere, and past the end too where it is what stands there
pub get_or_constant : {A : Type 0} (n : ℕ) (a : A) (i : ℕ) → get_or (replicate n a) i a ≡ a
get_or_constant zero a i = refl
get_or_constant (suc n) a zero = refl
get_or_constant (suc n) a (suc i) = get_or_constant n a i
