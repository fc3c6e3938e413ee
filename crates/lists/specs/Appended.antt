-- Laws of tests over lists put one after the other.
use Rattle.std.specs.Prelude.{◌≡◌, refl, List, [], ◌∷◌, ◌++◌, Bool, ◌||◌}
use Rattle.std.proofs.Common.{sym, ap, ◌∙◌}
use Rattle.std.proofs.Math.Bool.{or-false}
use Rattle.lists.specs.Lists.{some}
use Rattle.lists.specs.Tests.{or_assoc}

-- a member of one of two lists passes the test
pub some_append : {A : Type 0} (p : A → Bool) (l m : List A) → some p (l ++ m) ≡ (some p l || some p m)
unfolding some
some_append p [] m = refl
some_append p (x ∷ l) m = ap (λ b. p x || b) (some_append p l m) ∙ sym (or_assoc (p x) (some p l) (some p m))

pub some_snoc : {A : Type 0} (p : A → Bool) (l : List A) (x : A) → some p (l ++ (x ∷ [])) ≡ (some p l || p x)
unfolding some
some_snoc p l x = some_append p l (x ∷ []) ∙ ap (λ b. some p l || b) (or-false (p x))
