-- Laws of the members of a list with one more at the end.
use Rattle.std.proofs.Common.{sym, subst, ⊎_elim}
use mathlib.Core.List.Memᴰ
use Rattle.std.specs.Prelude.{List, [], ◌∷◌, ◌++◌}
use Rattle.lists.specs.Lists.{◌∈◌}

-- what holds of each member, and of one more, holds of each member of the longer list
pub snoc_members : {A : Type 0} (P : A → Type 0) (l : List A) (a : A) → ((x : A) → x ∈ l → P x) → P a → (x : A) → x ∈ l ++ (a ∷ []) → P x
snoc_members P l a each last x m =
    ⊎_elim (each x) (λ q. subst P (sym (Memᴰ.eq_of_singleton q)) last) (Memᴰ.append_cases l m)
