-- Laws of tables of a function: another function that agrees, and one entry more.
use Rattle.std.specs.Prelude.{◌≡◌, [], ◌∷◌, ◌++◌, map, ℕ, ◌+◌, ◌<◌}
use Rattle.std.proofs.Common.{ap, ◌∙◌, add-one}
use Rattle.lists.specs.Lists.{below}
use Rattle.lists.specs.Members.{map_same, map_append}
use Rattle.lists.specs.Runs.{below_in, below_snoc}

-- tables of functions that agree
pub table_same : {A : Type 0} (f g : ℕ → A) (n : ℕ) → ((i : ℕ) → i < n → g i ≡ f i) → map g (below n) ≡ map f (below n)
table_same f g n agree = map_same g f (below n) (λ i m. agree i (below_in n i m))

-- a table with one entry more, of a function that agrees before it
pub table_more : {A : Type 0} (f g : ℕ → A) (n : ℕ) (x : A) → ((i : ℕ) → i < n → g i ≡ f i) → g n ≡ x → map g (below (n + 1)) ≡ map f (below n) ++ (x ∷ [])
table_more f g n x agree last =
    ap (λ m. map g (below m)) (add-one n) ∙ ap (map g) (below_snoc n) ∙ map_append g (below n) (n ∷ [])
    ∙ (λ t. table_same f g n agree t ++ (last t ∷ []))
