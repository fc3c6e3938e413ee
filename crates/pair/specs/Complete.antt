-- The end of pairing, by the lowest use without twin as std finds it.
use Rattle.std.specs.Prelude.{ℕ, suc, ◌+◌, ◌≡◌, Bool, true, false, not, ◌||◌, cond, List, [], ◌∷◌, length, eqb, ltb}
use Rattle.std.specs.List.{position_or_len}
use Rattle.std.proofs.Common.{arith, refl, sym, ap, ◌∙◌, lt-ltb}
use lib.Dec.{leb-suc-suc}
use Rattle.std.proofs.lemmas.List.Recursion.{is_position_or_len}
use Rattle.lists.specs.Lists.{has, position, index_of}
use Rattle.rules.specs.declared.Fault.TheVariants.{NoTwin}
use Rattle.rules.specs.Outcome.{Ok, refuse, need}
use Rattle.rules.specs.Job.{unset}
use Rattle.rules.specs.Pair.{complete}

-- the place of the lowest use without twin, or the length
abbrev lone : List ℕ → ℕ
lone ts = position_or_len (eqb unset) ts

index_is : (ts : List ℕ) → index_of unset ts ≡ lone ts
unfolding position
index_is = is_position_or_len (position (eqb unset)) (eqb unset) refl
    (λ x xs. let e : suc (position (eqb unset) xs) ≡ 1 + position (eqb unset) xs = omega arith in ap (cond (eqb unset x) 0) e)

has_is : (ts : List ℕ) → has unset ts ≡ ltb (lone ts) (length ts)
unfolding has
has_is [] = refl
has_is (t ∷ ts) = go (eqb unset t) (has_is ts)
  where
    go : (b : Bool) → has unset ts ≡ ltb (lone ts) (length ts) → (b || has unset ts) ≡ ltb (cond (not b) (1 + lone ts) 0) (suc (length ts))
    go true ih = sym (lt-ltb 0 (suc (length ts)) (omega arith))
    go false ih = let e : suc (lone ts) ≡ 1 + lone ts = omega arith in ih ∙ sym (leb-suc-suc (suc (lone ts)) (length ts)) ∙ ap (λ k. ltb k (suc (length ts))) e

pub complete_is : (ts : List ℕ) → complete ts ≡ cond (ltb (lone ts) (length ts)) (refuse NoTwin (lone ts)) (Ok ts)
unfolding complete need
complete_is ts = (λ i. need (not (has_is ts i)) NoTwin (index_is ts i) (Ok ts)) ∙ go (ltb (lone ts) (length ts))
  where
    go : (b : Bool) → need (not b) NoTwin (lone ts) (Ok ts) ≡ cond b (refuse NoTwin (lone ts)) (Ok ts)
    go true = refl
    go false = refl
