-- The members that pass a test, listed one number more at a time.
use Rattle.std.specs.Prelude.{ℕ, ◌+◌, ◌≤◌, ◌≡◌, Bool, true, false, List, [], ◌∷◌, ◌++◌, length}
use Rattle.std.proofs.Common.{arith, sym, ap, ◌∙◌, length-append}
use Rattle.lists.specs.Lists.{from, below, keep}
use Rattle.lists.specs.Prefixes.{keep_below_yes, keep_below_no}

-- of the numbers below h, those that pass
pub record Naming (p : ℕ → Bool) (names : List ℕ) (h : ℕ) : Type 0 where
  pub few : length names ≤ h
  pub named : names ≡ keep p (below h)

pub naming_start : (p : ℕ → Bool) (names : List ℕ) → names ≡ [] → Naming p names 0
unfolding from keep
naming_start p names e = record { few = omega (arith, ap length e); named = e }

module _ (p : ℕ → Bool) (names after : List ℕ) (h : ℕ) (here : Bool) (n : Naming p names h) (e : here ≡ p h) where
  pub naming_yes : here ≡ true → after ≡ names ++ (h ∷ []) → Naming p after (h + 1)
  naming_yes y s = record {
    few = omega (arith, n.few, ap length s, length-append names (h ∷ []));
    named = s ∙ ap (λ l. l ++ (h ∷ [])) n.named ∙ sym (keep_below_yes p h (sym e ∙ y));
  }

  pub naming_no : here ≡ false → after ≡ names → Naming p after (h + 1)
  naming_no y s = record { few = omega (arith, n.few, ap length s); named = s ∙ n.named ∙ sym (keep_below_no p h (sym e ∙ y)) }
