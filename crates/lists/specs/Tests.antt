-- Laws of tests: cases with their equation, and what an "and" or an "or" tells.
use Rattle.std.specs.Prelude.{◌≡◌, ◌⊎◌, true, false, ℕ, eqb}
use Rattle.std.proofs.Common.{sym, ◌∙◌, inl, inr, ⊎_elim, eq-eqb, ne_eqb}
use Rattle.std.proofs.Math.Decide.{ℕ_discrete}
pub use Rattle.std.proofs.Math.Bool.{or_assoc, or_comm}
pub use Rattle.std.proofs.lemmas.Bool.{cases_Bool as both_ways, or_cases, or_left as or_first, or_right as or_second, or_parts as or_none, or_from as none_or}
pub use Rattle.std.proofs.lemmas.Bool.{and_parts as and_both, and_from as both_and, not_from_false as not_is, not_from_true as is_not, cond-true as cond_true, cond-false as cond_false}

-- two numbers are equal or not, with the test
pub equal_or_not : (a b : ℕ) → ((a ≡ b) × (eqb a b ≡ true)) ⊎ ((a ≡ b → ⊥) × (eqb a b ≡ false))
equal_or_not a b = elim (ℕ_discrete a b) [ yes e ↦ inl (e, eq-eqb a b e) | no h ↦ inr (h, ne_eqb a b h) ]

-- a test and its other way round
pub eqb_swap : (a b : ℕ) → eqb a b ≡ eqb b a
eqb_swap a b =
    ⊎_elim (λ w. w.1 ∙ sym (eq-eqb b a (sym w.0))) (λ w. w.1 ∙ sym (ne_eqb b a (λ e. w.0 (sym e)))) (equal_or_not a b)
