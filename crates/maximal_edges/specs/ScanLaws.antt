-- The scan over the two edges of a corner: the lower one, then the higher one, until two ends are seen.
use Rattle.std.specs.Prelude.{ℕ, ◌+◌, ◌≡◌, ◌⊎◌, List, [], ◌∷◌, get_or}
use Rattle.std.proofs.Common.{arith, sym, ap, ◌∙◌, inr, ⊎_elim}
use Rattle.std.proofs.lemmas.Bool.Decides.{nat_tests}
use Rattle.rules.specs.declared.EdgeData.{EdgeData}
use Rattle.rules.specs.Join.{edge_data_at, ends_at}
use Rattle.theorems.specs.Ends.{one_at, ends_one}
use Rattle.maximal_edges.specs.PairLaws.{pair_each}

-- before edge i of the two, with `seen` ends met: none before the lower edge, one between two different edges
pub record Scan (es : List EdgeData) (v low high seen i : ℕ) : Type 0 where
  pub ends : ends_at es v ≡ low ∷ high ∷ []
  pub at : ((seen ≡ 0) × (i ≡ 0)) ⊎ ((seen ≡ 1) × (i ≡ 1) × (low ≡ high → ⊥))

module _ {es : List EdgeData} {v low high seen i : ℕ} (scan : Scan es v low high seen i) where
  module _ {e n : ℕ} (ee : e ≡ get_or (low ∷ high ∷ []) i 0) (en : n ≡ ends_one v (edge_data_at es e)) where
    -- with edge e both ends are met, and it is the higher edge, or one is met of two different edges
    either : ((seen + n ≡ 2) × (e ≡ high)) ⊎ ((seen + n ≡ 1) × (i ≡ 0) × (low ≡ high → ⊥))
    unfolding one_at
    either = grind (arith, nat_tests, scan.at, pair_each es v low high scan.ends e)

    -- both ends are met
    pub scan_both : seen + n ≡ 2 → ends_at es v ≡ low ∷ e ∷ []
    scan_both q = ⊎_elim (λ w. scan.ends ∙ ap (λ x. low ∷ x ∷ []) (sym w.1)) (λ w. absurd (omega (arith, w.0))) either

    -- the scan goes on to the higher edge
    pub scan_on : (seen + n ≡ 2 → ⊥) → Scan es v low high (seen + n) (i + 1)
    scan_on q = ⊎_elim (λ w. absurd (q w.0)) (λ w. record { ends = scan.ends; at = inr (w.0, omega (arith, w.1), w.2) }) either
