-- Stretches of one list, as a table has them.
use Rattle.std.specs.Prelude.{ℕ, ◌+◌, ◌<◌, ◌≡◌, List, get_or, cond, eqb}
use Rattle.std.proofs.Common.{arith, sym, ap, ⊎_elim, eq-eqb, ne_eqb}
use Rattle.lists.specs.Cyclic.{next_place}
use Rattle.lists.specs.CyclicPlaces.{next_cases}
use Rattle.fields.specs.declared.Span.{Span}

abbrev pub no_span : Span
no_span = record { start = 0; end = 0 }

-- stretch k
abbrev pub span_at : List Span → ℕ → Span
span_at spans k = get_or spans k no_span

-- the place after one in the stretch from start to end: after its last, where it starts
unfoldable pub place_after : ℕ → ℕ → ℕ → ℕ
place_after start end i = cond (eqb (i + 1) end) start (i + 1)

pub after_wraps : (start end i : ℕ) → i + 1 ≡ end → start ≡ place_after start end i
unfolding place_after
after_wraps start end i e = sym (ap (λ t. cond t start (i + 1)) (eq-eqb (i + 1) end e))

pub after_on : (start end i : ℕ) → (i + 1 ≡ end → ⊥) → i + 1 ≡ place_after start end i
unfolding place_after
after_on start end i e = sym (ap (λ t. cond t start (i + 1)) (ne_eqb (i + 1) end e))

-- in a stretch of n places it is the place after one of n
pub after_of : (first n i : ℕ) → i < n → place_after first (first + n) (first + i) ≡ first + next_place i n
after_of first n i h =
    ⊎_elim
    (λ w. omega (arith, w.0, w.1, after_wraps first (first + n) (first + i) (omega (arith, w.0))))
    (λ w. omega (arith, w.0, w.1, after_on first (first + n) (first + i) (λ (z : first + i + 1 ≡ first + n). omega (arith, w.0))))
    (next_cases i n h)
