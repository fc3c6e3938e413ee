-- Chains in tables: an entry is a number plus one, `next` gives the entry after a number, and 0 ends a chain.
-- Entries fall along a chain, so that the entry itself bounds the chain's length and falls in a loop over it.
use Rattle.std.specs.Prelude.{ℕ, zero, suc, ◌-◌, ◌<◌, ◌≤◌, ◌≡◌, refl, List, [], ◌∷◌, get_or}
use Rattle.std.proofs.Common.{not-suc-le-zero, arith, ap, ◌∙◌, ⊎_elim}
use mathlib.Core.List.Memᴰ
use Rattle.lists.specs.Lists.{◌∈◌}

-- the numbers on a chain from an entry on, at most so many
unfoldable pub chain_from : ℕ → (ℕ → ℕ) → ℕ → List ℕ
chain_from zero next entry = []
chain_from (suc most) next zero = []
chain_from (suc most) next (suc k) = k ∷ chain_from most next (next k)

-- the numbers on a chain from an entry on
abbrev pub chain : (ℕ → ℕ) → ℕ → List ℕ
chain next entry = chain_from entry next entry

-- the entry that a table has after a number
abbrev pub next_in : List ℕ → ℕ → ℕ
next_in nexts k = get_or nexts k 0

abbrev pub Falling : (ℕ → ℕ) → Type 0
Falling next = (k : ℕ) → next k ≤ k

-- any bound from the entry on gives the same chain
enough : (next : ℕ → ℕ) → Falling next → (m n entry : ℕ) → entry ≤ m → entry ≤ n → chain_from m next entry ≡ chain_from n next entry
unfolding chain_from
enough next f zero zero entry h k = refl
enough next f zero (suc n) zero h k = refl
enough next f zero (suc n) (suc e) h k = absurd (not-suc-le-zero h)
enough next f (suc m) zero zero h k = refl
enough next f (suc m) zero (suc e) h k = absurd (not-suc-le-zero k)
enough next f (suc m) (suc n) zero h k = refl
enough next f (suc m) (suc n) (suc e) h k =
    let g = f e in
    ap {B = List ℕ} (λ l. e ∷ l) (enough next f m n (next e) (omega arith) (omega arith))

pub chain_end : (next : ℕ → ℕ) → chain next 0 ≡ []
unfolding chain_from
chain_end next = refl

-- the first number of a chain, then those after it
pub chain_on : (next : ℕ → ℕ) → Falling next → (k : ℕ) → chain next (suc k) ≡ k ∷ chain next (next k)
unfolding chain_from
chain_on next f k = let g = f k in ap {B = List ℕ} (λ l. k ∷ l) (enough next f k (next k) (next k) g (omega arith))

-- the same at an entry that is not 0, as a loop has it
pub chain_more : (next : ℕ → ℕ) → Falling next → (entry : ℕ) → 0 < entry → chain next entry ≡ (entry - 1) ∷ chain next (next (entry - 1))
chain_more next f zero h = absurd (not-suc-le-zero h)
chain_more next f (suc k) h = let e : k ≡ suc k - 1 = omega arith in chain_on next f k ∙ (λ i. e i ∷ chain next (next (e i)))

below_from : (next : ℕ → ℕ) → Falling next → (most e x : ℕ) → x ∈ chain_from most next e → x < e
unfolding chain_from
below_from next f zero e x m = absurd (Memᴰ.not-nil m)
below_from next f (suc most) zero x m = absurd (Memᴰ.not-nil m)
below_from next f (suc most) (suc k) x m =
    let g = f k in
    ⊎_elim (λ q. omega arith) (λ q. let r = below_from next f most (next k) x q in omega arith) (Memᴰ.cases_cons m)

-- the numbers of a chain lie below its entry
pub chain_below : (next : ℕ → ℕ) → Falling next → (entry x : ℕ) → x ∈ chain next entry → x < entry
chain_below next f entry x m = below_from next f entry entry x m

same_from : (next other : ℕ → ℕ) → Falling next → (most e : ℕ) → ((k : ℕ) → k < e → next k ≡ other k) → chain_from most next e ≡ chain_from most other e
unfolding chain_from
same_from next other f zero e agree = refl
same_from next other f (suc most) zero agree = refl
same_from next other f (suc most) (suc k) agree =
    let g = f k in
    ap {B = List ℕ} (λ l. k ∷ l) (same_from next other f most (next k) (λ j h. agree j (omega arith)) ∙ ap (chain_from most other) (agree k (omega arith)))

-- chains of two tables that agree below the entry are equal
pub chain_same : (next other : ℕ → ℕ) → Falling next → (entry : ℕ) → ((k : ℕ) → k < entry → next k ≡ other k) → chain next entry ≡ chain other entry
chain_same next other f entry agree = same_from next other f entry entry agree
