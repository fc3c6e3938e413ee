-- Differences of natural numbers as integers.
use Rattle.std.specs.Prelude.{◌≡◌, refl, Bool, true, false, cond, ℕ, suc, ◌+◌, ◌-◌, ◌≤◌, ◌<◌, ltb, pos, negsuc, ◌+ℤ◌}
use Rattle.std.proofs.Common.{sym, ap, ◌∙◌, arith, ltb-true, ltb-false, lt-ltb, le-ltb}
use Rattle.std.proofs.Math.IntN.{sub_ℕ}

-- the difference where the second is greater, and where it is not
sub_less : (a b : ℕ) → a < b → sub_ℕ a b ≡ negsuc (b - suc a)
sub_less a b h = rw (lt-ltb a b h)

sub_more : (a b : ℕ) → b ≤ a → sub_ℕ a b ≡ pos (a - b)
sub_more a b h = rw (le-ltb a b h)

-- a - b = (c - d) + r, where a + d = c + b + r
pub sub_balance : (a b c d r : ℕ) → a + d ≡ c + b + r → sub_ℕ a b ≡ sub_ℕ c d +ℤ pos r
sub_balance a b c d r e = go (ltb a b) (ltb c d) refl refl
  where
    go : (s t : Bool) → ltb a b ≡ s → ltb c d ≡ t → cond s (negsuc (b - suc a)) (pos (a - b)) ≡ cond t (negsuc (d - suc c)) (pos (c - d)) +ℤ pos r
    go true true p q =
        let h : a < b = ltb-true a b p in
        let k : c < d = ltb-true c d q in
        let lt : r < suc (d - suc c) = omega arith in
        let z : suc (d - suc c) - suc r ≡ b - suc a = omega arith in
        sym (sub_less r (suc (d - suc c)) lt ∙ ap negsuc z)
    go true false p q = let h : a < b = ltb-true a b p in let k : d ≤ c = ltb-false c d q in absurd (omega arith)
    go false true p q =
        let h : b ≤ a = ltb-false a b p in
        let k : c < d = ltb-true c d q in
        let le : suc (d - suc c) ≤ r = omega arith in
        let z : r - suc (d - suc c) ≡ a - b = omega arith in
        sym (sub_more r (suc (d - suc c)) le ∙ ap pos z)
    go false false p q =
        let h : b ≤ a = ltb-false a b p in
        let k : d ≤ c = ltb-false c d q in
        let z : a - b ≡ c - d + r = omega arith in
        ap pos z
