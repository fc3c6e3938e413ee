-- Bytes written at a place of the output, and the place after them.
use Rattle.std.specs.Prelude.{ℕ, suc, ◌+◌, ◌≡◌, refl, List, [], ◌∷◌, ◌++◌, length, set}
use Rattle.std.proofs.Common.{add-one, arith, ap, subst, ◌∙◌, length-append}
use Rattle.std.proofs.Math.Numerals.{add-two, add-three}
use Rattle.std.proofs.lemmas.List.Edits.{sets}

abbrev pub Wrote : List ℕ → ℕ → List ℕ → List ℕ → ℕ → Type 0
Wrote before at bytes after next = (after ≡ sets before at bytes) × (next ≡ at + length bytes)

-- the same bytes by another name
pub wrote_as : (before after xs ys : List ℕ) (at q : ℕ) → xs ≡ ys → Wrote before at xs after q → Wrote before at ys after q
wrote_as before after xs ys at q e w = subst (λ bs. Wrote before at bs after q) e w

-- nothing written
pub wrote_none : (l : List ℕ) (at : ℕ) → Wrote l at [] l at
wrote_none l at = (refl, omega arith)

pub sets_append : (l : List ℕ) (at : ℕ) (xs ys : List ℕ) → sets (sets l at xs) (at + length xs) ys ≡ sets l at (xs ++ ys)
sets_append l at [] ys = let e : at + 0 ≡ at = omega arith in ap (λ k. sets l k ys) e
sets_append l at (x ∷ xs) ys =
    let e : at + suc (length xs) ≡ suc at + length xs = omega arith in
    ap (λ k. sets (sets (set l at x) (suc at) xs) k ys) e ∙ sets_append (set l at x) (suc at) xs ys

-- one after the other
pub wrote_more : (before mid after xs ys : List ℕ) (at p next : ℕ) → Wrote before at xs mid p → Wrote mid p ys after next → Wrote before at (xs ++ ys) after next
wrote_more before mid after xs ys at p next a b = (
  b.0 ∙ (λ i. sets (a.0 i) (a.1 i) ys) ∙ sets_append before at xs ys,
  omega (arith, a.1, b.1, length-append xs ys),
)

-- one byte, two, and four, stored one after the other
pub two_stores : (o a b : List ℕ) (p x y : ℕ) → a ≡ set o p x → b ≡ set a (p + 1) y → b ≡ sets o p (x ∷ y ∷ [])
two_stores o a b p x y ea eb = eb ∙ (λ i. set (ea i) (add-one p i) y)

pub four_stores : (o a b c d : List ℕ) (p x y z w : ℕ) → a ≡ set o p x → b ≡ set a (p + 1) y → c ≡ set b (p + 2) z → d ≡ set c (p + 3) w
    → d ≡ sets o p (x ∷ y ∷ z ∷ w ∷ [])
four_stores o a b c d p x y z w ea eb ec ed =
    ed ∙ (λ i. set (ec i) (add-three p i) w) ∙ (λ i. set (set (eb i) (add-two p i) z) (suc (suc (suc p))) w)
    ∙ (λ i. set (set (set (ea i) (add-one p i) y) (suc (suc p)) z) (suc (suc (suc p))) w)
