-- A list gone through from its last member to its first.
use Rattle.std.specs.Prelude.{ℕ, ◌≡◌, List, [], ◌∷◌, ◌++◌, length, get_or}
use Rattle.std.proofs.Common.{sym, ap, ◌∙◌, append-nil, append_assoc}
use Rattle.std.proofs.Math.Seq.{get_or-append_seam}

-- these are left of a list, and later ones are not
abbrev pub LeftOf : List ℕ → List ℕ → Type 0
LeftOf all left = (later : List ℕ) × (left ++ later ≡ all)

pub left_all : (all left : List ℕ) → left ≡ all → LeftOf all left
left_all all left e = ([], append-nil left ∙ e)

-- the last of them is taken: it stands where as many are left
module _ (all left fewer : List ℕ) (x : ℕ) (s : LeftOf all left) (e : left ≡ fewer ++ (x ∷ [])) where
  pub left_fewer : LeftOf all fewer
  left_fewer = (x ∷ s.0, sym (append_assoc fewer (x ∷ []) s.0) ∙ ap (λ l. l ++ s.0) (sym e) ∙ s.1)

  pub left_taken : x ≡ get_or all (length fewer) 0
  unfolding left_fewer
  left_taken = sym (get_or-append_seam fewer x s.0 0) ∙ ap (λ l. get_or l (length fewer) 0) (left_fewer.1)
