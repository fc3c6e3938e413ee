-- Laws of runs of stores: the members of a list stored one after the other from a place on (`sets` of lib.Seq).
use Rattle.std.specs.Prelude.{◌≡◌, refl, ◌⊎◌, List, [], ◌∷◌, ◌++◌, ℕ, zero, suc, ◌+◌, ◌-◌, ◌≤◌, ◌<◌, length, get_or, set, take, drop}
use Rattle.std.proofs.Common.{ap, sym, ◌∙◌, inl, inr, ⊎_elim, not-suc-le-zero, arith, append_assoc, length-set, get_or-set_same, get_or-set_other}
use Rattle.std.proofs.lemmas.List.Edits.{sets, sets-eq}
use borrow.Rule.Slice.PartMut.{put_mid, Post-is}

-- outside the run the list is as it was
pub sets_outside : {A : Type 0} (vs l : List A) (i k : ℕ) (d : A) → (k < i) ⊎ (i + length vs ≤ k) → get_or (sets l i vs) k d ≡ get_or l k d
sets_outside [] l i k d h = refl
sets_outside (a ∷ vs) l i k d h =
    ⊎_elim
    (λ b. sets_outside vs (set l i a) (suc i) k d (inl (omega arith)) ∙ get_or-set_other l i k a d (λ e. omega arith))
    (λ b. sets_outside vs (set l i a) (suc i) k d (inr (omega arith)) ∙ get_or-set_other l i k a d (λ e. omega arith))
    h

-- within the run stands what was stored
pub sets_inside : {A : Type 0} (vs l : List A) (i j : ℕ) (d : A) → j < length vs → i + length vs ≤ length l → get_or (sets l i vs) (i + j) d ≡ get_or vs j d
sets_inside [] l i j d h fits = absurd (not-suc-le-zero h)
sets_inside (a ∷ vs) l i zero d h fits =
    let e : i + 0 ≡ i = omega arith in
    ap (λ k. get_or (sets (set l i a) (suc i) vs) k d) e ∙ sets_outside vs (set l i a) (suc i) i d (inl (omega arith)) ∙ get_or-set_same l i a d (omega arith)
sets_inside (a ∷ vs) l i (suc j) d h fits =
    let e : i + suc j ≡ suc i + j = omega arith in
    ap (λ k. get_or (sets (set l i a) (suc i) vs) k d) e ∙ sets_inside vs (set l i a) (suc i) j d (omega arith) (simp length-set (omega arith))

-- a run of stores as a part rewritten
pub sets_part : {A : Type 0} (a e : ℕ) (l r : List A) → a ≤ e → e ≤ length l → length r ≡ e - a → put_mid a (e - a) l r ≡ sets l a r
sets_part a e l r order inside size =
    let z : e ≡ a + length r = omega arith in
    ap (λ s. take a l ++ (r ++ s)) (Post-is a e l order) ∙ sym (append_assoc (take a l) r (drop e l)) ∙ ap (λ k. take a l ++ r ++ drop k l) z ∙ sym (sets-eq r l a (omega arith))

-- three and four stores at places one after the other
module _ (i j k : ℕ) (t a b c : List ℕ) (x y z : ℕ) where
  pub three_stores : j ≡ i + 1 → k ≡ i + 2 → a ≡ set t i x → b ≡ set a j y → c ≡ set b k z → c ≡ sets t i (x ∷ y ∷ z ∷ [])
  three_stores ej ek ea eb ec =
      let e : j ≡ suc i = omega arith in
      let f : k ≡ suc (suc i) = omega arith in
      ec ∙ (λ m. set (eb m) (f m) z) ∙ (λ m. set (set (ea m) (e m) y) (suc (suc i)) z)

  pub four_stores : (l w : ℕ) (d : List ℕ) → j ≡ i + 1 → k ≡ i + 2 → l ≡ i + 3 → a ≡ set t i x → b ≡ set a j y → c ≡ set b k z → d ≡ set c l w → d ≡ sets t i (x ∷ y ∷ z ∷ w ∷ [])
  four_stores l w d ej ek el ea eb ec ed =
      let g : l ≡ suc (suc (suc i)) = omega arith in
      ed ∙ (λ m. set (three_stores ej ek ea eb ec m) (g m) w)
