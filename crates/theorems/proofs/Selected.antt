-- One selected face more, that none before is.
use Rattle.std.specs.Prelude.{ℕ, ◌+◌, ◌<◌, ◌≤◌, ◌≡◌, List, [], ◌∷◌, ◌++◌, false, length, ltb}
use Rattle.std.proofs.Common.{arith, sym, ap, ◌∙◌, ⊎_elim, eq-eqb, ltb-true, ltb-false, get_or-append-add}
use Rattle.std.proofs.Math.ListN.{get_or-append}
use Rattle.std.proofs.lemmas.Bool.{false≢true}
use Rattle.lists.specs.Lists.{some}
use Rattle.lists.specs.Tests.{both_ways, both_and}
use Rattle.lists.specs.Membership.{get_or_in}
use Rattle.lists.specs.Members.{in_some}
use Rattle.lists.specs.Tables.{length_snoc}
use Rattle.rules.specs.declared.Face.{Face}
use Rattle.rules.specs.Job.{no_face, face_at}
use Rattle.rules.specs.Load.{same_source}
use Rattle.theorems.specs.Selected.{Distinct}

module _ (fs : List Face) (x : Face) (D : Distinct fs) (new : some (same_source x) fs ≡ false) where
  abbrev more : List Face
  more = fs ++ (x ∷ [])

  -- the faces before stand where they stood,
  old : (i : ℕ) → i < length fs → face_at more i ≡ face_at fs i
  old i h = get_or-append fs (x ∷ []) no_face i h

  -- the new one stands last,
  last : (k : ℕ) → length fs ≤ k → k < length more → (k ≡ length fs) × (face_at more k ≡ x)
  last k le h =
      let e : k ≡ length fs = omega (arith, length_snoc fs x, le, h) in
      let z : k ≡ length fs + 0 = omega arith in
      (e, ap (face_at more) z ∙ get_or-append-add fs (x ∷ []) 0 no_face)

  -- and no face before has its body and source
  apart : (i k : ℕ) → i < length fs → length fs ≤ k → k < length more
      → (face_at more i).body ≡ (face_at more k).body → (face_at more i).source ≡ (face_at more k).source → ⊥
  apart i k h le m b s =
      let p : face_at more i ≡ face_at fs i = old i h in
      let q : face_at more k ≡ x = (last k le m).1 in
      let body : x.body ≡ (face_at fs i).body = ap (λ f. f.body) (sym q) ∙ sym b ∙ ap (λ f. f.body) p in
      let source : x.source ≡ (face_at fs i).source = ap (λ f. f.source) (sym q) ∙ sym s ∙ ap (λ f. f.source) p in
      false≢true (sym new ∙ in_some (same_source x) (get_or_in fs i no_face h) (both_and _ _ (eq-eqb _ _ body) (eq-eqb _ _ source)))

  -- two faces before with one body and source were one already
  before : (i k : ℕ) → i < length fs → k < length fs
      → (face_at more i).body ≡ (face_at more k).body → (face_at more i).source ≡ (face_at more k).source → i ≡ k
  before i k hi hk b s =
      let p : face_at more i ≡ face_at fs i = old i hi in
      let q : face_at more k ≡ face_at fs k = old k hk in
      D i k hi hk (ap (λ f. f.body) (sym p) ∙ b ∙ ap (λ f. f.body) q) (ap (λ f. f.source) (sym p) ∙ s ∙ ap (λ f. f.source) q)

  -- two with one body and source are both before or both the new one
  pub distinct_more : Distinct (fs ++ (x ∷ []))
  distinct_more i k hi hk b s =
      ⊎_elim
      (λ p. ⊎_elim
      (λ q. before i k (ltb-true i (length fs) p) (ltb-true k (length fs) q) b s)
      (λ q. absurd (apart i k (ltb-true i (length fs) p) (ltb-false k (length fs) q) hk b s))
      (both_ways (ltb k (length fs))))
      (λ p. ⊎_elim
      (λ q. absurd (apart k i (ltb-true k (length fs) q) (ltb-false i (length fs) p) hi (sym b) (sym s)))
      (λ q. (last i (ltb-false i (length fs) p) hi).0 ∙ sym (last k (ltb-false k (length fs) q) hk).0)
      (both_ways (ltb k (length fs))))
      (both_ways (ltb i (length fs)))
