-- Laws of fans on chains: one fan more, and the chain of a point against all earlier fans.
use Prim.Native.Nat.{ℕ, zero, ◌+◌, ◌%◌, ◌≤◌, ◌<◌}
use Rattle.std.proofs.Common.{mod-lt, add-one, ◌∙◌, subst, ⊎_elim, get_or-set_same, get_or-set_other, get_or-take, length-take-le}
use native.Mathlib.Omega.{arith}
use Rattle.std.specs.Prelude.{◌≡◌, refl, ◌≢◌, Bool, true, false, ◌&&◌, List, ◌∷◌, length, set, take, replicate, eqb, ltb}
use Rattle.std.proofs.Math.Path.{sym, ap}
use mathlib.Core.List.Memᴰ
use Rattle.std.proofs.Math.ListN.{get_or}
use borrow.Author.Tests.{eqb-true, ltb-true, ltb-false}
use Rattle.lists.specs.Lists.{◌∈◌, some}
use Rattle.lists.specs.Tests.{both_ways, and_both, equal_or_not}
use Rattle.lists.specs.Membership.{get_or_in, in_get_or}
use Rattle.lists.specs.Members.{in_some, some_in}
use Rattle.lists.specs.Constants.{get_or_constant}
use Rattle.lists.specs.Tables.{set_each}
use Rattle.rules.specs.declared.Use.{Use}
use Rattle.rules.specs.Read.{face_of_use}
use Rattle.rules.specs.Groups.{label_of}
use Rattle.rules.specs.Fans.{fan_point}
use Rattle.rules.specs.Contact.{use_label, touches}
use Rattle.fields.specs.Chains.{chain, next_in, Falling, chain_on, chain_below, chain_same}
use Rattle.contact.specs.Buckets.{stands_with, point_at, Bucketed, touches_earlier}

-- ALL EARLIER FANS

pub bucketed_none : (w : ℕ) (starts names : List ℕ) (chains fans : ℕ) → Bucketed w starts names (replicate chains 0) (replicate fans 0) 0
bucketed_none w starts names chains fans = record {
  entries = λ b. omega (arith, get_or_constant chains zero b);
  holds = λ j h. absurd (omega arith);
}

module _ (w : ℕ) (starts names heads nexts : List ℕ) (k : ℕ) (s : Bucketed w starts names heads nexts k) (falling : Falling (next_in nexts)) where
  -- the chain of a point has each earlier fan that touches; the code's numbers are fan v at place k, its point p, face and label l
  pub chain_touches : (us : List Use) (labels : List ℕ) (v p face l entry : ℕ) → k < length names → v ≡ get_or names k 0 → p ≡ fan_point starts v → face ≡ face_of_use us v → l ≡ label_of labels face
      → entry ≡ get_or heads (p % w) 0
      → some (λ j. stands_with us starts labels p l (get_or names j 0)) (chain (next_in nexts) entry) ≡ touches_earlier us starts labels names k
  unfolding stands_with touches
  chain_touches us labels v p face l entry lt ev epv efv elf ee = same_tests (some test (chain (next_in nexts) entry)) (some meet (take k names)) there back
    where
      f : ℕ
      f = get_or names k 0

      ep : p ≡ fan_point starts f
      ep = epv ∙ ap (fan_point starts) ev

      el : l ≡ use_label us labels f
      el = elf ∙ ap (label_of labels) (efv ∙ ap (face_of_use us) ev)

      test : ℕ → Bool
      test j = eqb p (fan_point starts (get_or names j 0)) && eqb l (use_label us labels (get_or names j 0))

      meet : ℕ → Bool
      meet g = eqb (fan_point starts f) (fan_point starts g) && eqb (use_label us labels f) (use_label us labels g)

      agree : (g : ℕ) → (eqb p (fan_point starts g) && eqb l (use_label us labels g)) ≡ meet g
      agree g = λ i. eqb (ep i) (fan_point starts g) && eqb (el i) (use_label us labels g)

      same_tests : (a b : Bool) → (a ≡ true → b ≡ true) → (b ≡ true → a ≡ true) → a ≡ b
      same_tests true b x y = sym (x refl)
      same_tests false true x y = y refl
      same_tests false false x y = refl

      there : some test (chain (next_in nexts) entry) ≡ true → some meet (take k names) ≡ true
      there t =
          let r = some_in test (chain (next_in nexts) entry) t in
          let j : ℕ = r.0 in
          let lj : j < k = omega (arith, chain_below (next_in nexts) falling entry j r.1, ee, s.entries (p % w)) in
          let m : get_or (take k names) j 0 ∈ take k names = get_or_in (take k names) j 0 (omega (arith, length-take-le k names (omega arith))) in
          in_some meet (Memᴰ.cast (sym (get_or-take k names j 0 lj)) m) (sym (agree (get_or names j 0)) ∙ r.2)

      back : some meet (take k names) ≡ true → some test (chain (next_in nexts) entry) ≡ true
      back t =
          let r = some_in meet (take k names) t in
          let q = in_get_or 0 r.1 in
          let j : ℕ = q.0 in
          let lj : j < k = omega (arith, q.1, length-take-le k names (omega arith)) in
          let g : get_or names j 0 ≡ r.0 = sym (get_or-take k names j 0 lj) ∙ q.2 in
          let same : fan_point starts f ≡ fan_point starts r.0 = eqb-true _ _ (and_both _ _ r.2).0 in
          let point : point_at starts names j ≡ p = ap (fan_point starts) g ∙ sym (ep ∙ same) in
          in_some test (subst (λ e. j ∈ chain (next_in nexts) e) (ap (λ q. get_or heads (q % w) 0) point ∙ sym ee) (s.holds j lj)) (agree (get_or names j 0) ∙ ap meet g ∙ r.2)

  -- the fan at place k on the chain of its point p
  module _ (v p entry : ℕ) (ev : v ≡ get_or names k 0) (ep : p ≡ fan_point starts v) (ee : entry ≡ get_or heads (p % w) 0)
      (room : k < length nexts) (some_chains : 0 < w) (wide : length heads ≡ w) where
    abbrev heads' : List ℕ
    heads' = set heads (p % w) (k + 1)

    abbrev nexts' : List ℕ
    nexts' = set nexts k entry

    bucket : p % w < length heads
    bucket = omega (arith, mod-lt p some_chains, wide)

    pub falls : Falling (next_in nexts')
    falls j = set_each (λ i x. x ≤ i) nexts k entry 0 room (omega (arith, s.entries (p % w))) j (λ n. falling j)

    kept : (b : ℕ) → chain (next_in nexts) (get_or heads b 0) ≡ chain (next_in nexts') (get_or heads b 0)
    kept b =
        chain_same (next_in nexts) (next_in nexts') falling (get_or heads b 0)
        (λ j h. let n : j ≢ k = (λ (q : j ≡ k). omega (arith, s.entries b)) in sym (get_or-set_other nexts k j entry 0 n))

    front : chain (next_in nexts') (get_or heads' (p % w) 0) ≡ k ∷ chain (next_in nexts) (get_or heads (p % w) 0)
    front =
        ap (chain (next_in nexts')) (get_or-set_same heads (p % w) (k + 1) 0 bucket ∙ add-one k)
        ∙ chain_on (next_in nexts') falls k
        ∙ ap {B = List ℕ} (λ r. k ∷ r) (ap (chain (next_in nexts')) (get_or-set_same nexts k entry 0 room ∙ ee) ∙ sym (kept (p % w)))

    held_before : (j : ℕ) → j < k → j ∈ chain (next_in nexts') (get_or heads' (point_at starts names j % w) 0)
    held_before j lt =
        let b : ℕ = point_at starts names j % w in
        let old : j ∈ chain (next_in nexts) (get_or heads b 0) = s.holds j lt in
        ⊎_elim
        (λ q. rw (q.0, front) (Memᴰ.tail (rw q.0 at old)))
        (λ q. rw (get_or-set_other heads (p % w) b (k + 1) 0 q.0, ← kept b) old)
        (equal_or_not b (p % w))

    held : (j : ℕ) → j < k + 1 → j ∈ chain (next_in nexts') (get_or heads' (point_at starts names j % w) 0)
    held j h =
        ⊎_elim
        (λ t. held_before j (ltb-true j k t))
        (λ t. let q : j ≡ k = omega (arith, ltb-false j k t) in
        let at : point_at starts names j ≡ p = ap (point_at starts names) q ∙ sym (ep ∙ ap (fan_point starts) ev) in
        rw (at, front) (Memᴰ.head q))
        (both_ways (ltb j k))

    pub bucketed_more : (heads'' nexts'' : List ℕ) → nexts'' ≡ set nexts k entry → heads'' ≡ set heads (p % w) (k + 1) → Bucketed w starts names heads'' nexts'' (k + 1)
    bucketed_more heads'' nexts'' en eh = rw (en, eh) (record {
      entries = λ b. set_each (λ i x. x ≤ k + 1) heads (p % w) (k + 1) 0 bucket (omega arith) b (λ n. omega (arith, s.entries b));
      holds = held;
    })
