-- Laws of one loop as the code walks it: from use to use, until the successor is the start.
use Prim.Native.Nat.{ℕ, suc, ◌+◌, ◌-◌, ◌<◌, ◌≤◌}
use Rattle.std.proofs.Common.{add-one, subst, ◌∙◌, eq-eqb, ne_eqb}
use native.Mathlib.Omega.{arith}
use Rattle.std.specs.Prelude.{◌≡◌, Bool, set, eqb}
use Rattle.std.proofs.Math.Path.{refl, sym, ap}
use mathlib.Core.List.{List, [], ◌∷◌}
use Rattle.std.proofs.Math.Bool.{true}
use Rattle.std.proofs.Math.ListN.{length, length-set}
use Rattle.std.proofs.Math.Seq.{sets}
use Rattle.lists.specs.Tests.{cond_true, cond_false}
use Rattle.rules.specs.Walk.{successor, Circuit, closes, never_closes, led_by, circuit, circuit_uses}
use Rattle.walk.specs.Walks.{Closes, marked, Round}

-- what closes after a use closes without it
led_closes : (h : ℕ) (c : Circuit) → Closes (led_by h c) → Closes c × (circuit_uses (led_by h c) ≡ h ∷ circuit_uses c)
led_closes h (closes hs) e = (refl, refl)
led_closes h never_closes e = let z : ◌≡◌ {A = ℕ} 0 1 = cc in absurd (omega arith)

never_closes_lem : Closes never_closes → ⊥
never_closes_lem e = let z : ◌≡◌ {A = ℕ} 0 1 = cc in omega arith

-- at use h and place p, what is left to do gives the whole loop
pub record Rounding (ss : List ℕ) (start at : ℕ) (seen₀ : List Bool) (ways₀ : List ℕ) (seen : List Bool) (ways : List ℕ) (h p : ℕ) : Type 0 where
  pub low : at ≤ p
  pub within : p ≤ at + length ss
  pub fits : h < 4294967296
  pub seen_size : length seen ≡ length seen₀
  pub ways_size : length ways ≡ length ways₀
  pub closing : Closes (circuit ss (at + length ss - p) start h)
  pub marks : marked seen (circuit_uses (circuit ss (at + length ss - p) start h)) ≡ marked seen₀ (circuit_uses (circuit ss (length ss) start start))
  pub writes : sets ways p (circuit_uses (circuit ss (at + length ss - p) start h)) ≡ sets ways₀ at (circuit_uses (circuit ss (length ss) start start))
  pub ends : p + length (circuit_uses (circuit ss (at + length ss - p) start h)) ≡ at + length (circuit_uses (circuit ss (length ss) start start))

module _ (ss : List ℕ) (start at : ℕ) (seen₀ : List Bool) (ways₀ : List ℕ) where
  -- one use, then the rest of its loop, or nothing if its successor is the start
  last_use : (most h : ℕ) → successor ss h ≡ start → circuit ss (suc most) start h ≡ closes (h ∷ [])
  unfolding circuit
  last_use most h e = cond_true (eqb (successor ss h) start) (closes (h ∷ [])) (led_by h (circuit ss most start (successor ss h))) (eq-eqb (successor ss h) start e)

  more_uses : (most h : ℕ) → (successor ss h ≡ start → ⊥) → circuit ss (suc most) start h ≡ led_by h (circuit ss most start (successor ss h))
  unfolding circuit
  more_uses most h e = cond_false (eqb (successor ss h) start) (closes (h ∷ [])) (led_by h (circuit ss most start (successor ss h))) (ne_eqb (successor ss h) start e)

  no_uses : (h : ℕ) → circuit ss 0 start h ≡ never_closes
  unfolding circuit
  no_uses h = refl

  module _ (seen : List Bool) (ways : List ℕ) (h p : ℕ) (R : Rounding ss start at seen₀ ways₀ seen ways h p) where
    pub rounding_stop : (seen' : List Bool) (ways' : List ℕ) (g : ℕ) → p < at + length ss → seen' ≡ set seen h true → ways' ≡ set ways p h → g ≡ successor ss h → g ≡ start
        → Round (circuit_uses (circuit ss (length ss) start start)) seen₀ ways₀ at seen' ways' (p + 1)
    unfolding marked
    rounding_stop seen' ways' g lt es ew eg back =
        let q : at + length ss - p ≡ suc (at + length ss - (p + 1)) = omega arith in
        let e : circuit_uses (circuit ss (at + length ss - p) start h) ≡ h ∷ [] =
        ap (λ m. circuit_uses (circuit ss m start h)) q ∙ ap circuit_uses (last_use (at + length ss - (p + 1)) h (sym eg ∙ back)) in
        record {
          marks = es ∙ sym (ap (marked seen) e) ∙ R.marks;
          writes = ew ∙ sym (ap (sets ways p) e) ∙ R.writes;
          ends = ap (λ (l : List ℕ). p + length l) (sym e) ∙ R.ends;
        }

    pub rounding_on : (seen' : List Bool) (ways' : List ℕ) (g : ℕ) → p < at + length ss → seen' ≡ set seen h true → ways' ≡ set ways p h → g ≡ successor ss h → g < 4294967296 → (g ≡ start → ⊥)
        → Rounding ss start at seen₀ ways₀ seen' ways' g (p + 1)
    unfolding marked
    rounding_on seen' ways' g lt es ew eg fits away =
        let m : ℕ = at + length ss - (p + 1) in
        let q : at + length ss - p ≡ suc m = omega arith in
        let e : circuit ss (at + length ss - p) start h ≡ led_by h (circuit ss m start g) =
        ap (λ k. circuit ss k start h) q ∙ more_uses m h (λ b. away (eg ∙ b)) ∙ ap (λ x. led_by h (circuit ss m start x)) (sym eg) in
        let cl = led_closes h (circuit ss m start g) (subst Closes e R.closing) in
        let r : circuit_uses (circuit ss (at + length ss - p) start h) ≡ h ∷ circuit_uses (circuit ss m start g) = ap circuit_uses e ∙ cl.1 in
        record {
          low = omega (arith, R.low);
          within = omega arith;
          fits = fits;
          seen_size = ap length es ∙ length-set seen h true ∙ R.seen_size;
          ways_size = ap length ew ∙ length-set ways p h ∙ R.ways_size;
          closing = cl.0;
          marks = ap (λ v. marked v (circuit_uses (circuit ss m start g))) es ∙ sym (ap (marked seen) r) ∙ R.marks;
          writes = (λ t. sets (ew t) (add-one p t) (circuit_uses (circuit ss m start g))) ∙ sym (ap (sets ways p) r) ∙ R.writes;
          ends = omega (arith, ap (λ (l : List ℕ). p + length l) r, R.ends);
        }

    -- the looks are never spent
    pub rounding_end : at + length ss ≤ p → ⊥
    rounding_end le =
        let q : at + length ss - p ≡ 0 = omega arith in
        never_closes_lem (subst Closes (ap (λ k. circuit ss k start h) q ∙ no_uses h) R.closing)
