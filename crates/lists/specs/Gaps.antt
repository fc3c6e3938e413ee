-- Laws of a permutation f of the numbers below n some of which are gone: from the number after one that stays, f passes over a run of gone ones and meets one that stays.
use Rattle.std.specs.Prelude.{◌≡◌, Bool, false, not, ltb, length}
use Rattle.std.proofs.Math.Path.{refl, sym, ap}
use Rattle.std.proofs.Common.{◌∙◌, subst, true≢false, ltb-true, ltb-false}
use Rattle.std.proofs.Math.Logic.{⊎_elim}
use Rattle.std.proofs.Math.Bool.{true}
use mathlib.Core.List.Memᴰ
use mathlib.Core.List.{List, flat_map}
use Prim.Native.Nat.{ℕ, zero, suc, ◌-◌, ◌≤◌, ◌<◌, zero-le}
use native.Mathlib.Omega.{arith}
use Rattle.std.proofs.lemmas.Bool.{not-true, not-false}
use Rattle.lists.specs.Lists.{◌∈◌, Nodup, sum_of, iterate, orbit}
use Rattle.lists.specs.Tests.{both_ways}
use Rattle.lists.specs.Membership.{same_length}
use Rattle.lists.specs.Members.{in_flat_map, flat_map_in, flat_map_nodup, flat_map_length}
use Rattle.lists.specs.Sums.{sum_same}
use Rattle.lists.specs.Orbits.{least_below, iterate_zero, iterate_first, iterate_suc, iterate_split, in_orbit, orbit_in, length_orbit}
use Rattle.lists.specs.Orbits.{Perm, iterate_stays, iterate_inj, orbit_stays, orbit_nodup, period, cycle_reach}

-- a value that does not change from one number to the next is constant along the orbit
pub iterate_constant : (f g : ℕ → ℕ) (k a : ℕ) → ((i : ℕ) → i < k → g (f (iterate f i a)) ≡ g (iterate f i a)) → g (iterate f k a) ≡ g a
iterate_constant f g zero a h = ap g (iterate_zero f a)
iterate_constant f g (suc k) a h = ap g (iterate_suc f k a) ∙ h k (omega arith) ∙ iterate_constant f g k a (λ i lt. h i (omega arith))

-- a comes after one that stays
pub record Entry (n : ℕ) (f : ℕ → ℕ) (gone : ℕ → Bool) (a : ℕ) : Type 0 where
  pub source : ℕ
  pub inside : source < n
  pub stays : gone source ≡ false
  pub leads : f source ≡ a

-- from a on, k are gone, and then one stays
pub record Run (f : ℕ → ℕ) (gone : ℕ → Bool) (a k : ℕ) : Type 0 where
  pub passes : (i : ℕ) → i < k → gone (iterate f i a) ≡ true
  pub meets : gone (iterate f k a) ≡ false

-- y is gone, and one of those that f yields from it stays
pub record Reaches (n : ℕ) (f : ℕ → ℕ) (gone : ℕ → Bool) (y : ℕ) : Type 0 where
  pub inside : y < n
  pub goes : gone y ≡ true
  pub far : ℕ
  pub meets : gone (iterate f far y) ≡ false

-- y stands at a place of the run from some entry: it and all before it are gone
pub record Passed (n : ℕ) (f : ℕ → ℕ) (gone : ℕ → Bool) (y : ℕ) : Type 0 where
  pub first : ℕ
  pub entry : Entry n f gone first
  pub place : ℕ
  pub at : y ≡ iterate f place first
  pub goes : (l : ℕ) → l ≤ place → gone (iterate f l first) ≡ true

module _ {n : ℕ} {f : ℕ → ℕ} {gone : ℕ → Bool} (P : Perm n f (λ x. x < n)) where
  entry_inside : (a : ℕ) → Entry n f gone a → a < n
  entry_inside a E = subst (λ x. x < n) E.leads (P.closed E.source E.inside)

  -- after one that stays there is a run, of fewer than n
  pub run_after : (a : ℕ) → Entry n f gone a → (k : ℕ) × (k < n) × Run f gone a k
  run_after a E =
      let p = period P E.source E.inside in
      let back : gone (iterate f p.0 a) ≡ false =
      ap (λ x. gone (iterate f p.0 x)) (sym E.leads) ∙ ap gone (sym (iterate_first f p.0 E.source) ∙ p.2) ∙ E.stays in
      ⊎_elim
      (λ r. (r.0, omega (arith, r.1, p.1), record { passes = λ i h. not-false (gone (iterate f i a)) (r.3 i h); meets = not-true (gone (iterate f r.0 a)) r.2 }))
      (λ none. absurd (true≢false (sym (not-false (gone (iterate f p.0 a)) (none p.0 (omega arith))) ∙ back)))
      (least_below (λ k. not (gone (iterate f k a))) (suc p.0))

  -- one_source, where the first place is not the later one
  earlier : (a b i j : ℕ) → Entry n f gone a → Entry n f gone b → i ≤ j → ((l : ℕ) → l < j → gone (iterate f l b) ≡ true)
      → iterate f i a ≡ iterate f j b → (i ≡ j) × (a ≡ b)
  earlier a b i j E F le r e = go (j - i) refl
    where
      on : (d : ℕ) → j - i ≡ d → a ≡ iterate f d b
      on d q =
          iterate_inj P i a (iterate f d b) (entry_inside a E) (iterate_stays P d b (entry_inside b F))
          (e ∙ iterate_split f j d i b (omega arith))

      go : (d : ℕ) → j - i ≡ d → (i ≡ j) × (a ≡ b)
      go zero q = (omega arith, on zero q ∙ iterate_zero f b)
      go (suc d) q =
          let s : E.source ≡ iterate f d b = P.inj E.source (iterate f d b) E.inside (iterate_stays P d b (entry_inside b F))
          (E.leads ∙ on (suc d) q ∙ iterate_suc f d b) in
          absurd (true≢false (sym (r d (omega arith)) ∙ ap gone (sym s) ∙ E.stays))

  -- a number lies on one run only, at one place; what is met counts as the run's last
  pub one_source : (a b k l i j : ℕ) → Entry n f gone a → Entry n f gone b → Run f gone a k → Run f gone b l → i ≤ k → j ≤ l
      → iterate f i a ≡ iterate f j b → (i ≡ j) × (a ≡ b)
  one_source a b k l i j E F R S hi hj e =
      ⊎_elim
      (λ t. earlier a b i j E F (let g = ltb-true i j t in omega arith) (λ x h. S.passes x (omega arith)) e)
      (λ t. let r = earlier b a j i F E (ltb-false i j t) (λ x h. R.passes x (omega arith)) (sym e) in (sym r.0, sym r.1))
      (both_ways (ltb i j))

  -- back along f from a number of a run to one that stays
  back : (y z : ℕ) → z < n → gone z ≡ false → (m a i : ℕ) → a ≡ iterate f m z → y ≡ iterate f i a → ((l : ℕ) → l ≤ i → gone (iterate f l a) ≡ true) → Passed n f gone y
  unfolding iterate
  back y z lz k zero a i e q r = absurd (true≢false (sym (r 0 zero-le) ∙ ap gone e ∙ k))
  back y z lz k (suc m) a i e q r =
      let p : ℕ = iterate f m z in
      let on : f p ≡ a = sym (iterate_suc f m z) ∙ sym e in
      ⊎_elim (λ t. back y z lz k m p (suc i) refl (q ∙ ap (iterate f i) (sym on)) (longer p on t))
      (λ t. record { first = a; entry = record { source = p; inside = iterate_stays P m z lz; stays = t; leads = on }; place = i; at = q; goes = r })
      (both_ways (gone p))
    where
      longer : (p : ℕ) → f p ≡ a → gone p ≡ true → (l : ℕ) → l ≤ suc i → gone (iterate f l p) ≡ true
      longer p on t zero h = t
      longer p on t (suc l) h = ap (λ x. gone (iterate f l x)) on ∙ r l (omega arith)

  -- what is gone and reaches one that stays lies on a run
  pub passed : (y : ℕ) → Reaches n f gone y → Passed n f gone y
  unfolding iterate orbit
  passed y R =
      let z : ℕ = iterate f R.far y in
      let lz : z < n = iterate_stays P R.far y R.inside in
      let c = period P z lz in
      let w = orbit_in f (suc c.0) z y (cycle_reach P c.0 z R.far y lz R.inside c.2 (Memᴰ.head refl)) in
      back y z lz R.meets w.0 y 0 w.2 refl (λ l h. let e : l ≡ 0 = omega arith in ap (λ x. gone (iterate f x y)) e ∙ R.goes)

  -- its place is before the end of the run
  pub passed_before : {y : ℕ} (Q : Passed n f gone y) (k : ℕ) → Run f gone Q.first k → Q.place < k
  passed_before Q k R =
      ⊎_elim (ltb-true Q.place k) (λ t. absurd (true≢false (sym (Q.goes k (ltb-false Q.place k t)) ∙ R.meets))) (both_ways (ltb Q.place k))

  -- from the i-th of a run it is as far to the one met as the run has left
  pub run_rest : (a k i : ℕ) → Run f gone a k → i ≤ k → gone (iterate f (k - i) (iterate f i a)) ≡ false
  run_rest a k i R h = ap gone (sym (iterate_split f k i (k - i) a (omega arith))) ∙ R.meets

  -- what reaches one that stays does so in fewer than n
  pub reaches_soon : (y : ℕ) → Reaches n f gone y → (j : ℕ) × (j < n) × (gone (iterate f j y) ≡ false)
  reaches_soon y R =
      let Q = passed y R in
      let r = run_after Q.first Q.entry in
      let i = passed_before Q r.0 r.2 in
      (r.0 - Q.place, omega (arith, r.1), ap (λ x. gone (iterate f (r.0 - Q.place) x)) Q.at ∙ run_rest Q.first r.0 Q.place r.2 (omega arith))

-- a list of runs, one for each number of hs: they begin after those that stay, each of these once
pub record AllRuns (n : ℕ) (f : ℕ → ℕ) (gone : ℕ → Bool) (hs : List ℕ) (first count : ℕ → ℕ) : Type 0 where
  pub once : Nodup hs
  pub entry : (h : ℕ) → h ∈ hs → Entry n f gone (first h)
  pub run : (h : ℕ) → h ∈ hs → Run f gone (first h) (count h)
  pub apart : (h k : ℕ) → h ∈ hs → k ∈ hs → first h ≡ first k → h ≡ k
  pub all : (a : ℕ) → Entry n f gone a → (h : ℕ) × (h ∈ hs) × (first h ≡ a)

module _ {n : ℕ} {f : ℕ → ℕ} {gone : ℕ → Bool} {hs : List ℕ} {first count : ℕ → ℕ} (P : Perm n f (λ x. x < n)) (R : AllRuns n f gone hs first count) where
  -- those on the run of h
  abbrev on : ℕ → List ℕ
  on h = orbit f (count h) (first h)

  on_once : Nodup (flat_map on hs)
  on_once =
      flat_map_nodup on hs R.once
      (λ h m.
      let E = R.entry h m in
      orbit_nodup P (count h) (first h) (entry_inside P (first h) E)
      (λ i lt e. let r = one_source P (first h) (first h) (count h) (count h) (suc i) 0 E E (R.run h m) (R.run h m) (omega arith) zero-le (e ∙ sym (iterate_zero f (first h))) in omega (arith, r.0)))
      (λ h k y m m' p p'.
      let r = orbit_in f (count h) (first h) y p in
      let r' = orbit_in f (count k) (first k) y p' in
      R.apart h k m m' (one_source P (first h) (first k) (count h) (count k) r.0 r'.0 (R.entry h m) (R.entry k m') (R.run h m) (R.run k m')
      (omega (arith, r.1)) (omega (arith, r'.1)) (sym r.2 ∙ r'.2)).1)

  on_reaches : (y : ℕ) → y ∈ flat_map on hs → Reaches n f gone y
  on_reaches y m =
      let q = flat_map_in on hs y m in
      let h : ℕ = q.0 in
      let r = orbit_in f (count h) (first h) y q.2 in
      let S = R.run h q.1 in
      record {
        inside = orbit_stays P (count h) (first h) y (entry_inside P (first h) (R.entry h q.1)) q.2;
        goes = ap gone r.2 ∙ S.passes r.0 r.1;
        far = count h - r.0;
        meets = ap (λ x. gone (iterate f (count h - r.0) x)) r.2 ∙ run_rest P (first h) (count h) r.0 S (omega (arith, r.1));
      }

  reaches_on : (y : ℕ) → Reaches n f gone y → y ∈ flat_map on hs
  reaches_on y S =
      let Q = passed P y S in
      let h = R.all Q.first Q.entry in
      let i = passed_before P Q (count h.0) (subst (λ a. Run f gone a (count h.0)) h.2 (R.run h.0 h.1)) in
      in_flat_map on h.1 (Memᴰ.cast (Q.at ∙ ap (iterate f Q.place) (sym h.2)) (in_orbit f (count h.0) Q.place (first h.0) i))

  -- the runs together count those that are gone and reach one that stays
  pub runs_count : (ys : List ℕ) → Nodup ys → ((y : ℕ) → y ∈ ys → Reaches n f gone y) → ((y : ℕ) → Reaches n f gone y → y ∈ ys) → sum_of count hs ≡ length ys
  runs_count ys nd only all =
      sum_same count (λ h. length (on h)) hs (λ h m. sym (length_orbit f (count h) (first h)))
      ∙ sym (flat_map_length on hs)
      ∙ same_length (flat_map on hs) ys on_once nd (λ y m. all y (on_reaches y m)) (λ y m. reaches_on y (only y m))
