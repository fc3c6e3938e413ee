-- What a sweep's change is: at a corner among the fans with exactly two active edge ends, a ring or a join.
use Rattle.std.specs.Prelude.{◌≡◌, refl, Bool, true, false, cond, List, [], ◌∷◌, ℕ, zero, suc, ◌≤◌, length, get_or}
use Rattle.std.specs.Prelude.{eqb}
use Rattle.std.proofs.Common.{sym, ap, ◌∙◌, subst, inl, inr, ⊎_elim, arith, eqb-true, eq-eqb, ne_eqb}
use mathlib.Core.List.Memᴰ
use Rattle.std.proofs.lemmas.Bool.{eqb-false}
use Rattle.lists.specs.Lists.{◌∈◌}
use Rattle.rules.specs.Outcome.{Outcome, Ok, ◌>>=◌, Err}
use Rattle.rules.proofs.OutcomeLaws.{refuse_ok, ok_one, bind_ok, cond_ok}
use Rattle.rules.specs.Job.{Answer}
use Rattle.rules.specs.Fans.{fan_point}
use Rattle.rules.specs.Join.{Joining, edge_data_at, ends_at, join_at, ring_at, not_singular, may_join, Tried, unchanged}
use Rattle.rules.specs.Join.{changed, changed_if, at_corner, or_else, sweep, after_sweep, maximal_edges}
use Rattle.theorems.specs.Demand3.{Change, corner_if, changed_corner, is_ring}
use Rattle.theorems.proofs.Ends.{ends_ascend}
use Rattle.theorems.specs.Changes.{AsRing, AsJoin, Made}

unchanged_changed : {s : Joining} → unchanged ≡ changed s → ⊥
unchanged_changed e = let z : ◌≡◌ {A = ℕ} 0 1 = cc in omega arith

changed_one : {s t : Joining} → changed s ≡ changed t → s ≡ t
changed_one e = cc

-- a change that a question allows is that change
changed_if_lem : (question : Outcome Bool) (s t : Joining) → changed_if question s ≡ Ok (changed t) → t ≡ s
changed_if_lem question s t e =
    let r = bind_ok question (λ yes. Ok (cond yes (changed s) unchanged)) (changed t) e in
    go r.0 (ok_one r.2)
  where
    go : (yes : Bool) → cond yes (changed s) unchanged ≡ changed t → t ≡ s
    go true q = sym (changed_one q)
    go false q = absurd (unchanged_changed q)

corner_made : (answers : List Answer) (point : ℕ) (s : Joining) (v : ℕ) (t : Joining) (l : List ℕ) → ends_at s.edges v ≡ l
    → at_corner answers point s v l ≡ Ok (changed t) → Made s v t
unfolding at_corner
corner_made answers point s v t [] i e = absurd (unchanged_changed (ok_one e))
corner_made answers point s v t (a ∷ []) i e = absurd (unchanged_changed (ok_one e))
corner_made answers point s v t (a ∷ b ∷ []) i e =
    let first = edge_data_at s.edges a in
    let second = edge_data_at s.edges b in
    let ring = not_singular answers first point in
    let join = may_join answers first second point in
    ⊎_elim
    (λ w.
    let q : a ≡ b = eqb-true a b w.0 in
    inl (record { edge = a; ends = i ∙ ap (λ x. a ∷ x ∷ []) (sym q); after = changed_if_lem ring (ring_at s a) t w.1 }))
    (λ w.
    let q : (a ≡ b → ⊥) = eqb-false a b w.0 in
    let le : a ≤ b = ends_ascend 0 s.edges v a b [] i in
    inr (record { first = a; second = b; ends = i; lower = omega arith; after = changed_if_lem join (join_at s v a b) t w.1 }))
    (cond_ok (eqb a b) (changed_if ring (ring_at s a)) (changed_if join (join_at s v a b)) (changed t) e)
corner_made answers point s v t (a ∷ b ∷ c ∷ more) i e = absurd (unchanged_changed (ok_one e))

-- a corner without exactly two ends is left unchanged
pub corner_still : (answers : List Answer) (point : ℕ) (s : Joining) (v : ℕ) (l : List ℕ) → eqb (length l) 2 ≡ false → at_corner answers point s v l ≡ Ok unchanged
unfolding at_corner
corner_still answers point s v [] h = refl
corner_still answers point s v (a ∷ []) h = refl
corner_still answers point s v (a ∷ b ∷ []) h = absurd (eqb-false 2 2 h refl)
corner_still answers point s v (a ∷ b ∷ c ∷ more) h = refl

-- a sweep that makes a change makes it at one corner, among the fans
pub sweep_made : (answers : List Answer) (starts : List ℕ) (s t : Joining) (names : List ℕ) → sweep answers starts s names ≡ Ok (changed t)
    → (v : ℕ) × (changed_corner answers starts s names ≡ v ∷ []) × (v ∈ names) × Made s v t
unfolding sweep changed_corner
sweep_made answers starts s t [] e = absurd (unchanged_changed (ok_one e))
sweep_made answers starts s t (v ∷ vs) e = go (tried v) refl e (λ q. sweep_made answers starts s t vs q)
  where
    tried : ℕ → Outcome Tried
    tried v = at_corner answers (fan_point starts v) s v (ends_at s.edges v)

    go : (o : Outcome Tried) → tried v ≡ o → (o >>= λ u. or_else u (sweep answers starts s vs)) ≡ Ok (changed t)
        → (sweep answers starts s vs ≡ Ok (changed t) → (x : ℕ) × (changed_corner answers starts s vs ≡ x ∷ []) × (x ∈ vs) × Made s x t)
        → (x : ℕ) × (corner_if (tried v) v (changed_corner answers starts s vs) ≡ x ∷ []) × (x ∈ (v ∷ vs)) × Made s x t
    go (Ok unchanged) q z ih =
        let r = ih z in
        (r.0, ap (λ o. corner_if o v (changed_corner answers starts s vs)) q ∙ r.1, Memᴰ.tail r.2, r.3)
    go (Ok (changed u)) q z ih =
        (v, ap (λ o. corner_if o v (changed_corner answers starts s vs)) q, Memᴰ.head refl, corner_made answers (fan_point starts v) s v t (ends_at s.edges v) refl (q ∙ z))
    go (Err r) q z ih = absurd (refuse_ok z)

-- what a change is
pub change_made : (answers : List Answer) (starts : List ℕ) (s t : Joining) (names : List ℕ) (v : ℕ)
    → changed_corner answers starts s names ≡ v ∷ [] → sweep answers starts s names ≡ Ok (changed t) → (v ∈ names) × Made s v t
change_made answers starts s t names v c e =
    let r = sweep_made answers starts s t names e in
    let same : r.0 ≡ v = ap (λ l. get_or l 0 0) (sym r.1 ∙ c) in
    (subst (λ x. x ∈ names) same r.2, subst (λ x. Made s x t) same r.3)

-- the test tells rings from joins
pub ring_is : (c : Change) → AsRing c.before c.corner c.after → is_ring c ≡ true
ring_is c r = ap (λ l. eqb (get_or l 0 0) (get_or l 1 0)) r.ends ∙ eq-eqb r.edge r.edge refl

pub join_is : (c : Change) → AsJoin c.before c.corner c.after → is_ring c ≡ false
join_is c r = ap (λ l. eqb (get_or l 0 0) (get_or l 1 0)) r.ends ∙ ne_eqb r.first r.second (λ (e : r.first ≡ r.second). omega (arith, r.lower))

-- what every change at a fan keeps, joining keeps
pub joining_keeps : (answers : List Answer) (starts names : List ℕ) (P : Joining → Type 0) → ((s t : Joining) (v : ℕ) → v ∈ names → Made s v t → P s → P t)
    → (most : ℕ) (s t : Joining) → maximal_edges answers starts names most s ≡ Ok t → P s → P t
unfolding maximal_edges
joining_keeps answers starts names P keeps zero s t e h = subst P (ok_one e) h
joining_keeps answers starts names P keeps (suc most) s t e h =
    let r = bind_ok (sweep answers starts s names) (λ u. after_sweep u s (maximal_edges answers starts names most)) t e in
    go r.0 r.1 r.2 (λ u. joining_keeps answers starts names P keeps most u t)
  where
    go : (u : Tried) → sweep answers starts s names ≡ Ok u → after_sweep u s (maximal_edges answers starts names most) ≡ Ok t
        → ((x : Joining) → maximal_edges answers starts names most x ≡ Ok t → P x → P t) → P t
    go unchanged q z later = subst P (ok_one z) h
    go (changed x) q z later = let m = sweep_made answers starts s x names q in later x z (keeps s x m.0 m.2 m.3 h)
