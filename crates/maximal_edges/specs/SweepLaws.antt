-- The questions at a corner, and the sweep corner by corner.
use Rattle.std.specs.Prelude.{ℕ, zero, suc, ◌<◌, ◌≤◌, ◌≡◌, refl, List, [], ◌∷◌, Bool, true, false, cond, get_or}
use Rattle.std.specs.Prelude.{Option, Some, None, is_some}
use Rattle.std.specs.Result.{IsErrAnd}
use Rattle.std.proofs.Common.{arith, ◌∙◌, ⊎_elim, true≢false, drop_of_length-le, drop-cons, eq-eqb}
use Rattle.std.proofs.Math.Path.{sym, ap, subst}
use Rattle.std.proofs.lemmas.Bool.Decides.{nat_tests}
use Rattle.std.proofs.Math.ListN.{length, drop}
use Rattle.lists.specs.Lists.{◌∈◌}
use Rattle.lists.specs.Tests.{equal_or_not}
use Rattle.lists.specs.Membership.{get_or_in}
use Rattle.lists.specs.KeepCounts.{keep_counts}
use Rattle.rules.specs.declared.EdgeData.{EdgeData}
use Rattle.rules.specs.declared.Refusal.{Refusal}
use Rattle.rules.specs.Outcome.{Outcome, Ok, Err, ◌>>=◌}
use Rattle.rules.proofs.OutcomeLaws.{bind_on, hands_on}
use Rattle.rules.specs.Job.{Answer}
use Rattle.rules.specs.Fans.{fan_point}
use Rattle.rules.specs.Join.{Joining, ends_at, two_ends, Tried, unchanged, at_corner, or_else, sweep}
use Rattle.theorems.proofs.Ends.{ends_ascend}
use Rattle.theorems.proofs.Changes.{corner_still}
use Rattle.maximal_edges.specs.declared.Corner.{Corner}
use Rattle.maximal_edges.specs.declared.Change.{Change}
use Rattle.maximal_edges.specs.declared.Resume.{Resume}
use Rattle.maximal_edges.specs.Joined.{corner_at, Tabled, tried_by, change_at, may_change, try_corner, Real, Still, AllStill, StillBut, next_after, Swept}
use Rattle.maximal_edges.specs.PairLaws.{exactly_two}

-- ONE CORNER

-- the corner of edges a and b, as the rules have it
tried_same : (answers : List Answer) (starts : List ℕ) (es : List EdgeData) (v a b : ℕ) (s : Joining) → s.edges ≡ es
    → (try_corner answers starts es v a b >>= λ k. Ok (tried_by s k)) ≡ at_corner answers (fan_point starts v) s v (a ∷ b ∷ [])
unfolding at_corner
tried_same answers starts es v a b s e =
    (λ i. try_corner answers starts (sym e i) v a b >>= λ k. Ok (tried_by s k)) ∙ grind arith

-- a change is the corner's; where there is none, the answer is no
tried_some : (o : Outcome Bool) (c k : Change) → (o >>= λ yes. Ok (cond yes (Some c) None)) ≡ Ok (Some k) → k ≡ c
tried_some o c k e = grind arith

tried_none : (o : Outcome Bool) (c : Change) → (o >>= λ yes. Ok (cond yes (Some c) None)) ≡ Ok None → o ≡ Ok false
tried_none o c e = grind arith

-- STILL CORNERS

pub next_more : (from : Resume) (i : ℕ) → i < next_after from i
next_more from i = grind (arith, nat_tests)

-- a fan with two ends by the table of ends has those of its lower and its higher edge
pub two_corner : {es : List EdgeData} {corners : List Corner} {names : List ℕ} → Tabled es corners → ((v : ℕ) → v ∈ names → v < length corners)
    → {i v : ℕ} {c : Corner} → i < length names → v ≡ get_or names i 0 → c ≡ corner_at corners v → c.ends ≡ 2 → ends_at es v ≡ c.low ∷ c.high ∷ []
two_corner {names = names} tabled fans {i} {v} h ev ec two =
    let inside = fans v (subst (λ x. x ∈ names) (sym ev) (get_or_in names i 0 h)) in
    let pair = tabled.pairs v inside (sym (tabled.counts v inside) ∙ sym (ap (λ (d : Corner). d.ends) ec) ∙ two) in
    pair ∙ sym (ap (λ (d : Corner). d.low ∷ d.high ∷ []) ec)

-- a fan with other than two ends is still
pub idle_still : (answers : List Answer) (starts : List ℕ) (es : List EdgeData) (v : ℕ) → (length (ends_at es v) ≡ 2 → ⊥) → Still answers starts es v
idle_still answers starts es v other a b e = absurd (other (ap length e))

-- so is a fan that has other than two by the table of ends
pub idle_corner : (answers : List Answer) (starts : List ℕ) {es : List EdgeData} {corners : List Corner} {names : List ℕ}
    → Tabled es corners → ((v : ℕ) → v ∈ names → v < length corners)
    → {i v : ℕ} {c : Corner} → i < length names → v ≡ get_or names i 0 → c ≡ corner_at corners v → (c.ends ≡ 2 → ⊥) → Still answers starts es v
idle_corner answers starts {es} {corners} {names} tabled fans {i} {v} h ev ec other =
    let inside : v < length corners = fans v (subst (λ x. x ∈ names) (sym ev) (get_or_in names i 0 h)) in
    idle_still answers starts es v (λ q. other (ap (λ (d : Corner). d.ends) ec ∙ tabled.counts v inside ∙ q))

-- so is a corner that was tried in vain
pub tried_still : (answers : List Answer) (starts : List ℕ) (es : List EdgeData) (v a b : ℕ) → ends_at es v ≡ a ∷ b ∷ [] → (change : Option Change) → is_some change ≡ false
    → try_corner answers starts es v a b ≡ Ok change → (change ≡ None) × Still answers starts es v
tried_still answers starts es v a b two change none e =
    let gone : change ≡ None = grind arith in
    (gone, λ c d q. grind (arith, tried_none (may_change answers es a b (fan_point starts v)) (change_at v a b) (e ∙ ap Ok gone)))

-- the sweep has come to position i past still corners
pub record Passed (answers : List Answer) (starts names : List ℕ) (es : List EdgeData) (low i : ℕ) : Type 0 where
  pub past : low ≤ i
  pub all : AllStill answers starts names es i

module _ {answers : List Answer} {starts names : List ℕ} {es : List EdgeData} {from : Resume} (known : StillBut answers starts names es from) where
  module _ {i : ℕ} (p : Passed answers starts names es from.low i) where
    -- the fans before the next one to be tried, but the one at i
    pub still_before : (k : ℕ) → k < next_after from i → k < length names → (k ≡ i → ⊥) → Still answers starts es (get_or names k 0)
    still_before k h inside other = grind (arith, nat_tests, p.all k, known.others k, known.low_high, known.high_top)

    -- and all of them, if it is still
    pub passed_one : {v next : ℕ} → v ≡ get_or names i 0 → Still answers starts es v → next ≡ next_after from i → Passed answers starts names es from.low next
    passed_one ev here e = record {
      past = omega (arith, p.past, next_more from i, e);
      all = λ k h inside. grind (arith, still_before k, next_more from i);
    }

-- THE SWEEP

-- corner v with two edges that may not change, in the definition
pair_still : (answers : List Answer) (starts : List ℕ) (s : Joining) (v a b : ℕ) → may_change answers s.edges a b (fan_point starts v) ≡ Ok false
    → at_corner answers (fan_point starts v) s v (a ∷ b ∷ []) ≡ Ok unchanged
pair_still answers starts s v a b e = sym (tried_same answers starts s.edges v a b s refl) ∙ rw e

still_corner : (answers : List Answer) (starts : List ℕ) (es : List EdgeData) (v : ℕ) → Still answers starts es v → (s : Joining) → s.edges ≡ es
    → at_corner answers (fan_point starts v) s v (ends_at es v) ≡ Ok unchanged
still_corner answers starts es v k s q =
    let l : List ℕ = ends_at es v in
    let a : ℕ = get_or l 0 0 in
    let b : ℕ = get_or l 1 0 in
    ⊎_elim
    (λ w.
    let e : l ≡ a ∷ b ∷ [] = exactly_two l w.0 in
    ap (at_corner answers (fan_point starts v) s v) e ∙ pair_still answers starts s v a b (ap (λ d. may_change answers d a b (fan_point starts v)) q ∙ k a b e))
    (λ w. corner_still answers (fan_point starts v) s v l w.1)
    (equal_or_not (length l) 2)

-- it has come to corner i of the list without a change
abbrev pub Reached : List Answer → List ℕ → List EdgeData → List ℕ → ℕ → Type 0
Reached answers starts es names i = (s : Joining) → s.edges ≡ es → sweep answers starts s names ≡ sweep answers starts s (drop i names)

-- a change or a refusal ends the sweep
ends_there : (s : Joining) (r : Outcome (Option Change)) (later : Outcome Tried) → (r ≡ Ok None → ⊥)
    → (r >>= λ k. Ok (tried_by s k)) ≡ ((r >>= λ k. Ok (tried_by s k)) >>= λ t. or_else t later)
ends_there s r later n = grind arith

module _ (answers : List Answer) (starts names : List ℕ) (es : List EdgeData) where
  -- the corner that comes
  here : (i v : ℕ) → Reached answers starts es names i → i < length names → v ≡ get_or names i 0 → (s : Joining) → s.edges ≡ es
      → sweep answers starts s names ≡ (at_corner answers (fan_point starts v) s v (ends_at es v) >>= λ t. or_else t (sweep answers starts s (drop (suc i) names)))
  unfolding sweep
  here i v k h ev s q =
      k s q ∙ ap (sweep answers starts s) (drop-cons names i 0 h ∙ ap (λ x. x ∷ drop (suc i) names) (sym ev))
      ∙ ap (λ l. at_corner answers (fan_point starts v) s v (ends_at l v) >>= λ t. or_else t (sweep answers starts s (drop (suc i) names))) q

  -- still corners are passed over
  reached : (i : ℕ) → i ≤ length names → AllStill answers starts names es i → Reached answers starts es names i
  reached zero h all s q = refl
  reached (suc i) h all s q =
      let v : ℕ = get_or names i 0 in
      here i v (reached i (omega arith) (λ k b. all k (omega arith))) (omega arith) refl s q
      ∙ bind_on (λ t. or_else t (sweep answers starts s (drop (suc i) names))) (still_corner answers starts es v (all i (omega arith) (omega arith)) s q)

module _ {answers : List Answer} {starts names : List ℕ} {es : List EdgeData} where
  -- none changes
  pub swept_none : (from : Resume) {i : ℕ} {change : Option Change} → Passed answers starts names es from.low i → length names ≤ i → change ≡ None
      → Swept answers starts names es from (Ok change)
  unfolding sweep
  swept_none from p h e =
      subst (λ c. Swept answers starts names es from (Ok c)) (sym e)
      (record {
        same = λ s q. sym (reached answers starts names es (length names) (omega arith) (λ k b. p.all k (omega arith)) s q
            ∙ ap (sweep answers starts s) (drop_of_length-le names {i = length names} (omega arith)));
        real = λ k q. absurd (cc);
        past = λ k q. absurd (cc);
        some = λ k q. absurd (cc);
      })

  -- a change or a refusal at position i
  module _ {from : Resume} {i v a b : ℕ} (known : StillBut answers starts names es from) (p : Passed answers starts names es from.low i) (h : i < length names)
      (ev : v ≡ get_or names i 0) (two : ends_at es v ≡ a ∷ b ∷ []) {q : Outcome (Option Change)} (tried : q ≡ try_corner answers starts es v a b) where
    there : v ∈ names
    there = subst (λ x. x ∈ names) (sym ev) (get_or_in names i 0 h)

    is_there : (k : Change) → q ≡ Ok (Some k) → k ≡ change_at v a b
    is_there k e = tried_some (may_change answers es a b (fan_point starts v)) (change_at v a b) k (sym tried ∙ e)

    swept_here : (q ≡ Ok None → ⊥) → Swept answers starts names es from q
    swept_here n = record {
      same = λ s e.
          ends_there s q (sweep answers starts s (drop (suc i) names)) n
          ∙ ap (λ (o : Outcome Tried). o >>= λ t. or_else t (sweep answers starts s (drop (suc i) names)))
          (ap (λ (o : Outcome (Option Change)). o >>= λ k. Ok (tried_by s k)) tried
          ∙ tried_same answers starts es v a b s e ∙ ap (at_corner answers (fan_point starts v) s v) (sym two))
          ∙ sym (here answers starts names es i v (reached answers starts names es i (omega arith) p.all) h ev s e);
      real = λ k e. subst (Real es names) (sym (is_there k e)) (grind (arith, nat_tests, there, ends_ascend 0 es v a b [] two));
      past = λ k e. record {
        at = i;
        inside = h;
        here = grind (arith, is_there k e);
        before = still_before known p;
      };
      some = λ e r. keep_counts (two_ends es) there (eq-eqb (length (ends_at es v)) 2 (ap length two));
    }

    pub swept_changed : {change : Option Change} → q ≡ Ok change → is_some change ≡ true → Swept answers starts names es from (Ok change)
    swept_changed {change} e some =
        subst (Swept answers starts names es from) e
        (swept_here (λ none. let c : change ≡ None = cc in true≢false (sym some ∙ ap is_some c)))

    pub swept_refused : (r : Outcome (Option Change)) {e : Refusal} → q ≡ Err e → IsErrAnd r (λ x. x ≡ e) → Swept answers starts names es from r
    swept_refused r e x = subst (Swept answers starts names es from) (e ∙ sym (hands_on r x)) (swept_here (λ none. absurd (cc)))
