-- The active edge ends at a fan: how many there are, of which edges, in which order.
use Rattle.std.specs.Prelude.{◌≡◌, refl, ◌⊎◌, Bool, true, false, ◌&&◌, cond, ℕ, zero, suc, ◌+◌, ◌≤◌, ◌<◌, length}
use Rattle.std.specs.Prelude.{get_or, eqb}
use Rattle.std.proofs.Common.{sym, ap, ◌∙◌, subst, inl, inr, ⊎_elim, arith, eq-eqb, ne_eqb}
use mathlib.Core.List.Memᴰ
use mathlib.Core.List.{List, [], ◌∷◌, tail-eq_of_cons-eq}
use Rattle.std.proofs.Math.Decide.{dec_lt}
use Rattle.std.proofs.Math.ListN.{get_or-eq_default}
use Rattle.lists.specs.Lists.{◌∈◌, times, sum_of}
use Rattle.lists.specs.Tests.{both_ways, equal_or_not}
use Rattle.lists.specs.Membership.{times_nil, times_hit, times_miss, times_out}
use Rattle.rules.specs.declared.EdgeData.{EdgeData}
use Rattle.rules.specs.Join.{no_edge_data, edge_data_at, one_if, ends_from, ends_at}
use Rattle.theorems.specs.Ends.{one_at, ends_one, TwoEdges, OneEdge}

pub one_at_same : (a x : ℕ) → a ≡ x → one_at a x ≡ 1
unfolding one_at
one_at_same a x e = rw (eq-eqb a x e)

pub one_at_other : (a x : ℕ) → (a ≡ x → ⊥) → one_at a x ≡ 0
unfolding one_at
one_at_other a x h = rw (ne_eqb a x h)

pub one_at_cases : (a x : ℕ) → ((a ≡ x) × (one_at a x ≡ 1)) ⊎ ((a ≡ x → ⊥) × (one_at a x ≡ 0))
one_at_cases a x = ⊎_elim (λ w. inl (w.0, one_at_same a x w.0)) (λ w. inr (w.0, one_at_other a x w.0)) (equal_or_not a x)

-- ONE EDGE

pub active_ends : (e : EdgeData) (v : ℕ) → e.active ≡ true → ends_one v e ≡ one_at e.start v + one_at e.end v
unfolding ends_one one_at
active_ends e v h = rw h

pub idle_ends : (e : EdgeData) (v : ℕ) → e.active ≡ false → ends_one v e ≡ 0
unfolding ends_one
idle_ends e v h = rw h

-- an edge that ends at a fan is active
pub ends_active : (e : EdgeData) (v : ℕ) → 1 ≤ ends_one v e → e.active ≡ true
ends_active e v h = ⊎_elim (λ t. t) (λ t. absurd (let z = idle_ends e v t in omega arith)) (both_ways e.active)

-- an edge with one end at a fan either starts or ends there
pub one_end : (e : EdgeData) (v : ℕ) → ends_one v e ≡ 1 → ((e.start ≡ v) × (e.end ≡ v → ⊥)) ⊎ ((e.start ≡ v → ⊥) × (e.end ≡ v))
one_end e v h =
    let z = active_ends e v (ends_active e v (omega arith)) in
    ⊎_elim
    (λ p. ⊎_elim (λ q. absurd (omega (arith, p.1, q.1))) (λ q. inl (p.0, q.0)) (one_at_cases e.end v))
    (λ p. ⊎_elim (λ q. inr (p.0, q.0)) (λ q. absurd (omega (arith, p.1, q.1))) (one_at_cases e.end v))
    (one_at_cases e.start v)

-- an edge with two ends at a fan starts and ends there
pub two_ends_lem : (e : EdgeData) (v : ℕ) → ends_one v e ≡ 2 → (e.start ≡ v) × (e.end ≡ v)
two_ends_lem e v h =
    let z = active_ends e v (ends_active e v (omega arith)) in
    ⊎_elim
    (λ p. ⊎_elim (λ q. (p.0, q.0)) (λ q. absurd (omega (arith, p.1, q.1))) (one_at_cases e.end v))
    (λ p. ⊎_elim (λ q. absurd (omega (arith, p.1, q.1))) (λ q. absurd (omega (arith, p.1, q.1))) (one_at_cases e.end v))
    (one_at_cases e.start v)

-- ALL EDGES

one_if_length : (t : Bool) (k : ℕ) (l : List ℕ) → length (one_if t k l) ≡ cond t 1 0 + length l
one_if_length true k l = omega arith
one_if_length false k l = omega arith

one_if_in : (t : Bool) (k : ℕ) (l : List ℕ) (x : ℕ) → x ∈ one_if t k l → (x ≡ k) ⊎ (x ∈ l)
one_if_in true k l x m = Memᴰ.cases_cons m
one_if_in false k l x m = inr m

one_if_hit : (t : Bool) (k : ℕ) (l : List ℕ) (x : ℕ) → x ≡ k → times x (one_if t k l) ≡ cond t 1 0 + times x l
one_if_hit true k l x e = omega (arith, times_hit x k l e)
one_if_hit false k l x e = omega arith

one_if_miss : (t : Bool) (k : ℕ) (l : List ℕ) (x : ℕ) → (x ≡ k → ⊥) → times x (one_if t k l) ≡ times x l
one_if_miss true k l x h = times_miss x k l h
one_if_miss false k l x h = refl

-- the number of ends is summed over the edges
pub ends_sum : (k : ℕ) (es : List EdgeData) (v : ℕ) → length (ends_from k es v) ≡ sum_of (ends_one v) es
unfolding ends_from sum_of ends_one
ends_sum k [] v = refl
ends_sum k (e ∷ es) v =
    let s : Bool = e.active && eqb e.start v in
    let t : Bool = e.active && eqb e.end v in
    let later : List ℕ = ends_from (suc k) es v in
    omega (arith, one_if_length s k (one_if t k later), one_if_length t k later, ends_sum (suc k) es v)

ends_from_lem : (k : ℕ) (es : List EdgeData) (v x : ℕ) → x ∈ ends_from k es v → k ≤ x
unfolding ends_from
ends_from_lem k [] v x m = absurd (Memᴰ.not-nil m)
ends_from_lem k (e ∷ es) v x m =
    let s : Bool = e.active && eqb e.start v in
    let t : Bool = e.active && eqb e.end v in
    let later : List ℕ = ends_from (suc k) es v in
    ⊎_elim (λ i. omega arith) (λ i. ⊎_elim (λ j. omega arith) (λ j. let r = ends_from_lem (suc k) es v x j in omega arith) (one_if_in t k later x i)) (one_if_in s k (one_if t k later) x m)

-- an edge stands among the ends at a fan as often as it ends there
ends_times : (es : List EdgeData) (v k i x : ℕ) → x ≡ k + i → times x (ends_from k es v) ≡ ends_one v (edge_data_at es i)
unfolding ends_from ends_one
ends_times [] v k i x e = times_nil x
ends_times (d ∷ es) v k zero x e =
    let s : Bool = d.active && eqb d.start v in
    let t : Bool = d.active && eqb d.end v in
    let later : List ℕ = ends_from (suc k) es v in
    let here : x ≡ k = omega arith in
    let out = times_out x later (λ m. let r = ends_from_lem (suc k) es v x m in omega arith) in
    omega (arith, one_if_hit s k (one_if t k later) x here, one_if_hit t k later x here)
ends_times (d ∷ es) v k (suc i) x e =
    let s : Bool = d.active && eqb d.start v in
    let t : Bool = d.active && eqb d.end v in
    let later : List ℕ = ends_from (suc k) es v in
    let other : (x ≡ k → ⊥) = λ z. omega arith in
    one_if_miss s k (one_if t k later) x other ∙ one_if_miss t k later x other ∙ ends_times es v (suc k) i x (omega arith)

pub ends_of_lem : (es : List EdgeData) (v : ℕ) (l : List ℕ) → ends_at es v ≡ l → (x : ℕ) → ends_one v (edge_data_at es x) ≡ times x l
ends_of_lem es v l e x = sym (ends_times es v 0 x x (omega arith)) ∙ ap (times x) e

-- the ends stand in the order of their edges
pub ends_ascend : (k : ℕ) (es : List EdgeData) (v a b : ℕ) (l : List ℕ) → ends_from k es v ≡ a ∷ b ∷ l → a ≤ b
unfolding ends_from
ends_ascend k [] v a b l e = absurd (let z : ◌≡◌ {A = ℕ} 0 1 = cc in omega arith)
ends_ascend k (d ∷ es) v a b l e = go (d.active && eqb d.start v) (d.active && eqb d.end v) e (λ q. ends_ascend (suc k) es v a b l q) (λ x m. ends_from_lem (suc k) es v x m)
  where
    go : (s t : Bool) → one_if s k (one_if t k (ends_from (suc k) es v)) ≡ a ∷ b ∷ l → (ends_from (suc k) es v ≡ a ∷ b ∷ l → a ≤ b)
        → ((x : ℕ) → x ∈ ends_from (suc k) es v → suc k ≤ x) → a ≤ b
    go true true q ih low = let x = ap (λ m. get_or m 0 0) q in let y = ap (λ m. get_or m 1 0) q in omega arith
    go true false q ih low =
        let x = ap (λ m. get_or m 0 0) q in
        let y = low b (subst (λ m. b ∈ m) (sym (tail-eq_of_cons-eq q)) (Memᴰ.head refl)) in
        omega arith
    go false true q ih low =
        let x = ap (λ m. get_or m 0 0) q in
        let y = low b (subst (λ m. b ∈ m) (sym (tail-eq_of_cons-eq q)) (Memᴰ.head refl)) in
        omega arith
    go false false q ih low = ih q

-- TWO ENDS

-- an edge that ends at a fan exists
edge_inside : (es : List EdgeData) (v a : ℕ) → 1 ≤ ends_one v (edge_data_at es a) → a < length es
edge_inside es v a h =
    elim (dec_lt a (length es)) [
      | yes k ↦ k
      | no k ↦ absurd (let z = ap (ends_one v) (get_or-eq_default es no_edge_data {n = a} (omega arith)) in let y = idle_ends no_edge_data v refl in omega arith)
    ]

pub two_edges : (es : List EdgeData) (v a b : ℕ) → ends_at es v ≡ a ∷ b ∷ [] → a < b → TwoEdges es v a b
two_edges es v a b e h =
    let at : (x : ℕ) → ends_one v (edge_data_at es x) ≡ times x (a ∷ b ∷ []) = ends_of_lem es v (a ∷ b ∷ []) e in
    let first : ends_one v (edge_data_at es a) ≡ 1 = at a ∙ times_hit a a (b ∷ []) refl ∙ ap suc (times_miss a b [] (λ z. omega arith) ∙ times_nil a) in
    let second : ends_one v (edge_data_at es b) ≡ 1 = at b ∙ times_miss b a (b ∷ []) (λ z. omega arith) ∙ times_hit b b [] refl ∙ ap suc (times_nil b) in
    record {
      lower = h;
      inside = edge_inside es v b (omega arith);
      first_once = first;
      second_once = second;
      others = λ x p q. at x ∙ times_miss x a (b ∷ []) p ∙ times_miss x b [] q ∙ times_nil x;
    }

pub one_edge : (es : List EdgeData) (v a : ℕ) → ends_at es v ≡ a ∷ a ∷ [] → OneEdge es v a
one_edge es v a e =
    let at : (x : ℕ) → ends_one v (edge_data_at es x) ≡ times x (a ∷ a ∷ []) = ends_of_lem es v (a ∷ a ∷ []) e in
    let both : ends_one v (edge_data_at es a) ≡ 2 = at a ∙ times_hit a a (a ∷ []) refl ∙ ap suc (times_hit a a [] refl ∙ ap suc (times_nil a)) in
    record {
      inside = edge_inside es v a (omega arith);
      twice = both;
      others = λ x p. at x ∙ times_miss x a (a ∷ []) p ∙ times_miss x a [] p ∙ times_nil x;
    }
