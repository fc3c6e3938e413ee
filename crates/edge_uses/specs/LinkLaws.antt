-- One use more on the chains, and what is on the chain of an edge.
use Rattle.std.specs.Prelude.{ℕ, zero, suc, ◌+◌, ◌<◌, ◌≤◌, ◌≡◌, Bool, true, false, cond, length, get_or, set, take, replicate, eqb, ltb}
use Rattle.std.proofs.Common.{add-one, arith, sym, ap, ◌∙◌, subst, ⊎_elim, length-set, get_or-set_same, get_or-set_other, take-suc, take-suc-set, take_all, length-take-le}
use borrow.Author.Tests.{eq-eqb, ne_eqb, ltb-true, ltb-false}
use mathlib.Core.List.{List, [], ◌∷◌, ◌++◌, reverse as backwards, reverse-append, append-nil}
use Rattle.std.proofs.lemmas.List.{length-reverse}
use Rattle.std.proofs.Math.ListN.{get_or-eq_default}
use Rattle.std.proofs.Math.Seq.{set_out}
use Rattle.lists.specs.Lists.{positions}
use Rattle.lists.specs.Members.{positions_length, keep_length}
use Rattle.lists.specs.Tests.{both_ways, equal_or_not}
use Rattle.lists.specs.Tables.{set_each, get_or_snoc_before, get_or_snoc_last, length_snoc}
use Rattle.lists.specs.Constants.{get_or_constant}
use Rattle.lists.specs.ListEnds.{positions_append}
use Rattle.rules.specs.declared.Use.{Use}
use Rattle.rules.specs.Read.{no_use, use_at}
use Rattle.rules.specs.Pair.{on_edge, uses_of_edge}
use Rattle.fields.specs.Chains.{chain, next_in, Falling, chain_end, chain_on, chain_same}
use Rattle.edge_uses.specs.Links.{uses_on, Linked}

-- no use, empty chains
pub linked_none : (firsts : List ℕ) → firsts ≡ replicate (length firsts) 0 → Linked [] firsts []
unfolding positions
linked_none firsts q =
    let zeros : (e : ℕ) → get_or firsts e 0 ≡ 0 = λ e. ap (λ l. get_or l e 0) q ∙ get_or_constant (length firsts) zero e in
    record {
      falling = λ k. omega arith;
      heads = λ e. omega (arith, zeros e);
      chains = λ e h. ap (chain (next_in [])) (zeros e) ∙ chain_end (next_in []);
    }

-- the uses of an edge after one use more
more_uses : (us : List Use) (u : Use) (e : ℕ) (b : Bool) → eqb u.edge e ≡ b → uses_of_edge (us ++ (u ∷ [])) e ≡ uses_of_edge us e ++ cond b (length us ∷ []) []
unfolding positions
more_uses us u e b q =
    let z : 0 + length us ≡ length us = omega arith in
    positions_append (on_edge e) 0 us (u ∷ []) ∙ (λ i. positions (on_edge e) 0 us ++ cond (q i) (z i ∷ []) [])

more_on : (us : List Use) (u : Use) (e : ℕ) → e ≡ u.edge → backwards (uses_of_edge (us ++ (u ∷ [])) e) ≡ length us ∷ backwards (uses_of_edge us e)
more_on us u e q = ap backwards (more_uses us u e true (eq-eqb u.edge e (sym q))) ∙ reverse-append (uses_of_edge us e) (length us ∷ [])

more_off : (us : List Use) (u : Use) (e : ℕ) → (e ≡ u.edge → ⊥) → backwards (uses_of_edge (us ++ (u ∷ [])) e) ≡ backwards (uses_of_edge us e)
more_off us u e q = ap backwards (more_uses us u e false (ne_eqb u.edge e (λ r. q (sym r))) ∙ append-nil (uses_of_edge us e))

-- one use more, in front of the chain of its edge
module _ (us : List Use) (firsts nexts : List ℕ) (u : Use) (long : length nexts ≡ length us) (l : Linked us firsts nexts) where
  abbrev head : ℕ
  head = get_or firsts u.edge 0

  abbrev firsts' : List ℕ
  firsts' = set firsts u.edge (suc (length us))

  abbrev nexts' : List ℕ
  nexts' = nexts ++ (head ∷ [])

  before : (k : ℕ) → k < length us → next_in nexts k ≡ next_in nexts' k
  before k h = sym (get_or_snoc_before nexts head 0 k (omega arith))

  last : next_in nexts' (length us) ≡ head
  last = ap (next_in nexts') (sym long) ∙ get_or_snoc_last nexts head 0

  falls : Falling (next_in nexts')
  falls k =
      ⊎_elim
      (λ t. omega (arith, before k (ltb-true k (length us) t), l.falling k))
      (λ t. ⊎_elim
      (λ q. omega (arith, ap (next_in nexts') q.0, last, l.heads u.edge))
      (λ q. omega (arith, get_or-eq_default nexts' 0 {n = k} (omega (arith, length_snoc nexts head, ltb-false k (length us) t, q.0))))
      (equal_or_not k (length us)))
      (both_ways (ltb k (length us)))

  -- the chain of an edge that has no more uses
  kept : (e : ℕ) → uses_on firsts nexts e ≡ chain (next_in nexts') (get_or firsts e 0)
  kept e = chain_same (next_in nexts) (next_in nexts') l.falling (get_or firsts e 0) (λ k h. before k (omega (arith, l.heads e)))

  entry : (e : ℕ) → get_or firsts' e 0 ≤ suc (length us)
  entry e =
      ⊎_elim
      (λ t. set_each (λ j x. x ≤ suc (length us)) firsts u.edge (suc (length us)) 0 (ltb-true u.edge (length firsts) t) (omega arith) e (λ n. omega (arith, l.heads e)))
      (λ t. omega (arith, ap (λ (fs : List ℕ). get_or fs e 0) (set_out firsts u.edge (suc (length us)) (ltb-false u.edge (length firsts) t)), l.heads e))
      (both_ways (ltb u.edge (length firsts)))

  on : (e : ℕ) → e ≡ u.edge → e < length firsts → uses_on firsts' nexts' e ≡ backwards (uses_of_edge (us ++ (u ∷ [])) e)
  on e q h =
      ap (chain (next_in nexts')) (ap (λ k. get_or (set firsts k (suc (length us))) e 0) (sym q) ∙ get_or-set_same firsts e (suc (length us)) 0 h)
      ∙ chain_on (next_in nexts') falls (length us)
      ∙ ap {B = List ℕ} (λ r. length us ∷ r) (ap (chain (next_in nexts')) (last ∙ ap (λ k. get_or firsts k 0) (sym q)) ∙ sym (kept e) ∙ l.chains e h)
      ∙ sym (more_on us u e q)

  off : (e : ℕ) → (e ≡ u.edge → ⊥) → e < length firsts → uses_on firsts' nexts' e ≡ backwards (uses_of_edge (us ++ (u ∷ [])) e)
  off e q h =
      ap (chain (next_in nexts')) (get_or-set_other firsts u.edge e (suc (length us)) 0 q)
      ∙ sym (kept e) ∙ l.chains e h ∙ sym (more_off us u e q)

  linked_more : Linked (us ++ (u ∷ [])) firsts' nexts'
  linked_more = record {
    falling = falls;
    heads = λ e.
        let n : length (us ++ (u ∷ [])) ≡ suc (length us) = length_snoc us u in
        omega (arith, entry e);
    chains = λ e h.
        let lt : e < length firsts = omega (arith, length-set firsts u.edge (suc (length us))) in
        ⊎_elim (λ q. on e q.0 lt) (λ q. off e q.0 lt) (equal_or_not e u.edge);
  }

-- the first h uses are on the chains: so is use h, once it is stored
pub linked_step : (us : List Use) (firsts nexts firsts' nexts' : List ℕ) (h e v : ℕ) → Linked (take h us) firsts (take h nexts) → length nexts ≡ length us → h < length nexts
    → e ≡ (use_at us h).edge → v ≡ get_or firsts e 0 → nexts' ≡ set nexts h v → firsts' ≡ set firsts e (h + 1) → Linked (take (h + 1) us) firsts' (take (h + 1) nexts')
linked_step us firsts nexts firsts' nexts' h e v l long lt q r x y =
    let u : Use = use_at us h in
    let n : length (take h us) ≡ h = length-take-le h us (omega arith) in
    let m : length (take h nexts) ≡ h = length-take-le h nexts (omega arith) in
    let a : take h us ++ (u ∷ []) ≡ take (h + 1) us = sym (ap (λ k. take k us) (add-one h) ∙ take-suc us h no_use (omega arith)) in
    let b : set firsts u.edge (suc (length (take h us))) ≡ firsts' = (λ i. set firsts (sym q i) ((ap suc n ∙ sym (add-one h)) i)) ∙ sym y in
    let entry : get_or firsts u.edge 0 ≡ v = ap (λ k. get_or firsts k 0) (sym q) ∙ sym r in
    let d : take h nexts ++ (get_or firsts u.edge 0 ∷ []) ≡ take (h + 1) nexts' =
    ap (λ k. take h nexts ++ (k ∷ [])) entry ∙ sym (take-suc-set nexts h v lt) ∙ (λ i. take (sym (add-one h) i) (sym x i)) in
    subst (λ ns. Linked (take (h + 1) us) firsts' ns) d
    (subst (λ fs. Linked (take (h + 1) us) fs (take h nexts ++ (get_or firsts u.edge 0 ∷ []))) b
    (subst (λ (xs : List Use). Linked xs (set firsts u.edge (suc (length (take h us)))) (take h nexts ++ (get_or firsts u.edge 0 ∷ []))) a
    (linked_more (take h us) firsts (take h nexts) u (m ∙ sym n) l)))

-- all uses are on the chains
pub linked_all : (us : List Use) (firsts nexts : List ℕ) (h : ℕ) → Linked (take h us) firsts (take h nexts) → length nexts ≡ length us → length nexts ≤ h → Linked us firsts nexts
linked_all us firsts nexts h l long le =
    subst (λ ns. Linked us firsts ns) (take_all h nexts le)
    (subst (λ (xs : List Use). Linked xs firsts (take h nexts)) (take_all h us (omega arith)) l)

-- an edge has no more uses than there are
pub uses_few : (us : List Use) (e : ℕ) → length (uses_of_edge us e) ≤ length us
uses_few us e = omega (arith, positions_length (on_edge e) 0 us, keep_length (on_edge e) us)

pub ruleset counts = (length-reverse, uses_few)
