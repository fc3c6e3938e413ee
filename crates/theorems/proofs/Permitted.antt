-- What permitted fields and positions of job records give.
use Rattle.std.specs.Prelude.{ℕ, suc, ◌/◌, ◌≤◌, ◌<◌, ◌≡◌, refl, Bool, true, ◌&&◌, cond, List, [], ◌∷◌, length, eqb, ltb}
use Rattle.std.specs.Prelude.{leb}
use Rattle.std.proofs.Common.{arith, sym, ap, ◌∙◌, subst, inl, inr, ⊎_elim, eqb-true, ltb-true, leb-true}
use mathlib.Core.List.Memᴰ
use Rattle.lists.specs.Lists.{◌∈◌}
use Rattle.lists.specs.Tests.{both_ways, and_both}
use Rattle.rules.specs.declared.Edge.{Edge}
use Rattle.rules.specs.declared.Item.{Item}
use Rattle.rules.specs.Job.{unset, items_of}
use Rattle.rules.specs.Kinds.{in_turn, ends_permitted, items_permitted}
use Rattle.theorems.specs.Sound.{EndsExist}

-- a loop's fields make half as many items
pub items_of_length : (x : List ℕ) → length (items_of x) ≡ length x / 2
unfolding items_of
items_of_length [] = refl
items_of_length (e ∷ []) = refl
items_of_length (e ∷ s ∷ rest) = let ih = items_of_length rest in omega arith

-- permitted items have edges that exist
pub items_exist : (n : ℕ) (x : List ℕ) → items_permitted n x ≡ true → (i : Item) → i ∈ items_of x → i.edge < n
unfolding items_permitted items_of
items_exist n [] e i m = absurd (Memᴰ.not-nil m)
items_exist n (a ∷ []) e i m = absurd (Memᴰ.not-nil m)
items_exist n (a ∷ s ∷ rest) e i m =
    let p = and_both (ltb a n) (leb s 1 && items_permitted n rest) e in
    let q = and_both (leb s 1) (items_permitted n rest) p.1 in
    ⊎_elim (λ h. subst (λ (y : Item). y.edge < n) (sym h) (ltb-true a n p.0)) (λ h. items_exist n rest q.1 i h) (Memᴰ.cases_cons m)

-- permitted ends exist
pub ends_exist : (n : ℕ) (e : Edge) → ends_permitted n e.start e.end ≡ true → EndsExist n e
unfolding ends_permitted
ends_exist n e p =
    ⊎_elim
    (λ t. inl (eqb-true e.start unset t, eqb-true e.end unset (sym (ap (λ (b : Bool). cond b (eqb e.end unset) both) t) ∙ p)))
    (λ t.
    let q = and_both (ltb e.start n) (ltb e.end n) (sym (ap (λ (b : Bool). cond b (eqb e.end unset) both) t) ∙ p) in
    inr (ltb-true e.start n q.0, ltb-true e.end n q.1))
    (both_ways (eqb e.start unset))
  where
    both : Bool
    both = ltb e.start n && ltb e.end n

-- and they exist among more vertices
pub ends_more : (n : ℕ) (e : Edge) → EndsExist n e → EndsExist (suc n) e
ends_more n e (inl r) = inl r
ends_more n e (inr r) = inr (omega (arith, r.0), omega (arith, r.1))

-- a record in its turn comes after Head and not after a later part
pub in_turn_lem : (reached part : ℕ) → in_turn reached part ≡ true → (0 < reached) × (reached ≤ part)
in_turn_lem reached part e = let p = and_both (ltb 0 reached) (leb reached part) e in (ltb-true 0 reached p.0, leb-true reached part p.1)
