-- Chains of slots: followed, turned, and with a slot's next one changed.
use Rattle.std.specs.Prelude.{ℕ, zero, suc, ◌≤◌, ◌≡◌, refl, length, get_or, set, take, drop}
use Rattle.std.proofs.Common.{arith, sym, ap, ap₂, subst, ◌∙◌, ⊎_elim, take-append-drop, get_or-set_other}
use mathlib.Core.List.Memᴰ
use mathlib.Core.List.{List, [], ◌∷◌, ◌++◌, map, head-eq_of_cons-eq, tail-eq_of_cons-eq}
use Rattle.lists.specs.Lists.{◌∈◌, Nodup, times}
use Rattle.lists.specs.Membership.{in_or_out, times_append, times_out, times_once, once_nodup}
use Rattle.lists.specs.Members.{map_append}
use Rattle.std.proofs.lemmas.List.{take-map, drop-map}
use Rattle.links.specs.Tables.{follow, Chain}

pub length_follow : (t : List ℕ) (x n : ℕ) → length (follow t x n) ≡ n
unfolding follow
length_follow t x zero = refl
length_follow t x (suc n) = ap suc (length_follow t (get_or t x 0) n)

-- a chain is what is found by following it
pub chain_follow : (t : List ℕ) (x y : ℕ) (l : List ℕ) → Chain t x l y → follow t x (length l) ≡ l
unfolding follow
chain_follow t x y [] c = refl
chain_follow t x y (s ∷ l) c = ap₂ (λ z r. z ∷ r) c.0 (ap (λ z. follow t (get_or t z 0) (length l)) c.0 ∙ chain_follow t (get_or t s 0) y l c.1)

chain_split : (t l r : List ℕ) (x z : ℕ) → Chain t x (l ++ r) z → (y : ℕ) × Chain t x l y × Chain t y r z
chain_split t [] r x z c = (x, refl, c)
chain_split t (s ∷ l) r x z c = let q = chain_split t l r (get_or t s 0) z c.1 in (q.0, (c.0, q.1), q.2)

chain_append : (t l r : List ℕ) (x y z : ℕ) → Chain t x l y → Chain t y r z → Chain t x (l ++ r) z
chain_append t [] r x y z c d = subst (λ w. Chain t w r z) (sym c) d
chain_append t (s ∷ l) r x y z c d = (c.0, chain_append t l r (get_or t s 0) y z c.1 d)

-- a chain that leads back to its start does so from any of its slots
pub chain_turned : (t l : List ℕ) (i x : ℕ) → Chain t x l x → (y : ℕ) × Chain t y (drop i l ++ take i l) y
chain_turned t l i x c =
    let q = chain_split t (take i l) (drop i l) x x (subst (λ w. Chain t x w x) (sym (take-append-drop i l)) c) in
    (q.0, chain_append t (drop i l) (take i l) q.0 x q.0 q.2 q.1)

-- the slot after one that is not in the chain is of no matter
pub chain_other : (t l : List ℕ) (p v x y : ℕ) → (p ∈ l → ⊥) → Chain t x l y → Chain (set t p v) x l y
chain_other t [] p v x y out c = c
chain_other t (s ∷ l) p v x y out c = (
  c.0,
  subst (λ z. Chain (set t p v) z l y) (sym (get_or-set_other t p s v 0 (λ (e : s ≡ p). out (Memᴰ.head (sym e)))))
      (chain_other t l p v (get_or t s 0) y (λ m. out (Memᴰ.tail m)) c.1),
)

-- MEMBERS

nodup_times : (x : ℕ) (l : List ℕ) → Nodup l → times x l ≤ 1
nodup_times x l n = ⊎_elim (λ m. omega (arith, times_once x l n m)) (λ m. omega (arith, times_out x l m)) (in_or_out x l)

-- a turned list has no member twice where the list has none
pub nodup_turned : (i : ℕ) (l : List ℕ) → Nodup l → Nodup (drop i l ++ take i l)
nodup_turned i l n =
    once_nodup (drop i l ++ take i l)
    (λ x.
    let e = ap (times x) (take-append-drop i l) in
    omega (arith, times_append x (drop i l) (take i l), times_append x (take i l) (drop i l), nodup_times x l n))

-- the images of a turned list
pub map_turned : {A B : Type 0} (f : A → B) (i : ℕ) (l : List A) → map f (drop i l ++ take i l) ≡ drop i (map f l) ++ take i (map f l)
map_turned f i l = map_append f (drop i l) (take i l) ∙ (λ k. sym (drop-map f i l) k ++ sym (take-map f i l) k)

-- what the first two of some images are images of
pub record Front {A B : Type 0} (f : A → B) (l : List A) (x y : B) (rest : List B) : Type 0 where
  pub first : A
  pub second : A
  pub others : List A
  pub shape : l ≡ first ∷ second ∷ others
  pub is_first : f first ≡ x
  pub is_second : f second ≡ y
  pub are_others : map f others ≡ rest

pub front : {A B : Type 0} (f : A → B) (l : List A) (x y : B) (rest : List B) → map f l ≡ x ∷ y ∷ rest → Front f l x y rest
front f [] x y rest e = absurd (let z : ◌≡◌ {A = ℕ} 0 (suc (suc (length rest))) = ap length e in omega arith)
front f (p ∷ []) x y rest e = absurd (let z : ◌≡◌ {A = ℕ} 1 (suc (suc (length rest))) = ap length e in omega arith)
front f (p ∷ q ∷ r) x y rest e = record {
  first = p;
  second = q;
  others = r;
  shape = refl;
  is_first = head-eq_of_cons-eq e;
  is_second = head-eq_of_cons-eq (tail-eq_of_cons-eq e);
  are_others = tail-eq_of_cons-eq (tail-eq_of_cons-eq e);
}
