-- Laws of lists turned so that place i comes to the front, and of neighbours in a cycle as members.
use Rattle.std.specs.Prelude.{◌≡◌, refl, ◌⊎◌, Bool, cond, List, [], ◌∷◌, ◌++◌, ℕ, zero, suc, ◌<◌, length, get_or, take, drop}
use Rattle.std.proofs.Common.{sym, ap, ◌∙◌, subst, inl, inr, ⊎_elim, arith, length-append, take-append-drop}
use mathlib.Core.List.Memᴰ
use Rattle.lists.specs.Lists.{◌∈◌, keep, sum_of, Neighbours, neighbours_from, neighbours}
use Rattle.lists.specs.Members.{keep_append, in_map, map_in}
use Rattle.lists.specs.Sums.{keep_sum, sum_map}
use Rattle.lists.specs.Cyclic.{neighbours_here}

-- TURNED LISTS

-- a turned list has as many that pass a test
pub turn_count : {A : Type 0} (p : A → Bool) (i : ℕ) (l : List A) → length (keep p (drop i l ++ take i l)) ≡ length (keep p l)
turn_count p i l =
    let a = ap length (keep_append p (drop i l) (take i l)) in
    let b = ap length (keep_append p (take i l) (drop i l)) in
    let c = ap (λ k. length (keep p k)) (take-append-drop i l) in
    omega (arith, length-append (keep p (drop i l)) (keep p (take i l)), length-append (keep p (take i l)) (keep p (drop i l)))

-- and no other members
pub turn_in : {A : Type 0} (i : ℕ) (l : List A) (x : A) → x ∈ (drop i l ++ take i l) → x ∈ l
turn_in i l x m =
    subst (λ k. x ∈ k) (take-append-drop i l) (⊎_elim (λ p. Memᴰ.append_right (take i l) p) (λ p. Memᴰ.append_left (drop i l) p) (Memᴰ.append_cases (drop i l) m))

from_shape : {A : Type 0} (first x : A) (l m : List A) (d : Neighbours A) (i : ℕ) → i < suc (length l)
    → (t : List A) × (drop i (x ∷ l) ++ (first ∷ m) ≡ (get_or (neighbours_from first x l) i d).here ∷ (get_or (neighbours_from first x l) i d).next ∷ t)
unfolding neighbours_from
from_shape first x [] m d zero h = (m, refl)
from_shape first x [] m d (suc i) h = absurd (omega arith)
from_shape first x (y ∷ l) m d zero h = (l ++ (first ∷ m), refl)
from_shape first x (y ∷ l) m d (suc i) h = from_shape first y l m d i (omega arith)

-- the pair of neighbours at place i comes to the front, unless the list has one member only
pub turn_pair : {A : Type 0} (l : List A) (d : Neighbours A) (i : ℕ) → i < length l
    → ((drop i l ++ take i l ≡ (get_or (neighbours l) i d).here ∷ []) × ((get_or (neighbours l) i d).next ≡ (get_or (neighbours l) i d).here))
    ⊎ ((t : List A) × (drop i l ++ take i l ≡ (get_or (neighbours l) i d).here ∷ (get_or (neighbours l) i d).next ∷ t))
unfolding neighbours neighbours_from
turn_pair [] d i h = absurd (omega arith)
turn_pair (x ∷ []) d zero h = inl (refl, refl)
turn_pair (x ∷ y ∷ l) d zero h = inr (l ++ [], refl)
turn_pair (x ∷ l) d (suc i) h = inr (from_shape x x l (take i l) d (suc i) h)

-- NEIGHBOURS

pub neighbour_here : {A : Type 0} (l : List A) (q : Neighbours A) → q ∈ neighbours l → q.here ∈ l
neighbour_here l q m = subst (λ k. q.here ∈ k) (neighbours_here l) (in_map (λ p. p.here) m)

pub in_neighbours : {A : Type 0} (l : List A) (x : A) → x ∈ l → (q : Neighbours A) × (q ∈ neighbours l) × (x ≡ q.here)
in_neighbours l x m = map_in (λ q. q.here) (neighbours l) x (subst (λ k. x ∈ k) (sym (neighbours_here l)) m)

from_next : {A : Type 0} (first x : A) (l : List A) (q : Neighbours A) → q ∈ neighbours_from first x l → (q.next ≡ first) ⊎ (q.next ∈ l)
unfolding neighbours_from
from_next first x [] q m = ⊎_elim (λ e. inl (ap (λ p. p.next) e)) (λ i. absurd (Memᴰ.not-nil i)) (Memᴰ.cases_cons m)
from_next first x (y ∷ l) q m =
    ⊎_elim (λ e. inr (Memᴰ.head (ap (λ p. p.next) e)))
    (λ i. ⊎_elim inl (λ k. inr (Memᴰ.tail k)) (from_next first y l q i))
    (Memᴰ.cases_cons m)

pub neighbour_next : {A : Type 0} (l : List A) (q : Neighbours A) → q ∈ neighbours l → q.next ∈ l
unfolding neighbours
neighbour_next [] q m = absurd (Memᴰ.not-nil m)
neighbour_next (x ∷ l) q m = ⊎_elim (λ e. Memᴰ.head e) (λ i. Memᴰ.tail i) (from_next x x l q m)

-- a test of the member alone counts as many neighbours as members
pub keep_here : {A : Type 0} (p : A → Bool) (l : List A) → length (keep (λ (q : Neighbours A). p q.here) (neighbours l)) ≡ length (keep p l)
keep_here p l =
    keep_sum (λ q. p q.here) (neighbours l)
    ∙ sym (sum_map (λ x. cond (p x) 1 0) (λ q. q.here) (neighbours l))
    ∙ ap (sum_of (λ x. cond (p x) 1 0)) (neighbours_here l)
    ∙ sym (keep_sum p l)
