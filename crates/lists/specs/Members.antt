-- Laws of what holds of each member, of tests over lists, of the members that pass a test, of positions, and of lists put together.
use Rattle.std.specs.Prelude.{◌≡◌, refl, Bool, true, false, ◌||◌, not, cond, ℕ, zero, suc, ◌+◌, ◌-◌, ◌≤◌, ◌<◌, eqb, length, get_or, set, drop}
use Rattle.std.proofs.Common.{sym, ap, ap₂, ◌∙◌, subst, ⊎_elim, true≢false, zero-le, arith, length-append, eqb-true, eq-eqb, ne_eqb}
use Rattle.std.proofs.lemmas.Bool.{false≢true, eqb-false}
use mathlib.Core.List.Memᴰ
use mathlib.Core.List.{List, [], ◌∷◌, ◌++◌, map, flat_map, foldl}
use Rattle.lists.specs.Lists.{◌∈◌, Nodup, all, some, keep, positions, position, index_of, sum_of}
use Rattle.lists.specs.Tests.{or_cases, or_second, and_both, both_and, equal_or_not}
use Rattle.lists.specs.Membership.{pigeon, nodup_append}
pub use Rattle.std.proofs.lemmas.List.{map-append as map_append}

-- WHAT HOLDS OF EACH MEMBER

-- what holds of each member, and of what stands for none, holds of what stands at a place
pub at_has : {A : Type 0} (P : A → Type 0) (l : List A) (i : ℕ) (d : A) → P d → ((x : A) → x ∈ l → P x) → P (get_or l i d)
at_has P [] i d h each = h
at_has P (x ∷ l) zero d h each = each x (Memᴰ.head refl)
at_has P (x ∷ l) (suc i) d h each = at_has P l i d h (λ y m. each y (Memᴰ.tail m))

-- what holds of each member, and of what is stored, holds of each member after the store
pub set_has : {A : Type 0} (P : A → Type 0) (l : List A) (i : ℕ) (a : A) → P a → ((x : A) → x ∈ l → P x) → (x : A) → x ∈ set l i a → P x
set_has P [] i a h each x m = absurd (Memᴰ.not-nil m)
set_has P (y ∷ l) zero a h each x m = ⊎_elim (λ e. subst P (sym e) h) (λ k. each x (Memᴰ.tail k)) (Memᴰ.cases_cons m)
set_has P (y ∷ l) (suc i) a h each x m =
    let later = set_has P l i a h (λ z k. each z (Memᴰ.tail k)) x in
    ⊎_elim (λ e. subst P (sym e) (each y (Memᴰ.head refl))) later (Memᴰ.cases_cons m)

-- a member of the rest of a list is a member
pub drop_in : {A : Type 0} (k : ℕ) (l : List A) (x : A) → x ∈ drop k l → x ∈ l
drop_in zero l x m = m
drop_in (suc k) [] x m = m
drop_in (suc k) (y ∷ l) x m = Memᴰ.tail (drop_in k l x m)

-- ALL AND SOME

pub all_in : {A : Type 0} (p : A → Bool) (l : List A) → all p l ≡ true → (x : A) → x ∈ l → p x ≡ true
unfolding all
all_in p [] e x m = absurd (Memᴰ.not-nil m)
all_in p (y ∷ l) e x m = let r = and_both (p y) (all p l) e in ⊎_elim (λ q. ap p q ∙ r.0) (λ q. all_in p l r.1 x q) (Memᴰ.cases_cons m)

pub in_all : {A : Type 0} (p : A → Bool) (l : List A) → ((x : A) → x ∈ l → p x ≡ true) → all p l ≡ true
unfolding all
in_all p [] h = refl
in_all p (y ∷ l) h = both_and (p y) (all p l) (h y (Memᴰ.head refl)) (in_all p l (λ x m. h x (Memᴰ.tail m)))

pub in_some : {A : Type 0} (p : A → Bool) {x : A} {l : List A} → x ∈ l → p x ≡ true → some p l ≡ true
unfolding some
in_some p {x} (Memᴰ.head {x = y} e) t = rw (ap p (sym e) ∙ t)
in_some p {x} (Memᴰ.tail {x = y} {xs = l} m) t = or_second (p y) (some p l) (in_some p m t)

pub some_in : {A : Type 0} (p : A → Bool) (l : List A) → some p l ≡ true → (x : A) × (x ∈ l) × (p x ≡ true)
unfolding some
some_in p [] e = absurd (false≢true e)
some_in p (y ∷ l) e =
    ⊎_elim (λ t. (y, Memᴰ.head refl, t)) (λ t. let r = some_in p l t in (r.0, Memᴰ.tail r.1, r.2)) (or_cases (p y) (some p l) e)

-- THE MEMBERS THAT PASS

pub keep_yes : {A : Type 0} (p : A → Bool) (x : A) (l : List A) → p x ≡ true → keep p (x ∷ l) ≡ x ∷ keep p l
unfolding keep
keep_yes p x l e = rw e

pub keep_no : {A : Type 0} (p : A → Bool) (x : A) (l : List A) → p x ≡ false → keep p (x ∷ l) ≡ keep p l
unfolding keep
keep_no p x l e = rw e

pub keep_append : {A : Type 0} (p : A → Bool) (l m : List A) → keep p (l ++ m) ≡ keep p l ++ keep p m
unfolding keep
keep_append p [] m = refl
keep_append p (x ∷ l) m = go (p x) (keep_append p l m)
  where
    go : (t : Bool) → keep p (l ++ m) ≡ keep p l ++ keep p m
        → cond t (x ∷ keep p (l ++ m)) (keep p (l ++ m)) ≡ cond t (x ∷ keep p l) (keep p l) ++ keep p m
    go true e = ap (λ r. x ∷ r) e
    go false e = e

pub in_keep : {A : Type 0} (p : A → Bool) {x : A} {l : List A} → x ∈ l → p x ≡ true → x ∈ keep p l
unfolding keep
in_keep p {x} (Memᴰ.head {x = y} {xs = l} e) t = rw (ap p (sym e) ∙ t) (Memᴰ.head e)
in_keep p {x} (Memᴰ.tail {x = y} {xs = l} m) t = later (p y) (in_keep p m t)
  where
    later : (b : Bool) → x ∈ keep p l → x ∈ cond b (y ∷ keep p l) (keep p l)
    later true q = Memᴰ.tail q
    later false q = q

pub keep_in : {A : Type 0} (p : A → Bool) (l : List A) (x : A) → x ∈ keep p l → (x ∈ l) × (p x ≡ true)
unfolding keep
keep_in p [] x m = absurd (Memᴰ.not-nil m)
keep_in p (y ∷ l) x m = go (p y) refl (λ q. keep_in p l x q) m
  where
    go : (b : Bool) → p y ≡ b → (x ∈ keep p l → (x ∈ l) × (p x ≡ true)) → x ∈ cond b (y ∷ keep p l) (keep p l) → (x ∈ (y ∷ l)) × (p x ≡ true)
    go true e below q = ⊎_elim (λ i. (Memᴰ.head i, ap p i ∙ e)) (λ r. (Memᴰ.tail (below r).0, (below r).1)) (Memᴰ.cases_cons q)
    go false e below q = (Memᴰ.tail (below q).0, (below q).1)

pub keep_nodup : (p : ℕ → Bool) (l : List ℕ) → Nodup l → Nodup (keep p l)
unfolding keep
keep_nodup p [] nd = tt
keep_nodup p (x ∷ l) nd = go (p x) (keep_nodup p l nd.1)
  where
    go : (b : Bool) → Nodup (keep p l) → Nodup (cond b (x ∷ keep p l) (keep p l))
    go true r = (λ m. nd.0 (keep_in p l x m).0, r)
    go false r = r

pub keep_length : {A : Type 0} (p : A → Bool) (l : List A) → length (keep p l) ≤ length l
unfolding keep
keep_length p [] = zero-le
keep_length p (x ∷ l) = go (p x) (keep_length p l)
  where
    go : (b : Bool) → length (keep p l) ≤ length l → length (cond b (x ∷ keep p l) (keep p l)) ≤ length (x ∷ l)
    go true r = omega arith
    go false r = omega arith

-- those that pass and those that do not are all
pub keep_both : {A : Type 0} (p : A → Bool) (l : List A) → length (keep p l) + length (keep (λ x. not (p x)) l) ≡ length l
unfolding keep
keep_both p [] = refl
keep_both {A} p (x ∷ l) = go (p x) (keep_both p l)
  where
    rest : List A
    rest = keep (λ y. not (p y)) l

    go : (b : Bool) → length (keep p l) + length rest ≡ length l
        → length (cond b (x ∷ keep p l) (keep p l)) + length (cond (not b) (x ∷ rest) rest) ≡ suc (length l)
    go true r = omega arith
    go false r = omega arith

-- tests that agree on the members
pub some_same : {A : Type 0} (p q : A → Bool) (l : List A) → ((x : A) → x ∈ l → p x ≡ q x) → some p l ≡ some q l
unfolding some
some_same p q [] h = refl
some_same p q (x ∷ l) h = ap₂ (λ a b. a || b) (h x (Memᴰ.head refl)) (some_same p q l (λ y m. h y (Memᴰ.tail m)))

-- two tests that agree on the members keep the same
pub keep_same : {A : Type 0} (p q : A → Bool) (l : List A) → ((x : A) → x ∈ l → p x ≡ q x) → keep p l ≡ keep q l
unfolding keep
keep_same p q [] h = refl
keep_same p q (x ∷ l) h = rw (h x (Memᴰ.head refl), keep_same p q l (λ y m. h y (Memᴰ.tail m)))

-- a list as long as one without duplicates, whose members it holds, has no duplicates either
pub nodup_full : (m l : List ℕ) → Nodup l → ((x : ℕ) → x ∈ l → x ∈ m) → length m ≤ length l → Nodup m
nodup_full [] l nd sub le = tt
nodup_full (x ∷ xs) l nd sub le =
    let t : ℕ → Bool = λ y. not (eqb y x) in
    let other : (y : ℕ) → y ∈ l → (y ≡ x → ⊥) → y ∈ xs = (λ y i ne. ⊎_elim (λ e. absurd (ne e)) (λ r. r) (Memᴰ.cases_cons (sub y i))) in
    let short : length l ≤ suc (length (keep t l)) = pigeon l (x ∷ keep t l) nd
    (λ y i. ⊎_elim (λ w. Memᴰ.head w.0) (λ w. Memᴰ.tail (in_keep t i (ap not w.1))) (equal_or_not y x)) in (
      (λ i. let z = pigeon l xs nd (λ y k. ⊎_elim (λ w. Memᴰ.cast w.0 i) (λ w. other y k w.0) (equal_or_not y x)) in omega (arith, z)),
      nodup_full xs (keep t l) (keep_nodup t l nd)
          (λ y i. let r = keep_in t l y i in other y r.0 (λ e. true≢false (sym r.1 ∙ ap not (eq-eqb y x e)))) (omega (arith, short)),
    )

-- POSITIONS

pub positions_in : {A : Type 0} (p : A → Bool) (i : ℕ) (l : List A) (d : A) (x : ℕ) → x ∈ positions p i l
    → (i ≤ x) × (x < i + length l) × (p (get_or l (x - i) d) ≡ true)
unfolding positions
positions_in p i [] d x m = absurd (Memᴰ.not-nil m)
positions_in p i (y ∷ l) d x m = go (p y) refl (λ q. positions_in p (suc i) l d x q) m
  where
    goal : Type 0
    goal = (i ≤ x) × (x < i + length (y ∷ l)) × (p (get_or (y ∷ l) (x - i) d) ≡ true)

    later : (suc i ≤ x) × (x < suc i + length l) × (p (get_or l (x - suc i) d) ≡ true) → goal
    later r = let e : x - i ≡ suc (x - suc i) = omega (arith, r.0) in (omega (arith, r.0), omega (arith, r.1), ap (λ k. p (get_or (y ∷ l) k d)) e ∙ r.2)

    go : (b : Bool) → p y ≡ b → (x ∈ positions p (suc i) l → (suc i ≤ x) × (x < suc i + length l) × (p (get_or l (x - suc i) d) ≡ true))
        → x ∈ cond b (i ∷ positions p (suc i) l) (positions p (suc i) l) → goal
    go true e below q =
        ⊎_elim (λ w. let z : x - i ≡ 0 = omega arith in (omega arith, omega arith, ap (λ k. p (get_or (y ∷ l) k d)) z ∙ e)) (λ r. later (below r)) (Memᴰ.cases_cons q)
    go false e below q = later (below q)

pub in_positions : {A : Type 0} (p : A → Bool) (i : ℕ) (l : List A) (d : A) (k : ℕ) → k < length l → p (get_or l k d) ≡ true → i + k ∈ positions p i l
unfolding positions
in_positions p i [] d k h e = absurd (omega arith)
in_positions p i (y ∷ l) d zero h e = let z : i + 0 ≡ i = omega arith in rw e (Memᴰ.head z)
in_positions p i (y ∷ l) d (suc k) h e = later (p y) (Memᴰ.cast (omega arith) (in_positions p (suc i) l d k (omega arith) e))
  where
    later : (b : Bool) → i + suc k ∈ positions p (suc i) l → i + suc k ∈ cond b (i ∷ positions p (suc i) l) (positions p (suc i) l)
    later true q = Memᴰ.tail q
    later false q = q

pub positions_nodup : {A : Type 0} (p : A → Bool) (i : ℕ) (l : List A) → Nodup (positions p i l)
unfolding positions
positions_nodup p i [] = tt
positions_nodup p i (y ∷ l) = go (p y) (positions_nodup p (suc i) l)
  where
    go : (b : Bool) → Nodup (positions p (suc i) l) → Nodup (cond b (i ∷ positions p (suc i) l) (positions p (suc i) l))
    go true r = (λ m. let q = positions_in p (suc i) l y i m in omega (arith, q.0), r)
    go false r = r

pub positions_length : {A : Type 0} (p : A → Bool) (i : ℕ) (l : List A) → length (positions p i l) ≡ length (keep p l)
unfolding positions keep
positions_length p i [] = refl
positions_length p i (y ∷ l) = go (p y) (positions_length p (suc i) l)
  where
    go : (b : Bool) → length (positions p (suc i) l) ≡ length (keep p l)
        → length (cond b (i ∷ positions p (suc i) l) (positions p (suc i) l)) ≡ length (cond b (y ∷ keep p l) (keep p l))
    go true r = ap suc r
    go false r = r

-- the first position that passes: none before it does, and it does unless it is the length
pub position_le : {A : Type 0} (p : A → Bool) (l : List A) → position p l ≤ length l
unfolding position
position_le p [] = zero-le
position_le p (x ∷ l) = go (p x) (position_le p l)
  where
    go : (b : Bool) → position p l ≤ length l → cond b 0 (suc (position p l)) ≤ suc (length l)
    go true r = zero-le
    go false r = omega arith

pub position_hit : {A : Type 0} (p : A → Bool) (l : List A) (d : A) → position p l < length l → p (get_or l (position p l) d) ≡ true
unfolding position
position_hit p [] d h = absurd (omega arith)
position_hit p (x ∷ l) d h = go (p x) refl (position_hit p l d) h
  where
    go : (b : Bool) → p x ≡ b → (position p l < length l → p (get_or l (position p l) d) ≡ true) → cond b 0 (suc (position p l)) < suc (length l)
        → p (get_or (x ∷ l) (cond b 0 (suc (position p l))) d) ≡ true
    go true e ih k = e
    go false e ih k = ih (omega arith)

pub position_before : {A : Type 0} (p : A → Bool) (l : List A) (d : A) (i : ℕ) → i < position p l → p (get_or l i d) ≡ false
unfolding position
position_before p [] d i h = absurd (omega arith)
position_before p (x ∷ l) d i h = go (p x) refl (position_before p l d) i h
  where
    go : (b : Bool) → p x ≡ b → ((i : ℕ) → i < position p l → p (get_or l i d) ≡ false) → (i : ℕ) → i < cond b 0 (suc (position p l)) → p (get_or (x ∷ l) i d) ≡ false
    go true e ih i k = absurd (omega arith)
    go false e ih zero k = e
    go false e ih (suc i) k = ih i (omega arith)

-- a place that passes, none before it, is the position
pub position_is : {A : Type 0} (p : A → Bool) (l : List A) (d : A) (i : ℕ) → i < length l → p (get_or l i d) ≡ true
    → ((k : ℕ) → k < i → p (get_or l k d) ≡ false) → position p l ≡ i
unfolding position
position_is p [] d i h e none = absurd (omega arith)
position_is p (x ∷ l) d zero h e none = rw e
position_is p (x ∷ l) d (suc i) h e none =
    let z : p x ≡ false = none 0 (omega arith) in
    rw z (ap suc (position_is p l d i (omega arith) e (λ k q. none (suc k) (omega arith))))

-- none passes: the length
pub position_none : {A : Type 0} (p : A → Bool) (l : List A) (d : A) → ((k : ℕ) → k < length l → p (get_or l k d) ≡ false) → position p l ≡ length l
unfolding position
position_none p [] d none = refl
position_none p (x ∷ l) d none =
    let z : p x ≡ false = none 0 (omega arith) in
    rw z (ap suc (position_none p l d (λ k q. none (suc k) (omega arith))))

-- the place of a member
pub index_of_in : (x : ℕ) (l : List ℕ) → x ∈ l → (index_of x l < length l) × (get_or l (index_of x l) 0 ≡ x)
unfolding position
index_of_in x [] m = absurd (Memᴰ.not-nil m)
index_of_in x (y ∷ l) m = go (eqb x y) refl (λ q. index_of_in x l q)
  where
    go : (b : Bool) → eqb x y ≡ b → (x ∈ l → (index_of x l < length l) × (get_or l (index_of x l) 0 ≡ x))
        → (cond b 0 (suc (position (eqb x) l)) < suc (length l)) × (get_or (y ∷ l) (cond b 0 (suc (position (eqb x) l))) 0 ≡ x)
    go true e ih = (omega arith, sym (eqb-true x y e))
    go false e ih = let r = ih (⊎_elim (λ q. absurd (eqb-false x y e q)) (λ q. q) (Memᴰ.cases_cons m)) in (omega (arith, r.0), r.1)

-- where no number stands twice, the place of what stands at i is i
pub index_of_at : (l : List ℕ) (i : ℕ) → Nodup l → i < length l → index_of (get_or l i 0) l ≡ i
unfolding position
index_of_at [] i nd h = absurd (omega arith)
index_of_at (y ∷ l) zero nd h = rw (eq-eqb y y refl)
index_of_at (y ∷ l) (suc i) nd h =
    let m : get_or l i 0 ∈ l = member l i (omega arith) in
    rw (ne_eqb (get_or l i 0) y (λ e. nd.0 (Memᴰ.cast (sym e) m))) (ap suc (index_of_at l i nd.1 (omega arith)))
  where
    member : (l : List ℕ) (i : ℕ) → i < length l → get_or l i 0 ∈ l
    member [] i h = absurd (omega arith)
    member (x ∷ xs) zero h = Memᴰ.head refl
    member (x ∷ xs) (suc i) h = Memᴰ.tail (member xs i (omega arith))

-- LISTS PUT TOGETHER

pub in_flat_map : {A B : Type 0} (f : A → List B) {x : A} {y : B} {l : List A} → x ∈ l → y ∈ f x → y ∈ flat_map f l
unfolding flat_map
in_flat_map f {y} (Memᴰ.head {xs = xs} e) q = Memᴰ.append_left (flat_map f xs) (subst (λ z. y ∈ f z) e q)
in_flat_map f (Memᴰ.tail {x = z} p) q = Memᴰ.append_right (f z) (in_flat_map f p q)

pub flat_map_in : {A B : Type 0} (f : A → List B) (l : List A) (y : B) → y ∈ flat_map f l → (x : A) × (x ∈ l) × (y ∈ f x)
unfolding flat_map
flat_map_in f [] y m = absurd (Memᴰ.not-nil m)
flat_map_in f (x ∷ l) y m =
    ⊎_elim (λ p. (x, Memᴰ.head refl, p)) (λ q. let r = flat_map_in f l y q in (r.0, Memᴰ.tail r.1, r.2)) (Memᴰ.append_cases (f x) m)

pub flat_map_nodup : (f : ℕ → List ℕ) (l : List ℕ) → Nodup l → ((x : ℕ) → x ∈ l → Nodup (f x))
    → ((x x' y : ℕ) → x ∈ l → x' ∈ l → y ∈ f x → y ∈ f x' → x ≡ x') → Nodup (flat_map f l)
unfolding flat_map
flat_map_nodup f [] nd each apart = tt
flat_map_nodup f (x ∷ l) nd each apart =
    nodup_append (f x) (flat_map f l) (each x (Memᴰ.head refl))
    (flat_map_nodup f l nd.1 (λ z p. each z (Memᴰ.tail p)) (λ z z' y p p' q q'. apart z z' y (Memᴰ.tail p) (Memᴰ.tail p') q q'))
    (λ y p q.
    let r = flat_map_in f l y q in
    nd.0 (Memᴰ.cast (apart x r.0 y (Memᴰ.head refl) (Memᴰ.tail r.1) p r.2) r.1))

pub flat_map_length : {A B : Type 0} (f : A → List B) (l : List A) → length (flat_map f l) ≡ sum_of (λ x. length (f x)) l
unfolding flat_map sum_of
flat_map_length f [] = refl
flat_map_length f (x ∷ l) = length-append (f x) (flat_map f l) ∙ ap (λ k. length (f x) + k) (flat_map_length f l)

pub flat_map_append : {A B : Type 0} (f : A → List B) (l m : List A) → flat_map f (l ++ m) ≡ flat_map f l ++ flat_map f m
unfolding flat_map
flat_map_append f [] m = refl
flat_map_append f (x ∷ l) m = ap (λ r. f x ++ r) (flat_map_append f l m) ∙ sym (assoc (f x) (flat_map f l) (flat_map f m))
  where
    assoc : {C : Type 0} (a b c : List C) → (a ++ b) ++ c ≡ a ++ (b ++ c)
    assoc [] b c = refl
    assoc (z ∷ a) b c = ap (λ r. z ∷ r) (assoc a b c)

-- MAPS AND FOLDS

pub in_map : {A B : Type 0} (f : A → B) {x : A} {l : List A} → x ∈ l → f x ∈ map f l
in_map f (Memᴰ.head e) = Memᴰ.head (ap f e)
in_map f (Memᴰ.tail m) = Memᴰ.tail (in_map f m)

pub map_in : {A B : Type 0} (f : A → B) (l : List A) (y : B) → y ∈ map f l → (x : A) × (x ∈ l) × (y ≡ f x)
map_in f [] y m = absurd (Memᴰ.not-nil m)
map_in f (x ∷ l) y m = ⊎_elim (λ e. (x, Memᴰ.head refl, e)) (λ q. let r = map_in f l y q in (r.0, Memᴰ.tail r.1, r.2)) (Memᴰ.cases_cons m)

-- what stands at a place of a map
pub get_or_map : {A B : Type 0} (f : A → B) (l : List A) (i : ℕ) (d : B) (e : A) → i < length l → get_or (map f l) i d ≡ f (get_or l i e)
get_or_map f [] i d e h = absurd (omega arith)
get_or_map f (x ∷ xs) zero d e h = refl
get_or_map f (x ∷ xs) (suc i) d e h = get_or_map f xs i d e (omega arith)

pub map_same : {A B : Type 0} (f g : A → B) (l : List A) → ((x : A) → x ∈ l → f x ≡ g x) → map f l ≡ map g l
map_same f g [] h = refl
map_same f g (x ∷ l) h = ap₂ (λ a b. a ∷ b) (h x (Memᴰ.head refl)) (map_same f g l (λ y m. h y (Memᴰ.tail m)))

-- what each step of a fold keeps holds at its end
pub foldl_keeps : {A S : Type 0} (step : S → A → S) (P : S → Type 0) (l : List A) (s : S) → P s → ((s : S) (x : A) → x ∈ l → P s → P (step s x)) → P (foldl step s l)
foldl_keeps step P [] s h k = h
foldl_keeps step P (x ∷ l) s h k = foldl_keeps step P l (step s x) (k s x (Memᴰ.head refl) h) (λ t y m. k t y (Memᴰ.tail m))

pub foldl_append : {A S : Type 0} (step : S → A → S) (s : S) (l m : List A) → foldl step s (l ++ m) ≡ foldl step (foldl step s l) m
foldl_append step s [] m = refl
foldl_append step s (x ∷ l) m = foldl_append step (step s x) l m
