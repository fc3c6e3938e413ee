-- Laws of outcomes: taking a value apart from a refusal, and steps one after the other.
use Rattle.std.specs.Prelude.{◌≡◌, refl, ◌⊎◌, Bool, true, false, cond, List, [], ◌∷◌, ◌++◌, ℕ, suc, length}
use Rattle.std.proofs.Common.{sym, ap, ◌∙◌, subst, inl, inr, ⊎_elim, arith}
use Rattle.std.specs.Result.{IsErrAnd}
use mathlib.Core.List.Memᴰ
use Rattle.lists.specs.Lists.{◌∈◌}
use Rattle.rules.specs.declared.Fault.{Fault}
use Rattle.rules.specs.declared.Refusal.{Refusal}
use Rattle.rules.specs.Outcome.{Outcome, Ok, Err, refuse, ◌>>=◌, need, throughout, for_each}

-- a refusal is no value
pub refuse_ok : {A : Type 0} {r : Refusal} {a : A} → ◌≡◌ {A = Outcome A} (Err r) (Ok a) → ⊥
refuse_ok e = let z : ◌≡◌ {A = ℕ} 0 1 = cc in omega arith

pub ok_one : {A : Type 0} {a b : A} → ◌≡◌ {A = Outcome A} (Ok a) (Ok b) → a ≡ b
ok_one e = cc

-- a value behind two steps stands behind the first
pub bind_ok : {A B : Type 0} (o : Outcome A) (f : A → Outcome B) (b : B) → (o >>= f) ≡ Ok b → (a : A) × (o ≡ Ok a) × (f a ≡ Ok b)
bind_ok (Ok a) f b e = (a, refl, e)
bind_ok (Err r) f b e = absurd (refuse_ok e)

-- the second step after a value, and after a refusal
pub bind_on : {A B : Type 0} {o : Outcome A} {a : A} (f : A → Outcome B) → o ≡ Ok a → (o >>= f) ≡ f a
bind_on f e = rw e

pub bind_stop : {A B : Type 0} {o : Outcome A} {r : Refusal} (f : A → Outcome B) → o ≡ Err r → (o >>= f) ≡ Err r
bind_stop f e = rw e

-- WHAT `?` HANDS ON

-- `?` hands a refusal on as it is
pub hands_on : {A : Type 0} (r : Outcome A) {e : Refusal} → IsErrAnd r (λ x. x ≡ e) → r ≡ Err e
hands_on (Ok a) h = absurd h
hands_on (Err x) h = ap Err h

-- where a step q, which is the rule o, refuses, so does what comes of it and of what would follow
pub exits : {A B : Type 0} (o : Outcome A) (f : A → Outcome B) (r : Outcome B) {q : Outcome A} {e : Refusal} → q ≡ o → q ≡ Err e → IsErrAnd r (λ x. x ≡ e) → r ≡ (o >>= f)
exits o f r a b h = hands_on r h ∙ sym (bind_stop f (sym a ∙ b))

-- what follows two steps follows the second
pub bind_then : {A B C : Type 0} (o : Outcome A) (f : A → Outcome B) (g : B → Outcome C) (h : A → Outcome C) → ((a : A) → h a ≡ (f a >>= g)) → (o >>= h) ≡ ((o >>= f) >>= g)
bind_then (Ok a) f g h e = e a
bind_then (Err r) f g h e = refl

-- the same steps after the same outcome
pub bind_same : {A B : Type 0} (o : Outcome A) (f g : A → Outcome B) → ((a : A) → f a ≡ g a) → (o >>= f) ≡ (o >>= g)
bind_same (Ok a) f g e = e a
bind_same (Err r) f g e = refl

-- a test that must hold
pub need_on : {A : Type 0} {t : Bool} (n : Fault) (p : ℕ) (rest : Outcome A) → t ≡ true → need t n p rest ≡ rest
unfolding need
need_on n p rest e = rw e

pub need_stop : {A : Type 0} {t : Bool} (n : Fault) (p : ℕ) (rest : Outcome A) → t ≡ false → need t n p rest ≡ refuse n p
unfolding need
need_stop n p rest e = rw e

pub need_ok : {A : Type 0} (t : Bool) (n : Fault) (p : ℕ) (rest : Outcome A) (a : A) → need t n p rest ≡ Ok a → (t ≡ true) × (rest ≡ Ok a)
unfolding need
need_ok true n p rest a e = (refl, e)
need_ok false n p rest a e = absurd (refuse_ok e)

-- a choice that gives a value
pub cond_ok : {A : Type 0} (t : Bool) (x y : Outcome A) (a : A) → cond t x y ≡ Ok a → ((t ≡ true) × (x ≡ Ok a)) ⊎ ((t ≡ false) × (y ≡ Ok a))
cond_ok true x y a e = inl (refl, e)
cond_ok false x y a e = inr (refl, e)

-- STEPS FOR EACH MEMBER

pub through_none : {A S : Type 0} (step : A → S → Outcome S) (s : S) → throughout step [] s ≡ Ok s
unfolding throughout
through_none step s = refl

pub through_on : {A S : Type 0} (step : A → S → Outcome S) (x : A) (xs : List A) (s t : S) → step x s ≡ Ok t → throughout step (x ∷ xs) s ≡ throughout step xs t
unfolding throughout
through_on step x xs s t e = rw e

pub through_stop : {A S : Type 0} (step : A → S → Outcome S) (x : A) (xs : List A) (s : S) (r : Refusal) → step x s ≡ Err r → throughout step (x ∷ xs) s ≡ Err r
unfolding throughout
through_stop step x xs s r e = rw e

pub through_append : {A S : Type 0} (step : A → S → Outcome S) (xs ys : List A) (s : S) → throughout step (xs ++ ys) s ≡ (throughout step xs s >>= throughout step ys)
unfolding throughout
through_append step [] ys s = refl
through_append step (x ∷ xs) ys s = go (step x s) (through_append step xs ys)
  where
    go : (o : Outcome _) → ((t : _) → throughout step (xs ++ ys) t ≡ (throughout step xs t >>= throughout step ys))
        → (o >>= throughout step (xs ++ ys)) ≡ ((o >>= throughout step xs) >>= throughout step ys)
    go (Ok t) ih = ih t
    go (Err r) ih = refl

-- what each step that gives a value keeps holds at the end
pub through_keeps : {A S : Type 0} (step : A → S → Outcome S) (P : S → Type 0) (xs : List A) (s t : S)
    → ((x : A) (u v : S) → x ∈ xs → P u → step x u ≡ Ok v → P v) → P s → throughout step xs s ≡ Ok t → P t
unfolding throughout
through_keeps step P [] s t keeps h e = rw (sym (ok_one e)) h
through_keeps step P (x ∷ xs) s t keeps h e =
    let r = bind_ok (step x s) (throughout step xs) t e in
    through_keeps step P xs r.0 t (λ y u v m. keeps y u v (Memᴰ.tail m)) (keeps x s r.0 (Memᴰ.head refl) h r.1) r.2

pub each_none : {A B : Type 0} (f : A → Outcome B) → for_each f [] ≡ Ok []
unfolding for_each
each_none f = refl

pub each_ok : {A B : Type 0} (f : A → Outcome B) (x : A) (xs : List A) (r : List B) → for_each f (x ∷ xs) ≡ Ok r
    → (y : B) × (ys : List B) × (f x ≡ Ok y) × (for_each f xs ≡ Ok ys) × (r ≡ y ∷ ys)
unfolding for_each
each_ok f x xs r e =
    let p = bind_ok (f x) _ r e in
    let q = bind_ok (for_each f xs) _ r p.2 in
    (p.0, q.0, p.1, q.1, sym (ok_one q.2))

-- what holds of the value of each member holds of each value
pub each_has : {A B : Type 0} (f : A → Outcome B) (P : B → Type 0) (xs : List A) (r : List B) → ((x : A) (y : B) → x ∈ xs → f x ≡ Ok y → P y) → for_each f xs ≡ Ok r → (y : B) → y ∈ r → P y
unfolding for_each
each_has f P [] r h e y m = absurd (Memᴰ.not-nil (subst (λ l. y ∈ l) (sym (ok_one e)) m))
each_has f P (x ∷ xs) r h e y m =
    let p = each_ok f x xs r e in
    let later = each_has f P xs p.1 (λ z w k. h z w (Memᴰ.tail k)) p.3 y in
    ⊎_elim (λ q. subst P (sym q) (h x p.0 (Memᴰ.head refl) p.2)) later (Memᴰ.cases_cons (subst (λ l. y ∈ l) p.4 m))

pub each_length : {A B : Type 0} (f : A → Outcome B) (xs : List A) (r : List B) → for_each f xs ≡ Ok r → length r ≡ length xs
unfolding for_each
each_length f [] r e = ap length (sym (ok_one e))
each_length f (x ∷ xs) r e =
    let p = bind_ok (f x) _ r e in
    let q = bind_ok (for_each f xs) _ r p.2 in
    ap length (sym (ok_one q.2)) ∙ ap suc (each_length f xs q.0 q.1)
