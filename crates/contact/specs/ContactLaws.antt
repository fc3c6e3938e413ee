-- Laws of the contact points: fans held against the earlier ones have the same lowest point as fans held against the later ones.
use Rattle.std.specs.Prelude.{ℕ, ◌+◌, ◌%◌, ◌≤◌, ◌<◌, ◌≡◌, ◌⊎◌, Bool, Option, None, Some, ◌&&◌, length, get_or, take, eqb}
use Rattle.std.proofs.Common.{add-one, arith, sym, ◌∙◌, subst, take-suc, take_all}
use Rattle.std.proofs.Math.Path.{refl, ap}
use Rattle.std.proofs.Math.Logic.{inl, inr, ⊎_elim}
use Rattle.std.proofs.Math.Bool.{true, false, cond}
use Rattle.std.proofs.lemmas.Bool.{false≢true}
use mathlib.Core.List.Memᴰ
use mathlib.Core.List.{List, [], ◌∷◌, ◌++◌}
use borrow.Author.Tests.{eqb-true, ltb-true, ltb-false}
use Rattle.lists.specs.Lists.{◌∈◌, some}
use Rattle.lists.specs.Tests.{or_cases, or_second, and_both, eqb_swap}
use Rattle.lists.specs.Members.{in_some, some_in}
use Rattle.rules.specs.declared.Fault.{Fault}
use Rattle.rules.specs.declared.Use.{Use}
use Rattle.rules.specs.Outcome.{Ok, refuse, Outcome}
use Rattle.rules.specs.Read.{face_of_use}
use Rattle.rules.specs.Groups.{label_of}
use Rattle.rules.specs.Fans.{fan_point}
use Rattle.rules.specs.Contact.{use_label, touches, contact_points, points_clear}
use Rattle.contact.specs.ClearLaws.{clear_none, clear_least}
use Rattle.fields.specs.Chains.{chain, next_in, Falling}
use Rattle.contact.specs.Buckets.{stands_with, point_at, Bucketed, touches_earlier, is_lower, lowered}
use Rattle.contact.specs.BucketLaws.{chain_touches}

module _ (us : List Use) (starts labels : List ℕ) where
  abbrev touch : ℕ → ℕ → Bool
  touch = touches us starts labels

  abbrev points : List ℕ → List ℕ
  points = contact_points us starts labels

  touch_swap : (f g : ℕ) → touch f g ≡ true → touch g f ≡ true
  unfolding touches
  touch_swap f g t = (λ i. eqb_swap (fan_point starts g) (fan_point starts f) i && eqb_swap (use_label us labels g) (use_label us labels f) i) ∙ t

  touch_point : (f g : ℕ) → touch f g ≡ true → fan_point starts f ≡ fan_point starts g
  unfolding touches
  touch_point f g t = eqb-true (fan_point starts f) (fan_point starts g) (and_both (eqb (fan_point starts f) (fan_point starts g)) (eqb (use_label us labels f) (use_label us labels g)) t).0

  -- a contact point is that of the first fan, which touches a later one, or one of the later fans'
  contact_in : (f : ℕ) (fs : List ℕ) (y : ℕ) → y ∈ points (f ∷ fs) → ((y ≡ fan_point starts f) × (some (touch f) fs ≡ true)) ⊎ (y ∈ points fs)
  unfolding contact_points
  contact_in f fs y m = go (some (touch f) fs) refl m
    where
      go : (b : Bool) → some (touch f) fs ≡ b → y ∈ cond b (fan_point starts f ∷ points fs) (points fs) → ((y ≡ fan_point starts f) × (some (touch f) fs ≡ true)) ⊎ (y ∈ points fs)
      go true e q = ⊎_elim (λ i. inl (i, e)) inr (Memᴰ.cases_cons q)
      go false e q = inr q

  in_contact : (f : ℕ) (fs : List ℕ) → some (touch f) fs ≡ true → fan_point starts f ∈ points (f ∷ fs)
  unfolding contact_points
  in_contact f fs e = rw e (Memᴰ.head refl)

  in_later : (f : ℕ) (fs : List ℕ) (y : ℕ) → y ∈ points fs → y ∈ points (f ∷ fs)
  unfolding contact_points
  in_later f fs y m = go (some (touch f) fs)
    where
      go : (b : Bool) → y ∈ cond b (fan_point starts f ∷ points fs) (points fs)
      go true = Memᴰ.tail m
      go false = m

  -- ONE FAN MORE AT THE END

  -- a new contact point is that of the new fan, which touches an earlier one
  more_in : (l : List ℕ) (f y : ℕ) → y ∈ points (l ++ (f ∷ [])) → (y ∈ points l) ⊎ ((y ≡ fan_point starts f) × (some (touch f) l ≡ true))
  unfolding some contact_points
  more_in [] f y m = absurd (Memᴰ.not-nil m)
  more_in (g ∷ l) f y m =
      ⊎_elim
      (λ w. let r = some_in (touch g) (l ++ (f ∷ [])) w.1 in
      ⊎_elim
      (λ q. inl (Memᴰ.cast w.0 (in_contact g l (in_some (touch g) q r.2))))
      (λ q. let t : touch g f ≡ true = ap (touch g) (sym (Memᴰ.eq_of_singleton q)) ∙ r.2 in
      inr (w.0 ∙ touch_point g f t, in_some (touch f) {x = g} {l = g ∷ l} (Memᴰ.head refl) (touch_swap g f t)))
      (Memᴰ.append_cases l r.1))
      (λ w. ⊎_elim (λ q. inl (in_later g l y q)) (λ q. inr (q.0, or_second (touch f g) (some (touch f) l) q.1)) (more_in l f y w))
      (contact_in g (l ++ (f ∷ [])) y m)

  in_more_old : (l : List ℕ) (f y : ℕ) → y ∈ points l → y ∈ points (l ++ (f ∷ []))
  unfolding contact_points
  in_more_old [] f y m = absurd (Memᴰ.not-nil m)
  in_more_old (g ∷ l) f y m =
      ⊎_elim
      (λ w. let r = some_in (touch g) l w.1 in
      Memᴰ.cast w.0 (in_contact g (l ++ (f ∷ [])) (in_some (touch g) (Memᴰ.append_left (f ∷ []) r.1) r.2)))
      (λ w. in_later g (l ++ (f ∷ [])) y (in_more_old l f y w))
      (contact_in g l y m)

  in_more_new : (l : List ℕ) (f : ℕ) → some (touch f) l ≡ true → fan_point starts f ∈ points (l ++ (f ∷ []))
  unfolding some
  in_more_new [] f t = absurd (false≢true t)
  in_more_new (g ∷ l) f t =
      ⊎_elim
      (λ w. Memᴰ.cast (touch_point f g w) (in_contact g (l ++ (f ∷ [])) (in_some (touch g) (Memᴰ.append_right l (Memᴰ.head refl)) (touch_swap f g w))))
      (λ w. in_later g (l ++ (f ∷ [])) (fan_point starts f) (in_more_new l f w))
      (or_cases (touch f g) (some (touch f) l) t)

  -- THE LOWEST POINT SO FAR

  -- of the first k fans: a contact point that no other is less than, or there is none
  abbrev LowestOf : List ℕ → Option ℕ → Type 0
  LowestOf l None = (y : ℕ) → y ∈ l → ⊥
  LowestOf l (Some p) = (p ∈ l) × ((y : ℕ) → y ∈ l → p ≤ y)

  pub record LowestAt (names : List ℕ) (k : ℕ) (lowest : Option ℕ) : Type 0 where
    pub lowest_of : LowestOf (points (take k names)) lowest

  pub lowest_none : (names : List ℕ) → LowestAt names 0 None
  unfolding contact_points
  lowest_none names = record { lowest_of = λ y m. absurd (Memᴰ.not-nil m) }

  module _ (names : List ℕ) (k : ℕ) (lt : k < length names) where
    abbrev f : ℕ
    f = get_or names k 0

    abbrev p : ℕ
    p = point_at starts names k

    more : take (k + 1) names ≡ take k names ++ (f ∷ [])
    more = ap (λ n. take n names) (add-one k) ∙ take-suc names k 0 lt

    cases : (y : ℕ) → y ∈ points (take (k + 1) names) → (y ∈ points (take k names)) ⊎ ((y ≡ p) × (touches_earlier us starts labels names k ≡ true))
    cases y m = more_in (take k names) f y (subst (λ l. y ∈ points l) more m)

    old : (y : ℕ) → y ∈ points (take k names) → y ∈ points (take (k + 1) names)
    old y m = subst (λ l. y ∈ points l) (sym more) (in_more_old (take k names) f y m)

    new : touches_earlier us starts labels names k ≡ true → p ∈ points (take (k + 1) names)
    new t = subst (λ l. p ∈ points l) (sym more) (in_more_new (take k names) f t)

    go : (lowest : Option ℕ) (a b : Bool) → LowestOf (points (take k names)) lowest → is_lower p lowest ≡ a → touches_earlier us starts labels names k ≡ b
        → LowestOf (points (take (k + 1) names)) (cond (a && b) (Some p) lowest)
    go None true true at ea eb = (new eb, λ y m. ⊎_elim (λ q. absurd (at y q)) (λ w. let e = w.0 in omega arith) (cases y m))
    go None true false at ea eb = λ y m. ⊎_elim (at y) (λ w. absurd (false≢true (sym eb ∙ w.1))) (cases y m)
    go None false b at ea eb = absurd (false≢true (sym ea))
    go (Some l) true true at ea eb =
        (new eb, λ y m. ⊎_elim (λ q. omega (arith, at.1 y q, ltb-true p l ea)) (λ w. let e = w.0 in omega arith) (cases y m))
    go (Some l) true false at ea eb = (old l at.0, λ y m. ⊎_elim (at.1 y) (λ w. absurd (false≢true (sym eb ∙ w.1))) (cases y m))
    go (Some l) false b at ea eb = (old l at.0, λ y m. ⊎_elim (at.1 y) (λ w. let e = w.0 in omega (arith, ltb-false p l ea)) (cases y m))

    pub lowest_more : (lowest r : Option ℕ) → LowestAt names k lowest → r ≡ lowered us starts labels names k lowest → LowestAt names (k + 1) r
    unfolding lowered
    lowest_more lowest r at e = rw e (record { lowest_of = go lowest (is_lower p lowest) (touches_earlier us starts labels names k) at.lowest_of refl refl })

  module _ (fault : Fault) (names : List ℕ) (k : ℕ) (lowest : Option ℕ) (at : LowestAt names k lowest) (all : length names ≤ k) where
    whole : LowestOf (points names) lowest
    whole = subst (λ l. LowestOf (points l) lowest) (take_all k names all) at.lowest_of

    pub lowest_found : (p : ℕ) → lowest ≡ Some p → refuse fault p ≡ points_clear fault us starts labels names
    lowest_found p e = let w = subst (LowestOf (points names)) e whole in clear_least fault (points names) p w.0 w.1

    pub lowest_nowhere : lowest ≡ None → ◌≡◌ {A = Outcome (Unit {0})} (Ok tt) (points_clear fault us starts labels names)
    lowest_nowhere e = clear_none fault (points names) (subst (LowestOf (points names)) e whole)

-- ONE FAN AGAINST THE EARLIER ONES

-- the code's numbers: fan f at place k and its point p
module _ (us : List Use) (starts labels names : List ℕ) (k f p : ℕ) (lowest : Option ℕ) (ef : f ≡ get_or names k 0) (ep : p ≡ fan_point starts f) where
  point_at_lem : p ≡ point_at starts names k
  point_at_lem = ep ∙ ap (fan_point starts) ef

  pub not_lower : is_lower p lowest ≡ false → lowest ≡ lowered us starts labels names k lowest
  unfolding lowered
  not_lower e = rw (← point_at_lem, e)

  -- lower than the lowest so far: t says whether some fan on the chain of its point stands there with its label l
  module _ (w : ℕ) (heads nexts : List ℕ) (s : Bucketed w starts names heads nexts k) (falling : Falling (next_in nexts)) (within : k < length names)
      (lt : is_lower p lowest ≡ true) (face l entry : ℕ) (t : Bool) (eface : face ≡ face_of_use us f) (el : l ≡ label_of labels face) (ee : entry ≡ get_or heads (p % w) 0)
      (et : t ≡ some (λ j. stands_with us starts labels p l (get_or names j 0)) (chain (next_in nexts) entry)) where
    earlier : touches_earlier us starts labels names k ≡ t
    earlier = sym (et ∙ chain_touches w starts names heads nexts k s falling us labels f p face l entry within ef ep eface el ee)

    pub lower_touches : t ≡ true → Some p ≡ lowered us starts labels names k lowest
    unfolding lowered
    lower_touches y = rw (← point_at_lem, lt, earlier, y)

    pub lower_apart : t ≡ false → lowest ≡ lowered us starts labels names k lowest
    unfolding lowered
    lower_apart n = rw (← point_at_lem, lt, earlier, n)
