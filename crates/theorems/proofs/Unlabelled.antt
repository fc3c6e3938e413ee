-- Request Two of document 02: the points with more than one fan are those that the contact test finds where no face has a label.
use Rattle.std.specs.Prelude.{ℕ, ◌≤◌, ◌≡◌, refl, ◌⊎◌, Bool, true, false, ◌&&◌, cond, List, [], ◌∷◌, map, eqb, ltb}
use Rattle.std.proofs.Common.{arith, sym, ap, ◌∙◌, inl, inr, ⊎_elim, eqb-true, eq-eqb, ltb-true}
use Rattle.std.proofs.lemmas.Bool.{lt-ltb}
use mathlib.Core.List.Memᴰ
use Rattle.lists.specs.Lists.{◌∈◌, some, times}
use Rattle.lists.specs.Tests.{and_both, equal_or_not}
use Rattle.lists.specs.Membership.{in_or_out, times_nil, times_hit, times_miss, times_in, times_out}
use Rattle.lists.specs.Members.{in_some, some_in, in_keep, keep_in, in_map, map_in}
use Rattle.lists.specs.Leasts.{least_in, least_low, least_is}
use Rattle.rules.specs.declared.Fault.{Fault}
use Rattle.rules.specs.declared.Use.{Use}
use Rattle.rules.specs.Outcome.{refuse}
use Rattle.rules.specs.Fans.{fan_point}
use Rattle.rules.specs.Contact.{touches, contact_points, clear, points_clear, shared_points}

-- THE LOWEST OF TWO LISTS

cons_in_none : {x : ℕ} {l : List ℕ} → ((y : ℕ) → y ∈ (x ∷ l) → y ∈ []) → ⊥
cons_in_none {x} h = Memᴰ.not-nil (h x (Memᴰ.head refl))

-- the lowest place does not depend on how often places stand in a list, nor on their order
clear_same : (fault : Fault) (l m : List ℕ) → ((y : ℕ) → y ∈ l → y ∈ m) → ((y : ℕ) → y ∈ m → y ∈ l) → clear fault l ≡ clear fault m
clear_same fault [] [] there back = refl
clear_same fault [] (y ∷ m) there back = absurd (cons_in_none back)
clear_same fault (x ∷ l) [] there back = absurd (cons_in_none there)
clear_same fault (x ∷ l) (y ∷ m) there back =
    ap (refuse fault) (least_is x l x _ (back _ (least_in y m y)) (λ z i. least_low (y ∷ m) y z (there z i)))

-- THE POINTS WITH MORE THAN ONE FAN

-- the points of the fans
abbrev pub points_of : List ℕ → List ℕ → List ℕ
points_of starts names = map (fan_point starts) names

-- a number that stands in a list so often stands in a longer one as often
times_later : (x y : ℕ) (l : List ℕ) → times x l ≤ times x (y ∷ l)
times_later x y l = ⊎_elim (λ w. omega (arith, times_hit x y l w.0)) (λ w. omega (arith, times_miss x y l w.0)) (equal_or_not x y)

-- what stands once or more is a member
pub in_times : (x : ℕ) (l : List ℕ) → 1 ≤ times x l → x ∈ l
in_times x l h = ⊎_elim (λ m. m) (λ n. absurd (omega (arith, h, times_out x l n))) (in_or_out x l)

-- such a point is that of two fans at least
pub shared_twice : (starts names : List ℕ) (p : ℕ) → p ∈ shared_points starts names → 2 ≤ times p (points_of starts names)
unfolding shared_points
shared_twice starts names p m = ltb-true 1 (times p (points_of starts names)) (keep_in (λ q. ltb 1 (times q (points_of starts names))) (points_of starts names) p m).1

pub twice_shared : (starts names : List ℕ) (p : ℕ) → 2 ≤ times p (points_of starts names) → p ∈ shared_points starts names
unfolding shared_points
twice_shared starts names p h =
    in_keep (λ q. ltb 1 (times q (points_of starts names))) (in_times p (points_of starts names) (omega (arith, h))) (lt-ltb 1 (times p (points_of starts names)) h)

-- THE CONTACT TEST

-- fans that touch stand at one point, whatever the labels
touch_point : (us : List Use) (starts labels : List ℕ) (f g : ℕ) → touches us starts labels f g ≡ true → fan_point starts f ≡ fan_point starts g
unfolding touches
touch_point us starts labels f g e = eqb-true _ _ (and_both (eqb (fan_point starts f) (fan_point starts g)) _ e).0

module _ (us : List Use) (starts labels : List ℕ) where
  contact_cases : (f : ℕ) (fs : List ℕ) (y : ℕ) → y ∈ contact_points us starts labels (f ∷ fs)
      → ((y ≡ fan_point starts f) × (fan_point starts f ∈ points_of starts fs)) ⊎ (y ∈ contact_points us starts labels fs)
  unfolding contact_points
  contact_cases f fs y m = go (some (touches us starts labels f) fs) refl m
    where
      found : some (touches us starts labels f) fs ≡ true → fan_point starts f ∈ points_of starts fs
      found e =
          let r = some_in (touches us starts labels f) fs e in
          Memᴰ.cast (touch_point us starts labels f r.0 r.2) (in_map (fan_point starts) r.1)

      go : (b : Bool) → some (touches us starts labels f) fs ≡ b → y ∈ cond b (fan_point starts f ∷ contact_points us starts labels fs) (contact_points us starts labels fs)
          → ((y ≡ fan_point starts f) × (fan_point starts f ∈ points_of starts fs)) ⊎ (y ∈ contact_points us starts labels fs)
      go true e q = ⊎_elim (λ i. inl (i, found e)) inr (Memᴰ.cases_cons q)
      go false e q = inr q

  -- a contact point is that of two fans at least
  pub contact_twice : (names : List ℕ) (y : ℕ) → y ∈ contact_points us starts labels names → 2 ≤ times y (points_of starts names)
  unfolding contact_points
  contact_twice [] y m = absurd (Memᴰ.not-nil m)
  contact_twice (f ∷ fs) y m =
      ⊎_elim
      (λ w. omega (arith, times_in (Memᴰ.cast w.0 w.1), times_hit y (fan_point starts f) (points_of starts fs) w.0))
      (λ q. omega (arith, contact_twice fs y q, times_later y (fan_point starts f) (points_of starts fs)))
      (contact_cases f fs y m)

-- THE TEST WITHOUT LABELS

module _ (us : List Use) (starts : List ℕ) where
  and_true : (a : Bool) → (a && true) ≡ a
  and_true true = refl
  and_true false = refl

  -- without labels every face has label 0, so that fans touch where they stand at one point
  touch_is : (f g : ℕ) → touches us starts [] f g ≡ eqb (fan_point starts f) (fan_point starts g)
  unfolding touches
  touch_is f g = and_true (eqb (fan_point starts f) (fan_point starts g))

  in_contact : (f : ℕ) (fs : List ℕ) → fan_point starts f ∈ points_of starts fs → fan_point starts f ∈ contact_points us starts [] (f ∷ fs)
  unfolding contact_points
  in_contact f fs m =
      let r = map_in (fan_point starts) fs (fan_point starts f) m in
      let e : some (touches us starts [] f) fs ≡ true = in_some (touches us starts [] f) r.1 (touch_is f r.0 ∙ eq-eqb _ _ r.2) in
      rw e (Memᴰ.head refl)

  in_later : (f : ℕ) (fs : List ℕ) (y : ℕ) → y ∈ contact_points us starts [] fs → y ∈ contact_points us starts [] (f ∷ fs)
  unfolding contact_points
  in_later f fs y m = go (some (touches us starts [] f) fs)
    where
      go : (b : Bool) → y ∈ cond b (fan_point starts f ∷ contact_points us starts [] fs) (contact_points us starts [] fs)
      go true = Memᴰ.tail m
      go false = m

  twice_contact : (names : List ℕ) (y : ℕ) → 2 ≤ times y (points_of starts names) → y ∈ contact_points us starts [] names
  twice_contact [] y h = absurd (omega (arith, h, times_nil y))
  twice_contact (f ∷ fs) y h =
      ⊎_elim
      (λ w. let m : y ∈ points_of starts fs = in_times y (points_of starts fs) (omega (arith, h, times_hit y (fan_point starts f) (points_of starts fs) w.0)) in
      Memᴰ.cast w.0 (in_contact f fs (Memᴰ.cast (sym w.0) m)))
      (λ w. in_later f fs y (twice_contact fs y (omega (arith, h, times_miss y (fan_point starts f) (points_of starts fs) w.0))))
      (equal_or_not y (fan_point starts f))

-- without labels the contact test finds every point with more than one fan: 42 by the test of 31
pub unlabelled : (fault : Fault) (us : List Use) (starts names : List ℕ) → points_clear fault us starts [] names ≡ clear fault (shared_points starts names)
unlabelled fault us starts names =
    clear_same fault (contact_points us starts [] names) (shared_points starts names)
    (λ y m. twice_shared starts names y (contact_twice us starts [] names y m))
    (λ y m. twice_contact us starts names y (shared_twice starts names y m))
