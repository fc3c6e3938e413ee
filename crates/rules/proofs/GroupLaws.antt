-- Laws of groups by label: a label is the lowest member of its group, what joining does to the groups, and the groups by number.
use Rattle.std.specs.Prelude.{◌≡◌, refl, ◌⊎◌, ◌↔◌, cond, ℕ, suc, ◌+◌, ◌≤◌, ◌<◌, min, max, length, get_or, eqb, ltb}
use Rattle.std.proofs.Common.{sym, ap, ◌∙◌, inl, inr, arith, eqb-true, eq-eqb, ne_eqb, ltb-true, ltb-false}
use Rattle.std.proofs.Math.Logic.{⊎_elim}
use mathlib.Core.List.{List, [], ◌∷◌, map, map-id}
use mathlib.Core.Bool.{true≢false}
use Rattle.std.proofs.lemmas.List.{length-map}
use Rattle.std.proofs.Math.ListN.{get_or-eq_default}
use Rattle.lists.specs.Lists.{below, ◌∈◌, Nodup, times, keep, index_of, sum_of}
use Rattle.lists.specs.Sums.{sum_map, sum_same}
use Rattle.lists.specs.Tests.{both_ways, equal_or_not}
use Rattle.lists.specs.Membership.{get_or_in, times_out, times_once}
use Rattle.lists.specs.Runs.{in_below, below_in, below_nodup, length_below, get_or_below}
use Rattle.lists.specs.Members.{in_keep, keep_in, keep_nodup, keep_length, position_le, get_or_map, map_same, index_of_in}
use Rattle.lists.specs.Members.{index_of_at}
use Rattle.lists.specs.Counts.{keep_all}
use Rattle.lists.specs.KeepCounts.{keep_fall}
use Rattle.rules.specs.Groups.{alone, label_of, moved, joined, separate, members_of, is_lowest, lowest_members}
use Rattle.rules.specs.Groups.{group_numbers, Lowest}

-- the label of a number is a number of the groups
pub label_below : {g : List ℕ} → Lowest g → (i : ℕ) → i < length g → label_of g i < length g
label_below l i h = let low = l.low i h in omega arith

-- no label, nor what stands for none, lies above the number of members
pub label_within : {g : List ℕ} → Lowest g → (i : ℕ) → label_of g i ≤ length g
label_within {g} l i =
    ⊎_elim
    (λ t. let lt = label_below l i (ltb-true i (length g) t) in omega arith)
    (λ t. let e = get_or-eq_default g 0 (ltb-false i (length g) t) in omega arith)
    (both_ways (ltb i (length g)))

-- the label of a group is its least member
pub label_least : {g : List ℕ} → Lowest g → (i k : ℕ) → k < length g → label_of g i ≡ label_of g k → label_of g i ≤ k
label_least l i k h e = let low = l.low k h in omega arith

-- EACH ALONE

pub label_alone : (n i : ℕ) → i < n → label_of (alone n) i ≡ i
label_alone n i h = get_or_below n i 0 h

pub alone_lowest : (n : ℕ) → Lowest (alone n)
alone_lowest n =
    let own : (i : ℕ) → i < length (alone n) → label_of (alone n) i ≡ i = λ i h. label_alone n i (omega (arith, length_below n)) in
    record { low = λ i h. let e = own i h in omega arith; stands = λ i h. ap (label_of (alone n)) (own i h) }

-- JOINING

-- the greater and the lesser of two numbers is one of them
of_max : (x y : ℕ) {z : ℕ} → z ≡ max x y → (z ≡ x) ⊎ (z ≡ y)
of_max x y e = ⊎_elim (λ w. inl w.0) (λ w. let n = w.0 in inr (omega arith)) (equal_or_not _ x)

of_min : (x y : ℕ) {z : ℕ} → z ≡ min x y → (z ≡ x) ⊎ (z ≡ y)
of_min x y e = ⊎_elim (λ w. inl w.0) (λ w. let n = w.0 in inr (omega arith)) (equal_or_not _ x)

moved_from : (from to label : ℕ) → label ≡ from → moved from to label ≡ to
unfolding moved
moved_from from to label e = rw (eq-eqb label from e)

moved_other : (from to label : ℕ) → (label ≡ from → ⊥) → moved from to label ≡ label
unfolding moved
moved_other from to label n = ⊎_elim (λ w. absurd (n w.0)) (λ w. rw w.1) (equal_or_not label from)

pub length_joined : (g : List ℕ) (a b : ℕ) → length (joined g a b) ≡ length g
unfolding joined
length_joined g a b = length-map g _

module _ (g : List ℕ) (a b : ℕ) where
  -- the lesser and the greater of the two labels
  abbrev pub lesser_label : ℕ
  lesser_label = min (label_of g a) (label_of g b)

  abbrev pub greater_label : ℕ
  greater_label = max (label_of g a) (label_of g b)

  joined_moved : (i : ℕ) → i < length g → label_of (joined g a b) i ≡ moved (max (label_of g a) (label_of g b)) lesser_label (label_of g i)
  unfolding joined
  joined_moved i h = get_or_map _ g i 0 0 h

  -- a number of either group has the lesser label
  pub joined_in : (i : ℕ) → i < length g → (label_of g i ≡ label_of g a) ⊎ (label_of g i ≡ label_of g b) → label_of (joined g a b) i ≡ lesser_label
  joined_in i h e = joined_moved i h ∙ ⊎_elim
      (λ w. moved_from _ lesser_label (label_of g i) w.0)
      (λ w. let n = w.0 in moved_other _ lesser_label (label_of g i) n ∙ ⊎_elim (λ q. omega arith) (λ q. omega arith) e)
      (equal_or_not (label_of g i) (max (label_of g a) (label_of g b)))

  -- a number of neither group keeps its label
  pub joined_out : (i : ℕ) → i < length g → (label_of g i ≡ label_of g a → ⊥) → (label_of g i ≡ label_of g b → ⊥) → label_of (joined g a b) i ≡ label_of g i
  joined_out i h p q = joined_moved i h ∙ moved_other _ lesser_label (label_of g i) (λ e. ⊎_elim p q (of_max (label_of g a) (label_of g b) e))

  -- the label of a number after joining, by cases
  pub joined_at : (i : ℕ) → i < length g
      → (((label_of g i ≡ label_of g a) ⊎ (label_of g i ≡ label_of g b)) × (label_of (joined g a b) i ≡ lesser_label))
      ⊎ ((label_of g i ≡ label_of g a → ⊥) × (label_of g i ≡ label_of g b → ⊥) × (label_of (joined g a b) i ≡ label_of g i))
  joined_at i h = ⊎_elim
      (λ v. inl (inl v.0, joined_in i h (inl v.0)))
      (λ v. ⊎_elim (λ w. inl (inr w.0, joined_in i h (inr w.0))) (λ w. inr (v.0, w.0, joined_out i h v.0 w.0)) (equal_or_not (label_of g i) (label_of g b)))
      (equal_or_not (label_of g i) (label_of g a))

  -- the two have one label afterwards
  pub joined_one : a < length g → b < length g → label_of (joined g a b) a ≡ label_of (joined g a b) b
  joined_one ha hb = joined_in a ha (inl refl) ∙ sym (joined_in b hb (inr refl))

  -- one group already: joining changes no label
  pub joined_same : label_of g a ≡ label_of g b → joined g a b ≡ g
  unfolding joined
  joined_same e = map_same (moved greater_label lesser_label) (λ label. label) g (λ label m. stays label) ∙ map-id g
    where
      stays : (label : ℕ) → moved greater_label lesser_label label ≡ label
      stays label = ⊎_elim
          (λ w. let q = w.0 in moved_from greater_label lesser_label label q ∙ omega arith)
          (λ w. moved_other greater_label lesser_label label w.0)
          (equal_or_not label greater_label)

  -- numbers that had one label still have
  pub joined_keeps : (i k : ℕ) → i < length g → k < length g → label_of g i ≡ label_of g k → label_of (joined g a b) i ≡ label_of (joined g a b) k
  joined_keeps i k hi hk e = joined_moved i hi ∙ ap (moved _ lesser_label) e ∙ sym (joined_moved k hk)

  -- one label afterwards: exactly where there was one label before, or one number was of a's group and the other of b's
  pub joined_iff : (i k : ℕ) → i < length g → k < length g
      → (label_of (joined g a b) i ≡ label_of (joined g a b) k)
      ↔ ((label_of g i ≡ label_of g k) ⊎ (((label_of g i ≡ label_of g a) × (label_of g k ≡ label_of g b)) ⊎ ((label_of g i ≡ label_of g b) × (label_of g k ≡ label_of g a))))
  joined_iff i k hi hk = (there (joined_at i hi) (joined_at k hk), back)
    where
      Before : Type 0
      Before = (label_of g i ≡ label_of g k) ⊎ (((label_of g i ≡ label_of g a) × (label_of g k ≡ label_of g b)) ⊎ ((label_of g i ≡ label_of g b) × (label_of g k ≡ label_of g a)))

      At : ℕ → Type 0
      At i = (((label_of g i ≡ label_of g a) ⊎ (label_of g i ≡ label_of g b)) × (label_of (joined g a b) i ≡ lesser_label))
          ⊎ ((label_of g i ≡ label_of g a → ⊥) × (label_of g i ≡ label_of g b → ⊥) × (label_of (joined g a b) i ≡ label_of g i))

      both : (label_of g i ≡ label_of g a) ⊎ (label_of g i ≡ label_of g b) → (label_of g k ≡ label_of g a) ⊎ (label_of g k ≡ label_of g b) → Before
      both (inl p) (inl q) = inl (p ∙ sym q)
      both (inl p) (inr q) = inr (inl (p, q))
      both (inr p) (inl q) = inr (inr (p, q))
      both (inr p) (inr q) = inl (p ∙ sym q)

      there : At i → At k → label_of (joined g a b) i ≡ label_of (joined g a b) k → Before
      there (inl p) (inl q) e = both p.0 q.0
      there (inl p) (inr q) e = let s = p.1 in let n = q.0 in let m = q.1 in let t = q.2 in absurd (omega arith)
      there (inr p) (inl q) e = let s = q.1 in let n = p.0 in let m = p.1 in let t = p.2 in absurd (omega arith)
      there (inr p) (inr q) e = inl (sym p.2 ∙ e ∙ q.2)

      back : Before → label_of (joined g a b) i ≡ label_of (joined g a b) k
      back (inl e) = joined_keeps i k hi hk e
      back (inr (inl p)) = joined_in i hi (inl p.0) ∙ sym (joined_in k hk (inr p.1))
      back (inr (inr p)) = joined_in i hi (inr p.0) ∙ sym (joined_in k hk (inl p.1))

  -- joining keeps a group's lowest member as its label
  pub joined_lowest : a < length g → b < length g → Lowest g → Lowest (joined g a b)
  joined_lowest ha hb l = record {
    low = λ i h. low i (omega (arith, length_joined g a b));
    stands = λ i h. stands i (omega (arith, length_joined g a b));
  }
    where
      low : (i : ℕ) → i < length g → label_of (joined g a b) i ≤ i
      low i h =
          let old = l.low i h in
          ⊎_elim (λ w. let e = w.1 in ⊎_elim (λ q. omega arith) (λ q. omega arith) w.0) (λ w. let e = w.2 in omega arith) (joined_at i h)

      -- the lesser label is the label of a or of b
      lesser_in : (lesser_label < length g) × ((label_of g lesser_label ≡ label_of g a) ⊎ (label_of g lesser_label ≡ label_of g b))
      lesser_in = ⊎_elim
          (λ w. let e : lesser_label ≡ label_of g a = w.0 in let s = label_below l a ha in (omega arith, inl (ap (label_of g) e ∙ l.stands a ha)))
          (λ w. let n = w.0 in let e : lesser_label ≡ label_of g b = omega arith in let s = label_below l b hb in (omega arith, inr (ap (label_of g) e ∙ l.stands b hb)))
          (equal_or_not lesser_label (label_of g a))

      stands : (i : ℕ) → i < length g → label_of (joined g a b) (label_of (joined g a b) i) ≡ label_of (joined g a b) i
      stands i h = ⊎_elim
          (λ w. ap (label_of (joined g a b)) w.1 ∙ joined_in lesser_label lesser_in.0 lesser_in.1 ∙ sym w.1)
          (λ w. joined_keeps (label_of (joined g a b) i) i (let e = w.2 in let s = label_below l i h in omega arith) h (ap (label_of g) w.2 ∙ l.stands i h))
          (joined_at i h)

-- LOWEST MEMBERS AND GROUP NUMBERS

pub lowest_members_nodup : (g : List ℕ) → Nodup (lowest_members g)
lowest_members_nodup g = keep_nodup (is_lowest g) (below (length g)) (below_nodup (length g))

-- a lowest member is its own label
pub lowest_members_in : (g : List ℕ) (x : ℕ) → x ∈ lowest_members g → (x < length g) × (label_of g x ≡ x)
lowest_members_in g x m = let r = keep_in (is_lowest g) (below (length g)) x m in (below_in (length g) x r.0, eqb-true (label_of g x) x r.1)

pub in_lowest_members : (g : List ℕ) (x : ℕ) → x < length g → label_of g x ≡ x → x ∈ lowest_members g
in_lowest_members g x h e = in_keep (is_lowest g) (in_below (length g) x h) (eq-eqb (label_of g x) x e)

-- the label of each number is a lowest member
pub label_in_lowest_members : {g : List ℕ} → Lowest g → (i : ℕ) → i < length g → label_of g i ∈ lowest_members g
label_in_lowest_members {g} l i h = in_lowest_members g (label_of g i) (label_below l i h) (l.stands i h)

-- each number alone: as many groups as numbers
pub alone_many : (n : ℕ) → length (lowest_members (alone n)) ≡ n
alone_many n =
    ap length (keep_all (is_lowest (alone n)) (below (length (alone n))) (λ i m. eq-eqb (label_of (alone n) i) i (label_alone n i (omega (arith, below_in (length (alone n)) i m, length_below n)))))
    ∙ length_below (length (alone n)) ∙ length_below n

-- THE MEMBERS OF THE GROUPS

pub members_in_lem : (g : List ℕ) (label i : ℕ) → i ∈ members_of g label → (i < length g) × (label_of g i ≡ label)
members_in_lem g label i m =
    let r = keep_in (λ k. eqb (label_of g k) label) (below (length g)) i m in
    (below_in (length g) i r.0, eqb-true (label_of g i) label r.1)

-- a number stands once among the members of its own group, and not among those of another
members_times : (g : List ℕ) (i label : ℕ) → i < length g → times i (members_of g label) ≡ cond (eqb (label_of g i) label) 1 0
members_times g i label h = ⊎_elim
    (λ t. times_once i (members_of g label) (keep_nodup (λ k. eqb (label_of g k) label) (below (length g)) (below_nodup (length g)))
    (in_keep (λ k. eqb (label_of g k) label) (in_below (length g) i h) t)
    ∙ sym (ap (λ b. cond b 1 0) t))
    (λ t. times_out i (members_of g label) (λ m. true≢false (sym (eq-eqb _ _ (members_in_lem g label i m).1) ∙ t)) ∙ sym (ap (λ b. cond b 1 0) t))
    (both_ways (eqb (label_of g i) label))

times_sum : (x : ℕ) (l : List ℕ) → times x l ≡ sum_of (λ y. cond (eqb x y) 1 0) l
unfolding times sum_of
times_sum x [] = refl
times_sum x (y ∷ l) = ap (λ k. cond (eqb x y) 1 0 + k) (times_sum x l)

-- over the members of all groups each number stands once
pub members_once : {g : List ℕ} → Lowest g → (i : ℕ) → i < length g → sum_of (times i) (map (members_of g) (lowest_members g)) ≡ 1
members_once {g} l i h =
    sum_map (times i) (members_of g) (lowest_members g)
    ∙ sum_same (λ label. times i (members_of g label)) (λ label. cond (eqb (label_of g i) label) 1 0) (lowest_members g)
    (λ label m. members_times g i label h)
    ∙ sym (times_sum (label_of g i) (lowest_members g))
    ∙ times_once (label_of g i) (lowest_members g) (lowest_members_nodup g) (label_in_lowest_members l i h)

-- JOINING TAKES ONE GROUP AWAY WHERE THE TWO WERE SEPARATE

module _ (g : List ℕ) (a b : ℕ) (ha : a < length g) (hb : b < length g) (l : Lowest g) where
  -- each of the two labels is a lowest member
  own_label : (x : ℕ) → (x ≡ label_of g a) ⊎ (x ≡ label_of g b) → (x < length g) × (label_of g x ≡ x)
  own_label x = ⊎_elim
      (λ e. let s = label_below l a ha in (omega arith, ap (label_of g) e ∙ l.stands a ha ∙ sym e))
      (λ e. let s = label_below l b hb in (omega arith, ap (label_of g) e ∙ l.stands b hb ∙ sym e))

  -- the groups after joining, counted among the same numbers
  after : length (lowest_members (joined g a b)) ≡ length (keep (is_lowest (joined g a b)) (below (length g)))
  after = ap (λ n. length (keep (is_lowest (joined g a b)) (below n))) (length_joined g a b)

  -- the greater of the two labels, and the lesser
  abbrev top : ℕ
  top = greater_label g a b

  abbrev bottom : ℕ
  bottom = lesser_label g a b

  -- separate groups: the greater label alone is a lowest member no longer
  one_fewer : (label_of g a ≡ label_of g b → ⊥) → length (lowest_members g) ≡ suc (length (lowest_members (joined g a b)))
  one_fewer apart =
      keep_fall (is_lowest g) (is_lowest (joined g a b)) top (below (length g)) (below_nodup (length g)) (in_below (length g) top greater.0)
      (eq-eqb (label_of g top) top greater.1) (ne_eqb (label_of (joined g a b) top) top falls) (λ x m n. other x (below_in (length g) x m) n)
      ∙ ap suc (sym after)
    where
      greater : (top < length g) × (label_of g top ≡ top)
      greater = own_label top (of_max (label_of g a) (label_of g b) refl)

      falls : label_of (joined g a b) top ≡ top → ⊥
      falls e = apart (let q = joined_moved g a b top greater.0 ∙ moved_from top bottom (label_of g top) greater.1 in omega arith)

      other : (x : ℕ) → x < length g → (x ≡ top → ⊥) → is_lowest g x ≡ is_lowest (joined g a b) x
      other x h n = ⊎_elim
          (λ w.
          let q : label_of (joined g a b) x ≡ bottom = joined_moved g a b x h ∙ moved_from top bottom (label_of g x) w.0 in
          ne_eqb (label_of g x) x (λ e. n (sym e ∙ w.0)) ∙ sym (ne_eqb (label_of (joined g a b) x) x (λ e. apart (equal x (sym e ∙ q) w.0))))
          (λ w. ap (λ label. eqb label x) (sym (joined_moved g a b x h ∙ moved_other top (bottom) (label_of g x) w.0)))
          (equal_or_not (label_of g x) top)
        where
          -- the lesser label has itself as label
          equal : (x : ℕ) → x ≡ bottom → label_of g x ≡ top → label_of g a ≡ label_of g b
          equal x z k = let s = (own_label x (of_min (label_of g a) (label_of g b) z)).1 in omega arith

  -- as many groups as before, less one where the two were separate
  pub joined_fewer : length (lowest_members (joined g a b)) + cond (separate g a b) 1 0 ≡ length (lowest_members g)
  joined_fewer = ⊎_elim
      (λ w. let e = ap (λ m. length (lowest_members m)) (joined_same g a b w.0) in rw w.1 (omega arith))
      (λ w. let e = one_fewer w.0 in rw w.1 (omega arith))
      (equal_or_not (label_of g a) (label_of g b))

  -- joining changes the groups where the two were separate
  pub separate_changes : (label_of g a ≡ label_of g b → ⊥) → joined g a b ≡ g → ⊥
  separate_changes apart e = let c = one_fewer apart in let k = ap (λ m. length (lowest_members m)) e in absurd (omega arith)

pub length_group_numbers : (g : List ℕ) → length (group_numbers g) ≡ length g
unfolding group_numbers
length_group_numbers g = length-map g _

pub group_numbers_at : (g : List ℕ) (i : ℕ) → i < length g → get_or (group_numbers g) i 0 ≡ index_of (label_of g i) (lowest_members g)
unfolding group_numbers
group_numbers_at g i h = get_or_map _ g i 0 0 h

-- no group number, nor what stands for none, lies above the number of members
pub group_numbers_within : (g : List ℕ) (i : ℕ) → get_or (group_numbers g) i 0 ≤ length g
group_numbers_within g i =
    ⊎_elim
    (λ t.
    let e = group_numbers_at g i (ltb-true i (length g) t) in
    omega (arith, e, position_le (eqb (label_of g i)) (lowest_members g), keep_length (is_lowest g) (below (length g)), length_below (length g)))
    (λ t.
    let le : length (group_numbers g) ≤ i = omega (arith, ltb-false i (length g) t, length_group_numbers g) in
    let e = get_or-eq_default (group_numbers g) 0 le in
    omega arith)
    (both_ways (ltb i (length g)))

module _ {g : List ℕ} (l : Lowest g) where
  -- each number's group is one of the groups
  pub group_numbers_below : (i : ℕ) → i < length g → get_or (group_numbers g) i 0 < length (lowest_members g)
  group_numbers_below i h = rw (group_numbers_at g i h) (index_of_in (label_of g i) (lowest_members g) (label_in_lowest_members l i h)).0

  -- the lowest member of a number's group is its label
  pub group_numbers_label : (i : ℕ) → i < length g → get_or (lowest_members g) (get_or (group_numbers g) i 0) 0 ≡ label_of g i
  group_numbers_label i h = rw (group_numbers_at g i h) (index_of_in (label_of g i) (lowest_members g) (label_in_lowest_members l i h)).1

  -- one group number exactly where there is one label
  pub group_numbers_iff : (i k : ℕ) → i < length g → k < length g → (get_or (group_numbers g) i 0 ≡ get_or (group_numbers g) k 0) ↔ (label_of g i ≡ label_of g k)
  group_numbers_iff i k hi hk = (
    λ e. sym (group_numbers_label i hi) ∙ ap (λ j. get_or (lowest_members g) j 0) e ∙ group_numbers_label k hk,
    λ e. group_numbers_at g i hi ∙ ap (λ x. index_of x (lowest_members g)) e ∙ sym (group_numbers_at g k hk),
  )

  -- the group of the lowest member of group j is j
  pub group_numbers_lowest : (j : ℕ) → j < length (lowest_members g) → get_or (group_numbers g) (get_or (lowest_members g) j 0) 0 ≡ j
  group_numbers_lowest j h =
      let r = lowest_members_in g (get_or (lowest_members g) j 0) (get_or_in (lowest_members g) j 0 h) in
      group_numbers_at g (get_or (lowest_members g) j 0) r.0 ∙ ap (λ x. index_of x (lowest_members g)) r.1 ∙ index_of_at (lowest_members g) j (lowest_members_nodup g) h
