-- Groups that come of joining pairs: two numbers have one label exactly where the pairs connect them, and the label is their least.
use Rattle.std.specs.Prelude.{◌≡◌, ◌↔◌, Bool, ℕ, ◌+◌, ◌≤◌, ◌<◌}
use Rattle.std.proofs.Math.Path.{refl, subst}
use Rattle.std.proofs.Common.{sym, ap, ◌∙◌, subst₂, arith}
use Rattle.std.proofs.Math.Logic.{⊎_elim}
use Rattle.std.proofs.Math.Bool.{true, false, cond}
use mathlib.Core.List.Memᴰ
use mathlib.Core.List.{List, [], ◌∷◌, foldl}
use Rattle.std.proofs.Math.ListN.{length}
use Rattle.lists.specs.Lists.{below, ◌∈◌}
use Rattle.lists.specs.Tests.{both_ways, cond_true, cond_false}
use Rattle.lists.specs.Runs.{in_below, below_in, length_below}
use Rattle.lists.specs.Members.{foldl_keeps}
use Rattle.rules.specs.declared.Edge.{Edge}
use Rattle.rules.specs.declared.Use.{Use}
use Rattle.rules.specs.Outcome.{Outcome, Ok, throughout}
use Rattle.rules.proofs.OutcomeLaws.{ok_one, bind_ok}
use Rattle.rules.specs.Read.{face_of_use}
use Rattle.rules.specs.Groups.{alone, label_of, joined, Grouping, join_groups, lowest_members, Lowest}
use Rattle.rules.proofs.GroupLaws.{label_below, label_least, label_alone, alone_lowest, length_joined}
use Rattle.rules.proofs.GroupLaws.{joined_one, joined_keeps, joined_iff, joined_lowest, alone_many, joined_fewer}
use Rattle.rules.specs.Pair.{twin_of}
use Rattle.rules.specs.Merge.{other_face, boundaries}
use Rattle.rules.specs.Walk.{successor}
use Rattle.rules.specs.Fans.{kept_with_ends, fan_step, fans}
use Rattle.theorems.specs.Connected.{Connected, Equivalence, TwinFaces, RoundCorner, pair, same, back, chain}

-- to have one value is an equivalence
pub value_equivalence : {B : Type 0} (f : ℕ → B) → Equivalence (λ i k. f i ≡ f k)
value_equivalence f = record { same = λ i. refl; back = λ i k e. sym e; chain = λ i k j e f. e ∙ f }

-- numbers that pairs connect are equivalent in every equivalence that has the pairs
pub connected_within : {P E : ℕ → ℕ → Type 0} → Equivalence E → ((a b : ℕ) → P a b → E a b) → (i k : ℕ) → Connected P i k → E i k
connected_within q has i k (pair p) = has i k p
connected_within q has i k same = q.same i
connected_within q has i k (back c) = q.back k i (connected_within q has k i c)
connected_within q has i k (chain {b = j} c d) = q.chain i j k (connected_within q has i j c) (connected_within q has j k d)

pub connected_equivalence : (P : ℕ → ℕ → Type 0) → Equivalence (Connected P)
connected_equivalence P = record { same = λ i. same; back = λ i k c. back c; chain = λ i k j c d. chain c d }

-- pairs that other pairs connect
pub connected_by : {P Q : ℕ → ℕ → Type 0} → ((a b : ℕ) → P a b → Q a b) → {i k : ℕ} → Connected P i k → Connected Q i k
connected_by {Q} has {i} {k} c = connected_within (connected_equivalence Q) (λ a b p. pair (has a b p)) i k c

-- JOINING A PAIR FOR EACH MEMBER THAT PASSES A TEST

module _ {A : Type 0} (test : A → Bool) (left right : A → ℕ) where
  abbrev pub join_step : List ℕ → A → List ℕ
  join_step g x = cond (test x) (joined g (left x) (right x)) g

  -- the pairs of the members that pass
  pub record JoinedBy (l : List A) (a b : ℕ) : Type 0 where
    pub member : A
    pub stands : member ∈ l
    pub passes : test member ≡ true
    pub first : left member ≡ a
    pub second : right member ≡ b

  -- what holds where a pair is joined, and where none is, holds after the step
  step_cases : (P : List ℕ → Type 0) (g : List ℕ) (x : A) → (test x ≡ true → P (joined g (left x) (right x))) → P g → P (join_step g x)
  step_cases P g x yes' no' =
      ⊎_elim (λ e. subst P (sym (cond_true (test x) (joined g (left x) (right x)) g e)) (yes' e)) (λ e. subst P (sym (cond_false (test x) (joined g (left x) (right x)) g e)) no')
      (both_ways (test x))

  step_length : (g : List ℕ) (x : A) → length (join_step g x) ≡ length g
  step_length g x = step_cases (λ m. length m ≡ length g) g x (λ e. length_joined g (left x) (right x)) refl

  step_keeps : (g : List ℕ) (x : A) (i k : ℕ) → i < length g → k < length g → label_of g i ≡ label_of g k → label_of (join_step g x) i ≡ label_of (join_step g x) k
  step_keeps g x i k hi hk e = step_cases (λ m. label_of m i ≡ label_of m k) g x (λ _. joined_keeps g (left x) (right x) i k hi hk e) e

  -- the same with the count of joins of separate groups
  abbrev pub join_counting : Grouping → A → Grouping
  join_counting s x = cond (test x) (join_groups s (left x) (right x)) s

  counting_step : (s : Grouping) (x : A) → (join_counting s x).groups ≡ join_step s.groups x
  unfolding join_groups
  counting_step s x = go (test x)
    where
      go : (b : Bool) → (cond b (join_groups s (left x) (right x)) s).groups ≡ cond b (joined s.groups (left x) (right x)) s.groups
      go true = refl
      go false = refl

  pub counting_groups : (l : List A) (s : Grouping) → (foldl join_counting s l).groups ≡ foldl join_step s.groups l
  counting_groups [] s = refl
  counting_groups (x ∷ l) s = counting_groups l (join_counting s x) ∙ ap (λ g. foldl join_step g l) (counting_step s x)

  -- the groups keep their size
  pub joined_all_length : (n : ℕ) (l : List A) → length (foldl join_step (alone n) l) ≡ n
  joined_all_length n l = foldl_keeps join_step (λ m. length m ≡ n) l (alone n) (length_below n) (λ m x i e. step_length m x ∙ e)

  -- numbers with one label keep one
  fold_keeps : (l : List A) (g : List ℕ) (i k : ℕ) → i < length g → k < length g → label_of g i ≡ label_of g k → label_of (foldl join_step g l) i ≡ label_of (foldl join_step g l) k
  fold_keeps [] g i k hi hk e = e
  fold_keeps (x ∷ l) g i k hi hk e = let s = step_length g x in fold_keeps l (join_step g x) i k (omega arith) (omega arith) (step_keeps g x i k hi hk e)

  -- each pair has one label in the end
  fold_joins : (l : List A) (g : List ℕ) (x : A) → x ∈ l → test x ≡ true → left x < length g → right x < length g
      → label_of (foldl join_step g l) (left x) ≡ label_of (foldl join_step g l) (right x)
  fold_joins [] g x m t hl hr = absurd (Memᴰ.not-nil m)
  fold_joins (y ∷ l) g x m t hl hr =
      let s = step_length g y in
      let later = fold_joins l (join_step g y) x in
      ⊎_elim
      (λ e. fold_keeps l (join_step g y) (left x) (right x) (omega arith) (omega arith)
      (subst (λ z. label_of (join_step g z) (left x) ≡ label_of (join_step g z) (right x)) e
      (rw (cond_true (test x) (joined g (left x) (right x)) g t) (joined_one g (left x) (right x) hl hr))))
      (λ q. later q t (omega arith) (omega arith)) (Memᴰ.cases_cons m)

  module _ (n : ℕ) (l : List A) (inside : (x : A) → x ∈ l → test x ≡ true → (left x < n) × (right x < n)) where
    -- the groups after all were joined
    abbrev pub all_joined : List ℕ
    all_joined = foldl join_step (alone n) l

    -- so far: lowest members as labels, and numbers with one label connected
    record Closed (g : List ℕ) : Type 0 where
      size : length g ≡ n
      lowest : Lowest g
      only : (i k : ℕ) → i < n → k < n → label_of g i ≡ label_of g k → Connected (JoinedBy l) i k

    closed_joined : (g : List ℕ) (x : A) → x ∈ l → test x ≡ true → Closed g → Closed (joined g (left x) (right x))
    closed_joined g x m t c =
        let z = c.size in
        let r = inside x m t in
        let ha : left x < length g = omega (arith, r.0) in
        let hb : right x < length g = omega (arith, r.1) in
        let ab : Connected (JoinedBy l) (left x) (right x) = pair (record { member = x; stands = m; passes = t; first = refl; second = refl }) in
        record {
          size = length_joined g (left x) (right x) ∙ z;
          lowest = joined_lowest g (left x) (right x) ha hb c.lowest;
          only = λ i k hi hk e. ⊎_elim
              (λ q. c.only i k hi hk q)
              (λ w. ⊎_elim
              (λ q. chain (c.only i (left x) hi r.0 q.0) (chain ab (c.only (right x) k r.1 hk (sym q.1))))
              (λ q. chain (c.only i (right x) hi r.1 q.0) (chain (back ab) (c.only (left x) k r.0 hk (sym q.1)))) w)
              ((joined_iff g (left x) (right x) i k (omega arith) (omega arith)).0 e);
        }

    closed_all : Closed all_joined
    closed_all =
        foldl_keeps join_step Closed l (alone n)
        (record {
          size = length_below n;
          lowest = alone_lowest n;
          only = λ i k hi hk e. subst (λ j. Connected (JoinedBy l) i j) (sym (label_alone n i hi) ∙ e ∙ label_alone n k hk) same;
        })
        (λ g x m c. step_cases Closed g x (λ t. closed_joined g x m t c) c)

    -- so far, with the count: each join of separate groups takes one group away
    record Fewer (s : Grouping) : Type 0 where
      size : length s.groups ≡ n
      lowest : Lowest s.groups
      fewer : length (lowest_members s.groups) + s.joins ≡ n

    fewer_step : (s : Grouping) (x : A) → x ∈ l → Fewer s → Fewer (join_counting s x)
    unfolding join_groups
    fewer_step s x m f = ⊎_elim (λ t. subst Fewer (sym (cond_true (test x) (join_groups s (left x) (right x)) s t)) (joins t))
        (λ t. subst Fewer (sym (cond_false (test x) (join_groups s (left x) (right x)) s t)) f) (both_ways (test x))
      where
        joins : test x ≡ true → Fewer (join_groups s (left x) (right x))
        joins t =
            let z = f.size in
            let r = inside x m t in
            let ha : left x < length s.groups = omega (arith, r.0) in
            let hb : right x < length s.groups = omega (arith, r.1) in
            record {
              size = length_joined s.groups (left x) (right x) ∙ z;
              lowest = joined_lowest s.groups (left x) (right x) ha hb f.lowest;
              fewer = omega (arith, f.fewer, joined_fewer s.groups (left x) (right x) ha hb f.lowest);
            }

    pub joined_all_fewer : length (lowest_members (foldl join_counting (record { groups = alone n; joins = 0 }) l).groups) + (foldl join_counting (record { groups = alone n; joins = 0 }) l).joins ≡ n
    joined_all_fewer =
        (foldl_keeps join_counting Fewer l (record { groups = alone n; joins = 0 })
        (record { size = length_below n; lowest = alone_lowest n; fewer = omega (arith, alone_many n) })
        (λ s x m f. fewer_step s x m f)).fewer

    pub joined_all_lowest : Lowest all_joined
    joined_all_lowest = closed_all.lowest

    -- the numbers of a pair have one label
    pub joined_all_pair : (x : A) → x ∈ l → test x ≡ true → label_of all_joined (left x) ≡ label_of all_joined (right x)
    joined_all_pair x m t =
        let r = inside x m t in
        let z = length_below n in
        fold_joins l (alone n) x m t (omega (arith, r.0)) (omega (arith, r.1))

    -- two numbers have one label exactly where the pairs connect them
    pub joined_all_connected : (i k : ℕ) → i < n → k < n → (label_of all_joined i ≡ label_of all_joined k) ↔ Connected (JoinedBy l) i k
    joined_all_connected i k hi hk = (
      closed_all.only i k hi hk,
      connected_within (value_equivalence (label_of all_joined))
          (λ a b p. ap (label_of all_joined) (sym p.first) ∙ joined_all_pair p.member p.stands p.passes ∙ ap (label_of all_joined) p.second) i k,
    )

    -- numbers with one label are equivalent in every equivalence that has the pairs
    pub joined_all_within : {E : ℕ → ℕ → Type 0} → Equivalence E → ((x : A) → x ∈ l → test x ≡ true → E (left x) (right x))
        → (i k : ℕ) → i < n → k < n → label_of all_joined i ≡ label_of all_joined k → E i k
    joined_all_within {E} q has i k hi hk e =
        connected_within q (λ a b p. subst₂ E p.first p.second (has p.member p.stands p.passes)) i k (closed_all.only i k hi hk e)

    -- the label of a number is connected to it, and is the least that is
    pub joined_all_label : (i : ℕ) → i < n → Connected (JoinedBy l) i (label_of all_joined i)
    joined_all_label i h =
        let z = closed_all.size in
        let b = label_below closed_all.lowest i (omega arith) in
        closed_all.only i (label_of all_joined i) h (omega arith) (sym (closed_all.lowest.stands i (omega arith)))

    pub joined_all_least : (i k : ℕ) → i < n → k < n → Connected (JoinedBy l) i k → label_of all_joined i ≤ k
    joined_all_least i k hi hk c =
        let z = closed_all.size in
        label_least closed_all.lowest i k (omega arith) ((joined_all_connected i k hi hk).1 c)

-- steps that give, where they refuse nothing, what a plain step gives
pub through_fold : {A S : Type 0} (step : A → S → Outcome S) (f : S → A → S) → ((x : A) (u v : S) → step x u ≡ Ok v → v ≡ f u x)
    → (xs : List A) (s t : S) → throughout step xs s ≡ Ok t → t ≡ foldl f s xs
unfolding throughout
through_fold step f gives [] s t e = sym (ok_one e)
through_fold step f gives (x ∷ xs) s t e =
    let r = bind_ok (step x s) (throughout step xs) t e in
    through_fold step f gives xs r.0 t r.2 ∙ ap (λ u. foldl f u xs) (gives x s r.0 r.1)

-- BOUNDARIES

module _ (us : List Use) (ts : List ℕ) (faces : ℕ) (face : (h : ℕ) → h < length us → face_of_use us h < faces) (twin : (h : ℕ) → h < length us → twin_of ts h < length us) where
  boundary_inside : (h : ℕ) → h ∈ below (length us) → true ≡ true → (face_of_use us h < faces) × (other_face us ts h < faces)
  boundary_inside h m _ = let q = below_in (length us) h m in (face h q, face (twin_of ts h) (twin h q))

  pub boundaries_lowest : Lowest (boundaries us ts faces)
  boundaries_lowest = joined_all_lowest (λ _. true) (face_of_use us) (other_face us ts) faces (below (length us)) boundary_inside

  -- two faces are of one boundary exactly where twins connect them
  pub boundaries_connected : (i k : ℕ) → i < faces → k < faces → (label_of (boundaries us ts faces) i ≡ label_of (boundaries us ts faces) k) ↔ Connected (TwinFaces us ts) i k
  boundaries_connected i k hi hk =
      let r = joined_all_connected (λ _. true) (face_of_use us) (other_face us ts) faces (below (length us)) boundary_inside i k hi hk in (
        λ e. connected_by (λ a b p. (p.member, below_in (length us) p.member p.stands, p.first, p.second)) (r.0 e),
        λ c. r.1 (connected_by (λ a b p. record { member = p.0; stands = in_below (length us) p.0 p.1; passes = refl; first = p.2; second = p.3 }) c),
      )

  -- the faces of a use and its twin are of one boundary
  pub boundaries_twin : (h : ℕ) → h < length us → label_of (boundaries us ts faces) (face_of_use us h) ≡ label_of (boundaries us ts faces) (other_face us ts h)
  boundaries_twin h lt = joined_all_pair (λ _. true) (face_of_use us) (other_face us ts) faces (below (length us)) boundary_inside h (in_below (length us) h lt) refl

  -- faces of one boundary are equivalent in every equivalence that has the faces of twins
  pub boundaries_within : {E : ℕ → ℕ → Type 0} → Equivalence E → ((h : ℕ) → h < length us → E (face_of_use us h) (other_face us ts h))
      → (i k : ℕ) → i < faces → k < faces → label_of (boundaries us ts faces) i ≡ label_of (boundaries us ts faces) k → E i k
  boundaries_within q has =
      joined_all_within (λ _. true) (face_of_use us) (other_face us ts) faces (below (length us)) boundary_inside q (λ h m _. has h (below_in (length us) h m))

-- FANS

pub fans_length : (es : List Edge) (us : List Use) (ts : List ℕ) (rm : List Bool) (ss : List ℕ) → length (fans es us ts rm ss) ≡ length us
unfolding fan_step
fans_length es us ts rm ss = joined_all_length (kept_with_ends es us rm) (successor ss) (twin_of ts) (length us) (below (length us))

module _ (es : List Edge) (us : List Use) (ts : List ℕ) (rm : List Bool) (ss : List ℕ)
    (next : (h : ℕ) → h < length us → kept_with_ends es us rm h ≡ true → successor ss h < length us) (twin : (h : ℕ) → h < length us → twin_of ts h < length us) where
  fan_inside : (h : ℕ) → h ∈ below (length us) → kept_with_ends es us rm h ≡ true → (successor ss h < length us) × (twin_of ts h < length us)
  fan_inside h m t = let q = below_in (length us) h m in (next h q t, twin h q)

  pub fans_lowest : Lowest (fans es us ts rm ss)
  unfolding fan_step
  fans_lowest = joined_all_lowest (kept_with_ends es us rm) (successor ss) (twin_of ts) (length us) (below (length us)) fan_inside

  -- two uses are of one fan exactly where steps round a corner connect them
  pub fans_connected : (i k : ℕ) → i < length us → k < length us → (label_of (fans es us ts rm ss) i ≡ label_of (fans es us ts rm ss) k) ↔ Connected (RoundCorner es us ts rm ss) i k
  unfolding fan_step
  fans_connected i k hi hk =
      let r = joined_all_connected (kept_with_ends es us rm) (successor ss) (twin_of ts) (length us) (below (length us)) fan_inside i k hi hk in (
        λ e. connected_by (λ a b p. (p.member, below_in (length us) p.member p.stands, p.passes, p.first, p.second)) (r.0 e),
        λ c. r.1 (connected_by (λ a b p. record { member = p.0; stands = in_below (length us) p.0 p.1; passes = p.2; first = p.3; second = p.4 }) c),
      )

  -- the new successor and the twin of a kept use with ends are of one fan
  pub fans_corner : (h : ℕ) → h < length us → kept_with_ends es us rm h ≡ true → label_of (fans es us ts rm ss) (successor ss h) ≡ label_of (fans es us ts rm ss) (twin_of ts h)
  unfolding fan_step
  fans_corner h lt t = joined_all_pair (kept_with_ends es us rm) (successor ss) (twin_of ts) (length us) (below (length us)) fan_inside h (in_below (length us) h lt) t

  -- uses of one fan are equivalent in every equivalence that has the new successor and the twin of a kept use with ends
  pub fans_within : {E : ℕ → ℕ → Type 0} → Equivalence E → ((h : ℕ) → h < length us → kept_with_ends es us rm h ≡ true → E (successor ss h) (twin_of ts h))
      → (i k : ℕ) → i < length us → k < length us → label_of (fans es us ts rm ss) i ≡ label_of (fans es us ts rm ss) k → E i k
  unfolding fan_step
  fans_within q has =
      joined_all_within (kept_with_ends es us rm) (successor ss) (twin_of ts) (length us) (below (length us)) fan_inside q (λ h m t. has h (below_in (length us) h m) t)
