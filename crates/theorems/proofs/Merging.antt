-- Merging: which faces become one, which uses are removed, and what the walks take from it.
use Rattle.std.specs.Prelude.{◌≡◌, ◌↔◌, Bool, false, ◌&&◌, not, cond, ℕ, ◌+◌, ◌<◌, length, eqb, leb}
use Rattle.std.proofs.Math.Path.{sym, ap}
use Rattle.std.proofs.Common.{◌∙◌, subst, inl, inr, arith, eqb-true, eq-eqb, leb-false}
use Rattle.std.proofs.Math.Logic.{⊎_elim}
use Rattle.std.proofs.Math.Bool.{true}
use Rattle.std.proofs.lemmas.Bool.{false≢true, eqb-false, not-true}
use mathlib.Core.List.{List, [], ◌∷◌, foldl}
use Rattle.lists.specs.Lists.{below, ◌∈◌}
use Rattle.lists.specs.Tests.{both_ways, or_none, and_both, equal_or_not, eqb_swap, cond_true, cond_false}
use Rattle.lists.specs.Runs.{in_below, below_in, length_table, get_or_table}
use Rattle.rules.specs.declared.Face.{Face}
use Rattle.rules.specs.declared.Use.{Use}
use Rattle.rules.specs.Outcome.{Outcome, Ok, throughout, Err}
use Rattle.rules.proofs.OutcomeLaws.{ok_one, bind_ok, bind_on, cond_ok}
use Rattle.rules.specs.Job.{Answer}
use Rattle.rules.specs.Questions.{surface_answer, ask}
use Rattle.rules.specs.Read.{face_of_use, old_successor}
use Rattle.rules.specs.Groups.{alone, label_of, Grouping, join_groups, lowest_members, Lowest}
use Rattle.rules.proofs.GroupLaws.{joined_same, separate_changes}
use Rattle.rules.specs.Pair.{twin_of}
use Rattle.rules.specs.declared.Table.{Table}
use Rattle.rules.specs.Merge.{other_face, boundaries, joins_faces, equal_senses, surface_step, unasked, merge_step}
use Rattle.rules.specs.Merge.{ungrouped, merged_groups, removes, removed_uses, is_removed, Merged, merge_faces}
use Rattle.theorems.specs.Linked.{Twins, Linked}
use Rattle.theorems.specs.Connected.{Connected, Equivalence}
use Rattle.theorems.proofs.Connected.{value_equivalence, connected_by, join_step, join_counting}
use Rattle.theorems.proofs.Connected.{counting_groups, joined_all_fewer, joined_all_length, joined_all_lowest}
use Rattle.theorems.proofs.Connected.{joined_all_connected, joined_all_within, through_fold}
use Rattle.rules.proofs.SizeLaws.{boundaries_length}
use Rattle.theorems.proofs.Connected.{boundaries_twin}
use Rattle.theorems.specs.Merging.{Told, surface_joins, SameSurface, merge_grouping}

-- MERGED GROUPS

-- joining two groups tells whether they were separate
pub join_tells : (s : Grouping) (a b : ℕ) → a < length s.groups → b < length s.groups → Lowest s.groups → Told s (join_groups s a b)
unfolding join_groups
join_tells s a b ha hb l = ⊎_elim
    (λ w. inl (λ i. record { groups = joined_same s.groups a b w.0 i; joins = counts (eqb (label_of s.groups a) (label_of s.groups b)) w.1 i }))
    (λ w. inr (separate_changes s.groups a b ha hb l w.0, rw w.1 (omega arith)))
    (equal_or_not (label_of s.groups a) (label_of s.groups b))
  where
    counts : (t : Bool) → t ≡ true → s.joins + cond (not t) 1 0 ≡ s.joins
    counts t e = rw e (omega arith)

-- a pair that is asked for: at its lower use, and its two faces differ
pub asked_is : (us : List Use) (ts : List ℕ) (h : ℕ) → unasked us ts h ≡ false → (h < twin_of ts h) × (face_of_use us h ≡ other_face us ts h → ⊥)
asked_is us ts h e =
    let r = or_none (leb (twin_of ts h) h) (eqb (face_of_use us h) (other_face us ts h)) e in
    (leb-false (twin_of ts h) h r.0, eqb-false (face_of_use us h) (other_face us ts h) r.1)

is_yes : Outcome Bool → Bool
is_yes (Ok b) = b
is_yes (Err r) = false

yes_ok : (o : Outcome Bool) → is_yes o ≡ true → o ≡ Ok true
unfolding is_yes
yes_ok (Ok b) e = ap Ok e
yes_ok (Err r) e = absurd (false≢true e)

ok_yes : (o : Outcome Bool) (b : Bool) → o ≡ Ok b → is_yes o ≡ b
unfolding is_yes
ok_yes o b e = rw e

module _ (t : Table) (answers : List Answer) (fs : List Face) (us : List Use) (ts : List ℕ) where
  -- a pair is asked for and joined, as a test
  joins_at : ℕ → Bool
  joins_at h = not (unasked us ts h) && is_yes (surface_joins t answers fs us ts h)

  joins_yes : (h : ℕ) → joins_at h ≡ true → (unasked us ts h ≡ false) × (surface_joins t answers fs us ts h ≡ Ok true)
  unfolding joins_at
  joins_yes h e =
      let r = and_both (not (unasked us ts h)) (is_yes (surface_joins t answers fs us ts h)) e in
      (not-true (unasked us ts h) r.0, yes_ok (surface_joins t answers fs us ts h) r.1)

  yes_joins : (h : ℕ) → unasked us ts h ≡ false → surface_joins t answers fs us ts h ≡ Ok true → joins_at h ≡ true
  unfolding joins_at
  yes_joins h u s = rw (u, ok_yes (surface_joins t answers fs us ts h) true s)

  abbrev step : List ℕ → ℕ → List ℕ
  step = join_step joins_at (face_of_use us) (other_face us ts)

  -- the step with its count of joins
  abbrev counting : Grouping → ℕ → Grouping
  counting = join_counting joins_at (face_of_use us) (other_face us ts)

  merge_step_lem : (h : ℕ) (g g' : Grouping) → merge_step t answers fs us ts h g ≡ Ok g' → g' ≡ counting g h
  unfolding merge_step surface_step joins_at
  merge_step_lem h g g' e = ⊎_elim
      (λ w. rw w.0 (sym (ok_one w.1)))
      (λ w.
      let r = bind_ok (ask answers 8 (h ∷ [])) _ g' w.1 in
      let q = bind_ok (joins_faces t (equal_senses fs us ts h) (surface_answer r.0)) _ g' r.2 in
      let s : surface_joins t answers fs us ts h ≡ Ok q.0 = bind_on _ r.1 ∙ q.1 in
      rw (w.0, ok_yes (surface_joins t answers fs us ts h) q.0 s) (sym (ok_one q.2)))
      (cond_ok (unasked us ts h) (Ok g) (surface_step t answers fs us ts h g) g' e)

  -- groups and face joins when the uses below n have asked
  module _ (n : ℕ) (s : Grouping) (e : throughout (merge_step t answers fs us ts) (below n) (ungrouped (length fs)) ≡ Ok s) where
    so_far : s ≡ foldl counting (ungrouped (length fs)) (below n)
    so_far = through_fold (merge_step t answers fs us ts) counting merge_step_lem (below n) (ungrouped (length fs)) s e

    groups_so_far : s.groups ≡ foldl step (alone (length fs)) (below n)
    groups_so_far = ap (λ (x : Grouping). x.groups) so_far ∙ counting_groups joins_at (face_of_use us) (other_face us ts) (below n) (ungrouped (length fs))

    -- each use leaves groups and face joins, or changes the groups and makes one face join more
    pub step_tells : ((h : ℕ) → h < length us → face_of_use us h < length fs) → ((h : ℕ) → h < length us → twin_of ts h < length us) → n < length us
        → (s' : Grouping) → merge_step t answers fs us ts n s ≡ Ok s' → Told s s'
    step_tells face twin few s' q =
        subst (Told s) (sym (merge_step_lem n s s' q))
        (⊎_elim
        (λ y. subst (Told s) (sym (cond_true (joins_at n) (join_groups s (face_of_use us n) (other_face us ts n)) s y))
        (join_tells s (face_of_use us n) (other_face us ts n) (omega (arith, size, face n few)) (omega (arith, size, face (twin_of ts n) (twin n few))) lowest))
        (λ y. inl (cond_false (joins_at n) (join_groups s (face_of_use us n) (other_face us ts n)) s y))
        (both_ways (joins_at n)))
      where
        size : length s.groups ≡ length fs
        size = rw groups_so_far (joined_all_length joins_at (face_of_use us) (other_face us ts) (length fs) (below n))

        lowest : Lowest s.groups
        lowest =
            subst Lowest (sym groups_so_far)
            (joined_all_lowest joins_at (face_of_use us) (other_face us ts) (length fs) (below n)
            (λ h m _. let q : h < length us = omega (arith, below_in n h m, few) in (face h q, face (twin_of ts h) (twin h q))))

  module _ (s : Grouping) (e : merged_groups t answers fs us ts ≡ Ok s) where
    abbrev g : List ℕ
    g = s.groups

    merged_is : g ≡ foldl step (alone (length fs)) (below (length us))
    merged_is = groups_so_far (length us) s e

    pub merged_length : length g ≡ length fs
    merged_length = rw merged_is (joined_all_length joins_at (face_of_use us) (other_face us ts) (length fs) (below (length us)))

    module _ (face : (h : ℕ) → h < length us → face_of_use us h < length fs) (twin : (h : ℕ) → h < length us → twin_of ts h < length us) where
      merge_inside : (h : ℕ) → h ∈ below (length us) → joins_at h ≡ true → (face_of_use us h < length fs) × (other_face us ts h < length fs)
      merge_inside h m _ = let q = below_in (length us) h m in (face h q, face (twin_of ts h) (twin h q))

      -- each label is the lowest member of its group
      pub merged_lowest : Lowest g
      merged_lowest = subst Lowest (sym merged_is) (joined_all_lowest joins_at (face_of_use us) (other_face us ts) (length fs) (below (length us)) merge_inside)

      -- each join of separate groups takes one group away
      pub merged_fewer : length (lowest_members g) + s.joins ≡ length fs
      merged_fewer = subst (λ (x : Grouping). length (lowest_members x.groups) + x.joins ≡ length fs) (sym (so_far (length us) s e))
          (joined_all_fewer joins_at (face_of_use us) (other_face us ts) (length fs) (below (length us)) merge_inside)

      -- two faces are merged exactly where joined pairs connect them
      pub merged_connected : (i k : ℕ) → i < length fs → k < length fs → (label_of g i ≡ label_of g k) ↔ Connected (SameSurface t answers fs us ts) i k
      merged_connected i k hi hk =
          let r = joined_all_connected joins_at (face_of_use us) (other_face us ts) (length fs) (below (length us)) merge_inside i k hi hk in
          let q = merged_is in (
            λ s. connected_by (λ a b p. let y = joins_yes p.member p.passes in (p.member, below_in (length us) p.member p.stands, y.0, y.1, p.first, p.second))
                (r.0 (rw q at s)),
            λ c. rw q (r.1 (connected_by
                (λ a b p. record { member = p.0; stands = in_below (length us) p.0 p.1; passes = yes_joins p.0 p.2 p.3; first = p.4; second = p.5 }) c)),
          )

      -- merged faces are equivalent in every equivalence that has the pairs joined
      pub merged_within : {E : ℕ → ℕ → Type 0} → Equivalence E
          → ((h : ℕ) → h < length us → unasked us ts h ≡ false → surface_joins t answers fs us ts h ≡ Ok true → E (face_of_use us h) (other_face us ts h))
          → (i k : ℕ) → i < length fs → k < length fs → label_of g i ≡ label_of g k → E i k
      merged_within q has i k hi hk s =
          let z = merged_is in
          joined_all_within joins_at (face_of_use us) (other_face us ts) (length fs) (below (length us)) merge_inside q
          (λ h m j. let y = joins_yes h j in has h (below_in (length us) h m) y.0 y.1) i k hi hk (rw z at s)

      -- merged faces are of one boundary
      pub merged_boundary : (i k : ℕ) → i < length fs → k < length fs → label_of g i ≡ label_of g k → label_of (boundaries us ts (length fs)) i ≡ label_of (boundaries us ts (length fs)) k
      merged_boundary = merged_within (value_equivalence (label_of (boundaries us ts (length fs)))) (λ h lt u s. boundaries_twin us ts (length fs) face twin h lt)

-- REMOVED USES

pub length_removed_uses : (us : List Use) (ts g : List ℕ) → length (removed_uses us ts g) ≡ length us
unfolding removed_uses
length_removed_uses us ts g = length_table (removes us ts g) (length us)

pub removed_uses_at : (us : List Use) (ts g : List ℕ) (h : ℕ) → h < length us → is_removed (removed_uses us ts g) h ≡ removes us ts g h
unfolding removed_uses
removed_uses_at us ts g h lt = get_or_table (removes us ts g) (length us) h false lt

-- MERGING, WHOLE

module _ (t : Table) (answers : List Answer) (fs : List Face) (us : List Use) (ts : List ℕ) (m : Merged) (e : merge_faces t answers fs us ts ≡ Ok m) where
  merge_parts : (merged_groups t answers fs us ts ≡ Ok (merge_grouping m)) × (m.boundaries ≡ boundaries us ts (length fs)) × (m.removed ≡ removed_uses us ts m.groups)
  unfolding merge_faces
  merge_parts =
      let r = bind_ok (merged_groups t answers fs us ts) _ m e in
      let q = ok_one r.2 in
      let same : r.0 ≡ merge_grouping m = λ i. record { groups = (q i).groups; joins = (q i).joins } in
      (r.1 ∙ ap Ok same, sym (ap (λ (x : Merged). x.boundaries) q), sym (ap (λ (x : Merged). x.removed) q) ∙ ap (λ (x : Grouping). removed_uses us ts x.groups) same)

  pub merge_groups : merged_groups t answers fs us ts ≡ Ok (merge_grouping m)
  merge_groups = merge_parts.0

  pub merge_boundaries : m.boundaries ≡ boundaries us ts (length fs)
  merge_boundaries = merge_parts.1

  pub merge_removed : m.removed ≡ removed_uses us ts m.groups
  merge_removed = merge_parts.2

  pub merge_groups_length : length m.groups ≡ length fs
  merge_groups_length = merged_length t answers fs us ts (merge_grouping m) merge_groups

  pub merge_boundaries_length : length m.boundaries ≡ length fs
  merge_boundaries_length = rw merge_boundaries (boundaries_length us ts (length fs))

  pub merge_removed_length : length m.removed ≡ length us
  merge_removed_length = rw merge_removed (length_removed_uses us ts m.groups)

  -- a use is removed exactly where its face and its twin's have one label
  pub removed_is : (h : ℕ) → h < length us → is_removed m.removed h ≡ eqb (label_of m.groups (face_of_use us h)) (label_of m.groups (other_face us ts h))
  removed_is h lt = ap (λ rm. is_removed rm h) merge_removed ∙ removed_uses_at us ts m.groups h lt

  -- a kept use and its twin are on faces of different groups
  pub kept_apart : (h : ℕ) → h < length us → is_removed m.removed h ≡ false → label_of m.groups (face_of_use us h) ≡ label_of m.groups (other_face us ts h) → ⊥
  kept_apart h lt k = eqb-false _ _ (sym (removed_is h lt) ∙ k)

  -- a seam, with both uses on one selected face, is removed
  pub seam_removed : (h : ℕ) → h < length us → face_of_use us h ≡ other_face us ts h → is_removed m.removed h ≡ true
  seam_removed h lt q = removed_is h lt ∙ eq-eqb _ _ (ap (label_of m.groups) q)

  -- what the walks rest on
  pub linked : Twins us ts
      → ((h : ℕ) → h < length us → old_successor us h < length us)
      → ((h k : ℕ) → h < length us → k < length us → old_successor us h ≡ old_successor us k → h ≡ k)
      → ((h : ℕ) → h < length us → face_of_use us (old_successor us h) ≡ face_of_use us h)
      → Linked us ts m.removed m.groups
  linked w next_below next_one_to_one next_face = record {
    size = merge_removed_length;
    twin_below = w.below;
    twin_twice = w.twice;
    next_below = next_below;
    next_one_to_one = next_one_to_one;
    next_face = next_face;
    removed_twin = λ h lt.
        removed_is (twin_of ts h) (w.below h lt)
        ∙ ap (λ k. eqb (label_of m.groups (other_face us ts h)) (label_of m.groups (face_of_use us k))) (w.twice h lt)
        ∙ eqb_swap (label_of m.groups (other_face us ts h)) (label_of m.groups (face_of_use us h))
        ∙ sym (removed_is h lt);
    removed_group = λ h lt r. sym (eqb-true _ _ (sym (removed_is h lt) ∙ r));
  }
