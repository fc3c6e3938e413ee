-- Laws of the steps of all uses, and of the boundaries.
use Rattle.std.specs.Prelude.{ℕ, zero, suc, ◌+◌, ◌-◌, ◌≤◌, ◌<◌, ◌≡◌, Bool, cond, length, get_or}
use native.Mathlib.Omega.{arith}
use Rattle.std.proofs.Math.Path.{refl, sym, ap}
use Rattle.std.proofs.Common.{◌∙◌, subst, ext_get_or, ⊎_elim, eq-or-lt_of_le}
use mathlib.Core.List.{List, [], ◌∷◌, map, foldl}
use Rattle.lists.specs.Lists.{from, below}
use Rattle.lists.specs.Runs.{left_at, left_none, length_table, get_or_table}
use Rattle.lists.specs.Prefixes.{foldl_below}
use Rattle.rules.specs.declared.Refusal.{Refusal}
use Rattle.rules.specs.declared.Use.{Use}
use Rattle.rules.specs.Outcome.{Outcome, Ok, Err, throughout}
use Rattle.rules.proofs.OutcomeLaws.{bind_on, bind_stop}
use Rattle.rules.specs.Read.{face_of_use}
use Rattle.rules.specs.Pair.{twin_of}
use Rattle.rules.specs.Groups.{alone, label_of, joined, Grouping, Lowest}
use Rattle.rules.specs.Merge.{other_face, ungrouped, boundary_step, boundaries}
use Rattle.groups.specs.Parents.{Stands, JoinedIn, padded}
use Rattle.groups.specs.Padding.{padded_at, joined_padded}
use Rattle.merge_faces.specs.Merging.{MergedTo, JoinedPairs}
use Rattle.rules.proofs.SizeLaws.{boundaries_length}

-- ALL USES

-- what is left to do at use h, with groups for which the parents stand, and so many joins before
pub record MergingAt (step : ℕ → Grouping → Outcome Grouping) (uses faces : ℕ) (parents : List ℕ) (joins h : ℕ) : Type 0 where
  pub labels : List ℕ
  pub stands : Stands parents labels
  pub rest : throughout step (below uses) (ungrouped faces) ≡ throughout step (from h (uses - h)) (record { groups = labels; joins = joins })

module _ (step : ℕ → Grouping → Outcome Grouping) (uses faces : ℕ) where
  pub merging_start : (parents : List ℕ) (n : ℕ) → n ≡ faces → Stands parents (alone n) → MergingAt step uses faces parents 0 0
  merging_start parents n e s = record {
    labels = alone faces;
    stands = subst (λ k. Stands parents (alone k)) e s;
    rest = let z : uses ≡ uses - 0 = omega arith in ap (λ k. throughout step (from 0 k) (ungrouped faces)) z;
  }

  module _ (parents after : List ℕ) (joins h : ℕ) (m : MergingAt step uses faces parents joins h) where
    -- the groups so far
    abbrev now : Grouping
    now = record { groups = m.labels; joins = joins }

    left : h < uses → throughout step (below uses) (ungrouped faces) ≡ throughout step (h ∷ from (h + 1) (uses - (h + 1))) now
    left lt = m.rest ∙ ap (λ l. throughout step l now) (left_at h uses lt)

    pub merging_step : (one : Bool) → h < uses → ((g : Grouping) → Stands parents g.groups → MergedTo (Ok one) after g.joins (step h g))
        → MergingAt step uses faces after (joins + cond one 1 0) (h + 1)
    unfolding throughout
    merging_step one lt told = go (step h now) refl (told now m.stands)
      where
        go : (o : Outcome Grouping) → step h now ≡ o → MergedTo (Ok one) after joins o → MergingAt step uses faces after (joins + cond one 1 0) (h + 1)
        go (Ok g) e s = record {
          labels = g.groups;
          stands = s.0;
          rest = left lt ∙ bind_on _ e ∙ (λ i. throughout step (from (h + 1) (uses - (h + 1))) (record { groups = g.groups; joins = s.1 i }));
        }
        go (Err q) e s = absurd s

    pub merging_stop : (q : Refusal) → h < uses → ((g : Grouping) → Stands parents g.groups → MergedTo (Err q) after g.joins (step h g)) → throughout step (below uses) (ungrouped faces) ≡ Err q
    unfolding throughout
    merging_stop q lt told = go (step h now) refl (told now m.stands)
      where
        go : (o : Outcome Grouping) → step h now ≡ o → MergedTo (Err q) after joins o → throughout step (below uses) (ungrouped faces) ≡ Err q
        go (Ok g) e s = absurd s
        go (Err r) e s = left lt ∙ bind_stop _ e ∙ ap Err (sym s)

  pub merging_end : (parents after : List ℕ) (joins h : ℕ) → MergingAt step uses faces parents joins h → uses ≤ h → ((g : List ℕ) → Stands parents g → after ≡ g)
      → Ok (record { groups = after; joins = joins }) ≡ throughout step (below uses) (ungrouped faces)
  unfolding throughout
  merging_end parents after joins h m le settled =
      ap (λ g. Ok (record { groups = g; joins = joins })) (settled m.labels m.stands)
      ∙ sym (m.rest ∙ ap (λ l. throughout step l (record { groups = m.labels; joins = joins })) (left_none h uses le))

-- what parents stand for are lowest members
pub stands_lowest : {parents g : List ℕ} → Stands parents g → Lowest g
stands_lowest {parents} {g} s = record { low = λ i h. (own (suc i) i (omega arith)).0; stands = λ i h. (own (suc i) i (omega arith)).1 }
  where
    own : (n i : ℕ) → i < n → (label_of g i ≤ i) × (label_of g (label_of g i) ≡ label_of g i)
    own zero i lt = absurd (omega arith)
    own (suc n) i lt = ⊎_elim
        (λ e. let t = s.top i e in (omega arith, ap (label_of g) t))
        (λ l. let up = s.up i in let r = own n (get_or parents i 0) (omega arith) in (omega (arith, r.0), ap (label_of g) (sym up) ∙ r.1 ∙ up))
        (eq-or-lt_of_le (s.ordered.low i))

-- BOUNDARIES

pub pairs_none : (us : List Use) (ts parents : List ℕ) → JoinedPairs us ts 0 parents parents
unfolding from
pairs_none us ts parents g s = s

-- one pair more: the faces of use h and of its twin t
pub pairs_more : (us : List Use) (ts before parents after : List ℕ) (h t a b : ℕ) → JoinedPairs us ts h before parents
    → t ≡ twin_of ts h → a ≡ face_of_use us h → b ≡ face_of_use us t → JoinedIn parents after a b → JoinedPairs us ts (h + 1) before after
pairs_more us ts before parents after h t a b s et ea eb j g k =
    let l = foldl (boundary_step us ts) g (below h) in
    subst (Stands after) ((λ i. joined l (ea i) ((eb ∙ ap (face_of_use us) et) i)) ∙ sym (foldl_below (boundary_step us ts) g h)) (j.stands l (s g k))

-- the same pairs in a longer table
fold_padded : (us : List Use) (ts : List ℕ) (k : ℕ) (l g : List ℕ) → foldl (boundary_step us ts) (padded k g) l ≡ padded k (foldl (boundary_step us ts) g l)
fold_padded us ts k [] g = refl
fold_padded us ts k (h ∷ l) g =
    ap (λ x. foldl (boundary_step us ts) x l) (joined_padded k g (face_of_use us h) (other_face us ts h)) ∙ fold_padded us ts k l (boundary_step us ts g h)

-- all pairs were joined, from each face alone, and the labels are stored
pub boundaries_are : (us : List Use) (ts : List ℕ) (n k m : ℕ) (parents after labels : List ℕ) → Stands parents (padded k (alone n)) → JoinedPairs us ts m parents after → m ≡ length us
    → ((g : List ℕ) → Stands after g → labels ≡ map (label_of g) (below n)) → labels ≡ boundaries us ts n
boundaries_are us ts n k m parents after labels s j e stored =
    let g = boundaries us ts n in
    let all : foldl (boundary_step us ts) (padded k (alone n)) (below m) ≡ padded k g =
    ap (λ x. foldl (boundary_step us ts) (padded k (alone n)) (below x)) e ∙ fold_padded us ts k (below (length us)) (alone n) in
    stored (padded k g) (subst (Stands after) all (j (padded k (alone n)) s))
    ∙ ext_get_or 0 (map (label_of (padded k g)) (below n)) g (length_table (label_of (padded k g)) n ∙ sym (boundaries_length us ts n))
    (λ i l. get_or_table (label_of (padded k g)) n i 0 (omega (arith, length_table (label_of (padded k g)) n)) ∙ padded_at k g i)
