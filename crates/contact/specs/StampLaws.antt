-- Laws of stamps: what was met at an edge so far, and whether two of its pairs have one label.
use Rattle.std.specs.Prelude.{ℕ, zero, ◌+◌, ◌≤◌, ◌<◌, ◌≡◌, Bool, ◌&&◌, get_or, replicate}
use Rattle.std.proofs.Common.{arith, ◌∙◌}
use Rattle.std.proofs.Math.Path.{refl, sym, ap}
use Rattle.std.proofs.Math.Logic.{⊎_elim}
use Rattle.std.proofs.Math.Bool.{true, false}
use mathlib.Core.List.{List, [], ◌∷◌, map, reverse_aux, reverse as backwards, reverse-reverse}
use Rattle.std.proofs.Math.ListN.{length, set, length-set}
use Rattle.std.proofs.Math.Dec.{eqb}
use borrow.Author.Tests.{eq-eqb, ne_eqb}
use Rattle.lists.specs.Lists.{has, repeats, keep}
use Rattle.lists.specs.Tests.{both_ways, or_first, or_second, none_or, and_both, cond_true, cond_false}
use Rattle.lists.specs.Constants.{get_or_constant}
use Rattle.lists.specs.Members.{keep_yes, keep_no}
use Rattle.lists.specs.ListEnds.{has_hit, has_miss, has_none}
use Rattle.lists.specs.Tables.{set_each}
use Rattle.rules.specs.declared.Use.{Use}
use Rattle.rules.specs.Read.{face_of_use}
use Rattle.rules.specs.Pair.{uses_of_edge}
use Rattle.rules.specs.Contact.{use_label, is_lower_use, pair_labels}
use Rattle.contact.specs.Clear.{LowLabels}
use Rattle.contact.specs.Stamps.{Stale, meets, stamped_by}

pub stale_none : (n : ℕ) → Stale (replicate n 0) 0
stale_none n l = omega (arith, get_or_constant n zero l)

pub stale_on : (stamps : List ℕ) (e : ℕ) → Stale stamps e → Stale stamps (e + 1)
stale_on stamps e s l = omega (arith, s l)

-- THE PAIRS OF AN EDGE

module _ (us : List Use) (ts labels : List ℕ) where
  labels_lower : (h : ℕ) (hs : List ℕ) → is_lower_use ts h ≡ true → pair_labels us ts labels (h ∷ hs) ≡ use_label us labels h ∷ pair_labels us ts labels hs
  labels_lower h hs e = ap (map (use_label us labels)) (keep_yes (is_lower_use ts) h hs e)

  labels_higher : (h : ℕ) (hs : List ℕ) → is_lower_use ts h ≡ false → pair_labels us ts labels (h ∷ hs) ≡ pair_labels us ts labels hs
  labels_higher h hs e = ap (map (use_label us labels)) (keep_no (is_lower_use ts) h hs e)

  repeats_more : (h : ℕ) (hs : List ℕ) → repeats (pair_labels us ts labels hs) ≡ true → repeats (pair_labels us ts labels (h ∷ hs)) ≡ true
  unfolding repeats
  repeats_more h hs r =
      ⊎_elim
      (λ t. ap repeats (labels_lower h hs t) ∙ or_second (has (use_label us labels h) (pair_labels us ts labels hs)) (repeats (pair_labels us ts labels hs)) r)
      (λ t. ap repeats (labels_higher h hs t) ∙ r)
      (both_ways (is_lower_use ts h))

  -- two pairs of some uses have one label, so two of all do
  repeats_onto : (l hs : List ℕ) → repeats (pair_labels us ts labels hs) ≡ true → repeats (pair_labels us ts labels (reverse_aux l hs)) ≡ true
  repeats_onto [] hs r = r
  repeats_onto (h ∷ l) hs r = repeats_onto l (h ∷ hs) (repeats_more h hs r)

  -- going along the uses of edge e, of which some are left: the labels of those passed have a stamp each, and none stands twice
  pub record Meeting (stamps : List ℕ) (e : ℕ) (left : List ℕ) : Type 0 where
    pub passed : List ℕ
    pub along : reverse_aux left passed ≡ uses_of_edge us e
    pub apart : repeats (pair_labels us ts labels passed) ≡ false
    pub size : length stamps ≡ 256
    pub stale : Stale stamps (e + 1)
    pub met : (l : ℕ) → l < 256 → eqb (get_or stamps l 0) (e + 1) ≡ has l (pair_labels us ts labels passed)

  pub meeting_start : (stamps : List ℕ) (e : ℕ) (left : List ℕ) → left ≡ backwards (uses_of_edge us e) → length stamps ≡ 256 → Stale stamps e → Meeting stamps e left
  unfolding repeats keep
  meeting_start stamps e left q size stale = record {
    passed = [];
    along = ap backwards q ∙ reverse-reverse (uses_of_edge us e);
    apart = refl;
    size = size;
    stale = stale_on stamps e stale;
    met = λ l h. ne_eqb (get_or stamps l 0) (e + 1) (λ r. omega (arith, stale l, r)) ∙ sym (has_none l);
  }

  module _ (stamps : List ℕ) (e : ℕ) (left : List ℕ) (m : Meeting stamps e left) (low : LowLabels labels) (h : ℕ) (rest : List ℕ) (here : Bool) (after : List ℕ)
      (eleft : left ≡ h ∷ rest) (ehere : here ≡ meets us ts labels stamps e h) (eafter : after ≡ stamped_by us ts labels stamps e h) where
    abbrev l : ℕ
    l = use_label us labels h

    unstamped : is_lower_use ts h ≡ false → after ≡ stamps
    unfolding stamped_by
    unstamped t = eafter ∙ cond_false (is_lower_use ts h) (set stamps l (e + 1)) stamps t

    stamped : is_lower_use ts h ≡ true → after ≡ set stamps l (e + 1)
    unfolding stamped_by
    stamped t = eafter ∙ cond_true (is_lower_use ts h) (set stamps l (e + 1)) stamps t

    tested : is_lower_use ts h ≡ true → here ≡ has l (pair_labels us ts labels m.passed)
    unfolding meets
    tested t = ehere ∙ ap (λ (b : Bool). b && eqb (get_or stamps l 0) (e + 1)) t ∙ m.met l (low (face_of_use us h))

    meeting_stale : Stale after (e + 1)
    meeting_stale k =
        ⊎_elim
        (λ t. rw (stamped t) (set_each (λ j x. x ≤ e + 1) stamps l (e + 1) 0 (omega (arith, m.size, low (face_of_use us h))) (omega arith) k (λ n. m.stale k)))
        (λ t. rw (unstamped t) (m.stale k))
        (both_ways (is_lower_use ts h))

    on : reverse_aux rest (h ∷ m.passed) ≡ uses_of_edge us e
    on = ap (λ l. reverse_aux l m.passed) (sym eleft) ∙ m.along

    pub meeting_step : here ≡ false → Meeting after e rest
    unfolding repeats
    meeting_step f =
        ⊎_elim
        (λ t. record {
          passed = h ∷ m.passed;
          along = on;
          apart = ap repeats (labels_lower h m.passed t) ∙ none_or (has l (pair_labels us ts labels m.passed)) (repeats (pair_labels us ts labels m.passed)) (sym (tested t) ∙ f) m.apart;
          size = ap length (stamped t) ∙ length-set stamps l (e + 1) ∙ m.size;
          stale = meeting_stale;
          met = λ k lt. rw (stamped t)
              (set_each (λ n x. n < 256 → eqb x (e + 1) ≡ has n (pair_labels us ts labels (h ∷ m.passed))) stamps l (e + 1) 0 (omega (arith, m.size, low (face_of_use us h)))
              (λ b. eq-eqb (e + 1) (e + 1) refl ∙ sym (ap (has l) (labels_lower h m.passed t) ∙ has_hit l l (pair_labels us ts labels m.passed) refl))
              k (λ ne b. m.met k b ∙ sym (ap (has k) (labels_lower h m.passed t) ∙ has_miss k l (pair_labels us ts labels m.passed) (λ r. ne (sym r)))) lt);
        })
        (λ t. record {
          passed = h ∷ m.passed;
          along = on;
          apart = ap repeats (labels_higher h m.passed t) ∙ m.apart;
          size = ap length (unstamped t) ∙ m.size;
          stale = meeting_stale;
          met = λ k lt. rw (unstamped t) (m.met k lt ∙ sym (ap (has k) (labels_higher h m.passed t)));
        })
        (both_ways (is_lower_use ts h))

    pub meeting_stop : here ≡ true → (true ≡ repeats (pair_labels us ts labels (uses_of_edge us e))) × Stale after (e + 1)
    unfolding repeats meets
    meeting_stop f =
        let t : is_lower_use ts h ≡ true = (and_both (is_lower_use ts h) (eqb (get_or stamps l 0) (e + 1)) (sym ehere ∙ f)).0 in
        let twice : repeats (pair_labels us ts labels (h ∷ m.passed)) ≡ true =
        ap repeats (labels_lower h m.passed t) ∙ or_first (has l (pair_labels us ts labels m.passed)) (repeats (pair_labels us ts labels m.passed)) (sym (tested t) ∙ f) in
        (sym (ap (λ hs. repeats (pair_labels us ts labels hs)) (sym on) ∙ repeats_onto rest (h ∷ m.passed) twice), meeting_stale)

  pub meeting_end : (stamps : List ℕ) (e : ℕ) (left : List ℕ) → Meeting stamps e left → left ≡ [] → false ≡ repeats (pair_labels us ts labels (uses_of_edge us e))
  meeting_end stamps e left m q = sym m.apart ∙ ap (λ hs. repeats (pair_labels us ts labels hs)) (sym (ap (λ l. reverse_aux l m.passed) q) ∙ m.along)
