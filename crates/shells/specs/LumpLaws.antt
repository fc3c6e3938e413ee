-- Laws of faces labelled by lump.
use Rattle.std.specs.Prelude.{ℕ, ◌+◌, ◌≤◌, ◌<◌, ◌≡◌, refl, List, [], ◌∷◌, map, length, get_or, set}
use Rattle.std.proofs.Common.{arith, sym, ap, ◌∙◌, length-set, length-append, ext_get_or, eq-eqb, ne_eqb}
use Rattle.std.proofs.lemmas.List.{length-map}
use Rattle.std.proofs.Math.ListN.{get_or-map}
use Rattle.lists.specs.Lists.{from, below, keep, index_of}
use Rattle.lists.specs.Members.{get_or_map}
use Rattle.lists.specs.Prefixes.{keep_below_yes, keep_below_no, keep_below_le}
use Rattle.lists.specs.KeepBelow.{index_below}
use Rattle.lists.specs.Tables.{set_each}
use Rattle.rules.specs.Groups.{label_of, is_lowest, lowest_members, Lowest}
use Rattle.rules.specs.Shells.{lump_labels}
use Rattle.shells.specs.declared.ShellRow.{ShellRow}
use Rattle.shells.specs.Table.{no_row, row_at, nested_one, nested_in}

-- the label of face f, from the home of the shell that its boundary is
abbrev pub lump_of_face : List ℕ → List ShellRow → ℕ → ℕ
lump_of_face boundaries rows f = (row_at rows (index_of (label_of boundaries f) (lowest_members boundaries))).home

-- after f faces
pub record LabelsAt (boundaries : List ℕ) (rows : List ShellRow) (labels : List ℕ) (count f : ℕ) : Type 0 where
  pub lowest : Lowest boundaries
  pub size : length labels ≡ length boundaries
  pub within : f ≤ length boundaries
  pub count_is : count ≡ length (keep (is_lowest boundaries) (below f))
  pub values : (j : ℕ) → j < f → get_or labels j 0 ≡ lump_of_face boundaries rows j

pub labels_start : (boundaries : List ℕ) (rows : List ShellRow) (labels : List ℕ) → Lowest boundaries → length labels ≡ length boundaries → LabelsAt boundaries rows labels 0 0
unfolding from keep
labels_start boundaries rows labels l e = record {
  lowest = l;
  size = e;
  within = omega arith;
  count_is = refl;
  values = λ j h. absurd (omega arith);
}

module _ (boundaries : List ℕ) (rows : List ShellRow) (labels : List ℕ) (count f : ℕ) (s : LabelsAt boundaries rows labels count f) (lt : f < length boundaries) where
  pub labels_few : count ≤ f
  labels_few = omega (arith, s.count_is, keep_below_le (is_lowest boundaries) f)

  -- f is the lowest face of its boundary
  pub labels_own : (b home : ℕ) (after : List ℕ) → b ≡ label_of boundaries f → b ≡ f → home ≡ (row_at rows count).home → after ≡ set labels f home
      → LabelsAt boundaries rows after (count + 1) (f + 1)
  labels_own b home after eb own eh ea =
      let label : label_of boundaries f ≡ f = sym eb ∙ own in
      let lowest = eq-eqb (label_of boundaries f) f label in
      let place : count ≡ index_of (label_of boundaries f) (lowest_members boundaries) =
      s.count_is ∙ sym (index_below (is_lowest boundaries) (length boundaries) f lt lowest) ∙ ap (λ x. index_of x (lowest_members boundaries)) (sym label) in
      record {
        lowest = s.lowest;
        size = ap length ea ∙ length-set labels f home ∙ s.size;
        within = omega arith;
        count_is = omega (arith, s.count_is, ap length (keep_below_yes (is_lowest boundaries) f lowest), length-append (keep (is_lowest boundaries) (below f)) (f ∷ []));
        values = λ j. rw ea
            (set_each (λ k x. k < f + 1 → x ≡ lump_of_face boundaries rows k) labels f home 0 (omega (arith, s.size)) (λ h. eh ∙ ap (λ k. (row_at rows k).home) place) j
            (λ ne h. s.values j (omega arith)));
      }

  -- another face of its boundary was labelled before
  pub labels_old : (b home : ℕ) (after : List ℕ) → b ≡ label_of boundaries f → (b ≡ f → ⊥) → home ≡ get_or labels b 0 → after ≡ set labels f home
      → LabelsAt boundaries rows after count (f + 1)
  labels_old b home after eb other eh ea =
      let low = s.lowest.low f lt in
      record {
        lowest = s.lowest;
        size = ap length ea ∙ length-set labels f home ∙ s.size;
        within = omega arith;
        count_is = s.count_is ∙ sym (ap length (keep_below_no (is_lowest boundaries) f (ne_eqb (label_of boundaries f) f (λ e. other (eb ∙ e)))));
        values = λ j. rw ea
            (set_each (λ k x. k < f + 1 → x ≡ lump_of_face boundaries rows k) labels f home 0 (omega (arith, s.size))
            (λ h. eh ∙ s.values b (omega arith) ∙ ap (λ x. (row_at rows (index_of x (lowest_members boundaries))).home) (ap (label_of boundaries) eb ∙ s.lowest.stands f lt)) j
            (λ ne h. s.values j (omega arith)));
      }

-- whatever boundaries and members the shells are of
pub labels_end : (boundaries bs members : List ℕ) (rows : List ShellRow) (labels : List ℕ) (count f : ℕ) → LabelsAt boundaries rows labels count f → length boundaries ≤ f
    → labels ≡ lump_labels boundaries (nested_in bs members rows)
unfolding lump_labels
labels_end boundaries bs members rows labels count f at le =
    let number : ℕ → ℕ = λ b. index_of b (lowest_members boundaries) in
    let label : ℕ → ℕ = λ b. get_or (map (λ x. x.home) (nested_in bs members rows)) (number b) 0 in
    ext_get_or 0 labels (map label boundaries) (at.size ∙ sym (length-map boundaries label))
    (λ i h.
    let r : i < length boundaries = omega (arith, at.size) in
    let k : ℕ = number (label_of boundaries i) in
    at.values i (omega arith)
    ∙ sym
    (get_or_map label boundaries i 0 0 r
    ∙ get_or-map (λ x. x.home) (nested_in bs members rows) k (nested_one bs members no_row)
    ∙ ap (λ x. x.home) (get_or-map (nested_one bs members) rows k no_row)))
