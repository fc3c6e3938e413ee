-- The fans first met over active edges: their numbers, and their records in the output; the numbers of active edges.
use Rattle.std.specs.Prelude.{ℕ, ◌+◌, ◌*◌, ◌<◌, ◌≤◌, ◌≡◌, ◌⊎◌, true, false, get_or, set, take, replicate, eqb}
use Rattle.std.proofs.Common.{◌∙◌, ⊎_elim, eq-eqb, ne_eqb}
use Rattle.std.proofs.lemmas.List.{take_more}
use native.Mathlib.Omega.{arith}
use Rattle.std.proofs.Math.Path.{refl, ap, subst}
use mathlib.Core.List.{List, [], ◌∷◌, ◌++◌, flat_map, foldl, append-nil}
use Rattle.std.proofs.Math.Bool.{cond}
use Rattle.std.proofs.Math.ListN.{length}
use Rattle.std.proofs.Math.Seq.{take-length, length-take-le}
use Rattle.lists.specs.Lists.{◌∈◌, has, keep, positions}
use Rattle.lists.specs.Tests.{or_first, or_second, none_or}
use Rattle.lists.specs.Membership.{in_has, out_has}
use Rattle.lists.specs.Members.{keep_append, positions_in, positions_length, keep_length, flat_map_append, foldl_append}
use Rattle.lists.specs.ListEnds.{positions_append}
use Rattle.rules.specs.declared.EdgeData.{EdgeData}
use Rattle.rules.specs.Job.{unset}
use Rattle.rules.specs.Frame.{framed}
use Rattle.rules.specs.Fans.{fan_point}
use Rattle.rules.specs.Join.{active_edges}
use Rattle.rules.specs.Body.{vertex_record, meet, met_fans, still_active}
use Rattle.fields.specs.Wrote.{Wrote, wrote_more}
use Rattle.body.specs.Numbers.{Numbering, numbering_none, numbering_more, entry_in, entry_out}
use Rattle.body.specs.Writing.{length_record}

-- ACTIVE EDGES

-- the active ones of the first e edges
unfoldable pub active_below : List EdgeData → ℕ → List ℕ
active_below es e = active_edges (take e es)

module _ (es : List EdgeData) where
  pub active_start : (t : List ℕ) (n : ℕ) → t ≡ replicate n 0 → Numbering (active_below es 0) t 0
  unfolding active_below positions
  active_start t n e = numbering_none t n e

  pub active_all : {t : List ℕ} {count e : ℕ} → Numbering (active_below es e) t count → e ≡ length es → Numbering (active_edges es) t count
  unfolding active_below
  active_all {t = t} {count = count} n q = subst (λ l. Numbering l t count) (ap (λ k. active_edges (take k es)) q ∙ ap active_edges (take-length es)) n

  -- at most so many
  pub active_few : {t : List ℕ} {count e : ℕ} → Numbering (active_below es e) t count → e < length es → count ≤ e
  unfolding active_below
  active_few {e = e} n lt =
      omega (arith, n.counted, positions_length (λ x. x.active) 0 (take e es), keep_length (λ x. x.active) (take e es), length-take-le e es (omega arith))

  -- one edge more
  module _ (d : EdgeData) {t : List ℕ} {count e : ℕ} (n : Numbering (active_below es e) t count) (lt : e < length es) where
    active_more : active_below es (e + 1) ≡ active_below es e ++ cond (get_or es e d).active (e ∷ []) []
    unfolding active_below positions
    active_more =
        let z : 0 + length (take e es) ≡ e = omega (arith, length-take-le e es (omega arith)) in
        ap active_edges (take_more es e d lt) ∙ positions_append (λ x. x.active) 0 (take e es) (get_or es e d ∷ [])
        ∙ ap {B = List ℕ} (λ k. active_edges (take e es) ++ cond (get_or es e d).active (k ∷ []) []) z

    active_out : ¬ (e ∈ active_below es e)
    unfolding active_below
    active_out m = let r = positions_in (λ x. x.active) 0 (take e es) d e m in omega (arith, r.1, length-take-le e es (omega arith))

    pub numbered_active : e < length t → (get_or es e d).active ≡ true → Numbering (active_below es (e + 1)) (set t e (count + 1)) (count + 1)
    numbered_active low a = rw (active_more, a) (numbering_more (active_below es e) t count n e (set t e (count + 1)) low active_out refl)

    pub numbered_other : (get_or es e d).active ≡ false → Numbering (active_below es (e + 1)) t count
    numbered_other a = rw (active_more, a, append-nil (active_below es e)) n

-- FANS

-- an end of an edge is a fan, below the size of the table of fans, or none
abbrev pub EndOk : ℕ → ℕ → Type 0
EndOk size v = (v < size) ⊎ (v ≡ unset)

abbrev pub EdgeOk : ℕ → EdgeData → Type 0
EdgeOk size x = EndOk size x.start × EndOk size x.end

abbrev pub EndsOk : ℕ → List EdgeData → Type 0
EndsOk size es = (x : EdgeData) → x ∈ es → EdgeOk size x

-- the record of a fan
abbrev pub fan_row : List ℕ → ℕ → List ℕ
fan_row starts v = framed (vertex_record (fan_point starts v))

-- the fans met so far have their numbers, and their records stand in the output from a place on
pub record Meeting (starts before : List ℕ) (at : ℕ) (met vertices after : List ℕ) (count : ℕ) : Type 0 where
  pub numbers : Numbering met vertices count
  pub wrote : Wrote before at (flat_map (fan_row starts) met) after (at + 10 * count)

module _ {starts before : List ℕ} {at : ℕ} {met vertices after : List ℕ} {count : ℕ} (v : ℕ) where
  -- none, or met before
  pub fan_none : v ≡ unset → Meeting starts before at met vertices after count → Meeting starts before at (meet met v) vertices after count
  fan_none e M = rw (or_first (eqb v unset) (has v met) (eq-eqb v unset e)) M

  pub fan_old : (get_or vertices v 0 ≡ 0 → ⊥) → Meeting starts before at met vertices after count → Meeting starts before at (meet met v) vertices after count
  fan_old n M = rw (or_second (eqb v unset) (has v met) (in_has (entry_in met vertices count M.numbers v n))) M

  -- first met
  pub fan_new : (after' : List ℕ) (q : ℕ) → (v ≡ unset → ⊥) → EndOk (length vertices) v → get_or vertices v 0 ≡ 0 → Wrote after (at + 10 * count) (fan_row starts v) after' q
      → Meeting starts before at met vertices after count → Meeting starts before at (meet met v) (set vertices v (count + 1)) after' (count + 1)
  unfolding flat_map
  fan_new after' q n ok' z w M =
      let out : ¬ (v ∈ met) = entry_out met vertices count M.numbers v z in
      let low : v < length vertices = ⊎_elim (λ h. h) (λ e. absurd (n e)) ok' in
      let place : q ≡ at + 10 * (count + 1) = omega (arith, w.1, length_record 22 (fan_point starts v ∷ [])) in
      let rows : flat_map (fan_row starts) (met ++ (v ∷ [])) ≡ flat_map (fan_row starts) met ++ fan_row starts v =
      flat_map_append (fan_row starts) met (v ∷ []) ∙ ap (λ r. flat_map (fan_row starts) met ++ r) (append-nil (fan_row starts v)) in
      rw (none_or (eqb v unset) (has v met) (ne_eqb v unset n) (out_has v met out))
      (record {
        numbers = numbering_more met vertices count M.numbers v _ low out refl;
        wrote = rw (rows, ← place) (wrote_more before after after' (flat_map (fan_row starts) met) (fan_row starts v) at (at + 10 * count) q M.wrote w);
      })

-- OVER THE EDGES

-- the fans met over the active ones of the first e edges
unfoldable pub met_below : List EdgeData → ℕ → List ℕ
met_below es e = met_fans (still_active (take e es))

module _ (es : List EdgeData) where
  pub met_start : (starts before vertices : List ℕ) (at n : ℕ) → vertices ≡ replicate n 0 → Meeting starts before at (met_below es 0) vertices before 0
  unfolding met_below keep flat_map
  met_start starts before vertices at n e = record { numbers = numbering_none vertices n e; wrote = (refl, omega arith) }

  pub met_all : {starts before vertices after : List ℕ} {at count e : ℕ} → Meeting starts before at (met_below es e) vertices after count → e ≡ length es
      → Meeting starts before at (met_fans (still_active es)) vertices after count
  unfolding met_below
  met_all {starts = starts} {before = before} {vertices = vertices} {after = after} {at = at} {count = count} M q =
      subst (λ l. Meeting starts before at l vertices after count) (ap (λ k. met_fans (still_active (take k es))) q ∙ ap (λ l. met_fans (still_active l)) (take-length es)) M

  -- one edge more
  module _ (d : EdgeData) (e : ℕ) (lt : e < length es) where
    met_more : met_below es (e + 1) ≡ foldl (λ met x. meet (meet met x.start) x.end) (met_below es e) (still_active (get_or es e d ∷ []))
    unfolding met_below
    met_more =
        ap (λ l. met_fans (still_active l)) (take_more es e d lt) ∙ ap met_fans (keep_append (λ x. x.active) (take e es) (get_or es e d ∷ []))
        ∙ foldl_append (λ met x. meet (meet met x.start) x.end) [] (still_active (take e es)) (still_active (get_or es e d ∷ []))

    pub met_active : {starts before vertices after : List ℕ} {at count : ℕ} → (get_or es e d).active ≡ true
        → Meeting starts before at (meet (meet (met_below es e) (get_or es e d).start) (get_or es e d).end) vertices after count → Meeting starts before at (met_below es (e + 1)) vertices after count
    unfolding keep
    met_active a M = rw (met_more, a) M

    pub met_other : {starts before vertices after : List ℕ} {at count : ℕ} → (get_or es e d).active ≡ false → Meeting starts before at (met_below es e) vertices after count
        → Meeting starts before at (met_below es (e + 1)) vertices after count
    unfolding keep
    met_other a M = rw (met_more, a) M
