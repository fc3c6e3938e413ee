-- Laws of the rows of each stage: one row as the code writes it, all rows, and how many fields they have.
use Prim.Native.Nat.{ℕ, ◌+◌, ◌<◌}
use Rattle.std.proofs.Common.{◌∙◌}
use native.Mathlib.Omega.{arith}
use Rattle.std.specs.Prelude.{◌≡◌}
use Rattle.std.proofs.Math.Path.{sym, ap}
use mathlib.Core.List.{List, [], ◌∷◌, flat_map}
use Rattle.std.proofs.Math.ListN.{length, get_or}
use Rattle.lists.specs.Lists.{below}
use Rattle.lists.specs.Rows.{flat_map_map, flat_map_places}
use Rattle.rules.specs.declared.Use.{Use}
use Rattle.fields.specs.declared.Span.{Span}
use Rattle.fields.specs.Spans.{no_span, span_at}
use Rattle.lists.specs.Stretches.{length_stretch}
use Rattle.rules.specs.Fields.{field_bytes}
use Rattle.rules.specs.Read.{no_use, face_of_use}
use Rattle.rules.specs.Merge.{merged_face_of}
use Rattle.rules.specs.Stage.{use_fields}
use Rattle.fields.specs.Wrote.{Wrote}
use Rattle.walk.specs.Walks.{loop_in, loops_in, Following}
use Rattle.stages_out.specs.Rows.{use_row, pair_row, pair_rows, round_row, round_rows}
use Rattle.stages_out.specs.Writing.{wrote_both, wrote_same}

-- READ

-- the rows of the first n uses are the fields of all, where there are n
pub use_rows : (us : List Use) (n : ℕ) → n ≡ length us → flat_map (use_row us) (below n) ≡ flat_map use_fields us
use_rows us n e = ap (λ k. flat_map (use_row us) (below k)) e ∙ sym (flat_map_places use_fields us no_use)

-- MERGE

pub pair_rows_all : (bs gs : List ℕ) (n : ℕ) → n ≡ length bs → flat_map (pair_row bs gs) (below n) ≡ pair_rows bs gs
unfolding pair_rows
pair_rows_all bs gs n e = ap (λ k. flat_map (pair_row bs gs) (below k)) e

-- LOOPS

module _ (us : List Use) (numbers : List ℕ) where
  pub round_row_lem : (before mid after part : List ℕ) (at p q first face number : ℕ) → first ≡ get_or part 0 0 → face ≡ face_of_use us first → number ≡ get_or numbers face 0
      → Wrote before at (field_bytes (number ∷ length part ∷ [])) mid p → Wrote mid p (field_bytes part) after q → Wrote before at (field_bytes (round_row us numbers part)) after q
  round_row_lem before mid after part at p q first face number ef eg en u w =
      wrote_same (number ∷ length part ∷ part) (round_row us numbers part) before after at q
      (ap {B = List ℕ} (λ x. x ∷ length part ∷ part) (en ∙ ap (λ g. get_or numbers g 0) eg ∙ ap (merged_face_of us numbers) ef))
      (wrote_both (number ∷ length part ∷ []) part before mid after at p q u w)

  module _ (ways : List ℕ) (stretches : List Span) where
    -- the row of loop i
    abbrev row : ℕ → List ℕ
    row i = round_row us numbers (loop_in ways (span_at stretches i))

    pub loop_rows : (n : ℕ) → n ≡ length stretches → flat_map row (below n) ≡ round_rows us numbers (loops_in ways stretches)
    unfolding round_rows
    loop_rows n e =
        ap (λ k. flat_map row (below k)) e
        ∙ sym (flat_map_map (round_row us numbers) (loop_in ways) stretches ∙ flat_map_places (λ s. round_row us numbers (loop_in ways s)) stretches no_span)

    module _ (F : Following ways stretches) where
      pub loop_length : (i : ℕ) → i < length stretches → length (row i) + (span_at stretches i).start ≡ 2 + (span_at stretches i).end
      loop_length i lt = omega (arith, length_stretch ways (span_at stretches i).start (span_at stretches i).end (F.within i lt), F.rise i lt)
