-- What is told of a question, from what the index finds.
use Rattle.std.specs.Prelude.{ℕ, zero, suc, ◌+◌, ◌*◌, ◌-◌, ◌/◌, ◌<◌, ◌≤◌, ◌≡◌, ◌≢◌, List, get_or, drop, Option, Some, None}
use Rattle.std.proofs.Common.{arith, refl, sym, ap, ◌∙◌, drop-drop, get_or-drop}
use Rattle.rules.specs.declared.Counts.{Counts}
use Rattle.rules.specs.Outcome.{Ok, refuse}
use Rattle.rules.specs.Fields.{le16, le32, fields_in, field}
use Rattle.rules.specs.declared.Kind.TheVariants.{Radial}
use Rattle.rules.specs.Kinds.{kind_of, number_of, question_length}
use Rattle.rules.specs.Questions.{find, ordered, ask_radial}
use Rattle.job.specs.Lists.{fields_at, answers_in}
use Rattle.job.specs.FieldLaws.{field_at, drop_fields}
use Rattle.answers.specs.declared.Question.{Question}
use Rattle.answers.specs.Question.{key_of, Shaped, about_one, RightAnswer}
use Rattle.answers.specs.RecordLaws.{question_words, question_kind, value_fits}
use Rattle.answers.specs.Index.{place_for, value_at, Indexed}
use Rattle.answers.specs.QuestionLaws.{shaped_one}
use Rattle.answers.specs.ChainLaws.{chained, placed_right}
use Rattle.loaded.proofs.IndexedLaws.{answers_are}
use Rattle.loaded.specs.Told.{value_of}
use Rattle.rules.specs.declared.Fault.TheVariants.{Unanswered, AnswerUndecided}

-- WHAT IS FOUND

-- a right answer that is no order has its value after its question
first_value : (bytes : List ℕ) (p : ℕ) → RightAnswer bytes p → kind_of (le16 bytes (p + 4)) ≢ Radial
    → field (drop (question_length (kind_of (le16 bytes (p + 4)))) (fields_at bytes p)) 0 ≡ le32 bytes (p + 6 + 4 * question_length (kind_of (le16 bytes (p + 4))))
first_value bytes p r n =
    let kind = kind_of (le16 bytes (p + 4)) in
    let e : question_length kind + 0 ≡ question_length kind = omega arith in
    get_or-drop (question_length kind) (fields_at bytes p) 0 0
    ∙ ap (λ i. get_or (fields_at bytes p) i 0) e
    ∙ field_at bytes p (question_length kind) (value_fits kind (le32 bytes p) r.0 n r.1)

module _ (bytes ix : List ℕ) (c : Counts) (q : Question) (f : Option ℕ) (i : Indexed bytes ix c) (s : Shaped q) (ef : f ≡ place_for bytes ix q) where
  found_by : find (answers_in bytes ix c) (number_of q.kind) (key_of q) ≡ value_at bytes f
  found_by = sym (i.finds q s) ∙ ap (value_at bytes) (sym ef)

  pub value_missing : f ≡ None → None ≡ value_of (find (answers_in bytes ix c) (number_of q.kind) (key_of q))
  value_missing e = sym (ap value_of (found_by ∙ ap (value_at bytes) e))

  pub value_found : (p v : ℕ) → q.kind ≢ Radial → f ≡ Some p → v ≡ le32 bytes (p + 6 + 4 * q.words) → Some v ≡ value_of (find (answers_in bytes ix c) (number_of q.kind) (key_of q))
  value_found p v n e ev =
      let r = placed_right bytes ix c q p i s.padded (sym ef ∙ e) in
      let words : q.words ≡ question_length (kind_of (le16 bytes (p + 4))) = ap (λ x. x.words) (sym r.1) ∙ question_words bytes p in
      let other : kind_of (le16 bytes (p + 4)) ≢ Radial = λ z. n (ap (λ x. x.kind) (sym r.1) ∙ question_kind bytes p ∙ z) in
      ap Some (ev ∙ ap (λ x. le32 bytes (p + 6 + 4 * x)) words ∙ sym (first_value bytes p r.0 other)) ∙ sym (ap value_of (found_by ∙ ap (value_at bytes) e))

-- RADIAL ORDER

-- none, or at least one
ordered_none : (n : ℕ) (s : List ℕ) → n ≤ 0 → ordered (Some (fields_in n s)) ≡ refuse AnswerUndecided 7
unfolding ordered fields_in
ordered_none zero s h = refl
ordered_none (suc n) s h = absurd (omega arith)

ordered_some : (n : ℕ) (s : List ℕ) → 0 < n → ordered (Some (fields_in n s)) ≡ Ok (fields_in n s)
unfolding ordered fields_in
ordered_some zero s h = absurd (omega arith)
ordered_some (suc n) s h = refl

module _ (bytes ix : List ℕ) (c : Counts) (e : ℕ) (q : Question) (f : Option ℕ) (i : Indexed bytes ix c) (s : Shaped q) (eq : q ≡ about_one Radial e) (ef : f ≡ place_for bytes ix q) where
  radial_by : ask_radial (answers_in bytes ix c) e ≡ ordered (value_at bytes f)
  unfolding number_of
  radial_by = ap (λ x. ordered (find (answers_in bytes ix c) (number_of x.kind) (key_of x))) (sym eq) ∙ ap ordered (found_by bytes ix c q f i s ef)

  pub radial_missing : f ≡ None → refuse Unanswered 7 ≡ ask_radial (answers_in bytes ix c) e
  unfolding ordered
  radial_missing h = sym (radial_by ∙ ap (λ x. ordered (value_at bytes x)) h)

  -- the fields after the edge
  module _ (p size : ℕ) (h : f ≡ Some p) (es : size ≡ le32 bytes p) where
    radial_at : ask_radial (answers_in bytes ix c) e ≡ ordered (Some (fields_in (size / 4 - 1) (drop (p + 10) bytes)))
    unfolding fields_at
    radial_at =
        let r = placed_right bytes ix c q p i s.padded (sym ef ∙ h) in
        let one : question_length (kind_of (le16 bytes (p + 4))) ≡ 1 = sym (question_words bytes p) ∙ ap (λ x. x.words) (r.1 ∙ eq) in
        let place : p + 6 + 4 ≡ p + 10 = omega arith in
        radial_by
        ∙ ap (λ x. ordered (value_at bytes x)) h
        ∙ ap (λ n. ordered (Some (drop n (fields_at bytes p)))) one
        ∙ ap (λ x. ordered (Some x)) (drop_fields 1 (le32 bytes p / 4) (drop (p + 6) bytes) ∙ ap (fields_in (le32 bytes p / 4 - 1)) (drop-drop 4 (p + 6) bytes)
        ∙ (λ t. fields_in (sym es t / 4 - 1) (drop (place t) bytes)))

    pub radial_none : size / 4 ≤ 1 → refuse AnswerUndecided 7 ≡ ask_radial (answers_in bytes ix c) e
    radial_none l = sym (radial_at ∙ ordered_none (size / 4 - 1) (drop (p + 10) bytes) (omega arith))

    pub radial_uses : 1 < size / 4 → Ok (fields_in (size / 4 - 1) (drop (p + 10) bytes)) ≡ ask_radial (answers_in bytes ix c) e
    radial_uses l = sym (radial_at ∙ ordered_some (size / 4 - 1) (drop (p + 10) bytes) (omega arith))

-- what `answer_to` and `radial` cite
pub ruleset value = (chained, value_missing, value_found, answers_are)

pub ruleset radial = (shaped_one, chained, radial_missing, radial_none, radial_uses, answers_are)
