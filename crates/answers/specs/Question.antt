-- Questions as the code has them, and the questions of the definitions.
use Rattle.std.specs.Prelude.{ℕ, ◌+◌, ◌*◌, ◌%◌, ◌<◌, ◌≤◌, ◌≡◌, List, [], ◌∷◌, Bool, true, ◌&&◌, cond, take, eqb, leb}
use Rattle.lists.specs.Lists.{same}
use Rattle.rules.specs.declared.Kind.{Kind}
use Rattle.rules.specs.declared.Kind.TheVariants.{Unknown, Head, Vertex, EdgeRecord, FaceRecord, LoopRecord, VertexLoop, Radial, Surface, Points, Curves, Singular, Orientation, Inside}
use Rattle.rules.specs.Fields.{le16, le32}
use Rattle.rules.specs.Kinds.{kind_of, number_of, is_answer, right_length}
use Rattle.answers.specs.declared.Question.{Question}

-- the numbers that make a question
abbrev pub key_of : Question → List ℕ
key_of q = take q.words (q.a ∷ q.b ∷ q.c ∷ q.d ∷ [])

-- at most four numbers, and 0 where a question has no number
pub record Padded (q : Question) : Type 0 where
  pub words : q.words ≤ 4
  pub no_a : q.words < 1 → q.a ≡ 0
  pub no_b : q.words < 2 → q.b ≡ 0
  pub no_c : q.words < 3 → q.c ≡ 0
  pub no_d : q.words < 4 → q.d ≡ 0

-- and each number is one that a field holds
pub record Shaped (q : Question) : Type 0 where
  pub a : q.a < 4294967296
  pub b : q.b < 4294967296
  pub c : q.c < 4294967296
  pub d : q.d < 4294967296
  pub padded : Padded q

abbrev pub about_none : Kind → Question
about_none k = record { kind = k; words = 0; a = 0; b = 0; c = 0; d = 0 }

abbrev pub about_one : Kind → ℕ → Question
about_one k a = record { kind = k; words = 1; a = a; b = 0; c = 0; d = 0 }

abbrev pub about_two : Kind → ℕ → ℕ → Question
about_two k a b = record { kind = k; words = 2; a = a; b = b; c = 0; d = 0 }

-- the lower number first
abbrev pub about_either : Kind → ℕ → ℕ → Question
about_either k a b = cond (leb a b) (about_two k a b) (about_two k b a)

abbrev pub about_four : Kind → ℕ → ℕ → ℕ → ℕ → Question
about_four k a b c d = record { kind = k; words = 4; a = a; b = b; c = c; d = d }

-- two questions are one, as a test
abbrev pub one_question : Question → Question → Bool
one_question q r = eqb (number_of q.kind) (number_of r.kind) && same (key_of q) (key_of r)

-- the question of a record of a kind, whose payload stands at a place
unfoldable pub question_by : Kind → List ℕ → ℕ → Question
question_by Unknown bytes p = about_none Unknown
question_by Head bytes p = about_none Head
question_by Vertex bytes p = about_none Vertex
question_by EdgeRecord bytes p = about_none EdgeRecord
question_by FaceRecord bytes p = about_none FaceRecord
question_by LoopRecord bytes p = about_none LoopRecord
question_by VertexLoop bytes p = about_none VertexLoop
question_by Radial bytes p = about_one Radial (le32 bytes p)
question_by Surface bytes p = about_one Surface (le32 bytes p)
question_by Points bytes p = about_either Points (le32 bytes p) (le32 bytes (p + 4))
question_by Curves bytes p = about_either Curves (le32 bytes p) (le32 bytes (p + 4))
question_by Singular bytes p = about_four Singular (le32 bytes p) (le32 bytes (p + 4)) (le32 bytes (p + 8)) (le32 bytes (p + 12))
question_by Orientation bytes p = about_one Orientation (le32 bytes p)
question_by Inside bytes p = about_two Inside (le32 bytes p) (le32 bytes (p + 4))

-- the question of the record at a byte
unfoldable pub question_in : List ℕ → ℕ → Question
question_in bytes at = question_by (kind_of (le16 bytes (at + 4))) bytes (at + 6)

-- the record at a byte is an answer of the right length, and so has a question
abbrev pub RightAnswer : List ℕ → ℕ → Type 0
RightAnswer bytes at = (is_answer (kind_of (le16 bytes (at + 4))) ≡ true) × (right_length (kind_of (le16 bytes (at + 4))) (le32 bytes at) ≡ true)

-- the bucket of a question
unfoldable pub bucket_of : Question → ℕ
bucket_of q = (131 * number_of q.kind + q.a + 61 * q.b + 17 * q.c + 307 * q.d) % 1024
