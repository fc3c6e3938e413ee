-- The question of a record, as the code has it and as the definitions have it.
use Rattle.std.specs.Prelude.{ℕ, ◌+◌, ◌*◌, ◌/◌, ◌%◌, ◌<◌, ◌≤◌, ◌≡◌, refl, true, ◌&&◌, get_or, take, drop, eqb, ltb}
use native.Mathlib.Omega.{arith}
use Rattle.std.proofs.Common.{sym, ◌∙◌, eqb-true, ltb-true}
use Rattle.std.proofs.Math.Path.{ap}
use mathlib.Core.List.{List, [], ◌∷◌}
use Rattle.std.proofs.lemmas.Bool.{false≢true}
use Rattle.lists.specs.Tests.{and_both}
use Rattle.rules.specs.declared.Kind.{Kind}
use Rattle.rules.specs.declared.Kind.TheVariants.{Unknown, Head, Vertex, EdgeRecord, FaceRecord, LoopRecord, VertexLoop, Radial, Surface, Points, Curves, Singular, Orientation, Inside}
use Rattle.rules.specs.Fields.{le16, le32, fields_in}
use Rattle.rules.specs.Kinds.{kind_of, number_of, is_answer, right_length, question_length, question_of}
use Rattle.rules.specs.Questions.{unordered}
use Rattle.job.specs.Lists.{fields_at}
use Rattle.rules.proofs.FieldLaws.{field_in, fields_first}
use Rattle.job.specs.FieldLaws.{take_fields}
use Rattle.answers.specs.Question.{key_of, Padded, about_one, about_two, about_either, about_four, question_by, question_in, RightAnswer}
use Rattle.answers.specs.QuestionLaws.{padded_none, padded_one, padded_two, padded_four, padded_either, either_kind, either_words, either_key}

-- KINDS

-- so many bytes as n fields have are n fields
pub long : (n size : ℕ) → eqb size (4 * n) ≡ true → size / 4 ≡ n
long n size e = omega (arith, eqb-true size (4 * n) e)

some_fields : (size : ℕ) → (ltb 0 size && eqb (size % 4) 0) ≡ true → 1 ≤ size / 4
some_fields size e =
    let w = and_both (ltb 0 size) (eqb (size % 4) 0) e in
    omega (arith, ltb-true 0 size w.0, eqb-true (size % 4) 0 w.1)

-- a payload of the right length has a question
pub question_fits : (kind : Kind) (size : ℕ) → right_length kind size ≡ true → question_length kind ≤ size / 4
unfolding right_length question_length
question_fits Unknown size e = absurd (false≢true e)
question_fits Head size e = omega arith
question_fits Vertex size e = omega arith
question_fits EdgeRecord size e = omega arith
question_fits FaceRecord size e = omega arith
question_fits LoopRecord size e = omega arith
question_fits VertexLoop size e = omega arith
question_fits Radial size e = some_fields size e
question_fits Surface size e = omega (arith, long 2 size e)
question_fits Points size e = omega (arith, long 3 size e)
question_fits Curves size e = omega (arith, long 3 size e)
question_fits Singular size e = omega (arith, long 5 size e)
question_fits Orientation size e = omega (arith, long 2 size e)
question_fits Inside size e = omega (arith, long 3 size e)

-- and, but for a radial order, one field more
pub value_fits : (kind : Kind) (size : ℕ) → is_answer kind ≡ true → (kind ≡ Radial → ⊥) → right_length kind size ≡ true → question_length kind < size / 4
unfolding right_length question_length number_of
value_fits Unknown size t n e = absurd (false≢true t)
value_fits Head size t n e = absurd (false≢true t)
value_fits Vertex size t n e = absurd (false≢true t)
value_fits EdgeRecord size t n e = absurd (false≢true t)
value_fits FaceRecord size t n e = absurd (false≢true t)
value_fits LoopRecord size t n e = absurd (false≢true t)
value_fits VertexLoop size t n e = absurd (false≢true t)
value_fits Radial size t n e = absurd (n refl)
value_fits Surface size t n e = omega (arith, long 2 size e)
value_fits Points size t n e = omega (arith, long 3 size e)
value_fits Curves size t n e = omega (arith, long 3 size e)
value_fits Singular size t n e = omega (arith, long 5 size e)
value_fits Orientation size t n e = omega (arith, long 2 size e)
value_fits Inside size t n e = omega (arith, long 3 size e)

-- THE QUESTION OF A RECORD

padded_by : (kind : Kind) (bytes : List ℕ) (p : ℕ) → Padded (question_by kind bytes p)
unfolding question_by
padded_by Unknown bytes p = padded_none Unknown
padded_by Head bytes p = padded_none Head
padded_by Vertex bytes p = padded_none Vertex
padded_by EdgeRecord bytes p = padded_none EdgeRecord
padded_by FaceRecord bytes p = padded_none FaceRecord
padded_by LoopRecord bytes p = padded_none LoopRecord
padded_by VertexLoop bytes p = padded_none VertexLoop
padded_by Radial bytes p = padded_one Radial (le32 bytes p)
padded_by Surface bytes p = padded_one Surface (le32 bytes p)
padded_by Points bytes p = padded_either Points (le32 bytes p) (le32 bytes (p + 4))
padded_by Curves bytes p = padded_either Curves (le32 bytes p) (le32 bytes (p + 4))
padded_by Singular bytes p = padded_four Singular (le32 bytes p) (le32 bytes (p + 4)) (le32 bytes (p + 8)) (le32 bytes (p + 12))
padded_by Orientation bytes p = padded_one Orientation (le32 bytes p)
padded_by Inside bytes p = padded_two Inside (le32 bytes p) (le32 bytes (p + 4))

kind_by : (kind : Kind) (bytes : List ℕ) (p : ℕ) → (question_by kind bytes p).kind ≡ kind
unfolding question_by
kind_by Unknown bytes p = refl
kind_by Head bytes p = refl
kind_by Vertex bytes p = refl
kind_by EdgeRecord bytes p = refl
kind_by FaceRecord bytes p = refl
kind_by LoopRecord bytes p = refl
kind_by VertexLoop bytes p = refl
kind_by Radial bytes p = refl
kind_by Surface bytes p = refl
kind_by Points bytes p = either_kind Points (le32 bytes p) (le32 bytes (p + 4))
kind_by Curves bytes p = either_kind Curves (le32 bytes p) (le32 bytes (p + 4))
kind_by Singular bytes p = refl
kind_by Orientation bytes p = refl
kind_by Inside bytes p = refl

words_by : (kind : Kind) (bytes : List ℕ) (p : ℕ) → (question_by kind bytes p).words ≡ question_length kind
unfolding question_by question_length
words_by Unknown bytes p = refl
words_by Head bytes p = refl
words_by Vertex bytes p = refl
words_by EdgeRecord bytes p = refl
words_by FaceRecord bytes p = refl
words_by LoopRecord bytes p = refl
words_by VertexLoop bytes p = refl
words_by Radial bytes p = refl
words_by Surface bytes p = refl
words_by Points bytes p = either_words Points (le32 bytes p) (le32 bytes (p + 4))
words_by Curves bytes p = either_words Curves (le32 bytes p) (le32 bytes (p + 4))
words_by Singular bytes p = refl
words_by Orientation bytes p = refl
words_by Inside bytes p = refl

-- the first one, two and four fields at a place
module _ (bytes : List ℕ) (p : ℕ) where
  one_field : fields_in 1 (drop p bytes) ≡ le32 bytes p ∷ []
  unfolding fields_in
  one_field = fields_first 0 bytes p

  two_fields : fields_in 2 (drop p bytes) ≡ le32 bytes p ∷ le32 bytes (p + 4) ∷ []
  unfolding fields_in
  two_fields = fields_first 1 bytes p ∙ ap {B = List ℕ} (λ l. le32 bytes p ∷ l) (fields_first 0 bytes (p + 4))

  four_fields_lem : fields_in 4 (drop p bytes) ≡ le32 bytes p ∷ le32 bytes (p + 4) ∷ le32 bytes (p + 8) ∷ le32 bytes (p + 12) ∷ []
  unfolding fields_in
  four_fields_lem =
      let e : p + 4 + 4 ≡ p + 8 = omega arith in
      let f : p + 8 + 4 ≡ p + 12 = omega arith in
      fields_first 3 bytes p
      ∙ ap {B = List ℕ} (λ l. le32 bytes p ∷ l) (fields_first 2 bytes (p + 4))
      ∙ ap {B = List ℕ} (λ q. le32 bytes p ∷ le32 bytes (p + 4) ∷ fields_in 2 (drop q bytes)) e
      ∙ ap {B = List ℕ} (λ l. le32 bytes p ∷ le32 bytes (p + 4) ∷ l) (fields_first 1 bytes (p + 8))
      ∙ ap {B = List ℕ} (λ q. le32 bytes p ∷ le32 bytes (p + 4) ∷ le32 bytes (p + 8) ∷ fields_in 1 (drop q bytes)) f
      ∙ ap {B = List ℕ} (λ l. le32 bytes p ∷ le32 bytes (p + 4) ∷ le32 bytes (p + 8) ∷ l) (fields_first 0 bytes (p + 12))

  -- the question of so many fields, each kind
  one_question_lem : (k : Kind) (n : ℕ) → 1 ≤ n → key_of (about_one k (le32 bytes p)) ≡ take 1 (fields_in n (drop p bytes))
  one_question_lem k n h = sym (take_fields 1 n (drop p bytes) h ∙ one_field)

  two_question : (k : Kind) (n : ℕ) → 2 ≤ n → key_of (about_two k (le32 bytes p) (le32 bytes (p + 4))) ≡ take 2 (fields_in n (drop p bytes))
  two_question k n h = sym (take_fields 2 n (drop p bytes) h ∙ two_fields)

  four_question : (k : Kind) (n : ℕ) → 4 ≤ n → key_of (about_four k (le32 bytes p) (le32 bytes (p + 4)) (le32 bytes (p + 8)) (le32 bytes (p + 12))) ≡ take 4 (fields_in n (drop p bytes))
  four_question k n h = sym (take_fields 4 n (drop p bytes) h ∙ four_fields_lem)

  either_question : (k : Kind) (n : ℕ) → 2 ≤ n
      → key_of (about_either k (le32 bytes p) (le32 bytes (p + 4))) ≡ unordered (get_or (fields_in n (drop p bytes)) 0 0) (get_or (fields_in n (drop p bytes)) 1 0)
  either_question k n h =
      let e : p + 0 ≡ p = omega arith in
      let a : get_or (fields_in n (drop p bytes)) 0 0 ≡ le32 bytes p = field_in n bytes p 0 (omega arith) ∙ ap (le32 bytes) e in
      let b : get_or (fields_in n (drop p bytes)) 1 0 ≡ le32 bytes (p + 4) = field_in n bytes p 1 (omega arith) in
      either_key k (le32 bytes p) (le32 bytes (p + 4)) ∙ sym (λ i. unordered (a i) (b i))

key_by : (kind : Kind) (n : ℕ) (bytes : List ℕ) (p : ℕ) → question_length kind ≤ n → key_of (question_by kind bytes p) ≡ question_of kind (fields_in n (drop p bytes))
unfolding question_by question_length question_of
key_by Unknown n bytes p h = refl
key_by Head n bytes p h = refl
key_by Vertex n bytes p h = refl
key_by EdgeRecord n bytes p h = refl
key_by FaceRecord n bytes p h = refl
key_by LoopRecord n bytes p h = refl
key_by VertexLoop n bytes p h = refl
key_by Radial n bytes p h = one_question_lem bytes p Radial n h
key_by Surface n bytes p h = one_question_lem bytes p Surface n h
key_by Points n bytes p h = either_question bytes p Points n h
key_by Curves n bytes p h = either_question bytes p Curves n h
key_by Singular n bytes p h = four_question bytes p Singular n h
key_by Orientation n bytes p h = one_question_lem bytes p Orientation n h
key_by Inside n bytes p h = two_question bytes p Inside n h

pub question_padded : (bytes : List ℕ) (at : ℕ) → Padded (question_in bytes at)
unfolding question_in
question_padded bytes at = padded_by (kind_of (le16 bytes (at + 4))) bytes (at + 6)

pub question_words : (bytes : List ℕ) (at : ℕ) → (question_in bytes at).words ≡ question_length (kind_of (le16 bytes (at + 4)))
unfolding question_in
question_words bytes at = words_by (kind_of (le16 bytes (at + 4))) bytes (at + 6)

-- the kind of a record's question is the record's
pub question_kind : (bytes : List ℕ) (at : ℕ) → (question_in bytes at).kind ≡ kind_of (le16 bytes (at + 4))
unfolding question_in
question_kind bytes at = kind_by (kind_of (le16 bytes (at + 4))) bytes (at + 6)

-- the numbers of a right answer's question are those of the definitions
pub question_key : (bytes : List ℕ) (at : ℕ) → RightAnswer bytes at → key_of (question_in bytes at) ≡ question_of (kind_of (le16 bytes (at + 4))) (fields_at bytes at)
unfolding question_in fields_at
question_key bytes at r =
    let kind = kind_of (le16 bytes (at + 4)) in
    key_by kind (le32 bytes at / 4) bytes (at + 6) (question_fits kind (le32 bytes at) r.1)
