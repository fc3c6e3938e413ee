-- The index of the answers: chains by bucket, and what is found on them.
use Rattle.std.specs.Prelude.{ℕ, ◌+◌, ◌≤◌, ◌<◌, ◌≡◌, List, [], ◌∷◌, cond, length, get_or, set, take, drop, Option, Some, None}
use Rattle.rules.specs.declared.Counts.{Counts}
use Rattle.rules.specs.Fields.{le16}
use Rattle.rules.specs.Questions.{find}
use Rattle.rules.specs.Kinds.{kind_of, number_of, question_length}
use Rattle.fields.specs.Chains.{chain, Falling}
use Rattle.job.specs.Lists.{answer_byte, fields_at, answers_in}
use Rattle.answers.specs.declared.Question.{Question}
use Rattle.answers.specs.Question.{key_of, Shaped, one_question, question_in, bucket_of, RightAnswer}

-- the entry after answer k on its chain; the index has 2,048 of them, from place 1,024 on
unfoldable pub next_answer : List ℕ → ℕ → ℕ
next_answer ix k = get_or (take 2048 (drop 1024 ix)) k 0

-- the first of some answers, by number, that answers a question
unfoldable pub place_on : List ℕ → List ℕ → Question → List ℕ → Option ℕ
place_on bytes ix q [] = None
place_on bytes ix q (k ∷ ks) =
    let later = place_on bytes ix q ks in
    cond (one_question (question_in bytes (answer_byte ix k)) q) (Some (answer_byte ix k)) later

-- the answers on a chain from an entry on
abbrev pub answers_on : List ℕ → ℕ → List ℕ
answers_on ix entry = chain (next_answer ix) entry

-- the record that answers a question, by the index
abbrev pub place_for : List ℕ → List ℕ → Question → Option ℕ
place_for bytes ix q = place_on bytes ix q (answers_on ix (get_or ix (bucket_of q) 0))

-- the index with one answer more, k, in front of its chain
unfoldable pub entered : List ℕ → List ℕ → ℕ → ℕ → List ℕ
entered bytes ix k at =
    let b = bucket_of (question_in bytes at) in
    set (set (set ix (3072 + k) at) (1024 + k) (get_or ix b 0)) b (k + 1)

-- what the record at a place has after its question
abbrev pub value_at : List ℕ → Option ℕ → Option (List ℕ)
value_at bytes (Some p) = Some (drop (question_length (kind_of (le16 bytes (p + 4)))) (fields_at bytes p))
value_at bytes None = None

-- what a walk along a chain needs: entries fall, and each is of one of 2,048 answers
pub record Chained (ix : List ℕ) : Type 0 where
  pub falling : Falling (next_answer ix)
  pub heads : (b : ℕ) → b < 1024 → get_or ix b 0 ≤ 2048

-- the index finds what the definitions find, for every question that the code can put
pub record Indexed (bytes ix : List ℕ) (c : Counts) : Type 0 where
  pub size : length ix ≡ 7424
  pub limit : c.answers ≤ 2048
  pub falling : Falling (next_answer ix)
  pub heads : (b : ℕ) → b < 1024 → get_or ix b 0 ≤ c.answers
  pub right : (k : ℕ) → k < c.answers → RightAnswer bytes (answer_byte ix k)
  pub finds : (q : Question) → Shaped q → value_at bytes (place_for bytes ix q) ≡ find (answers_in bytes ix c) (number_of q.kind) (key_of q)
