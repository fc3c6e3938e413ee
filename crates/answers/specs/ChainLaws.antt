-- Walks along the chains of answers.
use Rattle.std.specs.Prelude.{ℕ, ◌+◌, ◌*◌, ◌-◌, ◌<◌, ◌≤◌, ◌≡◌, refl, List, [], ◌∷◌, Bool, true, false, cond, get_or, take, drop, Some, None}
use Rattle.std.proofs.Common.{mod-lt, sym, ◌∙◌, length-take, get_or-take, get_or-drop}
use native.Mathlib.Omega.{arith}
use Rattle.std.proofs.Math.Path.{ap}
use mathlib.Core.List.{map}
use mathlib.Core.List.Memᴰ
use Rattle.std.specs.List.{find}
use Rattle.std.proofs.Math.ListN.{get_or-eq_default}
use Rattle.lists.specs.Lists.{◌∈◌}
use Rattle.lists.specs.Tests.{cond_true, cond_false}
use Rattle.rules.specs.declared.Counts.{Counts}
use Rattle.rules.specs.Kinds.{number_of}
use Rattle.fields.specs.Chains.{Falling, chain_end, chain_more, chain_below, chain_same}
use Rattle.job.specs.Lists.{answer_byte}
use Rattle.answers.specs.declared.Question.{Question}
use Rattle.answers.specs.Question.{Padded, one_question, question_in, bucket_of, RightAnswer}
use Rattle.answers.specs.QuestionLaws.{one_question_lem}
use Rattle.answers.specs.RecordLaws.{question_padded}
use Rattle.answers.specs.Index.{next_answer, place_on, answers_on, place_for, Chained, Indexed}

pub bucket_below : (q : Question) → bucket_of q < 1024
unfolding bucket_of
bucket_below q = mod-lt (131 * number_of q.kind + q.a + 61 * q.b + 17 * q.c + 307 * q.d) (omega arith)

pub next_at : (ix : List ℕ) (k : ℕ) → k < 2048 → next_answer ix k ≡ get_or ix (1024 + k) 0
unfolding next_answer
next_at ix k h = get_or-take 2048 (drop 1024 ix) k 0 h ∙ get_or-drop 1024 ix k 0

pub next_past : (ix : List ℕ) (k : ℕ) → 2048 ≤ k → next_answer ix k ≡ 0
unfolding next_answer
next_past ix k h = get_or-eq_default (take 2048 (drop 1024 ix)) 0 (omega (arith, length-take 2048 (drop 1024 ix)))

-- A WALK

module _ (bytes ix : List ℕ) (q : Question) where
  pub place_end : (entry : ℕ) → entry ≤ 0 → place_on bytes ix q (answers_on ix entry) ≡ None
  unfolding place_on
  place_end entry h = let e : entry ≡ 0 = omega arith in ap (λ n. place_on bytes ix q (answers_on ix n)) e ∙ ap (place_on bytes ix q) (chain_end (next_answer ix))

  place_first : (entry : ℕ) → Falling (next_answer ix) → 0 < entry
      → place_on bytes ix q (answers_on ix entry)
      ≡ cond (one_question (question_in bytes (answer_byte ix (entry - 1))) q) (Some (answer_byte ix (entry - 1))) (place_on bytes ix q (answers_on ix (next_answer ix (entry - 1))))
  unfolding place_on
  place_first entry f h = ap (place_on bytes ix q) (chain_more (next_answer ix) f entry h)

  -- the first answer on the chain has the question
  pub place_hit : (entry : ℕ) → Falling (next_answer ix) → 0 < entry → one_question (question_in bytes (answer_byte ix (entry - 1))) q ≡ true
      → place_on bytes ix q (answers_on ix entry) ≡ Some (answer_byte ix (entry - 1))
  place_hit entry f h e = place_first entry f h ∙ cond_true (one_question (question_in bytes (answer_byte ix (entry - 1))) q) _ _ e

  -- it has another, and the walk goes on
  pub place_miss : (entry : ℕ) → Falling (next_answer ix) → 0 < entry → entry ≤ 2048 → one_question (question_in bytes (answer_byte ix (entry - 1))) q ≡ false
      → place_on bytes ix q (answers_on ix entry) ≡ place_on bytes ix q (answers_on ix (get_or ix (1024 + (entry - 1)) 0))
  place_miss entry f h l e =
      place_first entry f h ∙ cond_false (one_question (question_in bytes (answer_byte ix (entry - 1))) q) _ _ e
      ∙ ap (λ n. place_on bytes ix q (answers_on ix n)) (next_at ix (entry - 1) (omega arith))

-- the place of an answer, in the part of the index that has the places
abbrev pub place_in : List ℕ → ℕ → ℕ
place_in ix k = get_or (take 2048 (drop 3072 ix)) k 0

-- what the list of the answers' places finds
found_on : (bytes ix : List ℕ) (q : Question) (ks : List ℕ) → ((k : ℕ) → k ∈ ks → k < 2048)
    → find (λ p. one_question (question_in bytes p) q) (map (place_in ix) ks) ≡ place_on bytes ix q ks
unfolding place_on
found_on bytes ix q [] low = refl
found_on bytes ix q (k ∷ ks) low =
    let e : place_in ix k ≡ answer_byte ix k = get_or-take 2048 (drop 3072 ix) k 0 (low k (Memᴰ.head refl)) ∙ get_or-drop 3072 ix k 0 in
    let r = found_on bytes ix q ks (λ j m. low j (Memᴰ.tail m)) in
    λ t. cond (one_question (question_in bytes (e t)) q) (Some (e t)) (r t)

-- the same along the chain of a question
pub found_for : (bytes ix : List ℕ) (q : Question) → Chained ix
    → find (λ p. one_question (question_in bytes p) q) (map (place_in ix) (answers_on ix (get_or ix (bucket_of q) 0))) ≡ place_for bytes ix q
found_for bytes ix q h =
    let entry = get_or ix (bucket_of q) 0 in
    found_on bytes ix q (answers_on ix entry)
    (λ k m. omega (arith, chain_below (next_answer ix) h.falling entry k m, h.heads (bucket_of q) (bucket_below q)))

-- WHAT IS FOUND

placed_on : (bytes ix : List ℕ) (q : Question) (ks : List ℕ) (p : ℕ) → place_on bytes ix q ks ≡ Some p → (k : ℕ) × (k ∈ ks) × (p ≡ answer_byte ix k) × (one_question (question_in bytes p) q ≡ true)
unfolding place_on
placed_on bytes ix q [] p e = absurd (let z : ◌≡◌ {A = ℕ} 0 1 = cc in omega arith)
placed_on bytes ix q (k ∷ ks) p e = go (one_question (question_in bytes (answer_byte ix k)) q) refl e (placed_on bytes ix q ks p)
  where
    go : (t : Bool) → one_question (question_in bytes (answer_byte ix k)) q ≡ t → cond t (Some (answer_byte ix k)) (place_on bytes ix q ks) ≡ Some p
        → (place_on bytes ix q ks ≡ Some p → (j : ℕ) × (j ∈ ks) × (p ≡ answer_byte ix j) × (one_question (question_in bytes p) q ≡ true))
        → (j : ℕ) × (j ∈ k ∷ ks) × (p ≡ answer_byte ix j) × (one_question (question_in bytes p) q ≡ true)
    go true t e later = let s : answer_byte ix k ≡ p = cc in (k, Memᴰ.head refl, sym s, ap (λ x. one_question (question_in bytes x) q) (sym s) ∙ t)
    go false t e later = let r = later e in (r.0, Memᴰ.tail r.1, r.2, r.3)

pub chained : (bytes ix : List ℕ) (c : Counts) → Indexed bytes ix c → Chained ix
chained bytes ix c i = record { falling = i.falling; heads = λ b h. omega (arith, i.heads b h, i.limit) }

-- the record found is a right answer, with the question that was asked
pub placed_right : (bytes ix : List ℕ) (c : Counts) (q : Question) (p : ℕ) → Indexed bytes ix c → Padded q → place_for bytes ix q ≡ Some p → RightAnswer bytes p × (question_in bytes p ≡ q)
placed_right bytes ix c q p i s e =
    let r = placed_on bytes ix q (answers_on ix (get_or ix (bucket_of q) 0)) p e in
    let l = chain_below (next_answer ix) i.falling (get_or ix (bucket_of q) 0) r.0 r.1 in
    let h = i.heads (bucket_of q) (bucket_below q) in
    (rw r.2 (i.right r.0 (omega arith)), one_question_lem (question_in bytes p) q (question_padded bytes p) s r.3)

-- TWO INDEXES THAT AGREE

place_same : (bytes ix iy : List ℕ) (q : Question) (ks : List ℕ) → ((k : ℕ) → k ∈ ks → answer_byte iy k ≡ answer_byte ix k) → place_on bytes iy q ks ≡ place_on bytes ix q ks
unfolding place_on
place_same bytes ix iy q [] h = refl
place_same bytes ix iy q (k ∷ ks) h =
    let e = h k (Memᴰ.head refl) in
    let r = place_same bytes ix iy q ks (λ j m. h j (Memᴰ.tail m)) in
    λ t. cond (one_question (question_in bytes (e t)) q) (Some (e t)) (r t)

-- a walk meets only what stands below its entry
pub walk_same : (bytes ix iy : List ℕ) (q : Question) (entry : ℕ) → Falling (next_answer ix) → ((k : ℕ) → k < entry → next_answer ix k ≡ next_answer iy k)
    → ((k : ℕ) → k < entry → answer_byte iy k ≡ answer_byte ix k) → place_on bytes iy q (answers_on iy entry) ≡ place_on bytes ix q (answers_on ix entry)
walk_same bytes ix iy q entry f nexts places =
    ap (place_on bytes iy q) (sym (chain_same (next_answer ix) (next_answer iy) f entry nexts))
    ∙ place_same bytes ix iy q (answers_on ix entry) (λ k m. places k (chain_below (next_answer ix) f entry k m))
