-- The index through loading: blank, with one answer more, with other parts changed.
use Rattle.std.specs.Prelude.{ℕ, ◌+◌, ◌<◌, ◌≤◌, ◌≡◌, refl, ◌&&◌, length, get_or, set, replicate, ltb, Option, Some, None, is_some}
use Rattle.std.proofs.Common.{arith, sym, subst, ◌∙◌, ⊎_elim, length-set, get_or-set_other, ltb-true, ltb-false}
use Rattle.std.proofs.Math.Path.{ap}
use mathlib.Core.List.{List, [], map}
use Rattle.std.proofs.lemmas.List.{length-replicate}
use Rattle.lists.specs.Lists.{below}
use Rattle.lists.specs.Tests.{both_ways}
use Rattle.lists.specs.Constants.{get_or_constant}
use Rattle.lists.specs.Runs.{below_in, from_none}
use Rattle.lists.specs.Members.{map_same}
use Rattle.rules.specs.declared.Counts.{Counts}
use Rattle.rules.specs.Fields.{le16}
use Rattle.rules.specs.Kinds.{kind_of, number_of}
use Rattle.rules.specs.Questions.{find}
use Rattle.rules.specs.Load.{answered_before}
use Rattle.job.specs.Lists.{answer_byte, fields_at, answer_in, answers_in}
use Rattle.answers.specs.declared.Question.{Question}
use Rattle.answers.specs.Question.{key_of, Shaped, question_in, bucket_of, RightAnswer}
use Rattle.answers.specs.RecordLaws.{question_kind, question_key}
use Rattle.answers.specs.Index.{next_answer, place_on, answers_on, place_for, value_at, Indexed}
use Rattle.answers.specs.ChainLaws.{bucket_below, next_at, next_past, place_end, walk_same}

-- THE ANSWERS

-- answers at the same places are the same
pub same_places : (bytes ix iy : List ℕ) (n : ℕ) → ((k : ℕ) → k < n → answer_byte iy k ≡ answer_byte ix k)
    → map (λ k. answer_in bytes (answer_byte iy k)) (below n) ≡ map (λ k. answer_in bytes (answer_byte ix k)) (below n)
same_places bytes ix iy n places =
    map_same (λ k. answer_in bytes (answer_byte iy k)) (λ k. answer_in bytes (answer_byte ix k)) (below n) (λ k m. ap (answer_in bytes) (places k (below_in n k m)))

no_answers : (bytes ix : List ℕ) (c : Counts) → c.answers ≡ 0 → answers_in bytes ix c ≡ []
unfolding answers_in
no_answers bytes ix c e = ap (λ n. map (λ k. answer_in bytes (answer_byte ix k)) (below n)) e ∙ ap (map (λ k. answer_in bytes (answer_byte ix k))) (from_none 0)

find_none : (kind : ℕ) (key : List ℕ) → find [] kind key ≡ None
unfolding find
find_none kind key = refl

-- BLANK

pub indexed_blank : (bytes ix : List ℕ) (c : Counts) → length ix ≡ 7424 → ((i : ℕ) → get_or ix i 0 ≡ 0) → c.answers ≡ 0 → Indexed bytes ix c
indexed_blank bytes ix c e blank n = record {
  size = e;
  limit = omega arith;
  falling = λ k. ⊎_elim (λ t. omega (arith, next_at ix k (ltb-true k 2048 t), blank (1024 + k))) (λ f. omega (arith, next_past ix k (ltb-false k 2048 f))) (both_ways (ltb k 2048));
  heads = λ b h. omega (arith, blank b);
  right = λ k h. absurd (omega arith);
  finds = λ q s. ap (value_at bytes) (place_end bytes ix q (get_or ix (bucket_of q) 0) (omega (arith, blank (bucket_of q))))
      ∙ sym (ap (λ l. find l (number_of q.kind) (key_of q)) (no_answers bytes ix c n) ∙ find_none (number_of q.kind) (key_of q));
}

-- no answers, before the first record
pub indexed_none : (bytes : List ℕ) (c : Counts) → c.answers ≡ 0 → Indexed bytes (replicate 7424 0) c
indexed_none bytes c n = indexed_blank bytes (replicate 7424 0) c (length-replicate {A = ℕ} 7424 0) (get_or_constant {A = ℕ} 7424 0) n

-- OTHER PARTS CHANGED

module _ (bytes ix iy : List ℕ) (c d : Counts) (agree : (j : ℕ) → j < 5120 → get_or iy j 0 ≡ get_or ix j 0) (count : d.answers ≡ c.answers) where
  next_agree : (k : ℕ) → next_answer iy k ≡ next_answer ix k
  next_agree k =
      ⊎_elim (λ t. let h = ltb-true k 2048 t in next_at iy k h ∙ agree (1024 + k) (omega arith) ∙ sym (next_at ix k h))
      (λ f. let h = ltb-false k 2048 f in next_past iy k h ∙ sym (next_past ix k h)) (both_ways (ltb k 2048))

  -- the answers are the same where the index is below place 5,120
  pub answers_agree : Indexed bytes ix c → answers_in bytes iy d ≡ answers_in bytes ix c
  unfolding answers_in
  answers_agree i =
      ap (λ n. map (λ k. answer_in bytes (answer_byte iy k)) (below n)) count
      ∙ same_places bytes ix iy c.answers (λ k h. agree (3072 + k) (omega (arith, i.limit)))

  -- and so is what they are found by
  pub indexed_agree : length iy ≡ 7424 → Indexed bytes ix c → Indexed bytes iy d
  indexed_agree e i = record {
    size = e;
    limit = omega (arith, i.limit);
    falling = λ k. omega (arith, next_agree k, i.falling k);
    heads = λ b h. omega (arith, agree b (omega arith), i.heads b h);
    right = λ k h. subst (RightAnswer bytes) (sym (agree (3072 + k) (omega (arith, i.limit)))) (i.right k (omega arith));
    finds = λ q s.
        let b = bucket_below q in
        let head : get_or iy (bucket_of q) 0 ≡ get_or ix (bucket_of q) 0 = agree (bucket_of q) (omega arith) in
        let low = i.heads (bucket_of q) b in
        ap (value_at bytes) (ap (λ n. place_on bytes iy q (answers_on iy n)) head
        ∙ walk_same bytes ix iy q (get_or ix (bucket_of q) 0) i.falling (λ k h. sym (next_agree k)) (λ k h. agree (3072 + k) (omega (arith, i.limit))))
        ∙ i.finds q s
        ∙ sym (ap (λ l. find l (number_of q.kind) (key_of q)) (answers_agree i));
  }

-- one store past the answers, and counts with as many answers
pub indexed_same : (bytes ix : List ℕ) (c d : Counts) (j v : ℕ) → 5120 ≤ j → d.answers ≡ c.answers → Indexed bytes ix c → Indexed bytes (set ix j v) d
indexed_same bytes ix c d j v h n i =
    indexed_agree bytes ix (set ix j v) c d (λ k l. get_or-set_other ix j k v 0 (λ e. omega arith)) n (length-set ix j v ∙ i.size) i

-- ANSWERED BEFORE

-- refusal 7's test for a right answer, as the index has it
pub before_is : (bytes ix : List ℕ) (c : Counts) (at : ℕ) → Indexed bytes ix c → RightAnswer bytes at → Shaped (question_in bytes at)
    → answered_before (kind_of (le16 bytes (at + 4))) (answers_in bytes ix c) (fields_at bytes at) ≡ is_some (value_at bytes (place_for bytes ix (question_in bytes at)))
unfolding answered_before
before_is bytes ix c at i r s =
    let l = answers_in bytes ix c in
    (λ t. r.0 t && is_some (find l (number_of (sym (question_kind bytes at) t)) (sym (question_key bytes at r) t))) ∙ ap is_some (sym (i.finds (question_in bytes at) s))

-- a place has a record, and so a value
some_at : (bytes : List ℕ) (f : Option ℕ) → is_some (value_at bytes f) ≡ is_some f
some_at bytes (Some p) = refl
some_at bytes None = refl

-- as the code finds it
module _ (bytes ix : List ℕ) (c : Counts) (at : ℕ) (i : Indexed bytes ix c) (r : RightAnswer bytes at) (q : Question) (f : Option ℕ) (eq : q ≡ question_in bytes at) (s : Shaped q)
    (ef : f ≡ place_for bytes ix q)
  where
    finds_before : answered_before (kind_of (le16 bytes (at + 4))) (answers_in bytes ix c) (fields_at bytes at) ≡ is_some (value_at bytes f)
    finds_before = before_is bytes ix c at i r (subst Shaped eq s) ∙ ap (λ x. is_some (value_at bytes x)) (ap (place_for bytes ix) (sym eq) ∙ sym ef)

    pub before_found : is_some f ≡ answered_before (kind_of (le16 bytes (at + 4))) (answers_in bytes ix c) (fields_at bytes at)
    before_found = sym (finds_before ∙ some_at bytes f)
