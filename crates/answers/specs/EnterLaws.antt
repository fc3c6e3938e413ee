-- One answer more in the index.
use Prim.Native.Nat.{ℕ, ◌+◌, ◌-◌, ◌<◌, ◌≤◌}
use Rattle.std.proofs.Math.Numerals.{add-one}
use Rattle.std.proofs.Math.Decide.{ℕ_discrete}
use Rattle.std.proofs.Common.{arith, subst, ◌∙◌, ltb-true, ltb-false}
use Rattle.std.proofs.Math.Path.{◌≡◌, sym, ap}
use Rattle.std.specs.Prelude.{refl, ◌≢◌, Bool, ◌&&◌, length, get_or, set, ltb, Some, None}
use Rattle.std.proofs.Math.Logic.{⊎_elim}
use mathlib.Core.List.{List, [], ◌∷◌, ◌++◌, map}
use Rattle.std.proofs.Math.Bool.{true, false, cond}
use Rattle.std.proofs.Math.ListN.{length-set}
use Rattle.std.proofs.Math.Seq.{get_or-set_same, get_or-set_other}
use Rattle.std.proofs.Math.Dec.{eqb}
use Rattle.lists.specs.Lists.{below, same}
use Rattle.lists.specs.Tests.{both_ways}
use Rattle.lists.specs.Runs.{below_snoc}
use Rattle.lists.specs.Members.{map_append}
use Rattle.rules.specs.declared.Counts.{Counts}
use Rattle.rules.specs.Fields.{le16}
use Rattle.rules.specs.Job.{Answer}
use Rattle.rules.specs.Kinds.{kind_of, number_of, question_of}
use Rattle.rules.specs.Questions.{find}
use Rattle.fields.specs.Chains.{Falling}
use Rattle.job.specs.Lists.{answer_byte, fields_at, answer_in, answers_in}
use Rattle.answers.specs.declared.Question.{Question}
use Rattle.answers.specs.Question.{key_of, Shaped, one_question, question_in, bucket_of, RightAnswer}
use Rattle.answers.specs.QuestionLaws.{one_question_lem, one_equal}
use Rattle.answers.specs.RecordLaws.{question_padded, question_kind, question_key}
use Rattle.answers.specs.Index.{next_answer, place_on, answers_on, place_for, entered, value_at, Indexed}
use Rattle.answers.specs.ChainLaws.{bucket_below, next_at, next_past, place_hit, place_miss, walk_same}
use Rattle.answers.specs.IndexLaws.{same_places}

-- WHAT IS FOUND

-- what is found with one answer more at the end
module _ (kind : ℕ) (key : List ℕ) (a : Answer) where
  find_other : (l : List Answer) → (eqb a.kind kind && same a.question key) ≡ false → find (l ++ (a ∷ [])) kind key ≡ find l kind key
  unfolding find
  find_other [] e = rw e
  find_other (b ∷ l) e = ap (cond (eqb b.kind kind && same b.question key) (Some b.value)) (find_other l e)

  find_new : (l : List Answer) → (eqb a.kind kind && same a.question key) ≡ true → find l kind key ≡ None → find (l ++ (a ∷ [])) kind key ≡ Some a.value
  unfolding find
  find_new [] e m = rw e
  find_new (b ∷ l) e m = go (eqb b.kind kind && same b.question key) m (find_new l e)
    where
      go : (t : Bool) → cond t (Some b.value) (find l kind key) ≡ None → (find l kind key ≡ None → find (l ++ (a ∷ [])) kind key ≡ Some a.value)
          → cond t (Some b.value) (find (l ++ (a ∷ [])) kind key) ≡ Some a.value
      go true m later = absurd (let z : ◌≡◌ {A = ℕ} 0 1 = cc in omega arith)
      go false m later = later m

-- THE INDEX AFTER

-- k is the number of the answer entered, at the byte of its record
module _ (bytes ix : List ℕ) (k at : ℕ) (size : length ix ≡ 7424) (low : k < 2048) where
  abbrev bucket : ℕ
  bucket = bucket_of (question_in bytes at)

  abbrev one : List ℕ
  one = set ix (3072 + k) at

  abbrev two : List ℕ
  two = set one (1024 + k) (get_or ix bucket 0)

  pub length_entered : length (entered bytes ix k at) ≡ 7424
  unfolding entered
  length_entered = length-set two bucket (k + 1) ∙ length-set one (1024 + k) (get_or ix bucket 0) ∙ length-set ix (3072 + k) at ∙ size

  -- three places change
  pub entered_other : (j : ℕ) → j ≢ 3072 + k → j ≢ 1024 + k → j ≢ bucket → get_or (entered bytes ix k at) j 0 ≡ get_or ix j 0
  unfolding entered
  entered_other j a b c = get_or-set_other two bucket j (k + 1) 0 c ∙ get_or-set_other one (1024 + k) j (get_or ix bucket 0) 0 b ∙ get_or-set_other ix (3072 + k) j at 0 a

  -- none of them past the answers
  pub entered_past : (j : ℕ) → 5120 ≤ j → get_or (entered bytes ix k at) j 0 ≡ get_or ix j 0
  entered_past j h =
      let b = bucket_below (question_in bytes at) in
      entered_other j (λ e. omega arith) (λ e. omega arith) (λ e. omega arith)

  head_new : get_or (entered bytes ix k at) bucket 0 ≡ k + 1
  unfolding entered
  head_new =
      let b = bucket_below (question_in bytes at) in
      get_or-set_same two bucket (k + 1) 0 (omega (arith, length-set one (1024 + k) (get_or ix bucket 0), length-set ix (3072 + k) at, size))

  next_new : next_answer (entered bytes ix k at) k ≡ get_or ix bucket 0
  unfolding entered
  next_new =
      let b = bucket_below (question_in bytes at) in
      next_at (entered bytes ix k at) k low
      ∙ get_or-set_other two bucket (1024 + k) (k + 1) 0 (λ e. omega arith)
      ∙ get_or-set_same one (1024 + k) (get_or ix bucket 0) 0 (omega (arith, length-set ix (3072 + k) at, size))

  place_new : answer_byte (entered bytes ix k at) k ≡ at
  unfolding entered
  place_new =
      let b = bucket_below (question_in bytes at) in
      get_or-set_other two bucket (3072 + k) (k + 1) 0 (λ e. omega arith)
      ∙ get_or-set_other one (1024 + k) (3072 + k) (get_or ix bucket 0) 0 (λ e. omega arith)
      ∙ get_or-set_same ix (3072 + k) at 0 (omega (arith, size))

  head_old : (b : ℕ) → b < 1024 → b ≢ bucket → get_or (entered bytes ix k at) b 0 ≡ get_or ix b 0
  head_old b h n = entered_other b (λ e. omega arith) (λ e. omega arith) n

  place_old : (j : ℕ) → j < 2048 → j ≢ k → answer_byte (entered bytes ix k at) j ≡ answer_byte ix j
  place_old j h n =
      let b = bucket_below (question_in bytes at) in
      entered_other (3072 + j) (λ e. n (omega arith)) (λ e. omega arith) (λ e. omega arith)

  next_old : (j : ℕ) → j ≢ k → next_answer (entered bytes ix k at) j ≡ next_answer ix j
  next_old j n =
      let b = bucket_below (question_in bytes at) in
      ⊎_elim (λ t.
      let h = ltb-true j 2048 t in
      next_at (entered bytes ix k at) j h ∙ entered_other (1024 + j) (λ e. omega arith) (λ e. n (omega arith)) (λ e. omega arith) ∙ sym (next_at ix j h))
      (λ f. let h = ltb-false j 2048 f in next_past (entered bytes ix k at) j h ∙ sym (next_past ix j h)) (both_ways (ltb j 2048))

-- ONE ANSWER MORE

module _ (bytes ix : List ℕ) (c : Counts) (at : ℕ) (i : Indexed bytes ix c) (low : c.answers < 2048) where
  abbrev after : List ℕ
  after = entered bytes ix c.answers at

  -- the answers are those before and the one entered
  pub answers_enter : (d : Counts) → d.answers ≡ c.answers + 1 → answers_in bytes after d ≡ answers_in bytes ix c ++ (answer_in bytes at ∷ [])
  unfolding answers_in
  answers_enter d n =
      let f : ℕ → Answer = λ k. answer_in bytes (answer_byte after k) in
      ap (λ m. map f (below m)) (n ∙ add-one c.answers)
      ∙ ap (map f) (below_snoc c.answers)
      ∙ map_append f (below c.answers) (c.answers ∷ [])
      ∙ (λ t. same_places bytes ix after c.answers (λ k h. place_old bytes ix c.answers at i.size low k (omega arith) (λ e. omega arith)) t
      ++ (answer_in bytes (place_new bytes ix c.answers at i.size low t) ∷ []))

  -- walks that begin below the answer entered go as before
  walk_old : (q : Question) (entry : ℕ) → entry ≤ c.answers → place_on bytes after q (answers_on after entry) ≡ place_on bytes ix q (answers_on ix entry)
  walk_old q entry h =
      walk_same bytes ix after q entry i.falling
      (λ k l. sym (next_old bytes ix c.answers at i.size low k (λ e. omega arith)))
      (λ k l. place_old bytes ix c.answers at i.size low k (omega arith) (λ e. omega arith))

  falls : Falling (next_answer after)
  falls k = elim (ℕ_discrete k c.answers) [
    | yes e ↦ rw e (omega (arith, next_new bytes ix c.answers at i.size low, i.heads (bucket_of (question_in bytes at)) (bucket_below (question_in bytes at))))
    | no n ↦ omega (arith, next_old bytes ix c.answers at i.size low k n, i.falling k)
  ]

  -- a question that is not the new answer's is answered as before
  place_before : (q : Question) → one_question (question_in bytes at) q ≡ false → place_for bytes after q ≡ place_for bytes ix q
  place_before q e = elim (ℕ_discrete (bucket_of q) (bucket_of (question_in bytes at))) [
    | yes b ↦
        let k = c.answers in
        let back : k + 1 - 1 ≡ k = omega arith in
        let head : get_or after (bucket_of q) 0 ≡ k + 1 = ap (λ x. get_or after x 0) b ∙ head_new bytes ix k at i.size low in
        let here : answer_byte after (k + 1 - 1) ≡ at = ap (answer_byte after) back ∙ place_new bytes ix k at i.size low in
        let next : get_or after (1024 + (k + 1 - 1)) 0 ≡ get_or ix (bucket_of q) 0 = ap (λ x. get_or after (1024 + x) 0) back ∙ sym (next_at after k low)
        ∙ next_new bytes ix k at i.size low ∙ ap (λ x. get_or ix x 0) (sym b) in
        ap (λ x. place_on bytes after q (answers_on after x)) head
        ∙ place_miss bytes after q (k + 1) falls (omega arith) (omega arith) (ap (λ x. one_question (question_in bytes x) q) here ∙ e)
        ∙ ap (λ x. place_on bytes after q (answers_on after x)) next
        ∙ walk_old q (get_or ix (bucket_of q) 0) (i.heads (bucket_of q) (bucket_below q))
    | no n ↦
        ap (λ x. place_on bytes after q (answers_on after x)) (head_old bytes ix c.answers at i.size low (bucket_of q) (bucket_below q) n)
        ∙ walk_old q (get_or ix (bucket_of q) 0) (i.heads (bucket_of q) (bucket_below q))
  ]

  -- its own question finds it
  place_own : place_for bytes after (question_in bytes at) ≡ Some at
  place_own =
      let k = c.answers in
      let q = question_in bytes at in
      let back : k + 1 - 1 ≡ k = omega arith in
      let here : answer_byte after (k + 1 - 1) ≡ at = ap (answer_byte after) back ∙ place_new bytes ix k at i.size low in
      ap (λ x. place_on bytes after q (answers_on after x)) (head_new bytes ix k at i.size low)
      ∙ place_hit bytes after q (k + 1) falls (omega arith) (ap (λ x. one_question (question_in bytes x) q) here ∙ one_equal q q refl)
      ∙ ap Some here

  module _ (r : RightAnswer bytes at)
      (new : find (answers_in bytes ix c) (number_of (kind_of (le16 bytes (at + 4)))) (question_of (kind_of (le16 bytes (at + 4))) (fields_at bytes at)) ≡ None)
      (d : Counts) (count : d.answers ≡ c.answers + 1)
    where
      -- the new answer's question in the definitions and in the code
      tests_agree : (q : Question) → (eqb (answer_in bytes at).kind (number_of q.kind) && same (answer_in bytes at).question (key_of q)) ≡ one_question (question_in bytes at) q
      unfolding answer_in
      tests_agree q =
          λ t. eqb (number_of (sym (question_kind bytes at) t)) (number_of q.kind) && same (sym (question_key bytes at r) t) (key_of q)

      finds_after : (q : Question) → Shaped q → value_at bytes (place_for bytes after q) ≡ find (answers_in bytes after d) (number_of q.kind) (key_of q)
      unfolding answer_in
      finds_after q s =
          let l = answers_in bytes ix c in
          let a = answer_in bytes at in
          let whole = ap (λ x. find x (number_of q.kind) (key_of q)) (answers_enter d count) in
          ⊎_elim (λ t.
          let own : question_in bytes at ≡ q = one_question_lem (question_in bytes at) q (question_padded bytes at) s.padded t in
          let absent : find l (number_of q.kind) (key_of q) ≡ None =
          ap (λ x. find l (number_of x.kind) (key_of x)) (sym own) ∙ (λ z. find l (number_of (question_kind bytes at z)) (question_key bytes at r z)) ∙ new in
          ap (λ x. value_at bytes (place_for bytes after x)) (sym own) ∙ ap (value_at bytes) place_own
          ∙ sym (find_new (number_of q.kind) (key_of q) a l (tests_agree q ∙ t) absent) ∙ sym whole)
          (λ f.
          ap (value_at bytes) (place_before q f) ∙ i.finds q s ∙ sym (find_other (number_of q.kind) (key_of q) a l (tests_agree q ∙ f)) ∙ sym whole)
          (both_ways (one_question (question_in bytes at) q))

      -- an answer to a question that had none is entered
      pub indexed_enter : Indexed bytes after d
      indexed_enter = record {
        size = length_entered bytes ix c.answers at i.size low;
        limit = omega arith;
        falling = falls;
        heads = λ b h.
            elim (ℕ_discrete b (bucket_of (question_in bytes at))) [
              | yes e ↦ rw e (omega (arith, head_new bytes ix c.answers at i.size low))
              | no n ↦ omega (arith, head_old bytes ix c.answers at i.size low b h n, i.heads b h)
            ];
        right = λ k h.
            elim (ℕ_discrete k c.answers) [
              | yes e ↦ subst (RightAnswer bytes) (sym (ap (answer_byte after) e ∙ place_new bytes ix c.answers at i.size low)) r
              | no n ↦ subst (RightAnswer bytes) (sym (place_old bytes ix c.answers at i.size low k (omega arith) n)) (i.right k (omega arith))
            ];
        finds = finds_after;
      }
