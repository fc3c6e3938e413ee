-- What holds after a record that is taken: the job, the index, for each kind.
use Rattle.std.specs.Prelude.{ℕ, ◌+◌, ◌*◌, ◌-◌, ◌/◌, ◌<◌, List, true, false, ◌&&◌, length, set, eqb, ltb, leb, Option, Some, None, is_some}
use Rattle.std.proofs.Common.{arith, ap, ◌∙◌, true≢false, leb-false}
use Rattle.std.proofs.Math.Path.{◌≡◌, refl, sym}
use Rattle.std.proofs.Math.Bool.{cond}
use Rattle.std.proofs.lemmas.Bool.{false≢true}
use Rattle.lists.specs.Tests.{or_none}
use Rattle.rules.specs.declared.Kind.{Kind}
use Rattle.rules.specs.declared.Kind.TheVariants.{Unknown, Head, Vertex, EdgeRecord, FaceRecord, LoopRecord, VertexLoop, Radial, Surface, Points, Curves, Singular, Orientation, Inside}
use Rattle.rules.specs.declared.Counts.{Counts}
use Rattle.rules.specs.Fields.{le16, le32}
use Rattle.rules.proofs.FieldLaws.{length_fields}
use Rattle.rules.specs.Questions.{find}
use Rattle.rules.specs.Job.{of_items, at_vertex, items_of}
use Rattle.rules.specs.Kinds.{kind_of, number_of, part_of, is_answer, right_length, right_position, limit_passed, question_of}
use Rattle.rules.specs.Load.{counted, loop_of, extended, answered_before}
use Rattle.theorems.specs.Sound.{Limited}
use Rattle.job.specs.Lists.{fields_at, faces_in, answers_in, job_in}
use Rattle.answers.specs.Index.{entered, Indexed}
use Rattle.answers.specs.IndexLaws.{indexed_agree, indexed_same}
use Rattle.answers.specs.EnterLaws.{indexed_enter}
use Rattle.records.specs.Limits.{whole_fields}
use Rattle.load.specs.Placed.{Placed}
use Rattle.load.specs.ListsMore.{loop_by}
use Rattle.load.specs.Kept.{loop_kept, kept_index, count_faces, field_is, head_job, vertex_job, edge_job, face_job, loop_job, answer_job}
use Rattle.answers.specs.RecordLaws.{long}

-- the record at a byte has so many fields
pub fields_count : (bytes : List ℕ) (at : ℕ) → length (fields_at bytes at) ≡ le32 bytes at / 4
unfolding fields_at
fields_count bytes at = length_fields (le32 bytes at / 4) _

not_found : (f : Option (List ℕ)) → is_some f ≡ false → f ≡ None
not_found None e = refl
not_found (Some v) e = absurd (true≢false e)

module _ (bytes ix : List ℕ) (c : Counts) (at : ℕ) (P : Placed c at) (L : Limited c) (I : Indexed bytes ix c) where
  abbrev x : List ℕ
  x = fields_at bytes at

  abbrev n : ℕ
  n = length (fields_at bytes at)

  -- a record of a kind that is taken
  module _ (k : Kind) (kind : kind_of (le16 bytes (at + 4)) ≡ k) (l : right_length k (le32 bytes at) ≡ true) where
    whole : 4 * n ≡ le32 bytes at
    whole = let e = whole_fields k (le32 bytes at) l in let q = fields_count bytes at in omega arith

  loop_content : kind_of (le16 bytes (at + 4)) ≡ LoopRecord → right_length LoopRecord (le32 bytes at) ≡ true
      → loop_by bytes at (c.faces - 1) ≡ loop_of LoopRecord (length (faces_in bytes ix c) - 1) x
  unfolding number_of
  loop_content kind l =
      let faces = count_faces bytes ix c in
      λ i. record { face = sym faces i - 1; content = cond (eqb (number_of (kind i)) 5) (of_items (items_of x)) (at_vertex (le32 bytes (at + 6))) }

  vertex_content : kind_of (le16 bytes (at + 4)) ≡ VertexLoop → right_length VertexLoop (le32 bytes at) ≡ true
      → loop_by bytes at (c.faces - 1) ≡ loop_of VertexLoop (length (faces_in bytes ix c) - 1) x
  unfolding number_of right_length
  vertex_content kind l =
      let faces = count_faces bytes ix c in
      let v = field_is bytes ix c at P L I 0 1 (at + 6) (long 1 (le32 bytes at) l) (omega arith) (omega arith) in
      λ i. record { face = sym faces i - 1; content = cond (eqb (number_of (kind i)) 5) (of_items (items_of x)) (at_vertex (sym v i)) }

  -- the job after a record that is taken
  pub job_kept : (k : Kind) → kind_of (le16 bytes (at + 4)) ≡ k → right_length k (le32 bytes at) ≡ true → right_position k c.part ≡ true → limit_passed k c n ≡ false
      → job_in bytes (kept_index k bytes ix c at) (counted k n c) ≡ extended k at x (job_in bytes ix c)
  unfolding kept_index counted number_of part_of right_position limit_passed
  job_kept Unknown kind l p m = absurd (false≢true p)
  job_kept Head kind l p m = head_job bytes ix c at P L I l p
  job_kept Vertex kind l p m = vertex_job bytes ix c at P L I l p
  job_kept EdgeRecord kind l p m = edge_job bytes ix c at P L I l p
  job_kept FaceRecord kind l p m = face_job bytes ix c at P L I l m
  job_kept LoopRecord kind l p m =
      loop_job bytes ix c at P L I LoopRecord refl refl refl refl refl refl (counted LoopRecord n c) refl refl refl refl refl
      (leb-false 1024 c.loops (or_none (leb 1024 c.loops) (ltb 2048 (c.uses + n / 2)) m).0) (whole LoopRecord kind l) (loop_content kind l)
  job_kept VertexLoop kind l p m =
      loop_job bytes ix c at P L I VertexLoop refl refl refl refl refl refl (counted VertexLoop n c) refl refl refl refl refl
      (leb-false 1024 c.loops m) (whole VertexLoop kind l) (vertex_content kind l)
  job_kept Radial kind l p m = answer_job bytes ix c at P L I Radial kind refl refl refl refl refl refl (counted Radial n c) refl refl refl refl refl (leb-false 2048 c.answers m)
  job_kept Surface kind l p m = answer_job bytes ix c at P L I Surface kind refl refl refl refl refl refl (counted Surface n c) refl refl refl refl refl (leb-false 2048 c.answers m)
  job_kept Points kind l p m = answer_job bytes ix c at P L I Points kind refl refl refl refl refl refl (counted Points n c) refl refl refl refl refl (leb-false 2048 c.answers m)
  job_kept Curves kind l p m = answer_job bytes ix c at P L I Curves kind refl refl refl refl refl refl (counted Curves n c) refl refl refl refl refl (leb-false 2048 c.answers m)
  job_kept Singular kind l p m = answer_job bytes ix c at P L I Singular kind refl refl refl refl refl refl (counted Singular n c) refl refl refl refl refl (leb-false 2048 c.answers m)
  job_kept Orientation kind l p m = answer_job bytes ix c at P L I Orientation kind refl refl refl refl refl refl (counted Orientation n c) refl refl refl refl refl (leb-false 2048 c.answers m)
  job_kept Inside kind l p m = answer_job bytes ix c at P L I Inside kind refl refl refl refl refl refl (counted Inside n c) refl refl refl refl refl (leb-false 2048 c.answers m)

  -- the answers' part of the index after an answer to a question that had none
  answer_indexed : is_answer (kind_of (le16 bytes (at + 4))) ≡ true → right_length (kind_of (le16 bytes (at + 4))) (le32 bytes at) ≡ true
      → answered_before (kind_of (le16 bytes (at + 4))) (answers_in bytes ix c) x ≡ false → c.answers < 2048
      → (d : Counts) → d.answers ≡ c.answers + 1 → Indexed bytes (entered bytes ix c.answers at) d
  unfolding answered_before
  answer_indexed a l b low d e =
      let k = kind_of (le16 bytes (at + 4)) in
      let f = find (answers_in bytes ix c) (number_of k) (question_of k x) in
      let new : f ≡ None = not_found f (sym (ap (λ t. t && is_some f) a) ∙ b) in
      indexed_enter bytes ix c at I low (a, l) new d e

  told : (k : Kind) → kind_of (le16 bytes (at + 4)) ≡ k → is_answer k ≡ true → right_length k (le32 bytes at) ≡ true → answered_before k (answers_in bytes ix c) x ≡ false
      → leb 2048 c.answers ≡ false → (d : Counts) → d.answers ≡ c.answers + 1 → Indexed bytes (entered bytes ix c.answers at) d
  told k kind a l b m =
      answer_indexed (ap is_answer kind ∙ a) (ap (λ j. right_length j (le32 bytes at)) kind ∙ l) (ap (λ j. answered_before j (answers_in bytes ix c) x) kind ∙ b)
      (leb-false 2048 c.answers m)

  -- the index after a record that is taken
  pub indexed_kept : (k : Kind) → kind_of (le16 bytes (at + 4)) ≡ k → right_length k (le32 bytes at) ≡ true → limit_passed k c n ≡ false
      → answered_before k (answers_in bytes ix c) x ≡ false → Indexed bytes (kept_index k bytes ix c at) (counted k n c)
  unfolding kept_index loop_kept counted number_of part_of limit_passed
  indexed_kept Unknown kind l m b = indexed_agree bytes ix ix c (counted Unknown n c) (λ j a. refl) refl I.size I
  indexed_kept Head kind l m b = indexed_agree bytes ix ix c (counted Head n c) (λ j a. refl) refl I.size I
  indexed_kept Vertex kind l m b = indexed_agree bytes ix ix c (counted Vertex n c) (λ j a. refl) refl I.size I
  indexed_kept EdgeRecord kind l m b = indexed_agree bytes ix ix c (counted EdgeRecord n c) (λ j a. refl) refl I.size I
  indexed_kept FaceRecord kind l m b = indexed_same bytes ix c (counted FaceRecord n c) (5120 + c.faces) at (omega arith) refl I
  indexed_kept LoopRecord kind l m b =
      indexed_same bytes (set ix (5376 + c.loops) at) c (counted LoopRecord n c) (6400 + c.loops) (c.faces - 1) (omega arith) refl
      (indexed_same bytes ix c c (5376 + c.loops) at (omega arith) refl I)
  indexed_kept VertexLoop kind l m b =
      indexed_same bytes (set ix (5376 + c.loops) at) c (counted VertexLoop n c) (6400 + c.loops) (c.faces - 1) (omega arith) refl
      (indexed_same bytes ix c c (5376 + c.loops) at (omega arith) refl I)
  indexed_kept Radial kind l m b = told Radial kind refl l b m (counted Radial n c) refl
  indexed_kept Surface kind l m b = told Surface kind refl l b m (counted Surface n c) refl
  indexed_kept Points kind l m b = told Points kind refl l b m (counted Points n c) refl
  indexed_kept Curves kind l m b = told Curves kind refl l b m (counted Curves n c) refl
  indexed_kept Singular kind l m b = told Singular kind refl l b m (counted Singular n c) refl
  indexed_kept Orientation kind l m b = told Orientation kind refl l b m (counted Orientation n c) refl
  indexed_kept Inside kind l m b = told Inside kind refl l b m (counted Inside n c) refl
