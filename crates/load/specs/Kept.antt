-- The index after a record, and the job that bytes, index and counts have after it.
use Prim.Native.Nat.{ℕ, ◌+◌, ◌*◌, ◌-◌, ◌/◌, ◌<◌}
use Rattle.std.proofs.Common.{arith, ◌∙◌}
use Rattle.std.specs.Prelude.{◌≡◌, ◌≢◌, List, true, false, eqb}
use Rattle.std.proofs.Math.Path.{refl, sym, ap}
use Rattle.std.proofs.Math.Bool.{cond}
use Rattle.std.proofs.Math.ListN.{length, get_or, set, length-set}
use Rattle.std.proofs.Math.Seq.{get_or-set_same, get_or-set_other}
use borrow.Author.Tests.{eqb-true, leb-false}
use Rattle.lists.specs.Runs.{length_table}
use Rattle.rules.specs.declared.Kind.{Kind}
use Rattle.rules.specs.declared.Kind.TheVariants.{Unknown, Head, Vertex, EdgeRecord, FaceRecord, LoopRecord, VertexLoop, Radial, Surface, Points, Curves, Singular, Orientation, Inside}
use Rattle.rules.specs.declared.Counts.{Counts}
use Rattle.rules.specs.Sense.{sense_of}
use Rattle.rules.specs.Fields.{le16, le32, field}
use Rattle.rules.specs.Kinds.{kind_of, number_of, part_of, is_answer, is_loop, right_length, right_position, limit_passed}
use Rattle.rules.specs.Load.{counted, also_if, edge_of, face_of, loop_of, answer_of, extended}
use Rattle.theorems.specs.Sound.{Limited}
use Rattle.theorems.proofs.Permitted.{in_turn_lem}
use Rattle.job.specs.Lists.{points_in, edge_in, edge_place, edges_in, face_byte, loop_byte, fields_at, face_in, faces_in, loops_in, stretches_in, answer_in, answers_in, job_in}
use Rattle.job.specs.FieldLaws.{field_at, face_is}
use Rattle.answers.specs.Index.{entered, Indexed}
use Rattle.answers.specs.IndexLaws.{answers_agree}
use Rattle.answers.specs.EnterLaws.{entered_past, answers_enter}
use Rattle.load.specs.Placed.{Placed}
use Rattle.load.specs.ListsMore.{points_same_lem, points_more, edges_same, edges_none, edges_more, loop_by, faces_same, faces_more, loops_same, stretches_same, loops_more, stretches_more}
use Rattle.answers.specs.RecordLaws.{long}

-- the index with a loop more: its place and its face
unfoldable pub loop_kept : List ℕ → Counts → ℕ → List ℕ
loop_kept ix c at = set (set ix (5376 + c.loops) at) (6400 + c.loops) (c.faces - 1)

-- the index after a record of a kind at a byte
unfoldable pub kept_index : Kind → List ℕ → List ℕ → Counts → ℕ → List ℕ
kept_index Unknown bytes ix c at = ix
kept_index Head bytes ix c at = ix
kept_index Vertex bytes ix c at = ix
kept_index EdgeRecord bytes ix c at = ix
kept_index FaceRecord bytes ix c at = set ix (5120 + c.faces) at
kept_index LoopRecord bytes ix c at = loop_kept ix c at
kept_index VertexLoop bytes ix c at = loop_kept ix c at
kept_index Radial bytes ix c at = entered bytes ix c.answers at
kept_index Surface bytes ix c at = entered bytes ix c.answers at
kept_index Points bytes ix c at = entered bytes ix c.answers at
kept_index Curves bytes ix c at = entered bytes ix c.answers at
kept_index Singular bytes ix c at = entered bytes ix c.answers at
kept_index Orientation bytes ix c at = entered bytes ix c.answers at
kept_index Inside bytes ix c at = entered bytes ix c.answers at

-- LOOPS IN THE INDEX

module _ (ix : List ℕ) (c : Counts) (at : ℕ) (size : length ix ≡ 7424) (low : c.loops < 1024) where
  -- two places change
  loop_other : (j : ℕ) → j ≢ 5376 + c.loops → j ≢ 6400 + c.loops → get_or (loop_kept ix c at) j 0 ≡ get_or ix j 0
  unfolding loop_kept
  loop_other j a b = get_or-set_other (set ix (5376 + c.loops) at) (6400 + c.loops) j (c.faces - 1) 0 b ∙ get_or-set_other ix (5376 + c.loops) j at 0 a

  loop_place : loop_byte (loop_kept ix c at) c.loops ≡ at
  unfolding loop_kept
  loop_place =
      get_or-set_other (set ix (5376 + c.loops) at) (6400 + c.loops) (5376 + c.loops) (c.faces - 1) 0 (λ e. omega arith)
      ∙ get_or-set_same ix (5376 + c.loops) at 0 (omega arith)

  loop_owner : get_or (loop_kept ix c at) (6400 + c.loops) 0 ≡ c.faces - 1
  unfolding loop_kept
  loop_owner = get_or-set_same (set ix (5376 + c.loops) at) (6400 + c.loops) (c.faces - 1) 0 (omega (arith, length-set ix (5376 + c.loops) at))

-- THE JOB AFTER A RECORD

-- how many faces the bytes have
pub count_faces : (bytes ix : List ℕ) (c : Counts) → length (faces_in bytes ix c) ≡ c.faces
unfolding faces_in
count_faces bytes ix c = length_table (λ f. face_in bytes (face_byte ix f)) c.faces

module _ (bytes ix : List ℕ) (c : Counts) (at : ℕ) (P : Placed c at) (L : Limited c) (I : Indexed bytes ix c) where
  abbrev x : List ℕ
  x = fields_at bytes at

  abbrev n : ℕ
  n = length (fields_at bytes at)

  -- the job list by list
  job_is : (k : Kind) (iy : List ℕ) (d : Counts)
      → le32 bytes 6 ≡ cond (eqb (number_of k) 1) (field x 0) (le32 bytes 6)
      → points_in bytes d ≡ also_if (eqb (number_of k) 2) (points_in bytes c) (field x 0)
      → edges_in bytes d ≡ also_if (eqb (number_of k) 3) (edges_in bytes c) (edge_of x)
      → faces_in bytes iy d ≡ also_if (eqb (number_of k) 4) (faces_in bytes ix c) (face_of x)
      → loops_in bytes iy d ≡ also_if (is_loop k) (loops_in bytes ix c) (loop_of k (length (faces_in bytes ix c) - 1) x)
      → stretches_in bytes iy d ≡ also_if (is_loop k) (stretches_in bytes ix c) (record { start = at + 6; size = 4 * length x })
      → answers_in bytes iy d ≡ also_if (is_answer k) (answers_in bytes ix c) (answer_of k x)
      → job_in bytes iy d ≡ extended k at x (job_in bytes ix c)
  unfolding job_in extended
  job_is k iy d e0 e1 e2 e3 e4 e5 e6 = λ t. record { proven = e0 t; points = e1 t; edges = e2 t; faces = e3 t; loops = e4 t; stretches = e5 t; answers = e6 t }

  -- field i of the record
  pub field_is : (i m p : ℕ) → le32 bytes at / 4 ≡ m → i < m → at + 6 + 4 * i ≡ p → field x i ≡ le32 bytes p
  field_is i m p e h q = field_at bytes at i (omega arith) ∙ ap (le32 bytes) q

  pub head_job : right_length Head (le32 bytes at) ≡ true → right_position Head c.part ≡ true → job_in bytes ix (counted Head n c) ≡ extended Head at x (job_in bytes ix c)
  unfolding counted number_of part_of right_length right_position
  head_job l p =
      let start = P.first (eqb-true c.part 0 p) in
      let d = counted Head n c in
      job_is Head ix d (sym (field_is 0 1 6 (long 1 (le32 bytes at) l) (omega arith) (omega arith)))
      (points_same_lem bytes c d refl) (edges_same bytes c d refl refl)
      (faces_same bytes ix ix c d refl L.faces (λ j a b. refl))
      (loops_same bytes ix ix c d refl L.loops (λ j a b. refl)) (stretches_same bytes ix ix c d refl L.loops (λ j a b. refl))
      (answers_agree bytes ix ix c d (λ j a. refl) refl I)

  pub vertex_job : right_length Vertex (le32 bytes at) ≡ true → right_position Vertex c.part ≡ true → job_in bytes ix (counted Vertex n c) ≡ extended Vertex at x (job_in bytes ix c)
  unfolding counted number_of part_of right_length right_position
  vertex_job l p =
      let t = in_turn_lem c.part 2 p in
      let none = P.plain (omega (arith, t.1)) in
      let start = P.here t.0 (omega (arith, t.1)) in
      let d = counted Vertex n c in
      job_is Vertex ix d refl
      (points_more bytes c d (field x 0) refl (sym (field_is 0 1 (16 + 10 * c.vertices) (long 1 (le32 bytes at) l) (omega arith) (omega arith))))
      (edges_none bytes c d none none)
      (faces_same bytes ix ix c d refl L.faces (λ j a b. refl))
      (loops_same bytes ix ix c d refl L.loops (λ j a b. refl)) (stretches_same bytes ix ix c d refl L.loops (λ j a b. refl))
      (answers_agree bytes ix ix c d (λ j a. refl) refl I)

  pub edge_job : right_length EdgeRecord (le32 bytes at) ≡ true → right_position EdgeRecord c.part ≡ true
      → job_in bytes ix (counted EdgeRecord n c) ≡ extended EdgeRecord at x (job_in bytes ix c)
  unfolding counted number_of part_of right_length right_position edge_in
  edge_job l p =
      let t = in_turn_lem c.part 3 p in
      let start = P.here t.0 (omega (arith, t.1)) in
      let q : ℕ = edge_place c c.edges in
      let four = long 4 (le32 bytes at) l in
      let f0 = field_is 0 4 q four (omega arith) (omega arith) in
      let f1 = field_is 1 4 (q + 4) four (omega arith) (omega arith) in
      let f2 = field_is 2 4 (q + 8) four (omega arith) (omega arith) in
      let f3 = field_is 3 4 (q + 12) four (omega arith) (omega arith) in
      let d = counted EdgeRecord n c in
      job_is EdgeRecord ix d refl
      (points_same_lem bytes c d refl)
      (edges_more bytes c d (edge_of x) refl refl (λ i. record { curve = sym f0 i; sense = sense_of (sym f1 i); start = sym f2 i; end = sym f3 i }))
      (faces_same bytes ix ix c d refl L.faces (λ j a b. refl))
      (loops_same bytes ix ix c d refl L.loops (λ j a b. refl)) (stretches_same bytes ix ix c d refl L.loops (λ j a b. refl))
      (answers_agree bytes ix ix c d (λ j a. refl) refl I)

  pub face_job : right_length FaceRecord (le32 bytes at) ≡ true → limit_passed FaceRecord c n ≡ false
      → job_in bytes (set ix (5120 + c.faces) at) (counted FaceRecord n c) ≡ extended FaceRecord at x (job_in bytes ix c)
  unfolding counted number_of part_of right_length limit_passed
  face_job l m =
      let low = leb-false 256 c.faces m in
      let size = I.size in
      let five = long 5 (le32 bytes at) l in
      let d = counted FaceRecord n c in
      let iy = set ix (5120 + c.faces) at in
      let here : face_byte iy c.faces ≡ at = get_or-set_same ix (5120 + c.faces) at 0 (omega arith) in
      let other : (j : ℕ) → j ≢ 5120 + c.faces → get_or iy j 0 ≡ get_or ix j 0 = λ j h. get_or-set_other ix (5120 + c.faces) j at 0 h in
      job_is FaceRecord iy d refl
      (points_same_lem bytes c d refl) (edges_same bytes c d refl refl)
      (faces_more bytes ix iy c d (face_of x) refl (λ f h. other (5120 + f) (λ e. omega arith))
      (ap (face_in bytes) here ∙ face_is bytes at five))
      (loops_same bytes ix iy c d refl L.loops (λ j a b. other j (λ e. omega arith)))
      (stretches_same bytes ix iy c d refl L.loops (λ j a b. other j (λ e. omega arith)))
      (answers_agree bytes ix iy c d (λ j a. other j (λ e. omega arith)) refl I)

  -- a loop of either sort; its content is what the record at the byte has
  pub loop_job : (k : Kind) → is_loop k ≡ true → is_answer k ≡ false → eqb (number_of k) 1 ≡ false → eqb (number_of k) 2 ≡ false → eqb (number_of k) 3 ≡ false → eqb (number_of k) 4 ≡ false
      → (d : Counts) → d.vertices ≡ c.vertices → d.edges ≡ c.edges → d.faces ≡ c.faces → d.loops ≡ c.loops + 1 → d.answers ≡ c.answers → c.loops < 1024
      → 4 * length x ≡ le32 bytes at → loop_by bytes at (c.faces - 1) ≡ loop_of k (length (faces_in bytes ix c) - 1) x
      → job_in bytes (loop_kept ix c at) d ≡ extended k at x (job_in bytes ix c)
  loop_job k t6 t7 t1 t2 t3 t4 d ev ee ef el ea low whole content =
      let iy = loop_kept ix c at in
      let size = I.size in
      let other = loop_other ix c at size low in
      job_is k iy d (ap (λ b. cond b (field x 0) (le32 bytes 6)) (sym t1))
      (points_same_lem bytes c d ev ∙ ap (λ b. also_if b (points_in bytes c) (field x 0)) (sym t2))
      (edges_same bytes c d ev ee ∙ ap (λ b. also_if b (edges_in bytes c) (edge_of x)) (sym t3))
      (faces_same bytes ix iy c d ef L.faces (λ j a b. other j (λ e. omega arith) (λ e. omega arith)) ∙ ap (λ b. also_if b (faces_in bytes ix c) (face_of x)) (sym t4))
      (loops_more bytes ix iy c d el (λ l h. other (5376 + l) (λ e. omega arith) (λ e. omega arith)) at (c.faces - 1)
      (λ l h. other (6400 + l) (λ e. omega arith) (λ e. omega arith)) (loop_place ix c at size low) (loop_owner ix c at size low)
      ∙ (λ i. also_if (sym t6 i) (loops_in bytes ix c) (content i)))
      (stretches_more bytes ix iy c d el (λ l h. other (5376 + l) (λ e. omega arith) (λ e. omega arith)) at (loop_place ix c at size low)
      ∙ (λ i. also_if (sym t6 i) (stretches_in bytes ix c) (record { start = at + 6; size = sym whole i })))
      (answers_agree bytes ix iy c d (λ j a. other j (λ e. omega arith) (λ e. omega arith)) ea I ∙ ap (λ b. also_if b (answers_in bytes ix c) (answer_of k x)) (sym t7))

  -- an answer
  pub answer_job : (k : Kind) → kind_of (le16 bytes (at + 4)) ≡ k → is_answer k ≡ true → is_loop k ≡ false → eqb (number_of k) 1 ≡ false → eqb (number_of k) 2 ≡ false → eqb (number_of k) 3 ≡ false
      → eqb (number_of k) 4 ≡ false
      → (d : Counts) → d.vertices ≡ c.vertices → d.edges ≡ c.edges → d.faces ≡ c.faces → d.loops ≡ c.loops → d.answers ≡ c.answers + 1 → c.answers < 2048
      → job_in bytes (entered bytes ix c.answers at) d ≡ extended k at x (job_in bytes ix c)
  unfolding answer_in
  answer_job k kind t7 t6 t1 t2 t3 t4 d ev ee ef el ea low =
      let iy = entered bytes ix c.answers at in
      let past = entered_past bytes ix c.answers at I.size low in
      job_is k iy d (ap (λ b. cond b (field x 0) (le32 bytes 6)) (sym t1))
      (points_same_lem bytes c d ev ∙ ap (λ b. also_if b (points_in bytes c) (field x 0)) (sym t2))
      (edges_same bytes c d ev ee ∙ ap (λ b. also_if b (edges_in bytes c) (edge_of x)) (sym t3))
      (faces_same bytes ix iy c d ef L.faces (λ j a b. past j a) ∙ ap (λ b. also_if b (faces_in bytes ix c) (face_of x)) (sym t4))
      (loops_same bytes ix iy c d el L.loops (λ j a b. past j (omega arith)) ∙ ap (λ b. also_if b (loops_in bytes ix c) (loop_of k (length (faces_in bytes ix c) - 1) x)) (sym t6))
      (stretches_same bytes ix iy c d el L.loops (λ j a b. past j (omega arith)) ∙ ap (λ b. also_if b (stretches_in bytes ix c) (record { start = at + 6; size = 4 * length x })) (sym t6))
      (answers_enter bytes ix c at I low d ea ∙ (λ i. also_if (sym t7 i) (answers_in bytes ix c) (answer_of (kind i) x)))
