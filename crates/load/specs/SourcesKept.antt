-- The faces by source face number after a record that is taken: one more after a face, else those before.
use Rattle.std.specs.Prelude.{ℕ, ◌+◌, ◌-◌, ◌<◌, ◌≡◌, refl, List, [], ◌∷◌, ◌++◌, true, false, cond, length, set, eqb}
use Rattle.std.proofs.Common.{arith, sym, ap, ◌∙◌, subst, leb-false}
use Rattle.std.proofs.Math.Seq.{get_or-set_same, get_or-set_other}
use Rattle.rules.specs.declared.Kind.{Kind}
use Rattle.rules.specs.declared.Kind.TheVariants.{Unknown, Head, Vertex, EdgeRecord, FaceRecord, LoopRecord, VertexLoop, Radial, Surface, Points, Curves, Singular, Orientation, Inside}
use Rattle.rules.specs.declared.Counts.{Counts}
use Rattle.rules.specs.Fields.{le16, le32}
use Rattle.rules.specs.Kinds.{kind_of, number_of, right_length, right_position, limit_passed}
use Rattle.rules.specs.Load.{more_if, also_if, counted, face_of, extended}
use Rattle.theorems.specs.Sound.{Limited}
use Rattle.job.specs.Lists.{face_byte, fields_at, faces_in, job_in}
use Rattle.job.specs.FieldLaws.{face_is}
use Rattle.answers.specs.Index.{Indexed, entered}
use Rattle.answers.specs.EnterLaws.{entered_past}
use Rattle.selected.specs.declared.Sources.{Sources}
use Rattle.selected.specs.Sources.{face_entered, Sourced}
use Rattle.selected.specs.SourceLaws.{sourced_same, sourced_enter}
use Rattle.load.specs.Placed.{Placed}
use Rattle.load.specs.Kept.{loop_kept, kept_index}
use Rattle.load.specs.After.{job_kept}
use Rattle.answers.specs.RecordLaws.{long}

-- the table after a record of a kind at a byte
unfoldable pub kept_sources : Kind → List ℕ → Sources → Counts → ℕ → Sources
kept_sources k bytes s c at = cond (eqb (number_of k) 4) (face_entered bytes s c.faces at) s

-- there is room for a face that is taken
pub face_room : (k : Kind) (c : Counts) (n : ℕ) → limit_passed k c n ≡ false → k ≡ FaceRecord → c.faces < 256
unfolding limit_passed
face_room k c n m e = leb-false 256 c.faces (ap (λ j. limit_passed j c n) (sym e) ∙ m)

module _ (bytes ix : List ℕ) (c : Counts) (at : ℕ) (P : Placed c at) (L : Limited c) (I : Indexed bytes ix c) where
  abbrev x : List ℕ
  x = fields_at bytes at

  abbrev n : ℕ
  n = length (fields_at bytes at)

  -- loops and answers are entered in other places than the faces
  past_loops : (f : ℕ) → f < c.faces → face_byte (loop_kept ix c at) f ≡ face_byte ix f
  unfolding loop_kept
  past_loops f h =
      let few = L.faces in
      get_or-set_other (set ix (5376 + c.loops) at) (6400 + c.loops) (5120 + f) (c.faces - 1) 0 (λ e. omega arith)
      ∙ get_or-set_other ix (5376 + c.loops) (5120 + f) at 0 (λ e. omega arith)

  past_answers : (f : ℕ) → f < c.faces → c.answers < 2048 → face_byte (entered bytes ix c.answers at) f ≡ face_byte ix f
  past_answers f h room = entered_past bytes ix c.answers at I.size room (5120 + f) (omega arith)

  -- so the faces before stand where they stood
  face_place : (k : Kind) → limit_passed k c n ≡ false → (f : ℕ) → f < c.faces → face_byte (kept_index k bytes ix c at) f ≡ face_byte ix f
  unfolding kept_index limit_passed
  face_place Unknown m f h = refl
  face_place Head m f h = refl
  face_place Vertex m f h = refl
  face_place EdgeRecord m f h = refl
  face_place FaceRecord m f h = get_or-set_other ix (5120 + c.faces) (5120 + f) at 0 (λ e. omega arith)
  face_place LoopRecord m f h = past_loops f h
  face_place VertexLoop m f h = past_loops f h
  face_place Radial m f h = past_answers f h (leb-false 2048 c.answers m)
  face_place Surface m f h = past_answers f h (leb-false 2048 c.answers m)
  face_place Points m f h = past_answers f h (leb-false 2048 c.answers m)
  face_place Curves m f h = past_answers f h (leb-false 2048 c.answers m)
  face_place Singular m f h = past_answers f h (leb-false 2048 c.answers m)
  face_place Orientation m f h = past_answers f h (leb-false 2048 c.answers m)
  face_place Inside m f h = past_answers f h (leb-false 2048 c.answers m)

  module _ (s : Sources) (S : Sourced bytes ix s c) where
    -- the faces after a record of a kind
    faces_after : (k : Kind) → kind_of (le16 bytes (at + 4)) ≡ k → right_length k (le32 bytes at) ≡ true → right_position k c.part ≡ true → limit_passed k c n ≡ false
        → faces_in bytes (kept_index k bytes ix c at) (counted k n c) ≡ also_if (eqb (number_of k) 4) (faces_in bytes ix c) (face_of x)
    unfolding job_in extended
    faces_after k kind l p m = ap (λ j. j.faces) (job_kept bytes ix c at P L I k kind l p m)

    no_face_entered : (k : Kind) → kind_of (le16 bytes (at + 4)) ≡ k → right_length k (le32 bytes at) ≡ true → right_position k c.part ≡ true → limit_passed k c n ≡ false
        → eqb (number_of k) 4 ≡ false → Sourced bytes (kept_index k bytes ix c at) (kept_sources k bytes s c at) (counted k n c)
    unfolding counted kept_sources
    no_face_entered k kind l p m e =
        let iy : List ℕ = kept_index k bytes ix c at in
        let faces = faces_after k kind l p m ∙ ap (λ b. also_if b (faces_in bytes ix c) (face_of x)) e in
        let same = sourced_same bytes ix iy s c (counted k n c) S (ap (λ b. more_if b 1 c.faces) e) (face_place k m) faces in
        subst (λ u. Sourced bytes iy u (counted k n c)) (sym (ap (λ b. cond b (face_entered bytes s c.faces at) s) e)) same

    face_entered_lem : kind_of (le16 bytes (at + 4)) ≡ FaceRecord → right_length FaceRecord (le32 bytes at) ≡ true → right_position FaceRecord c.part ≡ true → limit_passed FaceRecord c n ≡ false
        → Sourced bytes (kept_index FaceRecord bytes ix c at) (kept_sources FaceRecord bytes s c at) (counted FaceRecord n c)
    unfolding counted kept_sources kept_index number_of right_length
    face_entered_lem kind l p m =
        let room : c.faces < 256 = face_room FaceRecord c n m refl in
        let here : face_byte (set ix (5120 + c.faces) at) c.faces ≡ at = get_or-set_same ix (5120 + c.faces) at 0 (omega (arith, I.size, room)) in
        let faces = faces_after FaceRecord kind l p m ∙ ap (λ f. faces_in bytes ix c ++ (f ∷ [])) (sym (face_is bytes at (long 5 (le32 bytes at) l))) in
        sourced_enter bytes ix (set ix (5120 + c.faces) at) s c (counted FaceRecord n c) at S room refl (face_place FaceRecord m) here faces

    pub sourced_kept : (k : Kind) → kind_of (le16 bytes (at + 4)) ≡ k → right_length k (le32 bytes at) ≡ true → right_position k c.part ≡ true → limit_passed k c n ≡ false
        → Sourced bytes (kept_index k bytes ix c at) (kept_sources k bytes s c at) (counted k n c)
    unfolding number_of
    sourced_kept Unknown kind l p m = no_face_entered Unknown kind l p m refl
    sourced_kept Head kind l p m = no_face_entered Head kind l p m refl
    sourced_kept Vertex kind l p m = no_face_entered Vertex kind l p m refl
    sourced_kept EdgeRecord kind l p m = no_face_entered EdgeRecord kind l p m refl
    sourced_kept FaceRecord kind l p m = face_entered_lem kind l p m
    sourced_kept LoopRecord kind l p m = no_face_entered LoopRecord kind l p m refl
    sourced_kept VertexLoop kind l p m = no_face_entered VertexLoop kind l p m refl
    sourced_kept Radial kind l p m = no_face_entered Radial kind l p m refl
    sourced_kept Surface kind l p m = no_face_entered Surface kind l p m refl
    sourced_kept Points kind l p m = no_face_entered Points kind l p m refl
    sourced_kept Curves kind l p m = no_face_entered Curves kind l p m refl
    sourced_kept Singular kind l p m = no_face_entered Singular kind l p m refl
    sourced_kept Orientation kind l p m = no_face_entered Orientation kind l p m refl
    sourced_kept Inside kind l p m = no_face_entered Inside kind l p m refl
