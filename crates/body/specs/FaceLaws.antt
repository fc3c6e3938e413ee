-- Laws of the records of loops, members and merged faces.
use Rattle.std.specs.Prelude.{◌≡◌, refl, ℕ, zero, suc, ◌+◌, ◌*◌, ◌<◌, ◌≤◌, length, get_or}
use Rattle.std.proofs.Common.{arith, sym, ap, ◌∙◌, append-nil, append_assoc, length-append}
use mathlib.Core.List.{List, [], ◌∷◌, map, flat_map, ◌++◌}
use Rattle.std.proofs.lemmas.List.{length-map, map_push}
use Rattle.lists.specs.Members.{flat_map_append}
use Rattle.lists.specs.Lists.{below}
use Rattle.lists.specs.Tables.{table_is}
use Rattle.lists.specs.Rows.{flat_map_map, flat_map_even}
use Rattle.rules.specs.declared.Face.{Face}
use Rattle.rules.specs.declared.KeptVertexLoop.{KeptVertexLoop}
use Rattle.rules.specs.Fields.{field_bytes}
use Rattle.rules.specs.Frame.{framed, framed_all}
use Rattle.rules.specs.Job.{face_at}
use Rattle.rules.specs.Groups.{members_of}
use Rattle.rules.specs.Edges.{FaceLoop}
use Rattle.rules.specs.Body.{BodyFace, loops_in, points_in, member_at, member_fields, members_record, body_face, body_faces, item_fields, loop_record, vertex_loop_record, face_records}
use Rattle.fields.specs.Wrote.{Wrote}
use Rattle.stages_out.specs.Writing.{wrote_same, flat_map_flat_map, wrote_both, wrote_nothing, place_after_lem}
use Rattle.edges.specs.Table.{item_in}
use Rattle.body.specs.Solids.{head_record}
use Rattle.body.specs.Numbers.{Numbering, number_of, renumbered_by, items_by, loops_by, loops_are}
use Rattle.body.specs.Writing.{records_first, records_more}
use Rattle.rules.proofs.SizeLaws.{length_body_faces}

-- LOOPS

module _ (number : ℕ → ℕ) where
  pub items_are : (part : List ℕ) → flat_map (λ x. item_fields (renumbered_by number (item_in x))) part ≡ flat_map item_fields (items_by number part)
  items_are part = sym (flat_map_map item_fields (renumbered_by number) (map item_in part) ∙ flat_map_map (λ x. item_fields (renumbered_by number x)) item_in part)

  pub length_items : (part : List ℕ) → length (flat_map item_fields (items_by number part)) ≡ 2 * length part
  length_items part = ap length (sym (items_are part)) ∙ flat_map_even (λ x. item_fields (renumbered_by number (item_in x))) 2 part (λ x. refl)

-- MEMBERS

module _ (fs : List Face) where
  -- two fields for each member
  pub length_members : (is : List ℕ) → length (flat_map member_fields (map (member_at fs) is)) ≡ 2 * length is
  length_members is = flat_map_even member_fields 2 (map (member_at fs) is) (λ x. refl) ∙ ap (λ n. 2 * n) (length-map is (member_at fs))

  -- the members so far are written at a place, the others are left
  pub record Membered (all : List ℕ) (before : List ℕ) (at : ℕ) (done left after : List ℕ) (p : ℕ) : Type 0 where
    pub whole : all ≡ done ++ left
    pub wrote : Wrote before at (field_bytes (flat_map member_fields (map (member_at fs) done))) after p

  module _ {all before : List ℕ} {at : ℕ} where
    pub member_start : (left : List ℕ) → all ≡ left → Membered all before at [] left before at
    unfolding flat_map
    member_start left e = record { whole = e; wrote = wrote_nothing before at }

    pub member_step : {done left rest mid after : List ℕ} {p q : ℕ} (i : ℕ) → Membered all before at done left mid p → left ≡ i ∷ rest
        → Wrote mid p (field_bytes (member_fields (member_at fs i))) after q → Membered all before at (done ++ (i ∷ [])) rest after q
    unfolding flat_map
    member_step {done = done} {rest = rest} i M e w =
        let more = ap (flat_map member_fields) (map_push (member_at fs) done i) ∙ flat_map_append member_fields (map (member_at fs) done) (member_at fs i ∷ []) in
        record {
          whole = M.whole ∙ ap (λ l. done ++ l) e ∙ sym (append_assoc done (i ∷ []) rest);
          wrote = wrote_same _ _ _ _ _ _ (sym more) (wrote_both _ _ _ _ _ _ _ _ M.wrote w);
        }

    -- how far they reach
    pub member_place : {done left after : List ℕ} {p : ℕ} → Membered all before at done left after p → length all ≤ 256 → p ≤ at + 2048
    member_place {done = done} {left = left} M few = omega (arith, place_after_lem _ _ _ _ _ M.wrote, length_members done, ap length M.whole, length-append done left, few)

    pub member_all : {done left after : List ℕ} {p : ℕ} → Membered all before at done left after p → left ≡ [] → Wrote before at (field_bytes (flat_map member_fields (map (member_at fs) all))) after p
    member_all {done = done} M e = wrote_same _ _ _ _ _ _ (ap (λ l. flat_map member_fields (map (member_at fs) l)) (sym (M.whole ∙ ap (λ l. done ++ l) e ∙ append-nil done))) M.wrote

-- MERGED FACES

module _ (fs : List Face) (groups actives : List ℕ) (ls : List FaceLoop) (ks : List KeptVertexLoop) where
  -- surface and stored sense, then the members, the loops by the table of numbers, and the vertex loops
  pub face_wrote : (t : List ℕ) (count : ℕ) → Numbering actives t count → (before a b d after : List ℕ) (at p q r s f m : ℕ)
      → Wrote before at (framed (head_record (face_at fs m))) a p → Wrote a p (framed (members_record (map (member_at fs) (members_of groups m)))) b q
      → Wrote b q (framed_all (map loop_record (loops_by (number_of t count) ls f))) d r → Wrote d r (framed_all (map vertex_loop_record (points_in ks f))) after s
      → Wrote before at (framed_all (face_records (body_face fs groups actives ls ks f m))) after s
  unfolding face_records body_face
  face_wrote t count n before a b d after at p q r s f m u v w x =
      let loops : Wrote b q (framed_all (map loop_record (loops_in actives ls f))) d r = rw (← loops_are actives t count n ls f) w in
      records_first before a after at p s _ _ u (records_first a b after p q s _ _ v (records_more b d after q r s _ _ loops x))

  -- the merged faces by their numbers
  face_by_number : (f : ℕ) (members : List ℕ) (i : ℕ) (d : BodyFace) → i < length members
      → get_or (body_faces fs groups actives ls ks f members) i d ≡ body_face fs groups actives ls ks (f + i) (get_or members i 0)
  unfolding body_faces
  face_by_number f [] i d h = absurd (omega arith)
  face_by_number f (m ∷ more) zero d h = let e : f ≡ f + 0 = omega arith in ap (λ k. body_face fs groups actives ls ks k m) e
  face_by_number f (m ∷ more) (suc i) d h =
      let e : suc f + i ≡ f + suc i = omega arith in
      face_by_number (suc f) more i d (omega arith) ∙ ap (λ k. body_face fs groups actives ls ks k (get_or more i 0)) e

  pub face_rows : (members : List ℕ) (n : ℕ) → n ≡ length members
      → flat_map (λ f. framed_all (face_records (body_face fs groups actives ls ks f (get_or members f 0)))) (below n)
      ≡ framed_all (flat_map face_records (body_faces fs groups actives ls ks 0 members))
  face_rows members n e =
      let face : ℕ → BodyFace = λ f. body_face fs groups actives ls ks f (get_or members f 0) in
      let by_number : body_faces fs groups actives ls ks 0 members ≡ map face (below (length members)) =
      table_is face (body_faces fs groups actives ls ks 0 members) (length members) (face 0) (length_body_faces fs groups actives ls ks 0 members)
      (λ i h. let z : 0 + i ≡ i = omega arith in face_by_number 0 members i (face 0) h ∙ ap (λ k. body_face fs groups actives ls ks k (get_or members i 0)) z) in
      ap (λ k. flat_map (λ f. framed_all (face_records (face f))) (below k)) e
      ∙ sym (ap (λ bs. framed_all (flat_map face_records bs)) by_number ∙ flat_map_flat_map framed face_records (map face (below (length members)))
      ∙ flat_map_map (λ b. framed_all (face_records b)) face (below (length members)))
