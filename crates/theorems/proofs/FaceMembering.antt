-- Every job has its members of faces: the statement is `FaceMembers`.
use Rattle.std.specs.Prelude.{ℕ, suc, ◌<◌, ◌≡◌, refl, false, length, eqb}
use Rattle.std.proofs.Common.{arith, sym, ap, ◌∙◌, ⊎_elim, eqb-true}
use Rattle.std.proofs.lemmas.List.{length-map}
use mathlib.Core.List.{List, [], ◌∷◌, ◌++◌, map, flat_map}
use mathlib.Core.List.Memᴰ
use Rattle.lists.specs.Lists.{from, below, keep}
use Rattle.lists.specs.Members.{keep_append, map_in}
use Rattle.rules.specs.declared.Use.{Use}
use Rattle.rules.specs.declared.Face.{Face}
use Rattle.rules.specs.declared.KeptVertexLoop.{KeptVertexLoop}
use Rattle.rules.specs.Outcome.{Ok}
use Rattle.rules.proofs.OutcomeLaws.{ok_one}
use Rattle.rules.specs.Frame.{Record, framed_all}
use Rattle.rules.specs.Job.{Job}
use Rattle.rules.specs.Load.{loaded}
use Rattle.rules.specs.Read.{uses_of}
use Rattle.rules.specs.Groups.{label_of, members_of, is_lowest, lowest_members, Lowest}
use Rattle.rules.proofs.GroupLaws.{members_once}
use Rattle.rules.specs.declared.Rules.{Rules}
use Rattle.rules.specs.Edges.{FaceLoop}
use Rattle.rules.specs.Shells.{Nested}
use Rattle.rules.specs.Body.{BodyFace, Body, body_face, body_faces, solid_body, empty_body, member_at, members_record}
use Rattle.rules.specs.Body.{vertex_record, edge_record, loop_record, vertex_loop_record, face_records, lump_records}
use Rattle.rules.specs.Body.{body_records, rec}
use Rattle.rules.specs.Sew.{Walked, walked, Joined, body_of, rebuild, sewn}
use Rattle.theorems.specs.Demand3.{Settled}
use Rattle.theorems.specs.Linked.{Twins}
use Rattle.theorems.specs.Sound.{Sound}
use Rattle.theorems.proofs.Reading.{use_face_below}
use Rattle.theorems.proofs.Loading.{loaded_sound, faces_distinct}
use Rattle.theorems.proofs.Pairing.{pairs_fully}
use Rattle.theorems.specs.Merging.{merge_grouping}
use Rattle.theorems.proofs.Merging.{merge_groups, merge_groups_length, merged_lowest}
use Rattle.theorems.proofs.Ground.{walked_settled}
use Rattle.theorems.specs.Reporting.{Solid}
use Rattle.theorems.proofs.Reporting.{sewn_body, rebuild_cases, through_joined, joined_walks}
use Rattle.theorems.proofs.FaceJoined.{body_faces_lem, fan_of}
use Rattle.theorems.specs.FaceMembers.{is_members, behind_faces, MembersTold, FaceMembers}

-- THE RECORDS

none_of : {A : Type 0} (f : A → Record) (xs : List A) → ((x : A) → is_members (f x) ≡ false) → keep is_members (map f xs) ≡ []
unfolding keep
none_of f [] h = refl
none_of f (x ∷ xs) h = rw (h x) (none_of f xs h)

both : (rs ss : List Record) → keep is_members (rs ++ ss) ≡ keep is_members rs ++ keep is_members ss
both rs ss = keep_append is_members rs ss

abbrev record_of : BodyFace → Record
record_of f = members_record f.members

one_face : (f : BodyFace) → keep is_members (face_records f) ≡ record_of f ∷ []
unfolding face_records keep
one_face f = ap (λ rs. record_of f ∷ rs)
    (both (map loop_record f.loops) (map vertex_loop_record f.points)
    ∙ (λ i. none_of loop_record f.loops (λ x. refl) i ++ none_of vertex_loop_record f.points (λ x. refl) i))

all_faces : (fs : List BodyFace) → keep is_members (flat_map face_records fs) ≡ map record_of fs
unfolding flat_map keep
all_faces [] = refl
all_faces (f ∷ fs) = both (face_records f) (flat_map face_records fs) ∙ (λ i. one_face f i ++ all_faces fs i)

no_lumps : (ls : List (List (List ℕ))) → keep is_members (flat_map lump_records ls) ≡ []
unfolding flat_map lump_records keep
no_lumps [] = refl
no_lumps (l ∷ ls) = both (map (rec 28) l) (flat_map lump_records ls) ∙ (λ i. none_of (rec 28) l (λ x. refl) i ++ no_lumps ls i)

append_none : (rs : List Record) → rs ++ [] ≡ rs
append_none [] = refl
append_none (r ∷ rs) = ap (λ l. r ∷ l) (append_none rs)

-- the records of members of a body are those of its faces
body_members : (b : Body) → keep is_members (body_records b) ≡ map record_of b.faces
unfolding body_records keep
body_members b =
    let es : List Record = map edge_record b.edges in
    let fs : List Record = flat_map face_records b.faces in
    let ls : List Record = flat_map lump_records b.lumps in
    both (map vertex_record b.vertices) (es ++ (fs ++ ls))
    ∙ (λ i. none_of vertex_record b.vertices (λ x. refl) i ++ both es (fs ++ ls) i)
    ∙ (λ i. none_of edge_record b.edges (λ x. refl) i ++ both fs ls i)
    ∙ (λ i. all_faces b.faces i ++ no_lumps b.lumps i)
    ∙ append_none (map record_of b.faces)

-- what is written of the selected faces behind one face
abbrev members_told : List Face → List ℕ → Record
members_told fs is = members_record (map (member_at fs) is)

faces_members : (fs : List Face) (groups actives : List ℕ) (ls : List FaceLoop) (ks : List KeptVertexLoop) (f : ℕ) (ms : List ℕ)
    → map record_of (body_faces fs groups actives ls ks f ms) ≡ map (members_told fs) (map (members_of groups) ms)
unfolding body_faces body_face
faces_members fs groups actives ls ks f [] = refl
faces_members fs groups actives ls ks f (m ∷ ms) = ap (λ rs. members_told fs (members_of groups m) ∷ rs) (faces_members fs groups actives ls ks (suc f) ms)

solid_members : (j : Job) (x : Joined) (ns : List Nested) → map record_of (body_of j x ns).faces ≡ map (members_told j.faces) (behind_faces x.fan.walk)
unfolding body_of solid_body
solid_members j x ns =
    faces_members j.faces x.fan.walk.merge.groups _ x.joining.loops x.fan.walk.vertex_loops 0 (lowest_members x.fan.walk.merge.groups)

none_behind : (g : List ℕ) → length g ≡ 0 → [] ≡ map (members_of g) (lowest_members g)
unfolding keep from
none_behind g e = ap (λ n. map (members_of g) (keep (is_lowest g) (below n))) (sym e)

-- AN ACCEPTED JOB

module _ (rules : Rules) (job : List ℕ) (j : Job) (l : loaded job ≡ Ok j) where
  -- the merged groups are of the selected faces, each with the label of its lowest member
  grouped : (w : Walked) → walked rules j ≡ Ok w → Lowest w.merge.groups × (length w.merge.groups ≡ length j.faces)
  grouped w e =
      let s : Settled rules j w = walked_settled rules j w e in
      let S : Sound j = loaded_sound job j l in
      let us : List Use = uses_of j in
      let T : Twins us w.twins = pairs_fully rules.profile j.answers us w.twins (length j.edges) (omega (arith, S.few)) s.pairs in (
        merged_lowest rules.table j.answers j.faces us w.twins (merge_grouping w.merge)
            (merge_groups rules.table j.answers j.faces us w.twins w.merge s.surfaces) (use_face_below j S) T.below,
        merge_groups_length rules.table j.answers j.faces us w.twins w.merge s.surfaces,
      )

  -- no two selected faces have the same body and source face number
  named : (i k : ℕ) → i < length j.faces → k < length j.faces → member_at j.faces i ≡ member_at j.faces k → i ≡ k
  named i k h m e = faces_distinct job j l i k h m (ap (λ x. x.body) e) (ap (λ x. x.source) e)

  -- a job without faces
  empty_told : (b : Body) (bytes : List ℕ) → rebuild rules j ≡ Ok b → bytes ≡ framed_all (body_records b) → length j.faces ≡ 0 → b ≡ empty_body → MembersTold rules j bytes
  empty_told b bytes r e n z = record {
    body = b;
    rebuilt = r;
    written = e;
    behind = [];
    merged = λ w q. none_behind w.merge.groups ((grouped w q).1 ∙ n);
    each = sym (body_faces_lem b ∙ ap (λ (x : Body). length x.faces) z);
    records = body_members b ∙ ap (λ (x : Body). map record_of x.faces) z;
    ascending = λ is m. absurd (Memᴰ.not-nil m);
    once = λ i h. absurd (omega (arith, h, n));
    named = named;
  }

  -- a job with faces
  solid_told : (b : Body) (bytes : List ℕ) → rebuild rules j ≡ Ok b → bytes ≡ framed_all (body_records b) → Solid rules j b → MembersTold rules j bytes
  solid_told b bytes r e S =
      let x : Joined = S.joined in
      let walk = joined_walks rules j x S.joining in
      let w : Walked = walk.0 in
      let g : List ℕ = w.merge.groups in
      let G = grouped w walk.1 in
      let same : x.fan.walk ≡ w = ap (λ (y : Joined). y.fan.walk) (through_joined rules j w x walk.1 S.joining).1 ∙ fan_of j w in
      let faces : map record_of b.faces ≡ map (members_told j.faces) (behind_faces w) =
      ap (λ (y : Body). map record_of y.faces) S.body ∙ solid_members j x S.nests ∙ ap (λ (v : Walked). map (members_told j.faces) (behind_faces v)) same in
      record {
        body = b;
        rebuilt = r;
        written = e;
        behind = behind_faces w;
        merged = λ v q. ap behind_faces (ok_one (sym walk.1 ∙ q));
        each =
            sym (length-map (behind_faces w) (members_told j.faces)) ∙ ap length (sym faces) ∙ length-map b.faces record_of ∙ sym (body_faces_lem b);
        records = body_members b ∙ faces;
        ascending = λ is m.
            let a = map_in (members_of g) (lowest_members g) is m in
            ((λ i. eqb (label_of g i) a.0), a.2 ∙ ap (λ n. keep (λ i. eqb (label_of g i) a.0) (below n)) G.1);
        once = λ i h. members_once G.0 i (omega (arith, G.1, h));
        named = named;
      }

  told : (room : ℕ) (bytes : List ℕ) → sewn rules job room ≡ Ok bytes → MembersTold rules j bytes
  told room bytes e =
      let a = sewn_body rules job room bytes j l e in
      ⊎_elim
      (λ q. empty_told a.0 bytes a.1 a.2 (eqb-true (length j.faces) 0 q.0) q.1)
      (λ q. solid_told a.0 bytes a.1 a.2 q.1)
      (rebuild_cases rules j a.0 a.1)

-- each selected face stands in exactly one record of members, for all rules and every job
pub face_members : (rules : Rules) (job : List ℕ) → FaceMembers rules job
face_members rules job j room bytes l e = told rules job j l room bytes e
