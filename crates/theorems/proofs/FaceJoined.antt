-- Every job has its face joins: the statement is `FaceJoins`.
use Rattle.std.specs.Prelude.{ℕ, suc, ◌+◌, ◌≡◌, refl, false, length}
use Rattle.std.proofs.Common.{arith, sym, ap, ◌∙◌, ⊎_elim, length-append, eqb-true}
use mathlib.Core.List.{List, [], ◌∷◌, ◌++◌, map, flat_map}
use Rattle.lists.specs.Lists.{keep}
use Rattle.lists.specs.Members.{keep_append}
use Rattle.lists.specs.Counts.{keep_map_length, keep_nothing}
use Rattle.rules.specs.declared.Use.{Use}
use Rattle.rules.specs.Outcome.{Ok}
use Rattle.rules.proofs.OutcomeLaws.{ok_one}
use Rattle.rules.specs.Frame.{Record, framed_all}
use Rattle.rules.specs.Job.{Job}
use Rattle.rules.specs.Load.{loaded}
use Rattle.rules.specs.Read.{uses_of}
use Rattle.rules.specs.Groups.{lowest_members}
use Rattle.rules.specs.declared.Rules.{Rules}
use Rattle.rules.specs.Shells.{Nested}
use Rattle.rules.specs.Body.{BodyFace, Body, solid_body, empty_body, vertex_record, edge_record, loop_record}
use Rattle.rules.specs.Body.{vertex_loop_record, face_records, lump_records, body_records, rec}
use Rattle.rules.specs.Sew.{Walked, fans_of, Joined, totals_of, body_of, rebuild, sewn}
use Rattle.theorems.specs.Demand3.{Settled}
use Rattle.theorems.specs.Linked.{Twins}
use Rattle.theorems.specs.Sound.{Sound}
use Rattle.theorems.proofs.Reading.{use_face_below}
use Rattle.theorems.proofs.Loading.{loaded_sound}
use Rattle.theorems.proofs.Pairing.{pairs_fully}
use Rattle.theorems.proofs.Merging.{step_tells}
use Rattle.theorems.proofs.Ground.{ground, walked_settled}
use Rattle.theorems.specs.Reporting.{Begins, Solid}
use Rattle.theorems.proofs.Reporting.{sewn_body, rebuild_cases, through_joined, joined_walks}
use Rattle.theorems.proofs.Assembly.{empty_begins, solid_begins}
use Rattle.theorems.specs.FaceJoins.{EachQuestion, is_face, faces_written, FacesTold, FaceJoins}
use Rattle.rules.proofs.SizeLaws.{length_body_faces}

-- THE RECORDS

none_of : {A : Type 0} (f : A → Record) (xs : List A) → ((x : A) → is_face (f x) ≡ false) → faces_written (map f xs) ≡ 0
none_of f xs h = keep_map_length is_face f xs ∙ ap length (keep_nothing (λ x. is_face (f x)) xs (λ x m. h x))

both : (rs ss : List Record) → faces_written (rs ++ ss) ≡ faces_written rs + faces_written ss
both rs ss = ap length (keep_append is_face rs ss) ∙ length-append (keep is_face rs) (keep is_face ss)

one_face : (f : BodyFace) → faces_written (face_records f) ≡ 1
unfolding face_records keep
one_face f = ap suc
    (both (map loop_record f.loops) (map vertex_loop_record f.points)
    ∙ (λ i. none_of loop_record f.loops (λ x. refl) i + none_of vertex_loop_record f.points (λ x. refl) i))

all_faces : (fs : List BodyFace) → faces_written (flat_map face_records fs) ≡ length fs
unfolding flat_map keep
all_faces [] = refl
all_faces (f ∷ fs) = omega (arith, both (face_records f) (flat_map face_records fs), one_face f, all_faces fs)

no_lumps : (ls : List (List (List ℕ))) → faces_written (flat_map lump_records ls) ≡ 0
unfolding flat_map lump_records keep
no_lumps [] = refl
no_lumps (l ∷ ls) = both (map (rec 28) l) (flat_map lump_records ls) ∙ (λ i. none_of (rec 28) l (λ x. refl) i + no_lumps ls i)

-- the records of a body have its faces
pub body_faces_lem : (b : Body) → faces_written (body_records b) ≡ length b.faces
unfolding body_records keep
body_faces_lem b =
    let vs : List Record = map vertex_record b.vertices in
    let es : List Record = map edge_record b.edges in
    let fs : List Record = flat_map face_records b.faces in
    let ls : List Record = flat_map lump_records b.lumps in
    omega (
      arith,
      both vs (es ++ (fs ++ ls)),
      both es (fs ++ ls),
      both fs ls,
      none_of vertex_record b.vertices (λ x. refl),
      none_of edge_record b.edges (λ x. refl),
      all_faces b.faces,
      no_lumps b.lumps,
    )

pub fan_of : (j : Job) (w : Walked) → (fans_of j w).walk ≡ w
unfolding fans_of
fan_of j w = refl

solid_faces : (j : Job) (x : Joined) (ns : List Nested) → length (body_of j x ns).faces ≡ length (lowest_members x.fan.walk.merge.groups)
unfolding body_of solid_body
solid_faces j x ns = length_body_faces j.faces x.fan.walk.merge.groups _ x.joining.loops x.fan.walk.vertex_loops 0 (lowest_members x.fan.walk.merge.groups)

-- AN ACCEPTED JOB

module _ (rules : Rules) (job : List ℕ) (j : Job) (l : loaded job ≡ Ok j) where
  -- a job without faces
  empty_told : (b : Body) (bytes : List ℕ) → rebuild rules j ≡ Ok b → bytes ≡ framed_all (body_records b) → length j.faces ≡ 0 → b ≡ empty_body → FacesTold rules j bytes
  empty_told b bytes r e n z =
      let B : Begins bytes empty_body.totals = empty_begins bytes (e ∙ ap (λ x. framed_all (body_records x)) z) in
      let none : faces_written (body_records b) ≡ 0 = body_faces_lem b ∙ ap (λ (x : Body). length x.faces) z in
      record {
        body = b;
        rebuilt = r;
        written = e;
        joins = λ w q. omega (arith, B.face_joins, (ground rules job j w l (walked_settled rules j w q)).fewer);
        faces = omega (arith, none, B.face_joins);
        empty = λ _. (n, B.face_joins, none);
      }

  -- a job with faces
  solid_told : (b : Body) (bytes : List ℕ) → rebuild rules j ≡ Ok b → bytes ≡ framed_all (body_records b) → Solid rules j b → FacesTold rules j bytes
  solid_told b bytes r e S =
      let x : Joined = S.joined in
      let walk = joined_walks rules j x S.joining in
      let w : Walked = walk.0 in
      let s : Settled rules j w = walked_settled rules j w walk.1 in
      let B : Begins bytes (totals_of w x.joining) = solid_begins rules job j w l s bytes x S.nests S.joining (e ∙ ap (λ y. framed_all (body_records y)) S.body) in
      let fewer = (ground rules job j w l s).fewer in
      let same : x.fan.walk ≡ w = ap (λ (y : Joined). y.fan.walk) (through_joined rules j w x walk.1 S.joining).1 ∙ fan_of j w in
      let many : faces_written (body_records b) ≡ length (lowest_members w.merge.groups) =
      body_faces_lem b ∙ ap (λ (y : Body). length y.faces) S.body ∙ solid_faces j x S.nests ∙ ap (λ (v : Walked). length (lowest_members v.merge.groups)) same in
      record {
        body = b;
        rebuilt = r;
        written = e;
        joins = λ v q. B.face_joins ∙ ap (λ (v : Walked). v.merge.joins) (ok_one (sym walk.1 ∙ q));
        faces = omega (arith, many, B.face_joins, fewer);
        empty = λ z. absurd (omega (arith, B.solid, z));
      }

  told : (room : ℕ) (bytes : List ℕ) → sewn rules job room ≡ Ok bytes → FacesTold rules j bytes
  told room bytes e =
      let a = sewn_body rules job room bytes j l e in
      ⊎_elim
      (λ q. empty_told a.0 bytes a.1 a.2 (eqb-true (length j.faces) 0 q.0) q.1)
      (λ q. solid_told a.0 bytes a.1 a.2 q.1)
      (rebuild_cases rules j a.0 a.1)

  each : EachQuestion rules j
  each ts p h few s s' b e =
      let S : Sound j = loaded_sound job j l in
      let us : List Use = uses_of j in
      let T : Twins us ts = pairs_fully rules.profile j.answers us ts (length j.edges) (omega (arith, S.few)) p in
      step_tells rules.table j.answers j.faces us ts h s b (use_face_below j S) T.below few s' e

-- a surface question makes a face join where it changes the face groups; faces selected less face joins equals faces written: for all rules and every job
pub face_joins : (rules : Rules) (job : List ℕ) → FaceJoins rules job
face_joins rules job j l = (each rules job j l, told rules job j l)
