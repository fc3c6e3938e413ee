-- Every number in a body of a job of bytes is below 4,294,967,296, so that its four bytes hold it.
use Prim.Native.Nat.{ℕ, zero, suc, ◌+◌, ◌*◌, ◌/◌, ◌≤◌, ◌<◌, min, max}
use native.Mathlib.Omega.{arith}
use Rattle.std.specs.Prelude.{◌≡◌, refl, Bool, true, false, ◌||◌, cond, set, drop}
use Rattle.std.proofs.Common.{sym, ap, ◌∙◌, inl, inr, length-append, length-set}
use Rattle.std.proofs.Math.Path.{subst}
use Rattle.std.proofs.Math.Logic.{⊎_elim}
use mathlib.Core.List.Memᴰ
use mathlib.Core.List.{List, [], ◌∷◌, ◌++◌, map, flat_map, foldl}
use Rattle.std.proofs.Math.ListN.{length, get_or, length-map}
use Rattle.std.proofs.Math.Dec.{eqb}
use Rattle.lists.specs.Lists.{◌∈◌, below, keep, has}
use Rattle.lists.specs.Tests.{both_ways}
use Rattle.lists.specs.Members.{at_has, set_has, drop_in, keep_in, keep_length, map_in, flat_map_in, positions_in}
use Rattle.lists.specs.Members.{positions_length, position_le}
use Rattle.lists.specs.Runs.{length_below}
use Rattle.lists.specs.OneMore.{snoc_members}
use Rattle.rules.specs.declared.Edge.{Edge}
use Rattle.rules.specs.declared.Face.{Face}
use Rattle.rules.specs.declared.Item.{Item}
use Rattle.rules.specs.declared.Sense.{Sense}
use Rattle.rules.specs.declared.Sense.TheVariants.{Same, Reversed}
use Rattle.rules.specs.declared.EdgeData.{EdgeData}
use Rattle.rules.specs.declared.KeptVertexLoop.{KeptVertexLoop}
use Rattle.rules.specs.Outcome.{Ok, ◌>>=◌}
use Rattle.rules.proofs.OutcomeLaws.{ok_one, bind_ok, through_keeps, each_has, each_length}
use Rattle.rules.specs.Sense.{sense_number}
use Rattle.rules.specs.Fields.{le32, fields_in, field}
use Rattle.rules.specs.Frame.{Frame, Record, whole_record, frame_at, taking, frames_from}
use Rattle.rules.specs.Job.{unset, Answer, Content, of_items, at_vertex, Loop, Job, no_edge, no_face, face_at, ring}
use Rattle.rules.specs.Kinds.{kind_of, number_of}
use Rattle.rules.specs.Load.{Loading, load_record, loading, loaded, extended, edge_of, face_of}
use Rattle.rules.specs.Read.{uses_of, use_at, face_of_use, edge_of_use}
use Rattle.rules.specs.Questions.{ask_yes}
use Rattle.rules.specs.Groups.{label_of, members_of, is_lowest, lowest_members}
use Rattle.rules.proofs.GroupLaws.{label_within, group_numbers_within}
use Rattle.rules.specs.Pair.{twin_of}
use Rattle.rules.specs.declared.Rules.{Rules}
use Rattle.rules.specs.Merge.{merged_faces, merged_face_of}
use Rattle.rules.specs.VertexLoops.{already_there, keep_unless_there, content_step, vertex_loop_step, vertex_loops}
use Rattle.rules.specs.Fans.{start_points, fan_point}
use Rattle.rules.specs.Edges.{fan_or_none, edge_data, lower_kept, lower_uses, FaceLoop}
use Rattle.rules.specs.Walk.{successor}
use Rattle.rules.specs.Join.{Joining, no_edge_data, edge_data_at, active_edges, far_end, joined_edge, retired, ring_of}
use Rattle.rules.specs.Join.{join_edges, join_at, ring_at, maximal_edges}
use Rattle.rules.specs.Shells.{Shell, shell_faces, all_shell_faces, orient_shell, shells, enclosing_shell, or_refuse, none}
use Rattle.rules.specs.Shells.{outers, Nested, nest, nested, lump_of, lumps, lowest_face}
use Rattle.rules.specs.Body.{Totals, Member, BodyFace, Body, meet, met_fans, vertex_of, with_vertices, renumbered}
use Rattle.rules.specs.Body.{body_face, body_faces, still_active, solid_body, body_kind, vertex_record, edge_record, member_at}
use Rattle.rules.specs.Body.{item_fields, loop_record, vertex_loop_record, member_fields, face_records, lump_records}
use Rattle.rules.specs.Body.{body_records}
use Rattle.rules.specs.Sew.{Walked, walked, fans_of, unjoined, Joined, through_joining, shells_of, totals_of, body_of}
use Rattle.rules.specs.Sew.{rebuild}
use Rattle.theorems.specs.Demand3.{Settled}
use Rattle.theorems.proofs.Loading.{also_has, record_taken, loading_keeps, faces_few}
use Rattle.theorems.proofs.Merging.{merge_groups_length}
use Rattle.theorems.specs.Changes.{Made}
use Rattle.theorems.proofs.Changes.{joining_keeps}
use Rattle.theorems.specs.Ground.{Ground}
use Rattle.theorems.proofs.Ground.{ground, walked_settled}
use Rattle.theorems.specs.Reporting.{Small, Solid}
use Rattle.theorems.proofs.Reporting.{rebuild_cases, through_joined, joined_walks, joined_shells}
use Rattle.theorems.proofs.Assembly.{no_counts_lem, totals_small}
use Rattle.theorems.specs.Fanning.{fan_labels}
use Rattle.theorems.proofs.Fanning.{fan_lowest, fan_size}
use Rattle.theorems.specs.Edging.{lowers, edge_for}
use Rattle.theorems.proofs.Starting.{own_both}
use Rattle.theorems.specs.Narrow.{Below, Low, LowFace, LowJob, LowEdge, LowEdges, FewFaces, LowMember, LowBody, Narrow}

-- lists of low numbers, one after the other
pub one_low : (a : ℕ) (l : List ℕ) → Low a → Below 4294967296 l → Below 4294967296 (a ∷ l)
one_low a l h b x m = ⊎_elim (λ e. subst Low (sym e) h) (b x) (Memᴰ.cases_cons m)

pub none_low : Below 4294967296 []
none_low x m = absurd (Memᴰ.not-nil m)

pub sense_low : (s : Sense) → Low (sense_number s)
sense_low Same = omega arith
sense_low Reversed = omega arith

pub kind_low : (t : Bool) → Low (body_kind t)
kind_low true = omega arith
kind_low false = omega arith

-- THE FIELDS OF A JOB

field_low : (l : List ℕ) (p : ℕ) → Below 256 l → Low (le32 l p)
unfolding le32
field_low l p b =
    let byte : (i : ℕ) → get_or l i 0 < 256 = λ i. at_has (λ x. x < 256) l i 0 (omega arith) b in
    omega (arith, byte p, byte (p + 1), byte (p + 2), byte (p + 3))

fields_low : (n : ℕ) (l : List ℕ) → Below 256 l → Below 4294967296 (fields_in n l)
unfolding fields_in
fields_low zero l b x m = absurd (Memᴰ.not-nil m)
fields_low (suc n) l b x m =
    let later = fields_low n (drop 4 l) (λ y k. b y (drop_in 4 l y k)) x in
    ⊎_elim (λ e. subst Low (sym e) (field_low l 0 b)) later (Memᴰ.cases_cons m)

frames_low : (most at : ℕ) (rest : List ℕ) → Below 256 rest → (f : Frame) → f ∈ frames_from most at rest → Below 4294967296 f.fields
unfolding frames_from frame_at
frames_low zero at rest b f m = absurd (Memᴰ.not-nil m)
frames_low (suc most) at [] b f m = absurd (Memᴰ.not-nil m)
frames_low (suc most) at (y ∷ ys) b f m =
    let rest : List ℕ = y ∷ ys in
    let later = frames_low most (at + taking rest) (drop (taking rest) rest) (λ y k. b y (drop_in (taking rest) rest y k)) f in
    let here : Below 4294967296 (frame_at at rest).fields = fields_low (cond (whole_record rest) (le32 rest 0 / 4) 0) (drop 6 rest) (λ y k. b y (drop_in 6 rest y k)) in
    ⊎_elim (λ e. subst (λ (g : Frame). Below 4294967296 g.fields) (sym e) here) later (Memᴰ.cases_cons m)

-- a record whose fields have four bytes keeps that
record_low : (f : Frame) (s t : Loading) → Below 4294967296 f.fields → LowJob s.job → load_record f s ≡ Ok t → LowJob t.job
unfolding extended
record_low f s t b L e =
    let low : (i : ℕ) → Low (field f.fields i) = λ i. at_has Low f.fields i 0 (omega arith) b in
    subst (λ (u : Loading). LowJob u.job) (sym (record_taken f s t e).after) (record {
      points = also_has Low (eqb (number_of (kind_of f.kind)) 2) s.job.points (field f.fields 0) L.points (λ _. low 0);
      curves = also_has (λ (e : Edge). Low e.curve) (eqb (number_of (kind_of f.kind)) 3) s.job.edges (edge_of f.fields) L.curves (λ _. low 0);
      faces = also_has LowFace (eqb (number_of (kind_of f.kind)) 4) s.job.faces (face_of f.fields) L.faces (λ _. record { surface = low 0; body = low 3; source = low 4 });
    })

-- a job of bytes is such
pub loaded_low : (job : List ℕ) (j : Job) → Below 256 job → loaded job ≡ Ok j → LowJob j
loaded_low job j b l =
    let r = bind_ok (loading job) _ j l in
    let all = loading_keeps job (λ (s : Loading). LowJob s.job) r.0
    (λ f u v m S q. record_low f u v (frames_low (length job) 0 job b f m) S q)
    (record { points = λ p m. absurd (Memᴰ.not-nil m); curves = λ e m. absurd (Memᴰ.not-nil m); faces = λ f m. absurd (Memᴰ.not-nil m) }) r.1 in
    subst LowJob (ok_one r.2) all

-- VERTEX LOOPS

-- what holds of every vertex loop that may be kept holds of those kept
step_has : (answers : List Answer) (points : List ℕ) (face : ℕ) (c : Content) (P : KeptVertexLoop → Type 0) (ks ks' : List KeptVertexLoop)
    → ((v : ℕ) → P (record { face = face; point = get_or points v 0 })) → ((k : KeptVertexLoop) → k ∈ ks → P k)
    → content_step answers points face c ks ≡ Ok ks' → (k : KeptVertexLoop) → k ∈ ks' → P k
unfolding keep_unless_there
step_has answers points face (of_items xs) P ks ks' new all e = subst (λ (l : List KeptVertexLoop). (k : KeptVertexLoop) → k ∈ l → P k) (ok_one e) all
step_has answers points face (at_vertex v) P ks ks' new all e =
    let r = bind_ok (already_there answers face (get_or points v 0) ks) _ ks' e in
    go r.0 (ok_one r.2)
  where
    last : KeptVertexLoop
    last = record { face = face; point = get_or points v 0 }

    go : (t : Bool) → cond t ks (ks ++ (last ∷ [])) ≡ ks' → (k : KeptVertexLoop) → k ∈ ks' → P k
    go true q = subst (λ (l : List KeptVertexLoop). (k : KeptVertexLoop) → k ∈ l → P k) q all
    go false q = subst (λ (l : List KeptVertexLoop). (k : KeptVertexLoop) → k ∈ l → P k) q (snoc_members P ks last all (new v))

pub kept_has : (answers : List Answer) (points numbers : List ℕ) (loops : List Loop) (P : KeptVertexLoop → Type 0) (ks : List KeptVertexLoop)
    → ((f v : ℕ) → P (record { face = get_or numbers f 0; point = get_or points v 0 }))
    → vertex_loops answers points numbers loops ≡ Ok ks → (k : KeptVertexLoop) → k ∈ ks → P k
kept_has answers points numbers loops P ks each e =
    through_keeps (vertex_loop_step answers points numbers) (λ (l : List KeptVertexLoop). (k : KeptVertexLoop) → k ∈ l → P k) loops [] ks
    (λ l u v m S q. step_has answers points (get_or numbers l.face 0) l.content P u v (each l.face) S q) (λ k m. absurd (Memᴰ.not-nil m)) e

pub kept_points : (answers : List Answer) (points numbers : List ℕ) (loops : List Loop) (ks : List KeptVertexLoop) → Below 4294967296 points
    → vertex_loops answers points numbers loops ≡ Ok ks → (k : KeptVertexLoop) → k ∈ ks → Low k.point
kept_points answers points numbers loops ks b =
    kept_has answers points numbers loops (λ (k : KeptVertexLoop). Low k.point) ks (λ f v. at_has Low points v 0 (omega arith) b)

-- EDGES AND JOINING

-- an edge of low edges, or what stands for none, is low
edge_low : (es : List EdgeData) (i : ℕ) → LowEdges es → LowEdge (edge_data_at es i)
edge_low es i all =
    at_has LowEdge es i no_edge_data
    (record { curve = omega arith; start = omega arith; end = omega arith; two = refl; faces = one_low 0 (0 ∷ []) (omega arith) (one_low 0 [] (omega arith) none_low) }) all

-- an edge that a change makes of low edges is low
retired_low : (e : EdgeData) → LowEdge e → LowEdge (retired e)
retired_low e h = record { curve = h.curve; start = h.start; end = h.end; two = h.two; faces = h.faces }

ring_low : (e : EdgeData) → LowEdge e → LowEdge (ring_of e)
ring_low e h = record { curve = h.curve; start = omega arith; end = omega arith; two = h.two; faces = h.faces }

far_low : (v : ℕ) (e : EdgeData) → LowEdge e → Low (far_end v e)
far_low v e h = ⊎_elim (λ t. rw t h.end) (λ t. rw t h.start) (both_ways (eqb e.start v))

joined_low : (v : ℕ) (a b : EdgeData) → LowEdge a → LowEdge b → LowEdge (joined_edge v a b)
unfolding joined_edge
joined_low v a b h k = record { curve = h.curve; start = far_low v a h; end = far_low v b k; two = h.two; faces = h.faces }

-- a change keeps edges low
pub made_low : (s t : Joining) (v : ℕ) → Made s v t → LowEdges s.edges → LowEdges t.edges
unfolding ring_at join_at join_edges
made_low s t v (inl r) all =
    let es : List EdgeData = s.edges in
    subst (λ (u : Joining). LowEdges u.edges) (sym r.after)
    (set_has LowEdge es r.edge (ring_of (edge_data_at es r.edge)) (ring_low (edge_data_at es r.edge) (edge_low es r.edge all)) all)
made_low s t v (inr r) all =
    let es : List EdgeData = s.edges in
    let a : EdgeData = edge_data_at es r.first in
    let b : EdgeData = edge_data_at es r.second in
    let one : List EdgeData = set es r.first (retired a) in
    let two : List EdgeData = set one r.second (retired b) in
    let low_a : LowEdge a = edge_low es r.first all in
    let low_b : LowEdge b = edge_low es r.second all in
    subst (λ (u : Joining). LowEdges u.edges) (sym r.after)
    (snoc_members LowEdge two (joined_edge v a b)
    (set_has LowEdge one r.second (retired b) (retired_low b low_b) (set_has LowEdge es r.first (retired a) (retired_low a low_a) all))
    (joined_low v a b low_a low_b))

-- a change adds an edge where it is a join
made_count : (s t : Joining) (v n : ℕ) → Made s v t → length s.edges ≡ n + s.joins → length t.edges ≡ n + t.joins
unfolding ring_at join_at join_edges
made_count s t v n (inl r) e =
    let es : List EdgeData = s.edges in
    subst (λ (u : Joining). length u.edges ≡ n + u.joins) (sym r.after) (length-set es r.edge (ring_of (edge_data_at es r.edge)) ∙ e)
made_count s t v n (inr r) e =
    let es : List EdgeData = s.edges in
    let a : EdgeData = edge_data_at es r.first in
    let b : EdgeData = edge_data_at es r.second in
    let one : List EdgeData = set es r.first (retired a) in
    let two : List EdgeData = set one r.second (retired b) in
    subst (λ (u : Joining). length u.edges ≡ n + u.joins) (sym r.after)
    (omega (arith, length-append two (joined_edge v a b ∷ []), length-set one r.second (retired b), length-set es r.first (retired a), e))

-- joining adds an edge for each join
pub joining_count : (answers : List Answer) (starts names : List ℕ) (most n : ℕ) (s t : Joining) → maximal_edges answers starts names most s ≡ Ok t
    → length s.edges ≡ n + s.joins → length t.edges ≡ n + t.joins
joining_count answers starts names most n s t e =
    joining_keeps answers starts names (λ (u : Joining). length u.edges ≡ n + u.joins) (λ x y v _ m. made_count x y v n m) most s t e

-- joining keeps edges low
pub joining_low : (answers : List Answer) (starts names : List ℕ) (most : ℕ) (s t : Joining) → maximal_edges answers starts names most s ≡ Ok t → LowEdges s.edges → LowEdges t.edges
joining_low answers starts names most s t e = joining_keeps answers starts names (λ (u : Joining). LowEdges u.edges) (λ x y v _. made_low x y v) most s t e

-- SHELLS

orient_faces : (answers : List Answer) (proven : ℕ) (faces : List ℕ) (s : Shell) → orient_shell answers proven faces ≡ Ok s → s.faces ≡ faces
unfolding orient_shell
orient_faces answers proven faces s e =
    let r = bind_ok (cond (eqb proven 1) (Ok true) (ask_yes answers 12 (lowest_face faces ∷ []))) (λ yes. Ok (record { faces = faces; outer = yes })) s e in
    let q : record { faces = faces; outer = r.0 } ≡ s = ok_one r.2 in
    ap (λ (x : Shell). x.faces) (sym q)

nest_shell : (answers : List Answer) (os : List ℕ) (s : Shell) (n : Nested) → nest answers os s ≡ Ok n → n.shell ≡ s
unfolding nest
nest_shell answers os s n e =
    let low : ℕ = lowest_face s.faces in
    let r = bind_ok (cond s.outer (Ok low) (enclosing_shell answers low os none >>= λ taken. or_refuse taken low)) (λ o. Ok (record { shell = s; home = o })) n e in
    let q : record { shell = s; home = r.0 } ≡ n = ok_one r.2 in
    ap (λ (x : Nested). x.shell) (sym q)

-- a shell's faces are merged faces
shell_few : (boundaries groups : List ℕ) (b : ℕ) → FewFaces (length groups) (shell_faces boundaries (lowest_members groups) b)
shell_few boundaries groups b =
    let members : List ℕ = lowest_members groups in
    let test : ℕ → Bool = λ r. eqb (get_or boundaries r 0) b in
    let few : length members ≤ length groups = omega (arith, keep_length (is_lowest groups) (below (length groups)), length_below (length groups)) in (
      λ x m. let r = positions_in test 0 members 0 x m in omega (arith, r.1, few),
      omega (arith, positions_length test 0 members, keep_length test members, few),
    )

-- so are those of the shells, of the nested shells, and of the lumps
pub shells_few : (answers : List Answer) (proven : ℕ) (boundaries groups : List ℕ) (ss : List Shell) → shells answers proven (all_shell_faces boundaries groups) ≡ Ok ss
    → (s : Shell) → s ∈ ss → FewFaces (length groups) s.faces
shells_few answers proven boundaries groups ss =
    each_has (orient_shell answers proven) (λ (s : Shell). FewFaces (length groups) s.faces) (all_shell_faces boundaries groups) ss
    (λ fs s m e.
    let r = map_in (shell_faces boundaries (lowest_members groups)) (lowest_members boundaries) fs m in
    subst (FewFaces (length groups)) (sym (orient_faces answers proven fs s e ∙ r.2)) (shell_few boundaries groups r.0))

pub nested_few : (answers : List Answer) (bound : ℕ) (ss : List Shell) (ns : List Nested) → ((s : Shell) → s ∈ ss → FewFaces bound s.faces)
    → nested answers ss ≡ Ok ns → (n : Nested) → n ∈ ns → FewFaces bound n.shell.faces
nested_few answers bound ss ns few =
    each_has (nest answers (outers ss)) (λ (n : Nested). FewFaces bound n.shell.faces) ss ns
    (λ s n m e. subst (λ (u : Shell). FewFaces bound u.faces) (sym (nest_shell answers (outers ss) s n e)) (few s m))

pub lumps_few : (bound : ℕ) (ns : List Nested) → ((n : Nested) → n ∈ ns → FewFaces bound n.shell.faces)
    → (lump : List (List ℕ)) → lump ∈ lumps ns → (shell : List ℕ) → shell ∈ lump → FewFaces bound shell
unfolding lumps
lumps_few bound ns all lump m shell k =
    let a = map_in (lump_of ns) (keep (λ (n : Nested). n.shell.outer) ns) lump m in
    let n : Nested = a.0 in
    ⊎_elim
    (λ e. subst (FewFaces bound) (sym e) (all n (keep_in (λ (n : Nested). n.shell.outer) ns n a.1).0))
    (λ i.
    let b = map_in (λ (n : Nested). n.shell.faces) (keep _ ns) shell i in
    subst (FewFaces bound) (sym b.2) (all b.0 (keep_in _ ns b.0 b.1).0))
    (Memᴰ.cases_cons (subst (λ l. shell ∈ l) a.2 k))

-- there are at most as many lumps as shells, and as many shells as boundaries
pub lumps_count : (answers : List Answer) (proven : ℕ) (boundaries groups : List ℕ) (ss : List Shell) (ns : List Nested) → shells answers proven (all_shell_faces boundaries groups) ≡ Ok ss
    → nested answers ss ≡ Ok ns → length (lumps ns) ≤ length boundaries
unfolding lumps
lumps_count answers proven boundaries groups ss ns p q =
    omega (
      arith,
      length-map (keep (λ (n : Nested). n.shell.outer) ns) (lump_of ns),
      keep_length (λ (n : Nested). n.shell.outer) ns,
      each_length (nest answers (outers ss)) ss ns q,
      each_length (orient_shell answers proven) (all_shell_faces boundaries groups) ss p,
      length-map (lowest_members boundaries) (shell_faces boundaries (lowest_members groups)),
      keep_length (is_lowest boundaries) (below (length boundaries)),
      length_below (length boundaries),
    )

-- A BODY

meet_few : (met : List ℕ) (v : ℕ) → length (meet met v) ≤ suc (length met)
meet_few met v = ⊎_elim (λ t. rw t (omega arith)) (λ t. rw t (omega (arith, length-append met (v ∷ [])))) (both_ways (eqb v unset || has v met))

met_few : (es : List EdgeData) (met : List ℕ) → length (foldl (λ met (e : EdgeData). meet (meet met e.start) e.end) met es) ≤ length met + 2 * length es
met_few [] met = omega arith
met_few (e ∷ es) met =
    omega (arith, met_few es (meet (meet met e.start) e.end), meet_few (meet met e.start) e.end, meet_few met e.start)

vertex_low : (met : List ℕ) (v : ℕ) → length met < 4294967296 → Low (vertex_of met v)
vertex_low met v h = ⊎_elim (λ t. rw t (omega arith)) (λ t. rw t (omega (arith, position_le (eqb v) met))) (both_ways (eqb v unset))

no_face_lem : LowFace no_face
no_face_lem = record { surface = omega arith; body = omega arith; source = omega arith }

module _ (fs : List Face) (groups actives : List ℕ) (ls : List FaceLoop) (ks : List KeptVertexLoop) where
  faces_are : (k : ℕ) (members : List ℕ) (f : BodyFace) → f ∈ body_faces fs groups actives ls ks k members → (n : ℕ) × (m : ℕ) × (f ≡ body_face fs groups actives ls ks n m)
  unfolding body_faces
  faces_are k [] f i = absurd (Memᴰ.not-nil i)
  faces_are k (m ∷ members) f i =
      let later = faces_are (suc k) members f in
      ⊎_elim (λ e. (k, m, e)) later (Memᴰ.cases_cons i)

  face_surface : ((g : Face) → g ∈ fs → LowFace g) → (n m : ℕ) → Low (body_face fs groups actives ls ks n m).surface
  unfolding body_face
  face_surface all n m = (at_has LowFace fs m _ no_face_lem all).surface

  face_members : ((g : Face) → g ∈ fs → LowFace g) → (n m : ℕ) → (x : Member) → x ∈ (body_face fs groups actives ls ks n m).members → LowMember x
  unfolding body_face
  face_members all n m x i =
      let a = map_in (member_at fs) (members_of groups m) x i in
      let low : LowFace (face_at fs a.0) = at_has LowFace fs a.0 _ no_face_lem all in
      subst LowMember (sym a.2) (record { body = low.body; source = low.source })

  face_items : length actives < 4294967296 → (n m : ℕ) → (xs : List Item) → xs ∈ (body_face fs groups actives ls ks n m).loops → (x : Item) → x ∈ xs → Low x.edge
  unfolding body_face
  face_items h n m xs i x k =
      let a = map_in (λ (l : FaceLoop). map (renumbered actives) l.items) (keep (λ (l : FaceLoop). eqb l.face n) ls) xs i in
      let b = map_in (renumbered actives) a.0.items x (subst (λ l. x ∈ l) a.2 k) in
      let y : Item = b.0 in
      subst (λ (z : Item). Low z.edge) (sym b.2) (omega (arith, position_le (eqb y.edge) actives))

  face_points : ((k : KeptVertexLoop) → k ∈ ks → Low k.point) → (n m : ℕ) → Below 4294967296 (body_face fs groups actives ls ks n m).points
  unfolding body_face
  face_points all n m x i =
      let a = map_in (λ (k : KeptVertexLoop). k.point) (keep (λ (k : KeptVertexLoop). eqb k.face n) ks) x i in
      subst Low (sym a.2) (all a.0 (keep_in (λ (k : KeptVertexLoop). eqb k.face n) ks a.0 a.1).0)

-- a body of narrow parts
solid_low : (totals : Totals) (fs : List Face) (groups starts : List ℕ) (es : List EdgeData) (ls : List FaceLoop) (members : List ℕ) (ks : List KeptVertexLoop) (lumps : List (List (List ℕ)))
    → Small totals → ((g : Face) → g ∈ fs → LowFace g) → Below 4294967296 starts → LowEdges es → length es ≤ 4096 → ((k : KeptVertexLoop) → k ∈ ks → Low k.point)
    → ((lump : List (List ℕ)) → lump ∈ lumps → (shell : List ℕ) → shell ∈ lump → Below 4294967296 shell)
    → LowBody (solid_body totals fs groups starts es ls members ks lumps)
unfolding solid_body
solid_low totals fs groups starts es ls members ks lumps S faces points edges few kept shell =
    let met : List ℕ = met_fans (still_active es) in
    let live : length (still_active es) ≤ length es = keep_length (λ (e : EdgeData). e.active) es in
    let most : length met < 4294967296 = omega (arith, met_few (still_active es) []) in
    let actives : List ℕ = active_edges es in
    let count : length actives < 4294967296 = omega (arith, positions_length (λ (e : EdgeData). e.active) 0 es) in
    record {
      totals = S;
      vertices = λ x m. let a = map_in (fan_point starts) met x m in subst Low (sym a.2) (at_has Low starts a.0 0 (omega arith) points);
      edges = λ e m.
          let a = map_in (with_vertices met) (still_active es) e m in
          let d : EdgeData = a.0 in
          subst (λ (x : Edge). Low x.curve × Low x.start × Low x.end) (sym a.2)
          ((edges d (keep_in (λ (e : EdgeData). e.active) es d a.1).0).curve, vertex_low met d.start most, vertex_low met d.end most);
      surfaces = λ f m. let a = faces_are fs groups actives ls ks 0 members f m in subst (λ (x : BodyFace). Low x.surface) (sym a.2) (face_surface fs groups actives ls ks faces a.0 a.1);
      members = λ f m.
          let a = faces_are fs groups actives ls ks 0 members f m in
          subst (λ (x : BodyFace). (y : Member) → y ∈ x.members → LowMember y) (sym a.2) (face_members fs groups actives ls ks faces a.0 a.1);
      items = λ f m.
          let a = faces_are fs groups actives ls ks 0 members f m in
          subst (λ (y : BodyFace). (xs : List Item) → xs ∈ y.loops → (x : Item) → x ∈ xs → Low x.edge) (sym a.2) (face_items fs groups actives ls ks count a.0 a.1);
      points = λ f m. let a = faces_are fs groups actives ls ks 0 members f m in subst (λ (x : BodyFace). Below 4294967296 x.points) (sym a.2) (face_points fs groups actives ls ks kept a.0 a.1);
      lumps = shell;
    }

-- THE RECORDS

face_narrow : (f : BodyFace) → Low f.surface → ((m : Member) → m ∈ f.members → LowMember m) → ((xs : List Item) → xs ∈ f.loops → (x : Item) → x ∈ xs → Low x.edge) → Below 4294967296 f.points
    → (r : Record) → r ∈ face_records f → Narrow r
unfolding face_records
face_narrow f surface members items points r m =
    ⊎_elim
    (λ e. subst Narrow (sym e) (omega arith, one_low f.surface (sense_number f.sense ∷ []) surface (one_low (sense_number f.sense) [] (sense_low f.sense) none_low)))
    (λ h. ⊎_elim
    (λ e. subst Narrow (sym e) (
      omega arith,
      λ v q.
          let b = flat_map_in member_fields f.members v q in
          let low = members b.0 b.1 in
          one_low b.0.body (b.0.source ∷ []) low.body (one_low b.0.source [] low.source none_low) v b.2,
    ))
    (λ i. ⊎_elim
    (λ k.
    let a = map_in loop_record f.loops r k in
    subst Narrow (sym a.2) (
      omega arith,
      λ v q.
          let b = flat_map_in item_fields a.0 v q in
          one_low b.0.edge (sense_number b.0.sense ∷ []) (items a.0 a.1 b.0 b.1) (one_low (sense_number b.0.sense) [] (sense_low b.0.sense) none_low) v b.2,
    ))
    (λ k.
    let a = map_in vertex_loop_record f.points r k in
    subst Narrow (sym a.2) (omega arith, one_low a.0 [] (points a.0 a.1) none_low))
    (Memᴰ.append_cases (map loop_record f.loops) i))
    (Memᴰ.cases_cons h))
    (Memᴰ.cases_cons m)

lump_narrow : (lump : List (List ℕ)) → ((shell : List ℕ) → shell ∈ lump → Below 4294967296 shell) → (r : Record) → r ∈ lump_records lump → Narrow r
unfolding lump_records
lump_narrow lump all r m =
    ⊎_elim
    (λ e. subst Narrow (sym e) (omega arith, none_low))
    (λ i. let a = map_in (λ fs. record { kind = 28; fields = fs }) lump r i in subst Narrow (sym a.2) (omega arith, all a.0 a.1))
    (Memᴰ.cases_cons m)

pub records_narrow : (b : Body) → LowBody b → (r : Record) → r ∈ body_records b → Narrow r
unfolding body_records
records_narrow b L r m =
    let S = L.totals in
    let T : Totals = b.totals in
    ⊎_elim
    (λ e. subst Narrow (sym e) (
      omega arith,
      one_low (body_kind T.solid) _ (kind_low T.solid)
          (one_low T.uses _ (omega (arith, S.uses))
          (one_low T.removed _ (omega (arith, S.removed))
          (one_low T.passed _ (omega (arith, S.passed))
          (one_low T.joins _ (omega (arith, S.joins))
          (one_low T.rings _ (omega (arith, S.rings))
          (one_low T.face_joins [] (omega (arith, S.face_joins)) none_low)))))),
    ))
    (λ i. ⊎_elim
    (λ k. let a = map_in vertex_record b.vertices r k in subst Narrow (sym a.2) (omega arith, one_low a.0 [] (L.vertices a.0 a.1) none_low))
    (λ j. ⊎_elim
    (λ k.
    let a = map_in edge_record b.edges r k in
    let e : Edge = a.0 in
    let h = L.edges e a.1 in
    subst Narrow (sym a.2) (
      omega arith,
      one_low e.curve _ h.0 (one_low (sense_number e.sense) _ (sense_low e.sense) (one_low e.start _ h.1 (one_low e.end [] h.2 none_low))),
    ))
    (λ k. ⊎_elim
    (λ q. let a = flat_map_in face_records b.faces r q in face_narrow a.0 (L.surfaces a.0 a.1) (L.members a.0 a.1) (L.items a.0 a.1) (L.points a.0 a.1) r a.2)
    (λ q. let a = flat_map_in lump_records b.lumps r q in lump_narrow a.0 (L.lumps a.0 a.1) r a.2)
    (Memᴰ.append_cases (flat_map face_records b.faces) k))
    (Memᴰ.append_cases (map edge_record b.edges) j))
    (Memᴰ.append_cases (map vertex_record b.vertices) i))
    (Memᴰ.cases_cons m)

-- THE WHOLE

module _ (rules : Rules) (job : List ℕ) (bytes : Below 256 job) (j : Job) (l : loaded job ≡ Ok j) (w : Walked) (q : walked rules j ≡ Ok w) where
  S : Settled rules j w
  S = walked_settled rules j w q

  G : Ground j w
  G = ground rules job j w l S

  L : LowJob j
  L = loaded_low job j bytes l

  -- joining starts with few edges
  pub start_few : length (unjoined j (fans_of j w)).edges ≤ 2048
  unfolding unjoined fans_of
  start_few =
      omega (
        arith,
        length-map (lower_uses w.twins w.merge.removed) (edge_data j.edges w.uses w.twins (merged_faces w.merge) w.successors (fans_of j w).fans),
        keep_length (lower_kept w.twins w.merge.removed) (below (length w.twins)),
        length_below (length w.twins),
        G.twins.size,
        G.few,
      )

  -- the merged groups are few
  pub groups_few : length w.merge.groups ≤ 256
  groups_few = omega (arith, merge_groups_length rules.table j.answers j.faces (uses_of j) w.twins w.merge S.surfaces, faces_few job j l)

  -- merged faces and fans have four bytes
  pub number_low : (f : ℕ) → Low (get_or (merged_faces w.merge) f 0)
  number_low f = omega (arith, group_numbers_within w.merge.groups f, groups_few)

  pub label_low : (h : ℕ) → Low (label_of (fan_labels j w) h)
  label_low h = omega (arith, label_within (fan_lowest j w G) h, fan_size j w G, G.few)

  fan_low : (e : Edge) (h : ℕ) → Low (fan_or_none e (fan_labels j w) h)
  fan_low e h = ⊎_elim (λ t. rw t (omega arith)) (λ t. rw t (label_low h)) (both_ways (ring e))

  -- the edges where joining starts are low
  pub start_low : LowEdges (unjoined j (fans_of j w)).edges
  unfolding unjoined fans_of edge_data
  start_low e m =
      let a = map_in (edge_for j w) (lowers w) e m in
      let h : ℕ = a.0 in
      let d : Edge = edge_of_use j.edges (use_at w.uses h) in
      let own = own_both Low (use_at w.uses h).sense _ _ (fan_low d h) (fan_low d (successor w.successors h)) in
      let x : ℕ = merged_face_of w.uses (merged_faces w.merge) h in
      let y : ℕ = merged_face_of w.uses (merged_faces w.merge) (twin_of w.twins h) in
      let low_x : Low x = number_low (face_of_use w.uses h) in
      let low_y : Low y = number_low (face_of_use w.uses (twin_of w.twins h)) in
      subst LowEdge (sym a.2) (record {
        curve = at_has (λ (d : Edge). Low d.curve) j.edges (use_at w.uses h).edge no_edge (omega arith) L.curves;
        start = own.0;
        end = own.1;
        two = refl;
        faces = one_low (min x y) (max x y ∷ []) (omega arith) (one_low (max x y) [] (omega arith) none_low);
      })

  pub starts_low : Below 4294967296 (fans_of j w).starts
  unfolding fans_of start_points
  starts_low x m =
      let a = map_in (λ u. get_or j.points _ 0) w.uses x m in
      subst Low (sym a.2) (at_has Low j.points _ 0 (omega arith) L.points)

  -- the edges where joining ends are few and low
  pub ended_few : (s : Joining) → maximal_edges j.answers (fans_of j w).starts (fans_of j w).names (length (fans_of j w).names) (unjoined j (fans_of j w)) ≡ Ok s → length s.edges ≤ 4096
  ended_few s e =
      let n : ℕ = length (unjoined j (fans_of j w)).edges in
      let c = joining_count j.answers (fans_of j w).starts (fans_of j w).names (length (fans_of j w).names) n (unjoined j (fans_of j w)) s e (omega (arith, (no_counts_lem j (fans_of j w)).0)) in
      omega (arith, c, start_few, (totals_small rules job j w l S s e).joins)

  pub ended_low : (s : Joining) → maximal_edges j.answers (fans_of j w).starts (fans_of j w).names (length (fans_of j w).names) (unjoined j (fans_of j w)) ≡ Ok s → LowEdges s.edges
  ended_low s e = joining_low j.answers (fans_of j w).starts (fans_of j w).names (length (fans_of j w).names) (unjoined j (fans_of j w)) s e start_low

  pub body_low : (x : Joined) (ss : List Shell) (ns : List Nested) → through_joining rules j ≡ Ok x → shells_of j x.fan.walk ≡ Ok ss → nested j.answers ss ≡ Ok ns
      → LowBody (body_of j x ns)
  unfolding body_of fans_of
  body_low x ss ns e f g =
      let r = through_joined rules j w x q e in
      let s : Joining = r.0 in
      let n : ℕ = length w.merge.groups in
      let each = nested_few j.answers n ss ns (shells_few j.answers j.proven w.merge.boundaries w.merge.groups ss (joined_shells rules j w x ss q e f)) g in
      subst (λ (y : Joined). LowBody (body_of j y ns)) (sym r.1)
      (solid_low (totals_of w s) j.faces w.merge.groups (fans_of j w).starts s.edges s.loops (lowest_members w.merge.groups) w.vertex_loops (lumps ns)
      (totals_small rules job j w l S s r.2)
      L.faces
      starts_low
      (ended_low s r.2)
      (ended_few s r.2)
      (kept_points j.answers j.points (merged_faces w.merge) j.loops w.vertex_loops L.points S.vertices)
      (λ lump m shell k v i. let a = (lumps_few n ns each lump m shell k).0 v i in omega (arith, a, groups_few)))

-- each number of a body that rebuilding gives for a job of bytes has four bytes
pub rebuilt_low : (rules : Rules) (job : List ℕ) (j : Job) (b : Body) → Below 256 job → loaded job ≡ Ok j → rebuild rules j ≡ Ok b → LowBody b
rebuilt_low rules job j b bytes l e =
    ⊎_elim
    (λ r. subst LowBody (sym r.1) (record {
      totals = record { uses = omega arith; removed = omega arith; passed = omega arith; joins = omega arith; rings = omega arith; face_joins = omega arith };
      vertices = none_low;
      edges = λ e m. absurd (Memᴰ.not-nil m);
      surfaces = λ f m. absurd (Memᴰ.not-nil m);
      members = λ f m. absurd (Memᴰ.not-nil m);
      items = λ f m. absurd (Memᴰ.not-nil m);
      points = λ f m. absurd (Memᴰ.not-nil m);
      lumps = λ k m. absurd (Memᴰ.not-nil m);
    }))
    (λ r.
    let p : Solid rules j b = r.1 in
    let w = joined_walks rules j p.joined p.joining in
    subst LowBody (sym p.body) (body_low rules job bytes j l w.0 w.1 p.joined p.oriented p.nests p.joining p.shells p.nesting))
    (rebuild_cases rules j b e)

-- its records have kinds of two bytes and fields of four
pub rebuilt_narrow : (rules : Rules) (job : List ℕ) (j : Job) (b : Body) → Below 256 job → loaded job ≡ Ok j → rebuild rules j ≡ Ok b → (r : Record) → r ∈ body_records b → Narrow r
rebuilt_narrow rules job j b bytes l e = records_narrow b (rebuilt_low rules job j b bytes l e)
