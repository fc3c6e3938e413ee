-- Every row of a stage of a job of bytes has the shape that docs/STAGES.md says, and every field of it is below 4,294,967,296.
use Prim.Native.Nat.{ℕ, suc, ◌+◌, ◌≤◌, ◌<◌}
use Rattle.std.proofs.Common.{arith, ◌∙◌, inl, inr, ⊎_elim, length-append, ltb-true, ltb-false}
use Rattle.std.specs.Prelude.{◌≡◌, true, eqb, ltb}
use Rattle.std.proofs.Math.Path.{refl, sym, ap, subst}
use Rattle.std.proofs.Math.Bool.{Bool}
use Rattle.std.proofs.lemmas.Bool.{false≢true}
use mathlib.Core.List.Memᴰ
use mathlib.Core.List.{List, [], ◌∷◌, map, flat_map}
use Rattle.std.proofs.Math.ListN.{length, get_or, get_or-eq_default}
use Rattle.std.proofs.lemmas.List.{length-map}
use Rattle.lists.specs.Lists.{◌∈◌, Nodup, below, keep}
use Rattle.lists.specs.Tests.{both_ways, eqb_swap}
use Rattle.lists.specs.Membership.{in_get_or, once_nodup}
use Rattle.lists.specs.Runs.{below_in, pigeon_below}
use Rattle.lists.specs.Members.{at_has, keep_in, keep_same, map_in, in_map, flat_map_in}
use Rattle.lists.specs.Counts.{keep_map_length, times_keep}
use Rattle.lists.specs.Rows.{flat_map_even}
use Rattle.rules.specs.declared.Item.{Item}
use Rattle.rules.specs.declared.Use.{Use}
use Rattle.rules.specs.declared.Edge.{Edge}
use Rattle.rules.specs.declared.EdgeData.{EdgeData}
use Rattle.rules.specs.declared.KeptVertexLoop.{KeptVertexLoop}
use Rattle.rules.specs.Outcome.{Ok}
use Rattle.rules.proofs.OutcomeLaws.{ok_one, bind_ok}
use Rattle.rules.specs.Sense.{sense_number}
use Rattle.rules.specs.Job.{Job}
use Rattle.rules.specs.Load.{loaded}
use Rattle.rules.specs.Read.{uses_of, no_use, use_at, face_of_use}
use Rattle.rules.specs.Groups.{label_of, Lowest}
use Rattle.rules.proofs.GroupLaws.{label_within}
use Rattle.rules.specs.Pair.{pair, twin_of}
use Rattle.rules.specs.declared.Rules.{Rules}
use Rattle.rules.specs.Merge.{Merged, merge_faces, merged_faces, merged_face_of}
use Rattle.rules.specs.Walk.{successor, passed_counts, loops_of}
use Rattle.rules.specs.Fans.{kept_with_ends, fan_point}
use Rattle.rules.specs.Edges.{lower_uses, edge_data, edges_of, FaceLoop, face_loop}
use Rattle.rules.specs.Join.{Joining, no_edge_data, replaced_in, join_at, ring_at}
use Rattle.rules.specs.Shells.{Shell, Nested, nested, lumps}
use Rattle.rules.specs.Body.{body_kind, item_fields}
use Rattle.rules.specs.Sew.{Walked, walks_of, walked, Fanned, fans_of, fanned, unjoined, Joined, edged, through_joining}
use Rattle.rules.specs.Sew.{shells_of}
use Rattle.rules.specs.Stage.{use_fields, group_fields, kept_fields, kept_uses, walk_fields, loop_fields, fan_fields}
use Rattle.rules.specs.Stage.{edge_fields, face_loop_fields, shell_fields, lump_shell_fields}
use Rattle.rules.specs.Rows.{read_rows, pair_rows, merge_rows, vertex_loop_rows, walk_rows, loop_rows, fan_rows, table_rows}
use Rattle.rules.specs.Rows.{edge_rows, joining_rows, shell_rows, lump_rows_from, lump_rows}
use Rattle.theorems.specs.Sound.{Sound}
use Rattle.theorems.specs.Linked.{Twins}
use Rattle.theorems.specs.Demand3.{KeptUse, Settled}
use Rattle.theorems.proofs.Loading.{loaded_sound, loaded_limits, faces_few}
use Rattle.theorems.proofs.Reading.{next_below, use_edge_below, use_face_below}
use Rattle.theorems.proofs.Pairing.{pairs_fully}
use Rattle.theorems.proofs.Connected.{boundaries_lowest}
use Rattle.theorems.proofs.Merging.{merged_lowest, merge_groups, merge_boundaries, merge_groups_length}
use Rattle.theorems.specs.Merging.{merge_grouping}
use Rattle.theorems.proofs.Merging.{merge_boundaries_length}
use Rattle.theorems.proofs.Successors.{kept_in_lem, passing_few}
use Rattle.theorems.specs.Changes.{Made}
use Rattle.theorems.proofs.Changes.{joining_keeps}
use Rattle.theorems.specs.Trails.{edge_times, LoopSound}
use Rattle.theorems.proofs.Trails.{loop_sound}
use Rattle.theorems.specs.LoopRuns.{SoundLoops}
use Rattle.theorems.specs.Ground.{Ground}
use Rattle.theorems.proofs.Ground.{ground, walked_settled, settled_uses}
use Rattle.theorems.proofs.Fanning.{fans_hold, succ_kept}
use Rattle.theorems.proofs.Edging.{edges_hold}
use Rattle.theorems.proofs.Starting.{loop_kept_lem, loop_nodup, starts_sound}
use Rattle.theorems.proofs.Reporting.{fanned_walks, edged_walks, through_joined, joined_walks, joined_shells}
use Rattle.theorems.proofs.Assembly.{no_counts_lem, joining_sound, totals_small}
use Rattle.theorems.specs.Narrow.{Below, Low, LowEdge, LowEdges, FewFaces}
use Rattle.theorems.proofs.Narrow.{one_low, none_low, sense_low, kind_low, loaded_low, kept_has}
use Rattle.theorems.proofs.Narrow.{shells_few, nested_few, lumps_few, lumps_count, start_few}
use Rattle.theorems.proofs.Narrow.{groups_few, number_low, label_low, start_low, starts_low, ended_few, ended_low}
use Rattle.theorems.specs.Shapes.{Shaped, AllShaped, Laid, Fresh}

-- ROWS OF LOW FIELDS

-- low fields, as many as they are
plain : (n : ℕ) (row : List ℕ) → length row ≡ n → Below 4294967296 row → Shaped n 0 row
plain n row e b = record { shape = omega arith; second = inl refl; fields = b }

-- two and three low fields
two_low : (a b : ℕ) → Low a → Low b → Below 4294967296 (a ∷ b ∷ [])
two_low a b h k = one_low a (b ∷ []) h (one_low b [] k none_low)

three_low : (a b c : ℕ) → Low a → Low b → Low c → Below 4294967296 (a ∷ b ∷ c ∷ [])
three_low a b c h k l = one_low a (b ∷ c ∷ []) h (two_low b c k l)

-- a number, how many others, and these
counted_shaped : (a : ℕ) (l : List ℕ) → Low a → Low (length l) → Below 4294967296 l → Shaped 2 1 (a ∷ length l ∷ l)
counted_shaped a l h k b = record { shape = omega arith; second = inr (omega arith); fields = one_low a (length l ∷ l) h (one_low (length l) l k b) }

-- a shape that the row of each member has
each_shaped : {A : Type 0} (f : A → List ℕ) (fixed counted : ℕ) (xs : List A) → ((x : A) → x ∈ xs → Shaped fixed counted (f x)) → AllShaped fixed counted (map f xs)
each_shaped f fixed counted xs each row m = let a = map_in f xs row m in subst (Shaped fixed counted) (sym a.2) (each a.0 a.1)

-- EDGES AND LOOPS

-- the edges of the kept pairs are active
edges_active : (es : List Edge) (us : List Use) (ts : List ℕ) (rm : List Bool) (numbers ss g : List ℕ) (e : EdgeData) → e ∈ edges_of es us ts rm numbers ss g → e.active ≡ true
unfolding edge_data
edges_active es us ts rm numbers ss g e m = ap (λ (d : EdgeData). d.active) (map_in (edge_data es us ts numbers ss g) (lower_uses ts rm) e m).2

-- the row of a low edge
edge_shaped : (e : EdgeData) → LowEdge e → Shaped 7 0 (edge_fields e)
edge_shaped e h =
    let front : List ℕ = e.curve ∷ sense_number e.sense ∷ e.start ∷ e.end ∷ e.faces in
    let last : List ℕ = body_kind e.active ∷ [] in
    plain 7 (edge_fields e) (omega (arith, length-append front last, h.two))
    (λ x m. ⊎_elim
    (one_low e.curve _ h.curve (one_low (sense_number e.sense) _ (sense_low e.sense) (one_low e.start _ h.start (one_low e.end e.faces h.end h.faces))) x)
    (one_low (body_kind e.active) [] (kind_low e.active) none_low x)
    (Memᴰ.append_cases front m))

-- an item of a sound loop is of an edge that is there
item_below : (es : List EdgeData) (l : List Item) → LoopSound es l → (x : Item) → x ∈ l → x.edge < length es
item_below es l S x m =
    ⊎_elim (ltb-true x.edge (length es))
    (λ t. absurd (false≢true (sym (ap (λ (e : EdgeData). e.active) (get_or-eq_default es no_edge_data (ltb-false x.edge (length es) t))) ∙ S.actives x m)))
    (both_ways (ltb x.edge (length es)))

-- a sound loop has at most as many items as there are edges
items_few : (es : List EdgeData) (l : List Item) → LoopSound es l → length l ≤ length es
items_few es l S =
    let numbers : List ℕ = map (λ (x : Item). x.edge) l in
    let once : Nodup numbers = once_nodup numbers (λ e. omega (arith, times_keep e numbers, keep_map_length (eqb e) (λ (x : Item). x.edge) l, edge_times_swap e, S.apart e)) in
    omega (
      arith,
      length-map l (λ (x : Item). x.edge),
      pigeon_below (length es) numbers once (λ n m.
          let a = map_in (λ (x : Item). x.edge) l n m in
          subst (λ k. k < length es) (sym a.2) (item_below es l S a.0 a.1)),
    )
  where
    edge_times_swap : (e : ℕ) → length (keep (λ (x : Item). eqb e x.edge) l) ≡ edge_times e l
    edge_times_swap e = ap length (keep_same (λ (x : Item). eqb e x.edge) (λ (x : Item). eqb x.edge e) l (λ x m. eqb_swap e x.edge))

-- the row of a sound loop
loop_shaped : (es : List EdgeData) (l : FaceLoop) → length es ≤ 4096 → Low l.face → LoopSound es l.items → Shaped 2 2 (face_loop_fields l)
loop_shaped es l few low S =
    let n : ℕ = length l.items in
    let fields : List ℕ = flat_map item_fields l.items in
    record {
      shape = omega (arith, flat_map_even item_fields 2 l.items (λ x. refl));
      second = inr (omega arith);
      fields = one_low l.face (n ∷ fields) low (one_low n fields (omega (arith, items_few es l.items S, few)) (λ v m.
          let a = flat_map_in item_fields l.items v m in
          two_low a.0.edge (sense_number a.0.sense) (omega (arith, item_below es l.items S a.0 a.1, few)) (sense_low a.0.sense) v a.2));
    }

-- what edges and joining write is low: the counts, the edges, the faces of the loops; and the loops are sound
record LowTable (s : Joining) : Type 0 where
  pub joins : Low s.joins
  pub rings : Low s.rings
  pub few : length s.edges ≤ 4096
  pub edges : LowEdges s.edges
  pub faces : (l : FaceLoop) → l ∈ s.loops → Low l.face
  pub loops : SoundLoops s

-- its rows are laid as docs/STAGES.md says
table_laid : (s : Joining) → LowTable s → Laid (table_rows s)
unfolding table_rows
table_laid s T = record {
  counts = s.joins ∷ s.rings ∷ length s.edges ∷ [];
  edges = map edge_fields s.edges;
  loops = map face_loop_fields s.loops;
  laid = refl;
  first = plain 3 _ refl (three_low s.joins s.rings (length s.edges) T.joins T.rings (omega (arith, T.few)));
  third = sym (length-map s.edges edge_fields);
  edge = each_shaped edge_fields 7 0 s.edges (λ e m. edge_shaped e (T.edges e m));
  loop = each_shaped face_loop_fields 2 2 s.loops (λ l m.
      loop_shaped s.edges l T.few (T.faces l m) (loop_sound s.edges (map (λ (l : FaceLoop). l.items) s.loops) T.loops l.items (in_map (λ (l : FaceLoop). l.items) m)));
}

-- a change keeps the faces of the loops
made_faces : (s t : Joining) (v : ℕ) → Made s v t → ((l : FaceLoop) → l ∈ s.loops → Low l.face) → (l : FaceLoop) → l ∈ t.loops → Low l.face
unfolding ring_at join_at replaced_in
made_faces s t v (inl r) all = subst (λ (u : Joining). (l : FaceLoop) → l ∈ u.loops → Low l.face) (sym r.after) all
made_faces s t v (inr r) all =
    subst (λ (u : Joining). (l : FaceLoop) → l ∈ u.loops → Low l.face) (sym r.after)
    (λ l m.
    let a = map_in (replaced_in s.edges v r.first r.second (length s.edges)) s.loops l m in
    subst (λ (k : FaceLoop). Low k.face) (sym a.2) (all a.0 a.1))

-- LUMPS

-- the rows of lumps numbered from n, each of shells with few faces
lump_rows_lem : (n bound : ℕ) (ls : List (List (List ℕ))) → n + length ls ≤ 4096 → bound ≤ 4096
    → ((lump : List (List ℕ)) → lump ∈ ls → (shell : List ℕ) → shell ∈ lump → FewFaces bound shell) → AllShaped 2 1 (lump_rows_from n ls)
unfolding lump_rows_from
lump_rows_lem n bound [] few small each row m = absurd (Memᴰ.not-nil m)
lump_rows_lem n bound (lump ∷ ls) few small each row m =
    let later = lump_rows_lem (suc n) bound ls (omega arith) small (λ k i. each k (Memᴰ.tail i)) row in
    ⊎_elim
    (each_shaped (lump_shell_fields n) 2 1 lump (λ shell i.
    let f = each lump (Memᴰ.head refl) shell i in
    counted_shaped n shell (omega arith) (omega (arith, f.1)) (λ v k. omega (arith, f.0 v k))) row)
    later
    (Memᴰ.append_cases (map (lump_shell_fields n) lump) m)

-- THE STAGES

module _ (rules : Rules) (job : List ℕ) (bytes : Below 256 job) (j : Job) (l : loaded job ≡ Ok j) where
  sound : Sound j
  sound = loaded_sound job j l

  -- `read`: four fields
  pub read_shaped : (rows : List (List ℕ)) → read_rows rules j ≡ Ok rows → AllShaped 4 0 rows
  unfolding read_rows
  read_shaped rows e =
      subst (AllShaped 4 0) (ok_one e) (each_shaped use_fields 4 0 (uses_of j) (λ u m.
      let r = in_get_or no_use m in
      let c = loaded_limits job j l in
      subst (λ (v : Use). Shaped 4 0 (use_fields v)) r.2
      (let v : Use = use_at (uses_of j) r.0 in
      plain 4 (use_fields v) refl
      (one_low v.edge _ (omega (arith, use_edge_below j sound r.0 r.1, c.1.edges, c.2.edges))
      (one_low v.face _ (omega (arith, use_face_below j sound r.0 r.1, faces_few job j l))
      (one_low (sense_number v.sense) _ (sense_low v.sense)
      (one_low v.next [] (omega (arith, next_below j r.0 r.1, sound.few)) none_low)))))))

  -- what pairing gives are twins
  twins_of_lem : (ts : List ℕ) → pair rules.profile j.answers (uses_of j) (length j.edges) ≡ Ok ts → Twins (uses_of j) ts
  twins_of_lem ts e = pairs_fully rules.profile j.answers (uses_of j) ts (length j.edges) (omega (arith, sound.few)) e

  -- `pair`: one field
  pub pair_shaped : (rows : List (List ℕ)) → pair_rows rules j ≡ Ok rows → AllShaped 1 0 rows
  unfolding pair_rows
  pair_shaped rows e =
      let a = bind_ok (pair rules.profile j.answers (uses_of j) (length j.edges)) _ rows e in
      let T : Twins (uses_of j) a.0 = twins_of_lem a.0 a.1 in
      subst (AllShaped 1 0) (ok_one a.2) (each_shaped (λ t. t ∷ []) 1 0 a.0 (λ x m.
      let r = in_get_or 0 m in
      let below : twin_of a.0 r.0 < length (uses_of j) = T.below r.0 (omega (arith, r.1, T.size)) in
      plain 1 (x ∷ []) refl (one_low x [] (omega (arith, below, r.2, sound.few)) none_low)))

  -- `merge`: two fields
  pub merge_shaped : (rows : List (List ℕ)) → merge_rows rules j ≡ Ok rows → AllShaped 2 0 rows
  unfolding merge_rows
  merge_shaped rows e =
      let us : List Use = uses_of j in
      let a = bind_ok (pair rules.profile j.answers us (length j.edges)) _ rows e in
      let ts : List ℕ = a.0 in
      let b = bind_ok (merge_faces rules.table j.answers j.faces us ts) _ rows a.2 in
      let m : Merged = b.0 in
      let T : Twins us ts = twins_of_lem ts a.1 in
      let face : (h : ℕ) → h < length us → face_of_use us h < length j.faces = use_face_below j sound in
      let groups : Lowest m.groups =
      merged_lowest rules.table j.answers j.faces us ts (merge_grouping m) (merge_groups rules.table j.answers j.faces us ts m b.1) face T.below in
      let boundaries : Lowest m.boundaries =
      subst Lowest (sym (merge_boundaries rules.table j.answers j.faces us ts m b.1)) (boundaries_lowest us ts (length j.faces) face T.below) in
      let few = faces_few job j l in
      subst (AllShaped 2 0) (ok_one b.2) (each_shaped (group_fields m) 2 0 (below (length j.faces)) (λ f i.
      plain 2 (group_fields m f) refl
      (two_low (label_of m.boundaries f) (label_of m.groups f)
      (omega (arith, label_within boundaries f, merge_boundaries_length rules.table j.answers j.faces us ts m b.1, few))
      (omega (arith, label_within groups f, merge_groups_length rules.table j.answers j.faces us ts m b.1, few)))))

  module _ (w : Walked) (q : walked rules j ≡ Ok w) where
    S : Settled rules j w
    S = walked_settled rules j w q

    G : Ground j w
    G = ground rules job j w l S

    -- the rows of the stages through the walks
    kept_each : AllShaped 2 0 (map kept_fields w.vertex_loops)
    kept_each =
        each_shaped kept_fields 2 0 w.vertex_loops (λ k m.
        let r = kept_has j.answers j.points (merged_faces w.merge) j.loops (λ (k : KeptVertexLoop). Low k.face × Low k.point) w.vertex_loops
        (λ f v. (number_low rules job bytes j l w q f, at_has Low j.points v 0 (omega arith) (loaded_low job j bytes l).points)) S.vertices k m in
        plain 2 (kept_fields k) refl (two_low k.face k.point r.0 r.1))

    passed_low : (h : ℕ) → h < length w.uses → Low (get_or w.passed h 0)
    unfolding walks_of
    passed_low h lt =
        let e : w.passed ≡ passed_counts w.uses w.twins w.merge.removed =
        ap (λ (x : Walked). x.passed) S.walks ∙ ap (λ (u : List Use). passed_counts u w.twins w.merge.removed) (settled_uses rules j w S) in
        omega (arith, ap (λ p. get_or p h 0) e, passing_few G.linked h lt, G.few)

    walk_each : AllShaped 3 0 (map (walk_fields w) (kept_uses w.merge.removed))
    walk_each =
        each_shaped (walk_fields w) 3 0 (kept_uses w.merge.removed) (λ h m.
        let k : KeptUse w h = kept_in_lem G.linked h m in
        plain 3 (walk_fields w h) refl
        (three_low h (successor w.successors h) (get_or w.passed h 0)
        (omega (arith, k.0, G.few)) (omega (arith, (succ_kept j w G h k).0, G.few)) (passed_low h k.0)))

    loop_each : AllShaped 2 1 (map (loop_fields w) (loops_of w.circuits))
    loop_each =
        each_shaped (loop_fields w) 2 1 (loops_of w.circuits) (λ hs m.
        let F = fans_hold j w G in
        let E = edges_hold j w G F in
        let uses : Below (length w.uses) hs = λ h i. (loop_kept_lem j w G F E hs m h i).0 in
        counted_shaped (merged_face_of w.uses (merged_faces w.merge) (get_or hs 0 0)) hs (number_low rules job bytes j l w q (face_of_use w.uses (get_or hs 0 0)))
        (omega (arith, pigeon_below (length w.uses) hs (loop_nodup j w G F E hs m) uses, G.few))
        (λ h i. omega (arith, uses h i, G.few)))

    fan_each : AllShaped 3 0 (map (fan_fields (fans_of j w)) (keep (kept_with_ends j.edges w.uses w.merge.removed) (below (length w.uses))))
    unfolding fans_of
    fan_each =
        let ended : ℕ → Bool = kept_with_ends j.edges w.uses w.merge.removed in
        each_shaped (fan_fields (fans_of j w)) 3 0 (keep ended (below (length w.uses))) (λ h m.
        plain 3 (fan_fields (fans_of j w) h) refl
        (three_low h (label_of (fans_of j w).fans h) (fan_point (fans_of j w).starts h)
        (omega (arith, below_in (length w.uses) h (keep_in ended (below (length w.uses)) h m).0, G.few))
        (label_low rules job bytes j l w q h)
        (at_has Low (fans_of j w).starts h 0 (omega arith) (starts_low rules job bytes j l w q))))

    -- where joining starts and where it ends
    start_faces : (k : FaceLoop) → k ∈ (unjoined j (fans_of j w)).loops → Low k.face
    unfolding unjoined fans_of face_loop
    start_faces k m =
        let a = map_in (face_loop w.uses w.twins w.merge.removed (merged_faces w.merge)) (loops_of w.circuits) k m in
        subst (λ (x : FaceLoop). Low x.face) (sym a.2) (number_low rules job bytes j l w q (face_of_use w.uses (get_or a.0 0 0)))

    start_table : LowTable (unjoined j (fans_of j w))
    start_table =
        let F = fans_hold j w G in
        let c = no_counts_lem j (fans_of j w) in
        record {
          joins = omega (arith, c.0);
          rings = omega (arith, c.1);
          few = omega (arith, start_few rules job bytes j l w q);
          edges = start_low rules job bytes j l w q;
          faces = start_faces;
          loops = starts_sound j w G F (edges_hold j w G F);
        }

    joined_table : (x : Joined) → through_joining rules j ≡ Ok x → LowTable x.joining
    joined_table x e =
        let r = through_joined rules j w x q e in
        let s : Joining = r.0 in
        let small = totals_small rules job j w l S s r.2 in
        subst (λ (y : Joined). LowTable y.joining) (sym r.1) (record {
          joins = omega (arith, small.joins);
          rings = omega (arith, small.rings);
          few = ended_few rules job bytes j l w q s r.2;
          edges = ended_low rules job bytes j l w q s r.2;
          faces = joining_keeps j.answers (fans_of j w).starts (fans_of j w).names (λ (u : Joining). (k : FaceLoop) → k ∈ u.loops → Low k.face) (λ x y v _. made_faces x y v)
              (length (fans_of j w).names) (unjoined j (fans_of j w)) s r.2 start_faces;
          loops = joining_sound rules job j w l S s r.2;
        })

    -- the rows of shells and of lumps
    shell_each : (ss : List Shell) → shells_of j w ≡ Ok ss → AllShaped 2 1 (map shell_fields ss)
    shell_each ss e =
        each_shaped shell_fields 2 1 ss (λ s m.
        let f = shells_few j.answers j.proven w.merge.boundaries w.merge.groups ss e s m in
        let few = groups_few rules job bytes j l w q in
        counted_shaped (body_kind s.outer) s.faces (kind_low s.outer) (omega (arith, f.1, few)) (λ v i. omega (arith, f.0 v i, few)))

    lump_each : (ss : List Shell) (ns : List Nested) → shells_of j w ≡ Ok ss → nested j.answers ss ≡ Ok ns → AllShaped 2 1 (lump_rows_from 0 (lumps ns))
    lump_each ss ns e f =
        let n : ℕ = length w.merge.groups in
        let few : n ≤ 256 = groups_few rules job bytes j l w q in
        let shell = shells_few j.answers j.proven w.merge.boundaries w.merge.groups ss e in
        let count = lumps_count j.answers j.proven w.merge.boundaries w.merge.groups ss ns e f in
        let size = merge_boundaries_length rules.table j.answers j.faces (uses_of j) w.twins w.merge S.surfaces in
        lump_rows_lem 0 n (lumps ns) (omega (arith, count, size, faces_few job j l)) (omega arith) (lumps_few n ns (nested_few j.answers n ss ns shell f))

  -- `vertex-loops`: two fields
  pub vertex_loops_shaped : (rows : List (List ℕ)) → vertex_loop_rows rules j ≡ Ok rows → AllShaped 2 0 rows
  unfolding vertex_loop_rows
  vertex_loops_shaped rows e =
      let a = bind_ok (walked rules j) _ rows e in
      subst (AllShaped 2 0) (ok_one a.2) (kept_each a.0 a.1)

  -- `walk`: three fields
  pub walk_shaped : (rows : List (List ℕ)) → walk_rows rules j ≡ Ok rows → AllShaped 3 0 rows
  unfolding walk_rows
  walk_shaped rows e =
      let a = bind_ok (walked rules j) _ rows e in
      subst (AllShaped 3 0) (ok_one a.2) (walk_each a.0 a.1)

  -- `loops`: two fields, and the uses that the second counts
  pub loops_shaped : (rows : List (List ℕ)) → loop_rows rules j ≡ Ok rows → AllShaped 2 1 rows
  unfolding loop_rows
  loops_shaped rows e =
      let a = bind_ok (walked rules j) _ rows e in
      subst (AllShaped 2 1) (ok_one a.2) (loop_each a.0 a.1)

  -- `fans`: three fields
  pub fans_shaped : (rows : List (List ℕ)) → fan_rows rules j ≡ Ok rows → AllShaped 3 0 rows
  unfolding fan_rows fans_of
  fans_shaped rows e =
      let a = bind_ok (fanned rules j) _ rows e in
      let c = fanned_walks rules j a.0 a.1 in
      subst (AllShaped 3 0) (ok_one a.2)
      (subst (λ (f : Fanned). AllShaped 3 0 (map (fan_fields f) (keep (kept_with_ends j.edges f.walk.uses f.walk.merge.removed) (below (length f.walk.uses))))) (sym c.2)
      (fan_each c.0 c.1))

  -- `edges`: counts, edges, loops
  pub edges_laid : (rows : List (List ℕ)) → edge_rows rules j ≡ Ok rows → Laid rows
  unfolding edge_rows
  edges_laid rows e =
      let a = bind_ok (edged rules j) _ rows e in
      let c = edged_walks rules j a.0 a.1 in
      subst Laid (ok_one a.2) (subst (λ (x : Joined). Laid (table_rows x.joining)) (sym c.2) (table_laid (unjoined j (fans_of j c.0)) (start_table c.0 c.1)))

  -- in `edges` the first two numbers are 0 and every edge is active
  pub edges_fresh : (rows : List (List ℕ)) → edge_rows rules j ≡ Ok rows → Fresh rows
  unfolding edge_rows table_rows unjoined fans_of
  edges_fresh rows e =
      let a = bind_ok (edged rules j) _ rows e in
      let c = edged_walks rules j a.0 a.1 in
      let s : Joining = unjoined j (fans_of j c.0) in
      record {
        edges = s.edges;
        loops = s.loops;
        rows_are = sym (ok_one a.2) ∙ ap (λ (x : Joined). table_rows x.joining) c.2;
        active = edges_active j.edges c.0.uses c.0.twins c.0.merge.removed (merged_faces c.0.merge) c.0.successors (fans_of j c.0).fans;
      }

  -- `joining`: counts, edges, loops
  pub joining_laid : (rows : List (List ℕ)) → joining_rows rules j ≡ Ok rows → Laid rows
  unfolding joining_rows
  joining_laid rows e =
      let a = bind_ok (through_joining rules j) _ rows e in
      let w = joined_walks rules j a.0 a.1 in
      subst Laid (ok_one a.2) (table_laid a.0.joining (joined_table w.0 w.1 a.0 a.1))

  -- `shells`: two fields, and the faces that the second counts
  pub shells_shaped : (rows : List (List ℕ)) → shell_rows rules j ≡ Ok rows → AllShaped 2 1 rows
  unfolding shell_rows
  shells_shaped rows e =
      let a = bind_ok (through_joining rules j) _ rows e in
      let x : Joined = a.0 in
      let b = bind_ok (shells_of j x.fan.walk) _ rows a.2 in
      let w = joined_walks rules j x a.1 in
      subst (AllShaped 2 1) (ok_one b.2) (shell_each w.0 w.1 b.0 (joined_shells rules j w.0 x b.0 w.1 a.1 b.1))

  -- `lumps`: two fields, and the faces that the second counts
  pub lumps_shaped : (rows : List (List ℕ)) → lump_rows rules j ≡ Ok rows → AllShaped 2 1 rows
  unfolding lump_rows
  lumps_shaped rows e =
      let a = bind_ok (through_joining rules j) _ rows e in
      let x : Joined = a.0 in
      let b = bind_ok (shells_of j x.fan.walk) _ rows a.2 in
      let c = bind_ok (nested j.answers b.0) _ rows b.2 in
      let w = joined_walks rules j x a.1 in
      subst (AllShaped 2 1) (ok_one c.2) (lump_each w.0 w.1 b.0 c.0 (joined_shells rules j w.0 x b.0 w.1 a.1 b.1) c.1)
