-- Loading, one record: the invariant that each record taken keeps.
use Rattle.std.specs.Prelude.{ℕ, ◌+◌, ◌*◌, ◌-◌, ◌/◌, ◌≤◌, ◌<◌, true, false, List, [], ◌∷◌, ◌++◌, ltb, leb}
use Rattle.std.proofs.Common.{arith, ◌∙◌}
use Rattle.std.proofs.Math.Path.{◌≡◌, refl, sym, subst}
use Rattle.std.proofs.lemmas.Bool.{false≢true}
use mathlib.Core.List.Memᴰ
use Rattle.std.proofs.Math.ListN.{length}
use borrow.Author.Tests.{eqb-true, ltb-true, ltb-false, leb-false}
use Rattle.lists.specs.Lists.{◌∈◌}
use Rattle.lists.specs.Tests.{or_none, and_both}
use Rattle.lists.specs.Sums.{sum_append, sum_one}
use Rattle.lists.specs.Tables.{snoc_each, length_snoc}
use Rattle.lists.specs.OneMore.{snoc_members}
use Rattle.rules.specs.declared.Kind.{Kind}
use Rattle.rules.specs.declared.Kind.TheVariants.{Unknown, Head, Vertex, EdgeRecord, FaceRecord, LoopRecord, VertexLoop}
use Rattle.rules.specs.declared.Kind.TheVariants.{Radial, Surface, Points, Curves, Singular, Orientation, Inside}
use Rattle.rules.specs.declared.Counts.{Counts}
use Rattle.rules.specs.declared.Item.{Item}
use Rattle.rules.specs.Fields.{field}
use Rattle.rules.specs.Job.{of_items, at_vertex, Loop, Stretch, Answer, Job, no_edge, edge_at, items_of}
use Rattle.rules.specs.Kinds.{number_of, part_of, right_position, limit_passed, ends_permitted, fields_permitted}
use Rattle.rules.specs.Load.{jointed, counted, edge_of, face_of, loop_of, answer_of, extended, selected_before, right_joints}
use Rattle.rules.specs.Read.{content_items, uses_of}
use Rattle.theorems.specs.Sound.{EndsExist}
use Rattle.theorems.specs.Reading.{items_in}
use Rattle.theorems.proofs.Reading.{uses_length}
use Rattle.theorems.proofs.Permitted.{items_of_length, items_exist, ends_exist, ends_more, in_turn_lem}
use Rattle.theorems.proofs.Selected.{distinct_more}
use Rattle.theorems.specs.Fit.{Fit, Taken}

-- one record more of each kind
module _ (at : ℕ) (x : List ℕ) (c : Counts) (j : Job) (F : Fit c j) where
  -- no loop stands before part 4
  no_loop : c.part < 4 → (l : Loop) → l ∈ j.loops → ⊥
  no_loop early l m = omega (arith, F.late l m)

  fit_head : Taken Head x c j → Fit (counted Head (length x) c) (extended Head at x j)
  unfolding counted extended number_of part_of right_position
  fit_head t =
      let p : c.part ≡ 0 = eqb-true c.part 0 t.position in
      let C = F.counted in
      let L = F.limited in
      let S = F.sound in
      record {
        counted = record { vertices = C.vertices; edges = C.edges; faces = C.faces; loops = C.loops; stretches = C.stretches; uses = C.uses; answers = C.answers };
        limited = record { vertices = L.vertices; edges = L.edges; faces = L.faces; loops = L.loops; uses = L.uses; answers = L.answers };
        sound = record { ends = S.ends; face = S.face; items = S.items; joints = S.joints; vertex = S.vertex; few = S.few; distinct = S.distinct };
        late = λ l m. absurd (no_loop (omega arith) l m);
        faced = λ (e : ◌≡◌ {A = ℕ} 1 4). absurd (omega arith);
      }

  fit_vertex : Taken Vertex x c j → Fit (counted Vertex (length x) c) (extended Vertex at x j)
  unfolding counted extended number_of part_of right_position limit_passed
  fit_vertex t =
      let p = in_turn_lem c.part 2 t.position in
      let early : c.part < 4 = omega (arith, p.1) in
      let room : c.vertices < 1024 = leb-false 1024 c.vertices t.limit in
      let more = length_snoc j.points (field x 0) in
      let C = F.counted in
      let L = F.limited in
      let S = F.sound in
      record {
        counted = record {
          vertices = omega (arith, C.vertices, more);
          edges = C.edges;
          faces = C.faces;
          loops = C.loops;
          stretches = C.stretches;
          uses = C.uses;
          answers = C.answers;
        };
        limited = record { vertices = omega arith; edges = L.edges; faces = L.faces; loops = L.loops; uses = L.uses; answers = L.answers };
        sound = record {
          ends = λ e h. subst (λ n. EndsExist n (edge_at j.edges e)) (sym more) (ends_more (length j.points) (edge_at j.edges e) (S.ends e h));
          face = S.face;
          items = S.items;
          joints = λ l xs m. absurd (no_loop early l m);
          vertex = λ l v m. absurd (no_loop early l m);
          few = S.few;
          distinct = S.distinct;
        };
        late = λ l m. absurd (no_loop early l m);
        faced = λ (e : ◌≡◌ {A = ℕ} 2 4). absurd (omega arith);
      }

  fit_edge : Taken EdgeRecord x c j → Fit (counted EdgeRecord (length x) c) (extended EdgeRecord at x j)
  unfolding counted extended number_of part_of right_position limit_passed fields_permitted
  fit_edge t =
      let p = in_turn_lem c.part 3 t.position in
      let early : c.part < 4 = omega (arith, p.1) in
      let room : c.edges < 1024 = leb-false 1024 c.edges t.limit in
      let more = length_snoc j.edges (edge_of x) in
      let q = and_both (leb (field x 1) 1) (ends_permitted c.vertices (field x 2) (field x 3)) t.permitted in
      let C = F.counted in
      let L = F.limited in
      let S = F.sound in
      record {
        counted = record {
          vertices = C.vertices;
          edges = omega (arith, C.edges, more);
          faces = C.faces;
          loops = C.loops;
          stretches = C.stretches;
          uses = C.uses;
          answers = C.answers;
        };
        limited = record { vertices = L.vertices; edges = omega arith; faces = L.faces; loops = L.loops; uses = L.uses; answers = L.answers };
        sound = record {
          ends = snoc_each (λ e. EndsExist (length j.points)) j.edges (edge_of x) no_edge S.ends
              (subst (λ n. EndsExist n (edge_of x)) C.vertices (ends_exist c.vertices (edge_of x) q.1));
          face = S.face;
          items = λ l m. absurd (no_loop early l m);
          joints = λ l xs m. absurd (no_loop early l m);
          vertex = S.vertex;
          few = S.few;
          distinct = S.distinct;
        };
        late = λ l m. absurd (no_loop early l m);
        faced = λ (e : ◌≡◌ {A = ℕ} 3 4). absurd (omega arith);
      }

  fit_face : Taken FaceRecord x c j → Fit (counted FaceRecord (length x) c) (extended FaceRecord at x j)
  unfolding counted extended number_of part_of right_position limit_passed selected_before
  fit_face t =
      let room : c.faces < 256 = leb-false 256 c.faces t.limit in
      let more = length_snoc j.faces (face_of x) in
      let uses : length (uses_of (extended FaceRecord at x j)) ≡ length (uses_of j) = uses_length (extended FaceRecord at x j) ∙ sym (uses_length j) in
      let C = F.counted in
      let L = F.limited in
      let S = F.sound in
      record {
        counted = record {
          vertices = C.vertices;
          edges = C.edges;
          faces = omega (arith, C.faces, more);
          loops = C.loops;
          stretches = C.stretches;
          uses = C.uses ∙ sym uses;
          answers = C.answers;
        };
        limited = record { vertices = L.vertices; edges = L.edges; faces = omega arith; loops = L.loops; uses = L.uses; answers = L.answers };
        sound = record {
          ends = S.ends;
          face = λ l m. omega (arith, S.face l m, more);
          items = S.items;
          joints = S.joints;
          vertex = S.vertex;
          few = subst (λ n. n ≤ 2048) (sym uses) S.few;
          distinct = distinct_more j.faces (face_of x) S.distinct t.new;
        };
        late = λ l m. omega arith;
        faced = λ e. omega (arith, more);
      }

  -- the job with a loop more
  abbrev with_loop : Loop → Stretch → Job
  with_loop l s = record {
    proven = j.proven;
    points = j.points;
    edges = j.edges;
    faces = j.faces;
    loops = j.loops ++ (l ∷ []);
    stretches = j.stretches ++ (s ∷ []);
    answers = j.answers;
  }

  -- a loop more, of the latest face
  one_loop : (l : Loop) (s : Stretch) (uses : ℕ) → uses ≡ c.uses + items_in l → uses ≤ 2048 → c.loops < 1024 → c.part ≡ 4
      → l.face ≡ length j.faces - 1
      → ((i : Item) → i ∈ content_items l.content → i.edge < length j.edges)
      → ((xs : List Item) → l.content ≡ of_items xs → jointed j.points j.edges xs ≡ true)
      → ((v : ℕ) → l.content ≡ at_vertex v → v < length j.points)
      → Fit
      (record { part = 4; vertices = c.vertices; edges = c.edges; faces = c.faces; loops = c.loops + 1; uses = uses; answers = c.answers })
      (with_loop l s)
  one_loop l s uses total few room part face items joints vertex =
      let C = F.counted in
      let L = F.limited in
      let S = F.sound in
      let some : 1 ≤ length j.faces = F.faced part in
      let sum = uses_length (with_loop l s) in
      let count : uses ≡ length (uses_of (with_loop l s)) = omega (arith, total, C.uses, uses_length j, sum, sum_append items_in j.loops (l ∷ []), sum_one items_in l) in
      record {
        counted = record {
          vertices = C.vertices;
          edges = C.edges;
          faces = C.faces;
          loops = omega (arith, C.loops, length_snoc j.loops l);
          stretches = omega (arith, C.stretches, length_snoc j.stretches s);
          uses = count;
          answers = C.answers;
        };
        limited = record { vertices = L.vertices; edges = L.edges; faces = L.faces; loops = omega arith; uses = few; answers = L.answers };
        sound = record {
          ends = S.ends;
          face = snoc_members (λ (l : Loop). l.face < length j.faces) j.loops l S.face (omega (arith, face, some));
          items = snoc_members (λ (l : Loop). (x : Item) → x ∈ content_items l.content → x.edge < length j.edges) j.loops l S.items items;
          joints = λ k xs m.
              snoc_members (λ (l : Loop). (xs : List Item) → l.content ≡ of_items xs → jointed j.points j.edges xs ≡ true) j.loops l
              (λ k m xs. S.joints k xs m) joints k m xs;
          vertex = λ k v m.
              snoc_members (λ (l : Loop). (v : ℕ) → l.content ≡ at_vertex v → v < length j.points) j.loops l
              (λ k m v. S.vertex k v m) vertex k m v;
          few = omega (arith, few, count);
          distinct = S.distinct;
        };
        late = λ k m. omega arith;
        faced = λ e. some;
      }

  fit_loop : Taken LoopRecord x c j → Fit (counted LoopRecord (length x) c) (extended LoopRecord at x j)
  unfolding counted extended number_of part_of right_position limit_passed fields_permitted right_joints
  fit_loop t =
      let limits = or_none (leb 1024 c.loops) (ltb 2048 (c.uses + length x / 2)) t.limit in
      one_loop (loop_of LoopRecord (length j.faces - 1) x) (record { start = at + 6; size = 4 * length x }) (c.uses + length x / 2)
      (omega (arith, items_of_length x)) (ltb-false 2048 (c.uses + length x / 2) limits.1) (leb-false 1024 c.loops limits.0)
      (eqb-true c.part 4 t.position) refl
      (λ i m. subst (λ n. i.edge < n) F.counted.edges (items_exist c.edges x t.permitted i m))
      (λ xs e. let q : items_of x ≡ xs = cc in subst (λ ys. jointed j.points j.edges ys ≡ true) q t.joints)
      (λ v e. let z : ◌≡◌ {A = ℕ} 0 1 = cc in absurd (omega arith))

  fit_vertex_loop : Taken VertexLoop x c j → Fit (counted VertexLoop (length x) c) (extended VertexLoop at x j)
  unfolding counted extended number_of part_of right_position limit_passed fields_permitted
  fit_vertex_loop t =
      one_loop (loop_of VertexLoop (length j.faces - 1) x) (record { start = at + 6; size = 4 * length x }) c.uses
      (omega arith) F.limited.uses (leb-false 1024 c.loops t.limit) (eqb-true c.part 4 t.position) refl
      (λ i m. absurd (Memᴰ.not-nil m))
      (λ xs e. let z : ◌≡◌ {A = ℕ} 0 1 = cc in absurd (omega arith))
      (λ v e. let q : field x 0 ≡ v = cc in omega (arith, q, ltb-true (field x 0) c.vertices t.permitted, F.counted.vertices))

  -- an answer more
  one_answer : (a : Answer) → leb 2048 c.answers ≡ false
      → Fit
      (record { part = 5; vertices = c.vertices; edges = c.edges; faces = c.faces; loops = c.loops; uses = c.uses; answers = c.answers + 1 })
      (record {
        proven = j.proven;
        points = j.points;
        edges = j.edges;
        faces = j.faces;
        loops = j.loops;
        stretches = j.stretches;
        answers = j.answers ++ (a ∷ []);
      })
  one_answer a limit =
      let room : c.answers < 2048 = leb-false 2048 c.answers limit in
      let C = F.counted in
      let L = F.limited in
      let S = F.sound in
      record {
        counted = record {
          vertices = C.vertices;
          edges = C.edges;
          faces = C.faces;
          loops = C.loops;
          stretches = C.stretches;
          uses = C.uses;
          answers = omega (arith, C.answers, length_snoc j.answers a);
        };
        limited = record { vertices = L.vertices; edges = L.edges; faces = L.faces; loops = L.loops; uses = L.uses; answers = omega arith };
        sound = record { ends = S.ends; face = S.face; items = S.items; joints = S.joints; vertex = S.vertex; few = S.few; distinct = S.distinct };
        late = λ l m. omega arith;
        faced = λ (e : ◌≡◌ {A = ℕ} 5 4). absurd (omega arith);
      }

-- a record that is taken keeps the invariant
pub fit_kept : (k : Kind) (at : ℕ) (x : List ℕ) (c : Counts) (j : Job) → Fit c j → Taken k x c j → Fit (counted k (length x) c) (extended k at x j)
unfolding counted extended number_of part_of right_position limit_passed
fit_kept Unknown at x c j F t = absurd (false≢true t.position)
fit_kept Head at x c j F t = fit_head at x c j F t
fit_kept Vertex at x c j F t = fit_vertex at x c j F t
fit_kept EdgeRecord at x c j F t = fit_edge at x c j F t
fit_kept FaceRecord at x c j F t = fit_face at x c j F t
fit_kept LoopRecord at x c j F t = fit_loop at x c j F t
fit_kept VertexLoop at x c j F t = fit_vertex_loop at x c j F t
fit_kept Radial at x c j F t = one_answer at x c j F (answer_of Radial x) t.limit
fit_kept Surface at x c j F t = one_answer at x c j F (answer_of Surface x) t.limit
fit_kept Points at x c j F t = one_answer at x c j F (answer_of Points x) t.limit
fit_kept Curves at x c j F t = one_answer at x c j F (answer_of Curves x) t.limit
fit_kept Singular at x c j F t = one_answer at x c j F (answer_of Singular x) t.limit
fit_kept Orientation at x c j F t = one_answer at x c j F (answer_of Orientation x) t.limit
fit_kept Inside at x c j F t = one_answer at x c j F (answer_of Inside x) t.limit
