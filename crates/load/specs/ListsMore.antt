-- The job's lists as bytes, index and counts have them: the same where these agree, and with one entry more.
use Rattle.std.specs.Prelude.{ℕ, ◌+◌, ◌*◌, ◌<◌, ◌≤◌, ◌≡◌, refl, cond, get_or, eqb}
use Rattle.std.proofs.Common.{arith, sym, ◌∙◌}
use Rattle.std.proofs.Math.Path.{ap}
use mathlib.Core.List.{List, [], ◌∷◌, ◌++◌, map}
use Rattle.lists.specs.Lists.{below}
use Rattle.lists.specs.TableMore.{table_same, table_more}
use Rattle.rules.specs.declared.Counts.{Counts}
use Rattle.rules.specs.declared.Edge.{Edge}
use Rattle.rules.specs.declared.Face.{Face}
use Rattle.rules.specs.Fields.{le16, le32}
use Rattle.rules.specs.Kinds.{kind_of, number_of}
use Rattle.rules.specs.Job.{of_items, at_vertex, Loop, items_of}
use Rattle.job.specs.Lists.{point_in, points_in, edge_in, edge_place, edges_in, face_byte, loop_byte, fields_at, face_in, faces_in, loop_in, loops_in, stretch_in, stretches_in}

-- VERTICES AND EDGES

module _ (bytes : List ℕ) (c d : Counts) where
  pub points_same_lem : d.vertices ≡ c.vertices → points_in bytes d ≡ points_in bytes c
  unfolding points_in
  points_same_lem e = ap (λ n. map (point_in bytes) (below n)) e

  pub points_more : (v : ℕ) → d.vertices ≡ c.vertices + 1 → le32 bytes (16 + 10 * c.vertices) ≡ v → points_in bytes d ≡ points_in bytes c ++ (v ∷ [])
  unfolding points_in
  points_more v e q = ap (λ n. map (point_in bytes) (below n)) e ∙ table_more (point_in bytes) (point_in bytes) c.vertices v (λ i h. refl) q

  pub edges_same : d.vertices ≡ c.vertices → d.edges ≡ c.edges → edges_in bytes d ≡ edges_in bytes c
  unfolding edges_in
  edges_same p e = λ t. map (λ k. edge_in bytes (16 + 10 * p t + 22 * k)) (below (e t))

  pub edges_none : d.edges ≡ 0 → c.edges ≡ 0 → edges_in bytes d ≡ edges_in bytes c
  unfolding edges_in
  edges_none p e =
      ap (λ n. map (λ k. edge_in bytes (edge_place d k)) (below n)) p
      ∙ table_same (λ k. edge_in bytes (edge_place c k)) (λ k. edge_in bytes (edge_place d k)) 0 (λ i h. absurd (omega arith))
      ∙ ap (λ n. map (λ k. edge_in bytes (edge_place c k)) (below n)) (sym e)

  pub edges_more : (x : Edge) → d.vertices ≡ c.vertices → d.edges ≡ c.edges + 1 → edge_in bytes (edge_place c c.edges) ≡ x
      → edges_in bytes d ≡ edges_in bytes c ++ (x ∷ [])
  unfolding edges_in
  edges_more x p e q =
      (λ t. map (λ k. edge_in bytes (16 + 10 * p t + 22 * k)) (below (e t)))
      ∙ table_more (λ k. edge_in bytes (edge_place c k)) (λ k. edge_in bytes (edge_place c k)) c.edges x (λ i h. refl) q

-- FACES AND LOOPS, BY THE INDEX

-- a loop whose record stands at a byte, with its face
abbrev pub loop_by : List ℕ → ℕ → ℕ → Loop
loop_by bytes p f = record { face = f; content = cond (eqb (number_of (kind_of (le16 bytes (p + 4)))) 5) (of_items (items_of (fields_at bytes p))) (at_vertex (le32 bytes (p + 6))) }

module _ (bytes ix iy : List ℕ) (c d : Counts) where
  pub faces_same : d.faces ≡ c.faces → c.faces ≤ 256 → ((j : ℕ) → 5120 ≤ j → j < 5376 → get_or iy j 0 ≡ get_or ix j 0) → faces_in bytes iy d ≡ faces_in bytes ix c
  unfolding faces_in
  faces_same e h agree =
      ap (λ n. map (λ f. face_in bytes (face_byte iy f)) (below n)) e
      ∙ table_same (λ f. face_in bytes (face_byte ix f)) (λ f. face_in bytes (face_byte iy f)) c.faces (λ i l. ap (face_in bytes) (agree (5120 + i) (omega arith) (omega arith)))

  pub faces_more : (x : Face) → d.faces ≡ c.faces + 1 → ((f : ℕ) → f < c.faces → face_byte iy f ≡ face_byte ix f) → face_in bytes (face_byte iy c.faces) ≡ x
      → faces_in bytes iy d ≡ faces_in bytes ix c ++ (x ∷ [])
  unfolding faces_in
  faces_more x e agree q =
      ap (λ n. map (λ f. face_in bytes (face_byte iy f)) (below n)) e
      ∙ table_more (λ f. face_in bytes (face_byte ix f)) (λ f. face_in bytes (face_byte iy f)) c.faces x (λ i l. ap (face_in bytes) (agree i l)) q

  loop_agrees : (l : ℕ) → loop_byte iy l ≡ loop_byte ix l → get_or iy (6400 + l) 0 ≡ get_or ix (6400 + l) 0 → loop_in bytes iy l ≡ loop_in bytes ix l
  unfolding loop_in
  loop_agrees l p q = λ t. loop_by bytes (p t) (q t)

  stretch_agrees : (l : ℕ) → loop_byte iy l ≡ loop_byte ix l → stretch_in bytes iy l ≡ stretch_in bytes ix l
  unfolding stretch_in
  stretch_agrees l p = λ t. record { start = p t + 6; size = le32 bytes (p t) }

  pub loops_same : d.loops ≡ c.loops → c.loops ≤ 1024 → ((j : ℕ) → 5376 ≤ j → j < 7424 → get_or iy j 0 ≡ get_or ix j 0) → loops_in bytes iy d ≡ loops_in bytes ix c
  unfolding loops_in
  loops_same e h agree =
      ap (λ n. map (loop_in bytes iy) (below n)) e
      ∙ table_same (loop_in bytes ix) (loop_in bytes iy) c.loops
      (λ l k. loop_agrees l (agree (5376 + l) (omega arith) (omega arith)) (agree (6400 + l) (omega arith) (omega arith)))

  pub stretches_same : d.loops ≡ c.loops → c.loops ≤ 1024 → ((j : ℕ) → 5376 ≤ j → j < 7424 → get_or iy j 0 ≡ get_or ix j 0)
      → stretches_in bytes iy d ≡ stretches_in bytes ix c
  unfolding stretches_in
  stretches_same e h agree =
      ap (λ n. map (stretch_in bytes iy) (below n)) e
      ∙ table_same (stretch_in bytes ix) (stretch_in bytes iy) c.loops (λ l k. stretch_agrees l (agree (5376 + l) (omega arith) (omega arith)))

  module _ (e : d.loops ≡ c.loops + 1) (places : (l : ℕ) → l < c.loops → loop_byte iy l ≡ loop_byte ix l) where
    pub loops_more : (at face : ℕ) → ((l : ℕ) → l < c.loops → get_or iy (6400 + l) 0 ≡ get_or ix (6400 + l) 0)
        → loop_byte iy c.loops ≡ at → get_or iy (6400 + c.loops) 0 ≡ face → loops_in bytes iy d ≡ loops_in bytes ix c ++ (loop_by bytes at face ∷ [])
    unfolding loops_in loop_in
    loops_more at face owners p q =
        ap (λ n. map (loop_in bytes iy) (below n)) e
        ∙ table_more (loop_in bytes ix) (loop_in bytes iy) c.loops (loop_by bytes at face)
        (λ l k. loop_agrees l (places l k) (owners l k)) (λ t. loop_by bytes (p t) (q t))

    pub stretches_more : (at : ℕ) → loop_byte iy c.loops ≡ at
        → stretches_in bytes iy d ≡ stretches_in bytes ix c ++ (record { start = at + 6; size = le32 bytes at } ∷ [])
    unfolding stretches_in stretch_in
    stretches_more at p =
        ap (λ n. map (stretch_in bytes iy) (below n)) e
        ∙ table_more (stretch_in bytes ix) (stretch_in bytes iy) c.loops (record { start = at + 6; size = le32 bytes at })
        (λ l k. stretch_agrees l (places l k)) (λ t. record { start = p t + 6; size = le32 bytes (p t) })
