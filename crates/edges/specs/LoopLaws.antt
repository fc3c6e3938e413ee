-- The loops as items: what the tables of items, stretches and faces stand for.
use Rattle.std.specs.Prelude.{ℕ, ◌+◌, ◌*◌, ◌/◌, ◌%◌, ◌<◌, min, ◌≡◌, refl, List, [], map, Bool, length, get_or}
use Rattle.std.proofs.Common.{arith, sym, ap, subst, ◌∙◌}
use Rattle.std.proofs.lemmas.List.{length-map}
use Rattle.std.proofs.lemmas.Simd.{map-map}
use Rattle.fields.specs.declared.Span.{Span}
use Rattle.fields.specs.Spans.{span_at}
use Rattle.lists.specs.Lists.{below, ◌∈◌, index_of}
use Rattle.lists.specs.Runs.{below_in, length_table, get_or_table}
use Rattle.lists.specs.Members.{in_map, map_same, get_or_map}
use Rattle.lists.specs.Stretches.{stretch_map}
use Rattle.lists.specs.Tables.{table_is}
use Rattle.rules.specs.declared.Sense.{Sense}
use Rattle.rules.specs.declared.Sense.TheVariants.{Same, Reversed}
use Rattle.rules.specs.declared.Use.{Use}
use Rattle.rules.specs.Sense.{sense_of, sense_number}
use Rattle.rules.specs.Read.{use_at}
use Rattle.rules.specs.Pair.{twin_of}
use Rattle.rules.specs.Edges.{lower_uses, item_of, FaceLoop, face_loop, face_loops}
use Rattle.edges.specs.Table.{item_in, item_code, loop_at, loop_face, faces_of, face_loop_at, face_loops_in}

-- ITEMS

-- the item that stands for edge e in a sense
pub item_is : (e : ℕ) (s : Sense) → item_in (2 * e + sense_number s) ≡ record { edge = e; sense = s }
item_is e Same = let p : (2 * e + 0) / 2 ≡ e = omega arith in let q : (2 * e + 0) % 2 ≡ 0 = omega arith in λ i. record { edge = p i; sense = sense_of (q i) }
item_is e Reversed = let p : (2 * e + 1) / 2 ≡ e = omega arith in let q : (2 * e + 1) % 2 ≡ 1 = omega arith in λ i. record { edge = p i; sense = sense_of (q i) }

-- a use's number stands for its item
pub item_code_lem : (us : List Use) (ts lowers owns : List ℕ) (h : ℕ) → get_or owns h 0 ≡ index_of (min h (twin_of ts h)) lowers → item_in (item_code us owns h) ≡ item_of us ts lowers h
unfolding item_code item_of
item_code_lem us ts lowers owns h e = item_is (get_or owns h 0) (use_at us h).sense ∙ (λ i. record { edge = e i; sense = (use_at us h).sense })

-- uses made items, where each number is that of the use's edge
pub items_are : (us : List Use) (ts lowers owns l : List ℕ) → ((h : ℕ) → h ∈ l → get_or owns h 0 ≡ index_of (min h (twin_of ts h)) lowers)
    → map item_in (map (item_code us owns) l) ≡ map (item_of us ts lowers) l
items_are us ts lowers owns l owners =
    map-map item_in (item_code us owns) l ∙ map_same (λ h. item_in (item_code us owns h)) (item_of us ts lowers) l (λ h m. item_code_lem us ts lowers owns h (owners h m))

-- LOOPS

-- uses made items in their places, with the faces of the first uses: the loops of the definition
pub face_loops_lem : (us : List Use) (ts : List ℕ) (rm : List Bool) (numbers owns ways : List ℕ) (stretches : List Span) (n : ℕ) (loops : List (List ℕ))
    → map (λ k. loop_at ways (span_at stretches k)) (below n) ≡ loops
    → ((l : List ℕ) → l ∈ loops → (h : ℕ) → h ∈ l → get_or owns h 0 ≡ index_of (min h (twin_of ts h)) (lower_uses ts rm))
    → face_loops_in (map (item_code us owns) ways) stretches (map (loop_face us numbers ways stretches) (below n)) ≡ face_loops us ts rm numbers loops
unfolding face_loops_in face_loop
face_loops_lem us ts rm numbers owns ways stretches n loops e owners =
    ap (λ m. map loop (below m)) (length_table (loop_face us numbers ways stretches) n)
    ∙ map_same loop (λ k. face_loop us ts rm numbers (way k)) (below n)
    (λ k i.
    let b : k < n = below_in n k i in
    λ j. record {
      face = get_or_table (loop_face us numbers ways stretches) n k 0 b j;
      items =
          (ap (map item_in) (stretch_map (item_code us owns) ways (span_at stretches k).start (span_at stretches k).end)
          ∙ items_are us ts (lower_uses ts rm) owns (way k) (owners (way k) (subst (λ r. way k ∈ r) e (in_map way i))))
          j;
    })
    ∙ sym (map-map (face_loop us ts rm numbers) way (below n)) ∙ ap (map (face_loop us ts rm numbers)) e
  where
    way : ℕ → List ℕ
    way k = loop_at ways (span_at stretches k)

    loop : ℕ → FaceLoop
    loop k = record { face = get_or (map (loop_face us numbers ways stretches) (below n)) k 0; items = map item_in (loop_at (map (item_code us owns) ways) (span_at stretches k)) }

-- ONE LOOP

module _ (items : List ℕ) (stretches : List Span) (faces : List ℕ) where
  pub loops_length : length (face_loops_in items stretches faces) ≡ length faces
  unfolding face_loops_in
  loops_length = length_table (λ k. record { face = get_or faces k 0; items = map item_in (loop_at items (span_at stretches k)) }) (length faces)

  pub faces_are : faces ≡ faces_of (face_loops_in items stretches faces)
  unfolding face_loops_in
  faces_are =
      table_is (λ k. get_or faces k 0) faces (length faces) 0 refl (λ i h. refl)
      ∙ sym (map-map (λ (l : FaceLoop). l.face) (λ k. record { face = get_or faces k 0; items = map item_in (loop_at items (span_at stretches k)) }) (below (length faces)))

  pub loop_is : (k : ℕ) → k < length faces → face_loop_at (face_loops_in items stretches faces) k ≡ record { face = get_or faces k 0; items = map item_in (loop_at items (span_at stretches k)) }
  unfolding face_loops_in
  loop_is k b = get_or_table (λ k. record { face = get_or faces k 0; items = map item_in (loop_at items (span_at stretches k)) }) (length faces) k (record { face = 0; items = [] }) b

-- as many faces as loops
pub faces_count : (loops : List FaceLoop) {faces : List ℕ} → faces ≡ faces_of loops → length faces ≡ length loops
faces_count loops e = ap length e ∙ length-map loops (λ (l : FaceLoop). l.face)

-- the merged face of loop k, as it stands in a table of the faces
pub face_at : (loops : List FaceLoop) {faces : List ℕ} (k : ℕ) → faces ≡ faces_of loops → k < length faces → get_or faces k 0 ≡ (face_loop_at loops k).face
face_at loops k e h = ap (λ l. get_or l k 0) e ∙ get_or_map (λ (l : FaceLoop). l.face) loops k 0 (record { face = 0; items = [] }) (omega (arith, h, faces_count loops e))
