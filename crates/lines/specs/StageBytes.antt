-- The bytes that a stage writes are those of its rows, and the rows are read back from them.
use Rattle.std.specs.Prelude.{ℕ, suc, ◌*◌, ◌≡◌, refl, Bool, true, false, length, take, drop, leb}
use Rattle.std.proofs.Common.{arith, sym, subst, ◌∙◌, take_at, drop_at}
use Rattle.std.proofs.Math.Path.{ap}
use mathlib.Core.List.Memᴰ
use mathlib.Core.List.{List, [], ◌∷◌, ◌++◌, flat_map, map, append-nil}
use Rattle.lists.specs.Lists.{below, keep}
use Rattle.lists.specs.Members.{flat_map_append}
use Rattle.lists.specs.Rows.{flat_map_each, flat_map_single}
use Rattle.rules.specs.Outcome.{Outcome, Ok, ◌>>=◌, need, Err}
use Rattle.rules.proofs.OutcomeLaws.{bind_then, bind_same}
use Rattle.rules.specs.Fields.{le32, fields_in, field, bytes32, field_bytes}
use Rattle.rules.proofs.FieldLaws.{field_in}
use Rattle.rules.specs.Job.{Job}
use Rattle.rules.specs.Load.{loaded}
use Rattle.rules.specs.Read.{uses_of}
use Rattle.rules.specs.Pair.{pair}
use Rattle.rules.specs.declared.Rules.{Rules}
use Rattle.rules.specs.Merge.{merge_faces}
use Rattle.rules.specs.Walk.{loops_of}
use Rattle.rules.specs.Fans.{kept_with_ends}
use Rattle.rules.specs.Join.{Joining}
use Rattle.rules.specs.Shells.{nested, lumps}
use Rattle.rules.specs.Sew.{walked, fanned, edged, through_joining, shells_of, fitting}
use Rattle.rules.specs.Stage.{use_fields, group_fields, kept_fields, kept_uses, walk_fields, loop_fields, fan_fields, edge_fields}
use Rattle.rules.specs.Stage.{face_loop_fields, joining_fields, shell_fields, lump_shell_fields, lump_fields}
use Rattle.rules.specs.Stage.{stage_bytes, read_stage, pair_stage, merge_stage, vertex_loop_stage, walk_stage, loop_stage, fan_stage, edge_stage, joining_stage, shell_stage, lump_stage}
use Rattle.rules.specs.Rows.{read_rows, pair_rows, merge_rows, vertex_loop_rows, walk_rows, loop_rows, fan_rows, table_rows, edge_rows}
use Rattle.rules.specs.Rows.{joining_rows as joined_rows, shell_rows, lump_rows_from, lump_rows, staged_rows}
use Rattle.fields.specs.Tabled.{length_field_bytes}
use Rattle.theorems.specs.Shapes.{Shaped, Laid}
use Rattle.lines.specs.Text.{rows_in, joining_rows}
use Rattle.lines.specs.Exact.{fields_back, rows_back, bytes_by_rows}
use Rattle.rules.specs.declared.Fault.TheVariants.{NoRoom}

-- THE BYTES OF A STAGE

-- the bytes of an outcome's rows
abbrev pub row_bytes : Outcome (List (List ℕ)) → Outcome (List ℕ)
row_bytes (Ok rows) = Ok (flat_map field_bytes rows)
row_bytes (Err refusal) = Err refusal

-- the bytes of rows, where they fit
abbrev fitted : ℕ → List (List ℕ) → Outcome (List ℕ)
fitted room rows = fitting room (flat_map field_bytes rows)

-- the test of 40 passes rows and bytes alike
fit_bytes : (rows : List (List ℕ)) (t : Bool) (n : ℕ) → need t NoRoom n (Ok (flat_map field_bytes rows)) ≡ row_bytes (need t NoRoom n (Ok (flat_map field_bytes rows)) >>= λ _. Ok rows)
unfolding need
fit_bytes rows true n = refl
fit_bytes rows false n = refl

-- a stage that puts the bytes of a job's rows one after the other
staged_bytes : (f : List ℕ → ℕ → Outcome (List ℕ)) (rows_of : Rules → Job → Outcome (List (List ℕ))) (rules : Rules) (job : List ℕ) (room : ℕ)
    → f job room ≡ (loaded job >>= λ j. rows_of rules j >>= fitted room) → f job room ≡ row_bytes (staged_rows rows_of rules job room)
unfolding staged_rows
staged_bytes f rows_of rules job room e = e ∙ from_job (loaded job)
  where
    from_rows : (o : Outcome (List (List ℕ))) → (o >>= fitted room) ≡ row_bytes (o >>= λ rows. fitted room rows >>= λ _. Ok rows)
    from_rows (Ok rows) = fit_bytes rows (leb (length (flat_map field_bytes rows)) room) (length (flat_map field_bytes rows))
    from_rows (Err r) = refl

    from_job : (o : Outcome Job) → (o >>= λ j. rows_of rules j >>= fitted room) ≡ row_bytes (o >>= λ j. rows_of rules j >>= λ rows. fitted room rows >>= λ _. Ok rows)
    from_job (Ok j) = from_rows (rows_of rules j)
    from_job (Err r) = refl

-- the fields of one row for each member
each_fits : {A : Type 0} (room : ℕ) (f : A → List ℕ) (xs : List A) → stage_bytes room (flat_map f xs) ≡ fitted room (map f xs)
each_fits room f xs = ap (fitting room) (bytes_by_rows f xs)

-- the fields of edges and joining, row by row
table_fits : (room : ℕ) (s : Joining) → stage_bytes room (joining_fields s) ≡ fitted room (table_rows s)
unfolding table_rows flat_map
table_fits room s =
    let counts : List ℕ = s.joins ∷ s.rings ∷ length s.edges ∷ [] in
    let a : List ℕ = flat_map edge_fields s.edges in
    let b : List ℕ = flat_map face_loop_fields s.loops in
    ap (fitting room)
    (flat_map_append bytes32 counts (a ++ b)
    ∙ ap (λ l. field_bytes counts ++ l)
    (flat_map_append bytes32 a b ∙ (λ i. bytes_by_rows edge_fields s.edges i ++ bytes_by_rows face_loop_fields s.loops i)
    ∙ sym (flat_map_append field_bytes (map edge_fields s.edges) (map face_loop_fields s.loops))))

-- the fields of lumps, row by row
lump_fields_lem : (n : ℕ) (ls : List (List (List ℕ))) → field_bytes (lump_fields n ls) ≡ flat_map field_bytes (lump_rows_from n ls)
unfolding lump_fields lump_rows_from flat_map
lump_fields_lem n [] = refl
lump_fields_lem n (lump ∷ ls) =
    flat_map_append bytes32 (flat_map (lump_shell_fields n) lump) (lump_fields (suc n) ls)
    ∙ (λ i. bytes_by_rows (lump_shell_fields n) lump i ++ lump_fields_lem (suc n) ls i)
    ∙ sym (flat_map_append field_bytes (map (lump_shell_fields n) lump) (lump_rows_from (suc n) ls))

module _ (rules : Rules) (job : List ℕ) (room : ℕ) where
  -- what each stage writes are the bytes of its rows
  pub read_bytes : read_stage job room ≡ row_bytes (staged_rows read_rows rules job room)
  unfolding read_stage read_rows
  read_bytes = staged_bytes read_stage read_rows rules job room (bind_same (loaded job) _ _ (λ j. each_fits room use_fields (uses_of j)))

  pub pair_bytes : pair_stage rules job room ≡ row_bytes (staged_rows pair_rows rules job room)
  unfolding pair_stage pair_rows
  pair_bytes =
      staged_bytes (pair_stage rules) pair_rows rules job room (bind_same (loaded job) _ _ (λ j.
      bind_then (pair rules.profile j.answers (uses_of j) (length j.edges)) _ _ (stage_bytes room)
      (λ ts. ap (stage_bytes room) (sym (flat_map_single ts)) ∙ each_fits room (λ t. t ∷ []) ts)))

  pub merge_bytes : merge_stage rules job room ≡ row_bytes (staged_rows merge_rows rules job room)
  unfolding merge_stage merge_rows
  merge_bytes =
      staged_bytes (merge_stage rules) merge_rows rules job room (bind_same (loaded job) _ _ (λ j.
      bind_then (pair rules.profile j.answers (uses_of j) (length j.edges)) _ _ _ (λ ts.
      bind_then (merge_faces rules.table j.answers j.faces (uses_of j) ts) _ _ _ (λ m.
      each_fits room (group_fields m) (below (length j.faces))))))

  pub vertex_loop_bytes : vertex_loop_stage rules job room ≡ row_bytes (staged_rows vertex_loop_rows rules job room)
  unfolding vertex_loop_stage vertex_loop_rows
  vertex_loop_bytes =
      staged_bytes (vertex_loop_stage rules) vertex_loop_rows rules job room (bind_same (loaded job) _ _ (λ j.
      bind_then (walked rules j) _ _ _ (λ w. each_fits room kept_fields w.vertex_loops)))

  pub walk_bytes : walk_stage rules job room ≡ row_bytes (staged_rows walk_rows rules job room)
  unfolding walk_stage walk_rows
  walk_bytes =
      staged_bytes (walk_stage rules) walk_rows rules job room (bind_same (loaded job) _ _ (λ j.
      bind_then (walked rules j) _ _ _ (λ w. each_fits room (walk_fields w) (kept_uses w.merge.removed))))

  pub loop_bytes : loop_stage rules job room ≡ row_bytes (staged_rows loop_rows rules job room)
  unfolding loop_stage loop_rows
  loop_bytes =
      staged_bytes (loop_stage rules) loop_rows rules job room (bind_same (loaded job) _ _ (λ j.
      bind_then (walked rules j) _ _ _ (λ w. each_fits room (loop_fields w) (loops_of w.circuits))))

  pub fan_bytes_lem : fan_stage rules job room ≡ row_bytes (staged_rows fan_rows rules job room)
  unfolding fan_stage fan_rows
  fan_bytes_lem =
      staged_bytes (fan_stage rules) fan_rows rules job room (bind_same (loaded job) _ _ (λ j.
      bind_then (fanned rules j) _ _ _ (λ f.
      each_fits room (fan_fields f) (keep (kept_with_ends j.edges f.walk.uses f.walk.merge.removed) (below (length f.walk.uses))))))

  pub edge_bytes : edge_stage rules job room ≡ row_bytes (staged_rows edge_rows rules job room)
  unfolding edge_stage edge_rows
  edge_bytes =
      staged_bytes (edge_stage rules) edge_rows rules job room (bind_same (loaded job) _ _ (λ j. bind_then (edged rules j) _ _ _ (λ x. table_fits room x.joining)))

  pub joining_bytes : joining_stage rules job room ≡ row_bytes (staged_rows joined_rows rules job room)
  unfolding joining_stage joined_rows
  joining_bytes =
      staged_bytes (joining_stage rules) joined_rows rules job room (bind_same (loaded job) _ _ (λ j. bind_then (through_joining rules j) _ _ _ (λ x. table_fits room x.joining)))

  pub shell_bytes_lem : shell_stage rules job room ≡ row_bytes (staged_rows shell_rows rules job room)
  unfolding shell_stage shell_rows
  shell_bytes_lem =
      staged_bytes (shell_stage rules) shell_rows rules job room (bind_same (loaded job) _ _ (λ j.
      bind_then (through_joining rules j) _ _ _ (λ x.
      bind_then (shells_of j x.fan.walk) _ _ _ (λ ss. each_fits room shell_fields ss))))

  pub lump_bytes : lump_stage rules job room ≡ row_bytes (staged_rows lump_rows rules job room)
  unfolding lump_stage lump_rows
  lump_bytes =
      staged_bytes (lump_stage rules) lump_rows rules job room (bind_same (loaded job) _ _ (λ j.
      bind_then (through_joining rules j) _ _ _ (λ x.
      bind_then (shells_of j x.fan.walk) _ _ _ (λ ss.
      bind_then (nested j.answers ss) _ _ _ (λ ns. ap (fitting room) (lump_fields_lem 0 (lumps ns)))))))

-- THE ROWS READ BACK

-- the rows of edges and joining are read back from their bytes
pub laid_back : (rows : List (List ℕ)) → Laid rows → joining_rows (flat_map field_bytes rows) ≡ rows
unfolding joining_rows flat_map
laid_back rows L =
    let c : List ℕ = L.counts in
    let es : List (List ℕ) = L.edges in
    let ls : List (List ℕ) = L.loops in
    let x : List ℕ = field_bytes c in
    let y : List ℕ = flat_map field_bytes es in
    let z : List ℕ = flat_map field_bytes ls in
    let three : length c ≡ 3 = omega (arith, L.first.shape) in
    let front : length x ≡ 12 = omega (arith, length_field_bytes c, three) in
    let all : flat_map field_bytes rows ≡ x ++ (y ++ z) = ap (flat_map field_bytes) L.laid ∙ ap (λ l. x ++ l) (flat_map_append field_bytes es ls) in
    let third : le32 (x ++ (y ++ z)) 8 ≡ length es =
    sym (field_in 3 (x ++ (y ++ z)) 0 2 (omega arith)) ∙ ap (λ n. field (fields_in n (x ++ (y ++ z))) 2) (sym three) ∙ ap (λ l. field l 2) (fields_back c (y ++ z) L.first.fields) ∙ L.third in
    let end : length y ≡ 28 * length es =
    flat_map_each field_bytes 28 es (λ row m. let e = length_field_bytes row in let s = (L.edge row m).shape in omega arith) in
    let rest : drop 12 (x ++ (y ++ z)) ≡ y ++ z = drop_at x (y ++ z) 12 front in
    ap joining_rows all
    ∙ (λ i. rows_in 3 0 (take_at x (y ++ z) 12 front i) ++ rows_in 7 0 (take (28 * third i) (rest i)) ++ rows_in 2 2 (drop (28 * third i) (rest i)))
    ∙ (λ i. rows_in 3 0 (sym (append-nil x) i) ++ rows_in 7 0 (take_at y z (28 * length es) end i) ++ rows_in 2 2 (drop_at y z (28 * length es) end i))
    ∙ (λ i.
    rows_back 3 0 (c ∷ []) (omega arith) (λ r m. subst (Shaped 3 0) (sym (Memᴰ.eq_of_singleton m)) L.first) i
    ++ rows_back 7 0 es (omega arith) L.edge i
    ++ rows_back 2 2 ls (omega arith) L.loop i)
    ∙ sym L.laid
