-- The lines of a stage of a job of bytes are those of its rows, as docs/STAGES.md has them.
use Rattle.std.specs.Prelude.{ℕ, ◌*◌, ◌<◌, ◌≤◌, ◌≡◌, refl, length, take, drop, leb, Option, Some, None}
use Rattle.std.proofs.Common.{arith, sym, ap, subst, ◌∙◌, ⊎_elim, length-append, take_at, leb-true}
use mathlib.Core.List.Memᴰ
use mathlib.Core.List.{List, [], ◌∷◌, flat_map}
use Rattle.lists.specs.Lists.{◌∈◌}
use Rattle.rules.specs.declared.Fault.TheVariants.{NoRoom}
use Rattle.rules.specs.Outcome.{Outcome, Ok, Err}
use Rattle.rules.proofs.OutcomeLaws.{ok_one, bind_ok, need_ok}
use Rattle.rules.specs.Fields.{field_bytes}
use Rattle.rules.specs.Job.{Job}
use Rattle.rules.specs.Load.{loaded}
use Rattle.rules.specs.declared.Rules.{Rules}
use Rattle.rules.specs.Rules.{ordinary}
use Rattle.rules.specs.Sew.{fitting, Ends}
use Rattle.rules.specs.Rows.{read_rows, pair_rows, merge_rows, vertex_loop_rows, walk_rows, loop_rows, fan_rows, edge_rows}
use Rattle.rules.specs.Rows.{joining_rows as joined_rows, shell_rows, lump_rows, staged_rows, row_text, rows_listing}
use Rattle.rules.specs.Rows.{stage_listing}
use Rattle.rules.specs.declared.Stage.{Stage}
use Rattle.rules.specs.declared.Stage.TheVariants.{Read, Pair, Merge, VertexLoops, Walk, Loops, Fans, Edges, Joining, Shells, Lumps}
use Rattle.rules.specs.Operation.{operation}
use Rattle.fields.specs.Wrote.{Wrote, wrote_as, wrote_none}
use Rattle.fields.specs.Tabled.{length_field_bytes}
use Rattle.theorems.specs.Narrow.{Below}
use Rattle.theorems.specs.Shapes.{Shaped, AllShaped, Laid}
use Rattle.theorems.proofs.Shapes.{read_shaped, pair_shaped, merge_shaped, vertex_loops_shaped, walk_shaped}
use Rattle.theorems.proofs.Shapes.{loops_shaped, fans_shaped, edges_laid, joining_laid, shells_shaped, lumps_shaped}
use Rattle.lines.specs.Text.{rows_in, joining_rows, stage_rows, stage_text}
use Rattle.lines.specs.Exact.{rows_back, Printed, prints}
use Rattle.lines.specs.Room.{row_eleven, refusal_short}
use Rattle.lines.specs.StageBytes.{row_bytes, read_bytes, pair_bytes, merge_bytes, vertex_loop_bytes, walk_bytes, loop_bytes, fan_bytes_lem, edge_bytes, joining_bytes, shell_bytes_lem, lump_bytes}
use Rattle.lines.specs.StageBytes.{laid_back}

-- ROWS THAT FIT AND ARE READ BACK

-- the rows of a stage in so many bytes: they are read back, none is empty, each field has four bytes, and their bytes fit
pub record Held (stage : Stage) (room : ℕ) (rows : List (List ℕ)) : Type 0 where
  pub back : stage_rows stage (flat_map field_bytes rows) ≡ rows
  pub some : (row : List ℕ) → row ∈ rows → 0 < length row
  pub low : (row : List ℕ) → row ∈ rows → Below 4294967296 row
  pub within : length (flat_map field_bytes rows) ≤ room

-- an outcome of such rows
abbrev pub AllHeld : Stage → ℕ → Outcome (List (List ℕ)) → Type 0
AllHeld stage room (Ok rows) = Held stage room rows
AllHeld stage room (Err refusal) = Unit {0}

-- rows of one shape
pub shaped_held : (stage : Stage) (room fixed counted : ℕ) (rows : List (List ℕ)) → 0 < fixed → rows_in fixed counted (flat_map field_bytes rows) ≡ stage_rows stage (flat_map field_bytes rows)
    → length (flat_map field_bytes rows) ≤ room → AllShaped fixed counted rows → Held stage room rows
shaped_held stage room fixed counted rows h e le each = record {
  back = sym e ∙ rows_back fixed counted rows h each;
  some = λ row m. omega (arith, (each row m).shape, h);
  low = λ row m. (each row m).fields;
  within = le;
}

-- the rows of edges and joining
laid_held : (stage : Stage) (room : ℕ) (rows : List (List ℕ)) → joining_rows (flat_map field_bytes rows) ≡ stage_rows stage (flat_map field_bytes rows)
    → length (flat_map field_bytes rows) ≤ room → Laid rows → Held stage room rows
laid_held stage room rows e le L = record {
  back = sym e ∙ laid_back rows L;
  some = λ row m. each (λ r. 0 < length r) (λ f c r h S. omega (arith, S.shape, h)) row m;
  low = λ row m. each (Below 4294967296) (λ f c r h S. S.fields) row m;
  within = le;
}
  where
    each : (P : List ℕ → Type 0) → ((fixed counted : ℕ) (row : List ℕ) → 0 < fixed → Shaped fixed counted row → P row) → (row : List ℕ) → row ∈ rows → P row
    each P of row m =
        ⊎_elim
        (λ q. subst P (sym q) (of 3 0 L.counts (omega arith) L.first))
        (λ i. ⊎_elim (λ k. of 7 0 row (omega arith) (L.edge row k)) (λ k. of 2 2 row (omega arith) (L.loop row k)) (Memᴰ.append_cases L.edges i))
        (Memᴰ.cases_cons (subst (λ l. row ∈ l) L.laid m))

-- what holds of the rows of every loaded job whose bytes fit holds of the outcome
pub held_by : (rules : Rules) (stage : Stage) (rows_of : Rules → Job → Outcome (List (List ℕ))) (job : List ℕ) (room : ℕ)
    → ((j : Job) (rows : List (List ℕ)) → loaded job ≡ Ok j → rows_of rules j ≡ Ok rows → length (flat_map field_bytes rows) ≤ room → Held stage room rows)
    → AllHeld stage room (staged_rows rows_of rules job room)
unfolding staged_rows
held_by rules stage rows_of job room each = go (staged_rows rows_of rules job room) refl
  where
    go : (o : Outcome (List (List ℕ))) → staged_rows rows_of rules job room ≡ o → AllHeld stage room o
    go (Err r) e = tt
    go (Ok rows) e =
        let a = bind_ok (loaded job) _ rows e in
        let b = bind_ok (rows_of rules a.0) _ rows a.2 in
        let bytes : List ℕ = flat_map field_bytes b.0 in
        let c = bind_ok (fitting room bytes) (λ _. Ok b.0) rows b.2 in
        let n = need_ok (leb (length bytes) room) NoRoom (length bytes) (Ok bytes) c.0 c.1 in
        subst (Held stage room) (ok_one c.2) (each a.0 b.0 a.1 b.1 (leb-true (length bytes) room n.0))

-- EVERY STAGE

-- what is known of a stage: its rows or refusal, that these are listed, that it writes their bytes, and that they are read back
pub record Known (stage : Stage) (job : List ℕ) (room : ℕ) : Type 0 where
  pub rows : Outcome (List (List ℕ))
  pub lines : stage_listing (Some stage) ordinary job room ≡ rows_listing rows
  pub bytes : operation (Some stage) job room ≡ row_bytes rows
  pub held : AllHeld stage room rows

-- every stage, of a job of bytes
pub stage_known : (stage : Stage) → (job : List ℕ) → Below 256 job → (room : ℕ) → Known stage job room
unfolding stage_listing stage_rows
stage_known Read job b room = record {
  rows = staged_rows read_rows ordinary job room;
  lines = refl;
  bytes = read_bytes ordinary job room;
  held = held_by ordinary Read read_rows job room (λ j rows l e le. shaped_held Read room 4 0 rows (omega arith) refl le (read_shaped ordinary job b j l rows e));
}
stage_known Pair job b room = record {
  rows = staged_rows pair_rows ordinary job room;
  lines = refl;
  bytes = pair_bytes ordinary job room;
  held = held_by ordinary Pair pair_rows job room (λ j rows l e le. shaped_held Pair room 1 0 rows (omega arith) refl le (pair_shaped ordinary job b j l rows e));
}
stage_known Merge job b room = record {
  rows = staged_rows merge_rows ordinary job room;
  lines = refl;
  bytes = merge_bytes ordinary job room;
  held = held_by ordinary Merge merge_rows job room (λ j rows l e le. shaped_held Merge room 2 0 rows (omega arith) refl le (merge_shaped ordinary job b j l rows e));
}
stage_known VertexLoops job b room = record {
  rows = staged_rows vertex_loop_rows ordinary job room;
  lines = refl;
  bytes = vertex_loop_bytes ordinary job room;
  held = held_by ordinary VertexLoops vertex_loop_rows job room (λ j rows l e le. shaped_held VertexLoops room 2 0 rows (omega arith) refl le (vertex_loops_shaped ordinary job b j l rows e));
}
stage_known Walk job b room = record {
  rows = staged_rows walk_rows ordinary job room;
  lines = refl;
  bytes = walk_bytes ordinary job room;
  held = held_by ordinary Walk walk_rows job room (λ j rows l e le. shaped_held Walk room 3 0 rows (omega arith) refl le (walk_shaped ordinary job b j l rows e));
}
stage_known Loops job b room = record {
  rows = staged_rows loop_rows ordinary job room;
  lines = refl;
  bytes = loop_bytes ordinary job room;
  held = held_by ordinary Loops loop_rows job room (λ j rows l e le. shaped_held Loops room 2 1 rows (omega arith) refl le (loops_shaped ordinary job b j l rows e));
}
stage_known Fans job b room = record {
  rows = staged_rows fan_rows ordinary job room;
  lines = refl;
  bytes = fan_bytes_lem ordinary job room;
  held = held_by ordinary Fans fan_rows job room (λ j rows l e le. shaped_held Fans room 3 0 rows (omega arith) refl le (fans_shaped ordinary job b j l rows e));
}
stage_known Edges job b room = record {
  rows = staged_rows edge_rows ordinary job room;
  lines = refl;
  bytes = edge_bytes ordinary job room;
  held = held_by ordinary Edges edge_rows job room (λ j rows l e le. laid_held Edges room rows refl le (edges_laid ordinary job b j l rows e));
}
stage_known Joining job b room = record {
  rows = staged_rows joined_rows ordinary job room;
  lines = refl;
  bytes = joining_bytes ordinary job room;
  held = held_by ordinary Joining joined_rows job room (λ j rows l e le. laid_held Joining room rows refl le (joining_laid ordinary job b j l rows e));
}
stage_known Shells job b room = record {
  rows = staged_rows shell_rows ordinary job room;
  lines = refl;
  bytes = shell_bytes_lem ordinary job room;
  held = held_by ordinary Shells shell_rows job room (λ j rows l e le. shaped_held Shells room 2 1 rows (omega arith) refl le (shells_shaped ordinary job b j l rows e));
}
stage_known Lumps job b room = record {
  rows = staged_rows lump_rows ordinary job room;
  lines = refl;
  bytes = lump_bytes ordinary job room;
  held = held_by ordinary Lumps lump_rows job room (λ j rows l e le. shaped_held Lumps room 2 1 rows (omega arith) refl le (lumps_shaped ordinary job b j l rows e));
}

-- WHAT IS SHOWN

-- the text of an answer whose rows are read back
pub held_text : (stage : Stage) (room : ℕ) (o : Outcome (List (List ℕ))) (before after : List ℕ) (e : Outcome ℕ) → AllHeld stage room o
    → Ends (row_bytes o) before after e → stage_text stage after e ≡ rows_listing o
held_text stage room (Ok rows) before after e H E =
    let bytes : List ℕ = flat_map field_bytes rows in
    ap (stage_text stage after) E.0 ∙ ap (λ l. flat_map row_text (stage_rows stage (take (length bytes) l))) E.1
    ∙ ap (λ l. flat_map row_text (stage_rows stage l)) (take_at bytes (drop (length bytes) before) (length bytes) refl) ∙ ap (flat_map row_text) H.back
held_text stage room (Err r) before after e H E = ap (stage_text stage after) E.0

-- what an output shows of a stage's answer is the stage's listing
pub stage_text_lem : (stage : Stage) (job before after : List ℕ) (e : Outcome ℕ) → Below 256 job → Ends (operation (Some stage) job (length before)) before after e
    → stage_text stage after e ≡ stage_listing (Some stage) ordinary job (length before)
stage_text_lem stage job before after e b E =
    let K = stage_known stage job b (length before) in
    held_text stage (length before) K.rows before after e K.held (subst (λ o. Ends o before after e) K.bytes E) ∙ sym K.lines

-- eleven characters a field
rows_eleven : (rows : List (List ℕ)) → ((row : List ℕ) → row ∈ rows → 0 < length row) → ((row : List ℕ) → row ∈ rows → Below 4294967296 row)
    → 4 * length (flat_map row_text rows) ≤ 11 * length (flat_map field_bytes rows)
unfolding flat_map
rows_eleven [] some low = omega arith
rows_eleven (row ∷ rows) some low =
    omega (
      arith,
      length-append (row_text row) (flat_map row_text rows),
      length-append (field_bytes row) (flat_map field_bytes rows),
      row_eleven row (low row (Memᴰ.head refl)) (some row (Memᴰ.head refl)),
      length_field_bytes row,
      rows_eleven rows (λ r m. some r (Memᴰ.tail m)) (λ r m. low r (Memᴰ.tail m)),
    )

-- rows of 131,072 bytes, or a refusal
pub held_small : (stage : Stage) (o : Outcome (List (List ℕ))) → AllHeld stage 131072 o → length (rows_listing o) ≤ 360448
held_small stage (Ok rows) H = omega (arith, rows_eleven rows H.some H.low, H.within)
held_small stage (Err r) H = omega (arith, refusal_short r)

-- with 131,072 bytes of output the lines of a stage have at most 360,448 characters
pub stage_small : (stage : Stage) (job : List ℕ) → Below 256 job → length (stage_listing (Some stage) ordinary job 131072) ≤ 360448
stage_small stage job b = let K = stage_known stage job b 131072 in omega (arith, ap length K.lines, held_small stage K.rows K.held)

-- what a stage makes of an output; where there is no stage, it stays
abbrev pub StagedInto : Option Stage → List ℕ → List ℕ → List ℕ → Type 0
StagedInto None job before after = after ≡ before
StagedInto (Some stage) job before after = (e : Outcome ℕ) × Ends (operation (Some stage) job (length before)) before after e

-- where there is no stage, an output that stays is as it must be
pub stays : (job before : List ℕ) → StagedInto None job before before
stays job before = refl

-- a page on which a stage's lines were put: the place after the text, which is at most 360,448, and the whole text where the page has room
abbrev pub StageLists : Option Stage → List ℕ → List ℕ → List ℕ → ℕ → Type 0
StageLists stage job page printed r = Printed (stage_listing stage ordinary job 131072) page printed 360448 r

-- the lines of a stage are put as its listing says
pub lists_stage : (stage : Stage) (job before after page printed : List ℕ) (q : ℕ) (e : Outcome ℕ) → Below 256 job → length before ≡ 131072
    → Ends (operation (Some stage) job (length before)) before after e → Wrote page 0 (stage_text stage after e) printed q → StageLists (Some stage) job page printed q
lists_stage stage job before after page printed q e b n E w =
    let text : List ℕ = stage_listing (Some stage) ordinary job 131072 in
    let is : stage_text stage after e ≡ text = stage_text_lem stage job before after e b E ∙ ap (stage_listing (Some stage) ordinary job) n in
    prints text page printed 360448 q (wrote_as page printed (stage_text stage after e) text 0 q is w) (stage_small stage job b)

-- nothing is put where there is no stage
pub lists_none : (job page : List ℕ) → StageLists None job page page 0
unfolding stage_listing
lists_none job page = prints [] page page 360448 0 (wrote_none page 0) (omega arith)
