-- The records of each stage as rows: docs/STAGES.md's "A record for each", with the fields of the record in order. A stage
-- writes its rows one after the other; a program prints a line for each.
use Rattle.std.specs.Prelude.{ℕ, suc, length, Option, Some, None}
use mathlib.Core.List.{List, [], ◌∷◌, ◌++◌, flat_map, map}
use Rattle.lists.specs.Lists.{below, keep}
use Rattle.rules.specs.declared.Stage.{Stage}
use Rattle.rules.specs.declared.Stage.TheVariants.{Read, Pair, Merge, VertexLoops, Walk, Loops, Fans, Edges, Joining as JoiningStage, Shells, Lumps}
use Rattle.rules.specs.Outcome.{Outcome, Ok, ◌>>=◌, Err}
use Rattle.rules.specs.Fields.{field_bytes}
use Rattle.rules.specs.Job.{Job}
use Rattle.rules.specs.Load.{loaded}
use Rattle.rules.specs.Read.{uses_of}
use Rattle.rules.specs.Pair.{pair}
use Rattle.rules.specs.declared.Rules.{Rules}
use Rattle.rules.specs.Rules.{with_table, table_of}
use Rattle.rules.specs.Merge.{merge_faces}
use Rattle.rules.specs.Walk.{loops_of}
use Rattle.rules.specs.Fans.{kept_with_ends}
use Rattle.rules.specs.Join.{Joining}
use Rattle.rules.specs.Shells.{nested, lumps}
use Rattle.rules.specs.Sew.{walked, fanned, edged, through_joining, shells_of, fitting}
use Rattle.rules.specs.Stage.{use_fields, group_fields, kept_fields, kept_uses, walk_fields, loop_fields, fan_fields, edge_fields, face_loop_fields, shell_fields, lump_shell_fields}
use Rattle.rules.specs.Listing.{decimal, field_text, listing_of}

-- THE ROWS

-- `read`: use, ascending
unfoldable pub read_rows : Rules → Job → Outcome (List (List ℕ))
read_rows rules j = Ok (map use_fields (uses_of j))

-- `pair`: use, ascending
unfoldable pub pair_rows : Rules → Job → Outcome (List (List ℕ))
pair_rows rules j = pair rules.profile j.answers (uses_of j) (length j.edges) >>= λ ts. Ok (map (λ t. t ∷ []) ts)

-- `merge`: selected face, ascending
unfoldable pub merge_rows : Rules → Job → Outcome (List (List ℕ))
merge_rows rules j =
    pair rules.profile j.answers (uses_of j) (length j.edges) >>= λ ts.
    merge_faces rules.table j.answers j.faces (uses_of j) ts >>= λ m.
    Ok (map (group_fields m) (below (length j.faces)))

-- `vertex-loops`: kept vertex loop, in the order kept
unfoldable pub vertex_loop_rows : Rules → Job → Outcome (List (List ℕ))
vertex_loop_rows rules j = walked rules j >>= λ w. Ok (map kept_fields w.vertex_loops)

-- `walk`: kept use, ascending
unfoldable pub walk_rows : Rules → Job → Outcome (List (List ℕ))
walk_rows rules j = walked rules j >>= λ w. Ok (map (walk_fields w) (kept_uses w.merge.removed))

-- `loops`: loop, by ascending start
unfoldable pub loop_rows : Rules → Job → Outcome (List (List ℕ))
loop_rows rules j = walked rules j >>= λ w. Ok (map (loop_fields w) (loops_of w.circuits))

-- `fans`: kept use with ends, ascending
unfoldable pub fan_rows : Rules → Job → Outcome (List (List ℕ))
fan_rows rules j = fanned rules j >>= λ f.
    let w = f.walk in
    Ok (map (fan_fields f) (keep (kept_with_ends j.edges w.uses w.merge.removed) (below (length w.uses))))

-- `edges` and `joining`: one record of three numbers, a record for each edge by its number, a record for each loop
unfoldable pub table_rows : Joining → List (List ℕ)
table_rows s = (s.joins ∷ s.rings ∷ length s.edges ∷ []) ∷ (map edge_fields s.edges ++ map face_loop_fields s.loops)

-- `edges`: the edges and loops as they are before joining
unfoldable pub edge_rows : Rules → Job → Outcome (List (List ℕ))
edge_rows rules j = edged rules j >>= λ x. Ok (table_rows x.joining)

-- `joining`: the edges and loops as joining leaves them
unfoldable pub joining_rows : Rules → Job → Outcome (List (List ℕ))
joining_rows rules j = through_joining rules j >>= λ x. Ok (table_rows x.joining)

-- `shells`: shell, by ascending lowest face
unfoldable pub shell_rows : Rules → Job → Outcome (List (List ℕ))
shell_rows rules j = through_joining rules j >>= λ x.
    shells_of j x.fan.walk >>= λ ss.
    Ok (map shell_fields ss)

-- the shells of some lumps, lump after lump, each with its lump's number, which is n for the first lump
unfoldable pub lump_rows_from : ℕ → List (List (List ℕ)) → List (List ℕ)
lump_rows_from n [] = []
lump_rows_from n (lump ∷ more) = map (lump_shell_fields n) lump ++ lump_rows_from (suc n) more

-- `lumps`: shell, lumps by outer shell and the voids of a lump after its outer shell
unfoldable pub lump_rows : Rules → Job → Outcome (List (List ℕ))
lump_rows rules j = through_joining rules j >>= λ x.
    shells_of j x.fan.walk >>= λ ss.
    nested j.answers ss >>= λ ns.
    Ok (lump_rows_from 0 (lumps ns))

-- THE LINES

-- the rows of a stage where they fit an output of so many bytes
unfoldable pub staged_rows : (Rules → Job → Outcome (List (List ℕ))) → Rules → List ℕ → ℕ → Outcome (List (List ℕ))
staged_rows rows_of rules job room = loaded job >>= λ j. rows_of rules j >>= λ rows.
    fitting room (flat_map field_bytes rows) >>= λ _.
    Ok rows

-- a row in decimal, with a blank between two fields
unfoldable pub row_text : List ℕ → List ℕ
row_text [] = 10 ∷ []
row_text (f ∷ fs) = decimal f ++ (flat_map field_text fs ++ (10 ∷ []))

-- a line for each row, or `refused` with number and place
abbrev pub rows_listing : Outcome (List (List ℕ)) → List ℕ
rows_listing (Ok rows) = flat_map row_text rows
rows_listing (Err refusal) = listing_of (Err refusal)

-- the rows of each stage
abbrev pub rows_of : Stage → Rules → Job → Outcome (List (List ℕ))
rows_of Read = read_rows
rows_of Pair = pair_rows
rows_of Merge = merge_rows
rows_of VertexLoops = vertex_loop_rows
rows_of Walk = walk_rows
rows_of Loops = loop_rows
rows_of Fans = fan_rows
rows_of Edges = edge_rows
rows_of JoiningStage = joining_rows
rows_of Shells = shell_rows
rows_of Lumps = lump_rows

-- the lines of a stage; none where there is no stage
unfoldable pub stage_listing : Option Stage → Rules → List ℕ → ℕ → List ℕ
stage_listing None rules job room = []
stage_listing (Some stage) rules job room = rows_listing (staged_rows (rows_of stage) rules job room)

-- the rows of the walk stage with a joining table
unfoldable pub walk_rows_with_table : List ℕ → List ℕ → ℕ → Outcome (List (List ℕ))
walk_rows_with_table table job room = table_of table >>= λ t. staged_rows walk_rows (with_table t) job room

-- the lines of the walk stage with a joining table
abbrev pub walk_listing_with_table : List ℕ → List ℕ → ℕ → List ℕ
walk_listing_with_table table job room = rows_listing (walk_rows_with_table table job room)
