-- The text of an answer, from the bytes that the output holds: the lines of a body's records and of a stage's rows.
use Rattle.std.specs.Prelude.{ℕ, ◌+◌, ◌*◌, ◌/◌, cond, take, drop, eqb, ltb, Option}
use Rattle.std.specs.List.{find}
use mathlib.Core.List.{List, [], ◌∷◌, ◌++◌, flat_map}
use Rattle.lists.specs.Lists.{same}
use Rattle.rules.specs.declared.Stage.{Stage}
use Rattle.rules.specs.declared.Stage.TheVariants.{Read, Pair, Merge, VertexLoops, Walk, Loops, Fans, Edges, Joining, Shells, Lumps}
use Rattle.rules.specs.Operation.{all_stages}
use Rattle.rules.specs.Outcome.{Outcome, Ok, Err}
use Rattle.rules.specs.Fields.{le16, le32, fields_in}
use Rattle.rules.specs.Frame.{Record}
use Rattle.rules.specs.Listing.{field_text, vertex_text, listing_of}
use Rattle.rules.specs.Rows.{row_text}
use Rattle.lines.specs.Cut.{cut_all}

-- the text of fields: as many as are plain are numbers, the others vertices
abbrev pub parted_text : ℕ → List ℕ → List ℕ
parted_text plain fs = flat_map field_text (take plain fs) ++ flat_map vertex_text (drop plain fs)

-- how many of a record's fields are no vertices: of an edge's the first two
unfoldable pub plain_of : ℕ → ℕ → ℕ
plain_of kind n = cond (eqb kind 23) (cond (ltb 2 n) 2 n) n

-- THE RECORDS OF A BODY

-- the record at the front, and the bytes that it takes
unfoldable pub record_at : List ℕ → Record
record_at rest = record { kind = le16 rest 4; fields = fields_in (le32 rest 0 / 4) (drop 6 rest) }

unfoldable pub record_size : List ℕ → ℕ
record_size rest = 6 + le32 rest 0

abbrev pub records_in : List ℕ → List Record
records_in bytes = cut_all record_at record_size bytes

-- the answer of sewing as records, by its ending and the output
abbrev pub recorded : List ℕ → Outcome ℕ → Outcome (List Record)
recorded out (Ok n) = Ok (records_in (take n out))
recorded out (Err refusal) = Err refusal

-- THE ROWS OF A STAGE

-- how many fields the row at the front has: `fixed`, and `counted` more for each that its second field counts
unfoldable pub row_length : ℕ → ℕ → List ℕ → ℕ
row_length fixed counted rest = fixed + counted * le32 rest 4

abbrev pub row_at : ℕ → ℕ → List ℕ → List ℕ
row_at fixed counted rest = fields_in (row_length fixed counted rest) rest

abbrev pub row_size : ℕ → ℕ → List ℕ → ℕ
row_size fixed counted rest = 4 * row_length fixed counted rest

abbrev pub rows_in : ℕ → ℕ → List ℕ → List (List ℕ)
rows_in fixed counted bytes = cut_all (row_at fixed counted) (row_size fixed counted) bytes

-- edges and joining: a row of three counts, so many edges of seven fields as the third counts, then the loops
unfoldable pub joining_rows : List ℕ → List (List ℕ)
joining_rows bytes =
    let rest = drop 12 bytes in
    let end = 28 * le32 bytes 8 in
    rows_in 3 0 (take 12 bytes) ++ rows_in 7 0 (take end rest) ++ rows_in 2 2 (drop end rest)

-- a stage's rows, by how many fields each has and how many more its second one counts
unfoldable pub stage_rows : Stage → List ℕ → List (List ℕ)
stage_rows Read bytes = rows_in 4 0 bytes
stage_rows Pair bytes = rows_in 1 0 bytes
stage_rows Merge bytes = rows_in 2 0 bytes
stage_rows VertexLoops bytes = rows_in 2 0 bytes
stage_rows Walk bytes = rows_in 3 0 bytes
stage_rows Loops bytes = rows_in 2 1 bytes
stage_rows Fans bytes = rows_in 3 0 bytes
stage_rows Edges bytes = joining_rows bytes
stage_rows Joining bytes = joining_rows bytes
stage_rows Shells bytes = rows_in 2 1 bytes
stage_rows Lumps bytes = rows_in 2 1 bytes

-- the answer of a stage as text, by its ending and the output
abbrev pub stage_text : Stage → List ℕ → Outcome ℕ → List ℕ
stage_text stage out (Ok n) = flat_map row_text (stage_rows stage (take n out))
stage_text stage out (Err refusal) = listing_of (Err refusal)

-- THE NAMES OF THE STAGES

-- read, pair, merge, vertex-loops, walk, loops, fans, edges, joining, shells, lumps
unfoldable pub stage_name : Stage → List ℕ
stage_name Read = 114 ∷ 101 ∷ 97 ∷ 100 ∷ []
stage_name Pair = 112 ∷ 97 ∷ 105 ∷ 114 ∷ []
stage_name Merge = 109 ∷ 101 ∷ 114 ∷ 103 ∷ 101 ∷ []
stage_name VertexLoops = 118 ∷ 101 ∷ 114 ∷ 116 ∷ 101 ∷ 120 ∷ 45 ∷ 108 ∷ 111 ∷ 111 ∷ 112 ∷ 115 ∷ []
stage_name Walk = 119 ∷ 97 ∷ 108 ∷ 107 ∷ []
stage_name Loops = 108 ∷ 111 ∷ 111 ∷ 112 ∷ 115 ∷ []
stage_name Fans = 102 ∷ 97 ∷ 110 ∷ 115 ∷ []
stage_name Edges = 101 ∷ 100 ∷ 103 ∷ 101 ∷ 115 ∷ []
stage_name Joining = 106 ∷ 111 ∷ 105 ∷ 110 ∷ 105 ∷ 110 ∷ 103 ∷ []
stage_name Shells = 115 ∷ 104 ∷ 101 ∷ 108 ∷ 108 ∷ 115 ∷ []
stage_name Lumps = 108 ∷ 117 ∷ 109 ∷ 112 ∷ 115 ∷ []

-- the stage of a name, if there is one
unfoldable pub stage_named : List ℕ → Option Stage
stage_named name = find (λ s. same name (stage_name s)) all_stages
