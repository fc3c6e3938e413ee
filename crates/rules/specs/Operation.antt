-- What a job is asked for: a stage, or sewing; by name, and by number.
use Rattle.std.specs.Prelude.{ℕ, List, [], ◌∷◌, Bool, false, cond, eqb, Option, Some, None}
use Rattle.rules.specs.declared.Stage.{Stage}
use Rattle.rules.specs.declared.Stage.TheVariants.{Read, Pair, Merge, VertexLoops, Walk, Loops, Fans, Edges, Joining, Shells, Lumps}
use Rattle.rules.specs.Outcome.{Outcome}
use Rattle.rules.specs.Rules.{ordinary}
use Rattle.rules.specs.Sew.{sewn}
use Rattle.rules.specs.Stage.{read_stage, pair_stage, merge_stage, vertex_loop_stage, walk_stage, loop_stage, fan_stage, edge_stage, joining_stage, shell_stage, lump_stage}

-- 1 read, 2 pair, 3 merge, 4 vertex-loops, 5 walk, 6 loops, 7 fans, 8 edges, 9 joining, 10 shells, 11 lumps
unfoldable pub stage_number : Stage → ℕ
stage_number Read = 1
stage_number Pair = 2
stage_number Merge = 3
stage_number VertexLoops = 4
stage_number Walk = 5
stage_number Loops = 6
stage_number Fans = 7
stage_number Edges = 8
stage_number Joining = 9
stage_number Shells = 10
stage_number Lumps = 11

abbrev pub all_stages : List Stage
all_stages = Read ∷ Pair ∷ Merge ∷ VertexLoops ∷ Walk ∷ Loops ∷ Fans ∷ Edges ∷ Joining ∷ Shells ∷ Lumps ∷ []

-- the first of some stages that has a number
unfoldable pub numbered_among : List Stage → ℕ → Option Stage
numbered_among [] n = None
numbered_among (s ∷ more) n =
    let later = numbered_among more n in
    cond (eqb n (stage_number s)) (Some s) later

-- the stage with a number, if there is one
unfoldable pub stage_of : ℕ → Option Stage
stage_of n = numbered_among all_stages n

-- a stage is the one that is asked for
unfoldable pub is_asked : Stage → Option Stage → Bool
is_asked s None = false
is_asked s (Some t) = eqb (stage_number s) (stage_number t)

-- what a job gives: the stage asked for; sewing where none is
abbrev pub operation : Option Stage → List ℕ → ℕ → Outcome (List ℕ)
operation None = sewn ordinary
operation (Some Read) = read_stage
operation (Some Pair) = pair_stage ordinary
operation (Some Merge) = merge_stage ordinary
operation (Some VertexLoops) = vertex_loop_stage ordinary
operation (Some Walk) = walk_stage ordinary
operation (Some Loops) = loop_stage ordinary
operation (Some Fans) = fan_stage ordinary
operation (Some Edges) = edge_stage ordinary
operation (Some Joining) = joining_stage ordinary
operation (Some Shells) = shell_stage ordinary
operation (Some Lumps) = lump_stage ordinary
