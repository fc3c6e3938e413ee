-- Single stages: what each writes, as docs/STAGES.md sets it down, with the refusals up to there.
use Rattle.std.specs.Prelude.{ℕ, suc, Bool, not, length, get_or}
use mathlib.Core.List.{List, [], ◌∷◌, ◌++◌, flat_map}
use Rattle.lists.specs.Lists.{below, keep}
use Rattle.rules.specs.declared.Use.{Use}
use Rattle.rules.specs.declared.KeptVertexLoop.{KeptVertexLoop}
use Rattle.rules.specs.declared.EdgeData.{EdgeData}
use Rattle.rules.specs.Outcome.{Outcome, ◌>>=◌}
use Rattle.rules.specs.Sense.{sense_number}
use Rattle.rules.specs.Fields.{field_bytes}
use Rattle.rules.specs.Load.{loaded}
use Rattle.rules.specs.Read.{uses_of}
use Rattle.rules.specs.Groups.{label_of}
use Rattle.rules.specs.Pair.{pair}
use Rattle.rules.specs.declared.Rules.{Rules}
use Rattle.rules.specs.Rules.{with_table, table_of}
use Rattle.rules.specs.Merge.{Merged, merge_faces, merged_faces, is_removed, merged_face_of}
use Rattle.rules.specs.Walk.{successor, loops_of}
use Rattle.rules.specs.Fans.{kept_with_ends, fan_point}
use Rattle.rules.specs.Edges.{FaceLoop}
use Rattle.rules.specs.Join.{Joining}
use Rattle.rules.specs.Shells.{Shell, nested, lumps}
use Rattle.rules.specs.Body.{body_kind, item_fields}
use Rattle.rules.specs.Sew.{Walked, walked, Fanned, fanned, edged, through_joining, shells_of, fitting}

-- READ, PAIR, MERGE, VERTEX LOOPS

-- read: edge, selected face, sense, old successor of each use
abbrev pub use_fields : Use → List ℕ
use_fields u = u.edge ∷ u.face ∷ sense_number u.sense ∷ u.next ∷ []

-- merge: lowest face of the boundary, lowest face of the merged group, of each selected face
abbrev pub group_fields : Merged → ℕ → List ℕ
group_fields m f = label_of m.boundaries f ∷ label_of m.groups f ∷ []

-- vertex-loops: merged face, point
abbrev pub kept_fields : KeptVertexLoop → List ℕ
kept_fields k = k.face ∷ k.point ∷ []

-- WALK, LOOPS, FANS

-- the kept uses, ascending
abbrev pub kept_uses : List Bool → List ℕ
kept_uses rm = keep (λ h. not (is_removed rm h)) (below (length rm))

-- walk: use, successor and passed count
abbrev pub walk_fields : Walked → ℕ → List ℕ
walk_fields w h = h ∷ successor w.successors h ∷ get_or w.passed h 0 ∷ []

-- loops: merged face, number of uses, then the uses
abbrev pub loop_fields : Walked → List ℕ → List ℕ
loop_fields w hs = merged_face_of w.uses (merged_faces w.merge) (get_or hs 0 0) ∷ length hs ∷ hs

-- fans: use, fan, point of each kept use with ends
abbrev pub fan_fields : Fanned → ℕ → List ℕ
fan_fields f h = h ∷ label_of f.fans h ∷ fan_point f.starts h ∷ []

-- EDGES AND JOINING

-- an edge: curve, sense, start, end, lower and higher face, active
abbrev pub edge_fields : EdgeData → List ℕ
edge_fields e = (e.curve ∷ sense_number e.sense ∷ e.start ∷ e.end ∷ e.faces) ++ (body_kind e.active ∷ [])

-- a loop: merged face, number of items, then edge and sense of each
abbrev pub face_loop_fields : FaceLoop → List ℕ
face_loop_fields l = l.face ∷ length l.items ∷ flat_map item_fields l.items

-- edges and joining: joins, rings, number of edges; the edges; the loops
abbrev pub joining_fields : Joining → List ℕ
joining_fields s = s.joins ∷ s.rings ∷ length s.edges ∷ (flat_map edge_fields s.edges ++ flat_map face_loop_fields s.loops)

-- SHELLS AND LUMPS

-- shells: outer or void, number of merged faces, then these
abbrev pub shell_fields : Shell → List ℕ
shell_fields s = body_kind s.outer ∷ length s.faces ∷ s.faces

-- lumps: the lump's number, number of merged faces, then these, for each shell of a lump
abbrev pub lump_shell_fields : ℕ → List ℕ → List ℕ
lump_shell_fields n faces = n ∷ length faces ∷ faces

unfoldable pub lump_fields : ℕ → List (List (List ℕ)) → List ℕ
lump_fields n [] = []
lump_fields n (lump ∷ more) = flat_map (lump_shell_fields n) lump ++ lump_fields (suc n) more

-- THE STAGES

-- the fields of a stage as bytes, where they fit the output
abbrev pub stage_bytes : ℕ → List ℕ → Outcome (List ℕ)
stage_bytes room fs = fitting room (field_bytes fs)

unfoldable pub read_stage : List ℕ → ℕ → Outcome (List ℕ)
read_stage job room = loaded job >>= λ j. stage_bytes room (flat_map use_fields (uses_of j))

unfoldable pub pair_stage : Rules → List ℕ → ℕ → Outcome (List ℕ)
pair_stage rules job room = loaded job >>= λ j. pair rules.profile j.answers (uses_of j) (length j.edges) >>= stage_bytes room

unfoldable pub merge_stage : Rules → List ℕ → ℕ → Outcome (List ℕ)
merge_stage rules job room = loaded job >>= λ j.
    pair rules.profile j.answers (uses_of j) (length j.edges) >>= λ ts.
    merge_faces rules.table j.answers j.faces (uses_of j) ts >>= λ m.
    stage_bytes room (flat_map (group_fields m) (below (length j.faces)))

unfoldable pub vertex_loop_stage : Rules → List ℕ → ℕ → Outcome (List ℕ)
vertex_loop_stage rules job room = loaded job >>= λ j. walked rules j >>= λ w. stage_bytes room (flat_map kept_fields w.vertex_loops)

unfoldable pub walk_stage : Rules → List ℕ → ℕ → Outcome (List ℕ)
walk_stage rules job room = loaded job >>= λ j. walked rules j >>= λ w. stage_bytes room (flat_map (walk_fields w) (kept_uses w.merge.removed))

-- Eleven: the walk stage with a table supplied with the call; 48 comes before all else
unfoldable pub walk_stage_with_table : List ℕ → List ℕ → ℕ → Outcome (List ℕ)
walk_stage_with_table table job room = table_of table >>= λ t. walk_stage (with_table t) job room

unfoldable pub loop_stage : Rules → List ℕ → ℕ → Outcome (List ℕ)
loop_stage rules job room = loaded job >>= λ j. walked rules j >>= λ w. stage_bytes room (flat_map (loop_fields w) (loops_of w.circuits))

unfoldable pub fan_stage : Rules → List ℕ → ℕ → Outcome (List ℕ)
fan_stage rules job room = loaded job >>= λ j. fanned rules j >>= λ f.
    let w = f.walk in
    stage_bytes room (flat_map (fan_fields f) (keep (kept_with_ends j.edges w.uses w.merge.removed) (below (length w.uses))))

unfoldable pub edge_stage : Rules → List ℕ → ℕ → Outcome (List ℕ)
edge_stage rules job room = loaded job >>= λ j. edged rules j >>= λ x. stage_bytes room (joining_fields x.joining)

unfoldable pub joining_stage : Rules → List ℕ → ℕ → Outcome (List ℕ)
joining_stage rules job room = loaded job >>= λ j. through_joining rules j >>= λ x. stage_bytes room (joining_fields x.joining)

unfoldable pub shell_stage : Rules → List ℕ → ℕ → Outcome (List ℕ)
shell_stage rules job room = loaded job >>= λ j. through_joining rules j >>= λ x.
    shells_of j x.fan.walk >>= λ ss.
    stage_bytes room (flat_map shell_fields ss)

unfoldable pub lump_stage : Rules → List ℕ → ℕ → Outcome (List ℕ)
lump_stage rules job room = loaded job >>= λ j. through_joining rules j >>= λ x.
    shells_of j x.fan.walk >>= λ ss.
    nested j.answers ss >>= λ ns.
    stage_bytes room (lump_fields 0 (lumps ns))
