-- What is to do after each stage, where a stage is asked for, or none for the body: its fields if it is this one, else
-- what follows, by the rules that sewing runs by. Each is one of the stages of `rules` (StageLaws). The stage `read` hands nothing on.
use Rattle.std.specs.Prelude.{ℕ, cond, length, eqb, Option, None}
use mathlib.Core.List.{List, flat_map}
use Rattle.lists.specs.Lists.{below, keep}
use Rattle.rules.specs.declared.Use.{Use}
use Rattle.rules.specs.declared.Stage.{Stage}
use Rattle.rules.specs.Operation.{is_asked}
use Rattle.rules.specs.Outcome.{Outcome, ◌>>=◌}
use Rattle.rules.specs.Frame.{framed_all}
use Rattle.rules.specs.Job.{Job}
use Rattle.rules.specs.Load.{loaded}
use Rattle.rules.specs.Read.{uses_of}
use Rattle.rules.specs.Pair.{pair}
use Rattle.rules.specs.declared.Rules.{Rules}
use Rattle.rules.specs.Merge.{Merged, merge_faces, merged_faces}
use Rattle.rules.specs.VertexLoops.{vertex_loops}
use Rattle.rules.specs.Walk.{loops_of}
use Rattle.rules.specs.Fans.{kept_with_ends}
use Rattle.rules.specs.Contact.{edges_clear, points_clear, one_fan_each}
use Rattle.rules.specs.Join.{maximal_edges}
use Rattle.rules.specs.Shells.{Shell, Nested, nested, lumps}
use Rattle.rules.specs.Body.{empty_body, body_records}
use Rattle.rules.specs.Sew.{Walked, walks_of, Fanned, fans_of, Joined, unjoined, shells_of, lumps_clear, body_of, fitting}
use Rattle.rules.specs.Stage.{group_fields, kept_fields, kept_uses, walk_fields, loop_fields, fan_fields, joining_fields, shell_fields, lump_fields, stage_bytes}
use Rattle.rules.specs.declared.Fault.TheVariants.{PairsInBoundary, FansInBoundary}
use Rattle.rules.specs.declared.Stage.TheVariants.{Pair, Merge, VertexLoops, Walk, Loops, Fans, Edges, Joining as JoiningStage, Shells, Lumps}

-- FROM THE WALKS TO THE BODY

unfoldable pub after_lumps : Job → Joined → List Nested → ℕ → Outcome (List ℕ)
after_lumps j x ns room = lumps_clear j x.fan ns >>= λ _. fitting room (framed_all (body_records (body_of j x ns)))

unfoldable pub after_nesting : Option Stage → Job → Joined → ℕ → List Nested → Outcome (List ℕ)
after_nesting stage j x room ns =
    let later = after_lumps j x ns room in
    cond (is_asked Lumps stage) (stage_bytes room (lump_fields 0 (lumps ns))) later

unfoldable pub after_shells : Option Stage → Job → Joined → ℕ → List Shell → Outcome (List ℕ)
after_shells stage j x room ss =
    let later = nested j.answers ss >>= after_nesting stage j x room in
    cond (is_asked Shells stage) (stage_bytes room (flat_map shell_fields ss)) later

unfoldable pub after_joining : Option Stage → Job → ℕ → Joined → Outcome (List ℕ)
after_joining stage j room x =
    let later = shells_of j x.fan.walk >>= after_shells stage j x room in
    cond (is_asked JoiningStage stage) (stage_bytes room (joining_fields x.joining)) later

unfoldable pub after_edges : Rules → Option Stage → Job → ℕ → Joined → Outcome (List ℕ)
after_edges rules stage j room x =
    let f = x.fan in
    let later = maximal_edges j.answers f.starts f.names (length f.names) x.joining >>= λ s. after_joining stage j room (record { fan = f; joining = s }) in
    cond (is_asked Edges stage) (stage_bytes room (joining_fields x.joining)) later

unfoldable pub after_fans : Rules → Option Stage → Job → ℕ → Fanned → Outcome (List ℕ)
after_fans rules stage j room f =
    let w = f.walk in
    let later =
    one_fan_each rules.profile f.starts f.names >>= λ _.
    points_clear FansInBoundary w.uses f.starts w.merge.boundaries f.names >>= λ _.
    after_edges rules stage j room (record { fan = f; joining = unjoined j f }) in
    cond (is_asked Fans stage) (stage_bytes room (flat_map (fan_fields f) (keep (kept_with_ends j.edges w.uses w.merge.removed) (below (length w.uses))))) later

unfoldable pub after_loops : Rules → Option Stage → Job → ℕ → Walked → Outcome (List ℕ)
after_loops rules stage j room w = edges_clear PairsInBoundary w.uses w.twins w.merge.boundaries (length j.edges) >>= λ _. after_fans rules stage j room (fans_of j w)

-- FROM THE JOB TO THE WALKS

unfoldable pub after_walks : Rules → Option Stage → Job → ℕ → Walked → Outcome (List ℕ)
after_walks rules stage j room w =
    let later = after_loops rules stage j room w in
    let loops = cond (is_asked Loops stage) (stage_bytes room (flat_map (loop_fields w) (loops_of w.circuits))) later in
    cond (is_asked Walk stage) (stage_bytes room (flat_map (walk_fields w) (kept_uses w.merge.removed))) loops

unfoldable pub after_keeping : Rules → Option Stage → Job → ℕ → Walked → Outcome (List ℕ)
after_keeping rules stage j room w =
    let later = after_walks rules stage j room w in
    cond (is_asked VertexLoops stage) (stage_bytes room (flat_map kept_fields w.vertex_loops)) later

unfoldable pub after_merging : Rules → Option Stage → Job → List Use → List ℕ → ℕ → Merged → Outcome (List ℕ)
after_merging rules stage j us ts room m =
    let later = vertex_loops j.answers j.points (merged_faces m) j.loops >>= λ ks. after_keeping rules stage j room (walks_of us ts m ks) in
    cond (is_asked Merge stage) (stage_bytes room (flat_map (group_fields m) (below (length j.faces)))) later

unfoldable pub after_pairing : Rules → Option Stage → Job → List Use → ℕ → List ℕ → Outcome (List ℕ)
after_pairing rules stage j us room ts =
    let later = merge_faces rules.table j.answers j.faces us ts >>= after_merging rules stage j us ts room in
    cond (is_asked Pair stage) (stage_bytes room ts) later

unfoldable pub after_reading : Rules → Option Stage → Job → ℕ → List Use → Outcome (List ℕ)
after_reading rules stage j room us = pair rules.profile j.answers us (length j.edges) >>= after_pairing rules stage j us room

-- the stage that is asked for, from a job's bytes on
unfoldable pub staged : Rules → Option Stage → List ℕ → ℕ → Outcome (List ℕ)
staged rules stage job room = loaded job >>= λ j. after_reading rules stage j room (uses_of j)

-- sewing of a loaded job: the body; one that selects no face is Empty
unfoldable pub sewn_from : Rules → ℕ → Job → Outcome (List ℕ)
sewn_from rules room j =
    let full = after_reading rules None j room (uses_of j) in
    cond (eqb (length j.faces) 0) (fitting room (framed_all (body_records empty_body))) full

-- sewing
unfoldable pub sewn_by : Rules → List ℕ → ℕ → Outcome (List ℕ)
sewn_by rules job room = loaded job >>= sewn_from rules room
