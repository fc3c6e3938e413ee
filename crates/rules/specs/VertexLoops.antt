-- Vertex loops: which are kept.
use Rattle.std.specs.Prelude.{ℕ, List, [], ◌∷◌, ◌++◌, Bool, true, false, cond, get_or, eqb}
use Rattle.rules.specs.declared.KeptVertexLoop.{KeptVertexLoop}
use Rattle.rules.specs.Outcome.{Outcome, Ok, ◌>>=◌, throughout}
use Rattle.rules.specs.Job.{Content, of_items, at_vertex, Loop, Answer, point_at}
use Rattle.rules.specs.Questions.{ask_same}

-- Vertex loops: held against those kept in the merged face so far, in order, up to the first that is the same
unfoldable pub already_there : List Answer → ℕ → ℕ → List KeptVertexLoop → Outcome Bool
already_there answers face point [] = Ok false
already_there answers face point (k ∷ ks) =
    let put = ask_same answers 9 point k.point in
    cond (eqb k.face face) put (Ok false) >>= λ yes.
    let later = already_there answers face point ks in
    cond yes (Ok true) later

-- Vertex loops: kept unless the same point is already in the merged face
unfoldable pub keep_unless_there : List Answer → ℕ → ℕ → List KeptVertexLoop → Outcome (List KeptVertexLoop)
keep_unless_there answers face point ks = already_there answers face point ks >>= λ yes.
    Ok (cond yes ks (ks ++ (record { face = face; point = point } ∷ [])))

-- one loop of the job, in the merged face of its face
abbrev pub content_step : List Answer → List ℕ → ℕ → Content → List KeptVertexLoop → Outcome (List KeptVertexLoop)
content_step answers points face (of_items xs) ks = Ok ks
content_step answers points face (at_vertex v) ks = keep_unless_there answers face (point_at points v) ks

abbrev pub vertex_loop_step : List Answer → List ℕ → List ℕ → Loop → List KeptVertexLoop → Outcome (List KeptVertexLoop)
vertex_loop_step answers points numbers l ks = content_step answers points (get_or numbers l.face 0) l.content ks

-- Vertex loops: by ascending face and then loop
abbrev pub vertex_loops : List Answer → List ℕ → List ℕ → List Loop → Outcome (List KeptVertexLoop)
vertex_loops answers points numbers loops = throughout (vertex_loop_step answers points numbers) loops []
