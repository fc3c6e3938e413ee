-- Selected faces: no two of them are the same face of the same body.
use Rattle.std.specs.Prelude.{ℕ, ◌<◌, ◌≡◌, List, length}
use Rattle.rules.specs.declared.Face.{Face}
use Rattle.rules.specs.Outcome.{Ok}
use Rattle.rules.specs.Job.{Job, face_at}
use Rattle.rules.specs.Load.{loaded}

-- two faces of one body and one source face number are one
abbrev pub Distinct : List Face → Type 0
Distinct fs =
    (i k : ℕ) → i < length fs → k < length fs → (face_at fs i).body ≡ (face_at fs k).body → (face_at fs i).source ≡ (face_at fs k).source → i ≡ k

-- document 02, Eight: a job that loads selects no face twice
abbrev pub FacesDistinct : List ℕ → Type 0
FacesDistinct job = (j : Job) → loaded job ≡ Ok j → Distinct j.faces
