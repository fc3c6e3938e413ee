-- How long the lists of the definitions are.
use Rattle.std.specs.Prelude.{◌≡◌, refl, ℕ, suc, length}
use Rattle.std.proofs.Common.{ap, ◌∙◌}
use mathlib.Core.List.{List, [], ◌∷◌}
use Rattle.lists.specs.Lists.{below}
use Rattle.lists.specs.Members.{foldl_keeps}
use Rattle.lists.specs.Runs.{length_below}
use Rattle.rules.specs.declared.Use.{Use}
use Rattle.rules.specs.declared.Face.{Face}
use Rattle.rules.specs.declared.KeptVertexLoop.{KeptVertexLoop}
use Rattle.rules.specs.Read.{face_of_use}
use Rattle.rules.specs.Groups.{alone}
use Rattle.rules.specs.Merge.{boundaries, boundary_step, other_face}
use Rattle.rules.specs.Edges.{FaceLoop}
use Rattle.rules.specs.Body.{body_faces}
use Rattle.rules.proofs.GroupLaws.{length_joined}

-- each selected face has a boundary
pub boundaries_length : (us : List Use) (ts : List ℕ) (faces : ℕ) → length (boundaries us ts faces) ≡ faces
boundaries_length us ts faces =
    foldl_keeps (boundary_step us ts) (λ g. length g ≡ faces) (below (length us)) (alone faces) (length_below faces)
    (λ g h _ e. length_joined g (face_of_use us h) (other_face us ts h) ∙ e)

-- a body has a face for each merged face
pub length_body_faces : (fs : List Face) (groups actives : List ℕ) (ls : List FaceLoop) (ks : List KeptVertexLoop) (f : ℕ) (ms : List ℕ) → length (body_faces fs groups actives ls ks f ms) ≡ length ms
unfolding body_faces
length_body_faces fs groups actives ls ks f [] = refl
length_body_faces fs groups actives ls ks f (m ∷ ms) = ap suc (length_body_faces fs groups actives ls ks (suc f) ms)
