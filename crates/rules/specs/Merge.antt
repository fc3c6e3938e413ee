-- Merging: boundaries, merged groups, removed uses. Refusal 22.
use Rattle.std.specs.Prelude.{ℕ, Bool, false, ◌||◌, cond, length, get_or, eqb, leb}
use mathlib.Core.List.{List, [], ◌∷◌, map, foldl}
use Rattle.lists.specs.Lists.{below}
use Rattle.rules.specs.declared.Face.{Face}
use Rattle.rules.specs.declared.Use.{Use}
use Rattle.rules.specs.declared.SurfaceAnswer.{SurfaceAnswer}
use Rattle.rules.specs.declared.SurfaceAnswer.TheVariants.{Different, Agreeing, Opposed, Vanishing, Undecided}
use Rattle.rules.specs.Outcome.{Outcome, Ok, refuse, ◌>>=◌, throughout}
use Rattle.rules.specs.Sense.{same_sense}
use Rattle.rules.specs.Job.{Answer, face_at}
use Rattle.rules.specs.Questions.{surface_answer, ask}
use Rattle.rules.specs.Read.{face_of_use, stored_sense}
use Rattle.rules.specs.Groups.{alone, label_of, joined, Grouping, join_groups, group_numbers}
use Rattle.rules.specs.Pair.{twin_of}
use Rattle.rules.specs.declared.Table.{Table}
use Rattle.rules.specs.declared.Fault.TheVariants.{AnswerUndecided, NormalsVanish}

-- the selected face of a use's twin
abbrev pub other_face : List Use → List ℕ → ℕ → ℕ
other_face us ts h = face_of_use us (twin_of ts h)

-- Merging: boundaries join the faces of a twin pair
abbrev pub boundary_step : List Use → List ℕ → List ℕ → ℕ → List ℕ
boundary_step us ts g h = joined g (face_of_use us h) (other_face us ts h)

-- Merging: boundaries join the faces of every twin pair
abbrev pub boundaries : List Use → List ℕ → ℕ → List ℕ
boundaries us ts faces = foldl (boundary_step us ts) (alone faces) (below (length us))

-- Merging: whether an answer joins the groups, by whether the stored senses are equal; 21 where it is undecided, 22 where normals vanish
unfoldable pub joins_faces : Table → Bool → SurfaceAnswer → Outcome Bool
joins_faces t equal Different = Ok false
joins_faces t equal Agreeing = Ok (cond equal t.agreeing.equal t.agreeing.different)
joins_faces t equal Opposed = Ok (cond equal t.opposed.equal t.opposed.different)
joins_faces t equal Vanishing = refuse NormalsVanish 8
joins_faces t equal Undecided = refuse AnswerUndecided 8

-- stored senses of a use's face and its twin's are equal
abbrev pub equal_senses : List Face → List Use → List ℕ → ℕ → Bool
equal_senses fs us ts h = same_sense (stored_sense (face_at fs (face_of_use us h))) (stored_sense (face_at fs (other_face us ts h)))

-- the surface question of lower use h: the groups after its answer, and a face join more where it changed them
unfoldable pub surface_step : Table → List Answer → List Face → List Use → List ℕ → ℕ → Grouping → Outcome Grouping
surface_step t answers fs us ts h g = ask answers 8 (h ∷ []) >>= λ v.
    joins_faces t (equal_senses fs us ts h) (surface_answer v) >>= λ yes.
    Ok (cond yes (join_groups g (face_of_use us h) (other_face us ts h)) g)

-- Merging: no question for the higher use of a pair; skipped when both uses are on one selected face
abbrev pub unasked : List Use → List ℕ → ℕ → Bool
unasked us ts h = leb (twin_of ts h) h || eqb (face_of_use us h) (other_face us ts h)

unfoldable pub merge_step : Table → List Answer → List Face → List Use → List ℕ → ℕ → Grouping → Outcome Grouping
merge_step t answers fs us ts h g =
    let put = surface_step t answers fs us ts h g in
    cond (unasked us ts h) (Ok g) put

-- each of n faces in a group of its own
abbrev pub ungrouped : ℕ → Grouping
ungrouped n = record { groups = alone n; joins = 0 }

-- Merging: surface questions go by ascending lower use
abbrev pub merged_groups : Table → List Answer → List Face → List Use → List ℕ → Outcome Grouping
merged_groups t answers fs us ts = throughout (merge_step t answers fs us ts) (below (length us)) (ungrouped (length fs))

-- Merging: a use is removed when its face and its twin's have one group
abbrev pub removes : List Use → List ℕ → List ℕ → ℕ → Bool
removes us ts g h = eqb (label_of g (face_of_use us h)) (label_of g (other_face us ts h))

-- each use: whether it is removed
unfoldable pub removed_uses : List Use → List ℕ → List ℕ → List Bool
removed_uses us ts g = map (removes us ts g) (below (length us))

-- use h is removed
abbrev pub is_removed : List Bool → ℕ → Bool
is_removed rm h = get_or rm h false

-- what merging gives: boundaries and merged groups by label, the number of face joins, and which uses are removed
pub record Merged : Type 0 where
  pub boundaries : List ℕ
  pub groups : List ℕ
  pub joins : ℕ
  pub removed : List Bool

-- Merging, whole
unfoldable pub merge_faces : Table → List Answer → List Face → List Use → List ℕ → Outcome Merged
merge_faces t answers fs us ts = merged_groups t answers fs us ts >>= λ g.
    Ok (record { boundaries = boundaries us ts (length fs); groups = g.groups; joins = g.joins; removed = removed_uses us ts g.groups })

-- Merging: merged groups are the merged faces, by ascending lowest member; the merged face of each selected face
abbrev pub merged_faces : Merged → List ℕ
merged_faces m = group_numbers m.groups

-- the merged face of a use, from the merged face of each selected face
abbrev pub merged_face_of : List Use → List ℕ → ℕ → ℕ
merged_face_of us numbers h = get_or numbers (face_of_use us h) 0
