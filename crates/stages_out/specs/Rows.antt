-- The fields of the single stages through the loops, over plain lists, and how a stage ends that has them.
use Rattle.std.specs.Prelude.{ℕ, ◌≡◌, refl, Bool, length, get_or}
use Rattle.std.proofs.Common.{ap}
use mathlib.Core.List.{List, [], ◌∷◌, flat_map}
use Rattle.lists.specs.Lists.{below}
use Rattle.std.specs.Borrow.{MutBor}
use Rattle.fields.specs.Wrote.{Wrote}
use Rattle.rules.specs.declared.Use.{Use}
use Rattle.rules.specs.Outcome.{Outcome}
use Rattle.rules.specs.Groups.{label_of}
use Rattle.rules.specs.Merge.{Merged, merged_faces, merged_face_of}
use Rattle.rules.specs.Walk.{successor}
use Rattle.rules.specs.Sew.{Walked, Ends}
use Rattle.rules.specs.Read.{use_at}
use Rattle.rules.specs.Stage.{use_fields, group_fields, kept_uses, walk_fields, loop_fields, stage_bytes}

-- a writer writes these bytes from the output's start on, and again when it is called after that
abbrev pub WritesTwice : {F : Type 0} → (F → MutBor (List ℕ) → ℕ → MutBor (List ℕ) → F → Type 0) → F → List ℕ → Type 0
WritesTwice {F} step put bytes =
    (before : MutBor (List ℕ)) (end : ℕ) (after : MutBor (List ℕ)) (next : F) → step put before end after next
    → Wrote before.now 0 bytes after.now end
    × ((before' : MutBor (List ℕ)) (end' : ℕ) (after' : MutBor (List ℕ)) (last : F) → step next before' end' after' last → Wrote before'.now 0 bytes after'.now end')

-- a stage with these fields: its ending, and what the output holds after it
abbrev pub Staged : List ℕ → List ℕ → List ℕ → Outcome ℕ → Type 0
Staged fields before after r = Ends (stage_bytes (length before) fields) before after r

-- read: edge, selected face, sense and old successor of use h
abbrev pub use_row : List Use → ℕ → List ℕ
use_row us h = use_fields (use_at us h)

-- walk: use, successor and passed count of each kept use
abbrev pub walk_row : List ℕ → List ℕ → ℕ → List ℕ
walk_row ss ps h = h ∷ successor ss h ∷ get_or ps h 0 ∷ []

unfoldable pub walk_rows : List Bool → List ℕ → List ℕ → List ℕ
walk_rows rm ss ps = flat_map (walk_row ss ps) (kept_uses rm)

pub walk_rows_lem : (w : Walked) → walk_rows w.merge.removed w.successors w.passed ≡ flat_map (walk_fields w) (kept_uses w.merge.removed)
unfolding walk_rows
walk_rows_lem w = refl

-- merge: the labels of each selected face in the boundaries and in the merged groups
abbrev pub pair_row : List ℕ → List ℕ → ℕ → List ℕ
pair_row bs gs f = label_of bs f ∷ label_of gs f ∷ []

unfoldable pub pair_rows : List ℕ → List ℕ → List ℕ
pair_rows bs gs = flat_map (pair_row bs gs) (below (length bs))

pub pair_rows_lem : (m : Merged) (faces : ℕ) → length m.boundaries ≡ faces → pair_rows m.boundaries m.groups ≡ flat_map (group_fields m) (below faces)
unfolding pair_rows
pair_rows_lem m faces e = ap (λ n. flat_map (group_fields m) (below n)) e

-- loops: merged face, number of uses and the uses of each loop
abbrev pub round_row : List Use → List ℕ → List ℕ → List ℕ
round_row us numbers hs = merged_face_of us numbers (get_or hs 0 0) ∷ length hs ∷ hs

unfoldable pub round_rows : List Use → List ℕ → List (List ℕ) → List ℕ
round_rows us numbers ls = flat_map (round_row us numbers) ls

pub round_rows_lem : (w : Walked) (ls : List (List ℕ)) → round_rows w.uses (merged_faces w.merge) ls ≡ flat_map (loop_fields w) ls
unfolding round_rows
round_rows_lem w ls = refl
