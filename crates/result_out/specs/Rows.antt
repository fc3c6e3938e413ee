-- The fields of the stage `fans`, over plain lists.
use Rattle.std.specs.Prelude.{ℕ, ◌≡◌, refl, Bool, length}
use mathlib.Core.List.{List, [], ◌∷◌, flat_map}
use Rattle.lists.specs.Lists.{below, keep}
use Rattle.rules.specs.declared.Edge.{Edge}
use Rattle.rules.specs.declared.Use.{Use}
use Rattle.rules.specs.Groups.{label_of}
use Rattle.rules.specs.Fans.{kept_with_ends, fan_point}
use Rattle.rules.specs.Sew.{Fanned}
use Rattle.rules.specs.Stage.{fan_fields}

-- use, fan and point
abbrev pub fan_row : List ℕ → List ℕ → ℕ → List ℕ
fan_row g starts h = h ∷ label_of g h ∷ fan_point starts h ∷ []

-- of each kept use with ends
unfoldable pub fan_rows : List Edge → List Use → List Bool → List ℕ → List ℕ → List ℕ
fan_rows es us rm g starts = flat_map (fan_row g starts) (keep (kept_with_ends es us rm) (below (length us)))

pub fan_rows_lem : (f : Fanned) (es : List Edge)
    → fan_rows es f.walk.uses f.walk.merge.removed f.fans f.starts ≡ flat_map (fan_fields f) (keep (kept_with_ends es f.walk.uses f.walk.merge.removed) (below (length f.walk.uses)))
unfolding fan_rows
fan_rows_lem f es = refl
