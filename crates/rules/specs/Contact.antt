-- Contact tests, for any labelling of the selected faces: by boundary for 30 and 31, by lump for 33 and 32. Document 02's
-- request Two, 42: of the fans at a point, whatever their labels.
use Rattle.std.specs.Prelude.{ℕ, List, [], ◌∷◌, map, Bool, ◌&&◌, cond, length, eqb, ltb}
use Rattle.lists.specs.Lists.{below, keep, some, times, repeats, least}
use Rattle.rules.specs.declared.Use.{Use}
use Rattle.rules.specs.declared.Fault.{Fault}
use Rattle.rules.specs.declared.Fault.TheVariants.{ManyFans}
use Rattle.rules.specs.declared.Profile.{Profile}
use Rattle.rules.specs.declared.Profile.TheVariants.{AnyContact, PrintShop}
use Rattle.rules.specs.Outcome.{Outcome, Ok, refuse}
use Rattle.rules.specs.Read.{face_of_use}
use Rattle.rules.specs.Pair.{uses_of_edge, twin_of}
use Rattle.rules.specs.Groups.{label_of}
use Rattle.rules.specs.Fans.{fan_point}

-- the label of a use's face
abbrev pub use_label : List Use → List ℕ → ℕ → ℕ
use_label us labels h = label_of labels (face_of_use us h)

-- h is the lower use of its pair
abbrev pub is_lower_use : List ℕ → ℕ → Bool
is_lower_use ts h = ltb h (twin_of ts h)

-- the labels of the pairs among some uses
abbrev pub pair_labels : List Use → List ℕ → List ℕ → List ℕ → List ℕ
pair_labels us ts labels hs = map (use_label us labels) (keep (is_lower_use ts) hs)

-- Endings, 30 and 33: an edge with more than two uses has two pairs of one label
unfoldable pub edge_touches : List Use → List ℕ → List ℕ → ℕ → Bool
edge_touches us ts labels e =
    let hs = uses_of_edge us e in
    ltb 2 (length hs) && repeats (pair_labels us ts labels hs)

-- fans f and g stand at one point and have one label
unfoldable pub touches : List Use → List ℕ → List ℕ → ℕ → ℕ → Bool
touches us starts labels f g = eqb (fan_point starts f) (fan_point starts g) && eqb (use_label us labels f) (use_label us labels g)

-- Endings, 31 and 32: the points of the fans that touch a later one
unfoldable pub contact_points : List Use → List ℕ → List ℕ → List ℕ → List ℕ
contact_points us starts labels [] = []
contact_points us starts labels (f ∷ fs) =
    let later = contact_points us starts labels fs in
    cond (some (touches us starts labels f) fs) (fan_point starts f ∷ later) later

-- Endings: contact tests ascend by point or edge, so the lowest place is given
abbrev pub clear : Fault → List ℕ → Outcome (Unit {0})
clear fault [] = Ok tt
clear fault (p ∷ ps) = refuse fault (least (p ∷ ps) p)

-- Endings, 30 and 33: edges ascending
abbrev pub edges_clear : Fault → List Use → List ℕ → List ℕ → ℕ → Outcome (Unit {0})
edges_clear fault us ts labels edges = clear fault (keep (edge_touches us ts labels) (below edges))

-- Endings, 31 and 32: points ascending
abbrev pub points_clear : Fault → List Use → List ℕ → List ℕ → List ℕ → Outcome (Unit {0})
points_clear fault us starts labels names = clear fault (contact_points us starts labels names)

-- Two: the points with more than one fan
unfoldable pub shared_points : List ℕ → List ℕ → List ℕ
shared_points starts names =
    let points = map (fan_point starts) names in
    keep (λ p. ltb 1 (times p points)) points

-- Two, 42: in the print-shop profile each point has one fan; by ascending point
abbrev pub one_fan_each : Profile → List ℕ → List ℕ → Outcome (Unit {0})
one_fan_each AnyContact starts names = Ok tt
one_fan_each PrintShop starts names = clear ManyFans (shared_points starts names)
