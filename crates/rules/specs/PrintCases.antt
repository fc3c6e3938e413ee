-- Two: jobs sewn for a print shop, each with its ending.
use Rattle.std.specs.Prelude.{◌≡◌, refl, List, [], ◌∷◌, ◌++◌, ℕ, Bool, true, ◌&&◌, Some, None}
use mathlib.Core.List.{flat_map}
use Rattle.lists.specs.Lists.{all, same}
use Rattle.rules.specs.Outcome.{Outcome, Ok, refuse}
use Rattle.rules.specs.Frame.{Record, framed_all}
use Rattle.rules.specs.Job.{unset}
use Rattle.rules.specs.Rules.{ordinary, print_shop}
use Rattle.rules.specs.Body.{rec}
use Rattle.rules.specs.Sew.{sewn, sewn_with_table}
use Rattle.rules.specs.Stage.{pair_stage, merge_stage, vertex_loop_stage, walk_stage, loop_stage, fan_stage, edge_stage, joining_stage, shell_stage, lump_stage}
use Rattle.rules.specs.Rows.{stage_listing, walk_listing_with_table}
use Rattle.rules.specs.Operation.{operation}
use Rattle.rules.specs.declared.Stage.TheVariants.{Merge, Walk}
use Rattle.rules.specs.Listing.{refusal_line, listing_of, listing, listing_with_table}
use Rattle.rules.specs.Tables.{Row}
use Rattle.rules.specs.Parts.{ring_job, lens_job, P1, P2, P3, P4, P5, P6, P7, P8, P9}
use Rattle.rules.specs.Cases.{Case, bytes_of, same_bytes, empty_job, cut_payload, just_room, no_room, radial_missing, radial_open, radial_short, radial_twice}
use Rattle.rules.specs.Cases.{same_same, lone_use, three_uses, two_shells, orient_missing, void_alone, inside_missing, edge_in_lump, edge_in_bound, point_in_bound}
use Rattle.rules.specs.Cases.{singular_missing, singular_open, point_shared, point_in_lump, point_before_edge, radial_again, surface_missing, surface_open, surface_vanish}
use Rattle.rules.specs.Cases.{points_missing, points_same, void_inside, seam, turned, four_joined, pass_twice, curves_missing, curves_open, unused_edge, vertex_loop_last}
use Rattle.rules.specs.Cases.{inner, outer_kept, void_first}
use Rattle.rules.specs.MoreCases.{lowest_point, fans_apart, removed_pair_counts, seam_counts, merged_place, merged_singular, thirty_first, points_before_thirty, sorted_pair}
use Rattle.rules.specs.RequestCases.{two_halves, triangle_by_point}
use Rattle.rules.specs.TableCases.{opposed_faces, opposed_job, kept_apart}
use Rattle.rules.specs.Open.{computes}
use Rattle.rules.specs.declared.Fault.TheVariants.{EqualSenses, OddUses, Unanswered, FansInBoundary, NoRoom, ManyUses, ManyFans}

-- sewn for a print shop into so many bytes, some records end so
abbrev pub prints_in : ℕ → List Record → Outcome (List Record) → Bool
prints_in room records ending = same_bytes (sewn print_shop (framed_all records) room) (bytes_of ending)

abbrev pub prints : List Record → Outcome (List Record) → Bool
prints = prints_in 65536

-- and so in ordinary sewing
abbrev pub sews : List Record → Outcome (List Record) → Bool
sews records ending = same_bytes (sewn ordinary (framed_all records) 65536) (bytes_of ending)

-- 41

-- two rings, and one face with a loop for each use: of the first ring in these senses, then of the second in those
unfoldable pub ring_uses : List ℕ → List ℕ → List Record
ring_uses first second =
    rec 1 (1 ∷ []) ∷
    rec 3 (5 ∷ 0 ∷ unset ∷ unset ∷ []) ∷ rec 3 (6 ∷ 0 ∷ unset ∷ unset ∷ []) ∷
    rec 4 (7 ∷ 0 ∷ 0 ∷ 0 ∷ 0 ∷ []) ∷
    (flat_map (λ s. rec 5 (0 ∷ s ∷ []) ∷ []) first ++ flat_map (λ s. rec 5 (1 ∷ s ∷ []) ∷ []) second)

unfoldable pub many_uses_cases : List Bool
many_uses_cases =
    -- one use is 11, two of one sense 10; an odd number is 11, an even one 41, whatever its senses
    prints (ring_uses (0 ∷ []) []) (refuse OddUses 0) ∷
    prints (ring_uses (0 ∷ 0 ∷ []) []) (refuse EqualSenses 0) ∷
    prints (ring_uses (1 ∷ 1 ∷ []) []) (refuse EqualSenses 0) ∷
    prints (ring_uses (0 ∷ 1 ∷ 0 ∷ []) []) (refuse OddUses 0) ∷
    prints (ring_uses (0 ∷ 1 ∷ 0 ∷ 1 ∷ []) []) (refuse ManyUses 0) ∷
    prints (ring_uses (0 ∷ 0 ∷ 0 ∷ 0 ∷ []) []) (refuse ManyUses 0) ∷
    prints (ring_uses (1 ∷ 0 ∷ 1 ∷ 1 ∷ []) []) (refuse ManyUses 0) ∷
    prints (ring_uses (0 ∷ 1 ∷ 0 ∷ 1 ∷ 0 ∷ []) []) (refuse OddUses 0) ∷
    prints (ring_uses (0 ∷ 1 ∷ 0 ∷ 1 ∷ 0 ∷ 1 ∷ []) []) (refuse ManyUses 0) ∷
    prints (ring_uses (0 ∷ 1 ∷ 0 ∷ 1 ∷ 0 ∷ 1 ∷ 0 ∷ []) []) (refuse OddUses 0) ∷
    prints (ring_uses (0 ∷ 1 ∷ 0 ∷ 1 ∷ 0 ∷ 1 ∷ 0 ∷ 1 ∷ []) []) (refuse ManyUses 0) ∷
    prints (ring_uses (0 ∷ 1 ∷ 0 ∷ 1 ∷ 0 ∷ 1 ∷ 0 ∷ 1 ∷ 0 ∷ []) []) (refuse OddUses 0) ∷
    prints (ring_uses (0 ∷ 1 ∷ 0 ∷ 1 ∷ 0 ∷ 1 ∷ 0 ∷ 1 ∷ 0 ∷ 1 ∷ []) []) (refuse ManyUses 0) ∷
    -- place the edge
    prints (ring_uses [] (0 ∷ 1 ∷ 0 ∷ 1 ∷ [])) (refuse ManyUses 1) ∷
    prints (ring_uses (0 ∷ 1 ∷ []) (0 ∷ 1 ∷ 0 ∷ 1 ∷ [])) (refuse ManyUses 1) ∷
    -- tested right after 11 for that edge, before all that is tested for a higher one
    prints (ring_uses (0 ∷ 1 ∷ 0 ∷ 1 ∷ []) (1 ∷ 0 ∷ 1 ∷ 0 ∷ [])) (refuse ManyUses 0) ∷
    prints (ring_uses (0 ∷ 1 ∷ 0 ∷ 1 ∷ []) (0 ∷ [])) (refuse ManyUses 0) ∷
    prints (ring_uses (0 ∷ 1 ∷ 0 ∷ 1 ∷ []) (0 ∷ 0 ∷ [])) (refuse ManyUses 0) ∷
    prints (ring_uses (0 ∷ 1 ∷ 0 ∷ []) (0 ∷ 1 ∷ 0 ∷ 1 ∷ [])) (refuse OddUses 0) ∷
    prints (ring_uses (0 ∷ 0 ∷ []) (0 ∷ 1 ∷ 0 ∷ 1 ∷ [])) (refuse EqualSenses 0) ∷
    -- no radial question is put: the answer may be missing, undecided, no order of the uses, or one that ordinary sewing takes
    prints radial_missing.records (refuse ManyUses 0) ∷
    prints radial_open.records (refuse ManyUses 0) ∷
    prints radial_short.records (refuse ManyUses 0) ∷
    prints radial_twice.records (refuse ManyUses 0) ∷
    prints same_same.records (refuse ManyUses 0) ∷
    prints lone_use.records (refuse ManyUses 0) ∷
    prints three_uses.records (refuse OddUses 0) ∷
    prints two_shells.records (refuse ManyUses 0) ∷
    prints orient_missing.records (refuse ManyUses 0) ∷
    prints void_alone.records (refuse ManyUses 0) ∷
    prints inside_missing.records (refuse ManyUses 0) ∷
    -- where ordinary sewing has 30 or 33, or 32 before 33; also for pairs that merging removes, and before the questions of vertex loops
    prints edge_in_bound.records (refuse ManyUses 0) ∷
    prints edge_in_lump.records (refuse ManyUses 0) ∷
    prints point_before_edge.records (refuse ManyUses 2) ∷
    prints thirty_first.job (refuse ManyUses 0) ∷
    prints removed_pair_counts.job (refuse ManyUses 0) ∷
    prints seam_counts.job (refuse ManyUses 0) ∷
    prints points_before_thirty.job (refuse ManyUses 0) ∷
    -- before 40, and after what loading refuses
    prints_in 0 (ring_uses (0 ∷ 1 ∷ 0 ∷ 1 ∷ []) []) (refuse ManyUses 0) ∷
    prints radial_again.records radial_again.ending ∷
    -- only with this profile
    sews (ring_uses (0 ∷ 1 ∷ 0 ∷ 1 ∷ []) []) (refuse Unanswered 7) ∷
    sews two_shells.records two_shells.ending ∷
    -- and not in the operations that a number or a name asks for, or with a joining table
    same_bytes (operation None (framed_all two_shells.records) 65536) (bytes_of two_shells.ending) ∷
    same_bytes (operation (Some Merge) (framed_all two_shells.records) 65536) (merge_stage ordinary (framed_all two_shells.records) 65536) ∷
    same_bytes (operation (Some Walk) (framed_all two_shells.records) 65536) (walk_stage ordinary (framed_all two_shells.records) 65536) ∷
    same_bytes (sewn_with_table (1 ∷ 0 ∷ 0 ∷ 1 ∷ []) (framed_all two_shells.records) 65536) (bytes_of two_shells.ending) ∷
    same (listing_with_table (1 ∷ 0 ∷ 0 ∷ 1 ∷ []) (framed_all two_shells.records)) (listing_of two_shells.ending) ∷ []

pub many_uses_right : all (λ b. b) many_uses_cases ≡ true
unfolding computes ring_uses many_uses_cases radial_missing radial_open radial_short radial_twice same_same lone_use three_uses two_shells orient_missing
    void_alone inside_missing edge_in_bound edge_in_lump point_before_edge thirty_first removed_pair_counts seam_counts points_before_thirty radial_again
many_uses_right = refl

-- 42

-- one vertex on a point, and two edges from it to itself, that one face has in two loops: two fans of one boundary
unfoldable pub one_vertex : ℕ → List Record
one_vertex point =
    rec 1 (1 ∷ []) ∷ rec 2 (point ∷ []) ∷
    rec 3 (1 ∷ 0 ∷ 0 ∷ 0 ∷ []) ∷ rec 3 (2 ∷ 0 ∷ 0 ∷ 0 ∷ []) ∷
    rec 4 (7 ∷ 0 ∷ 0 ∷ 0 ∷ 0 ∷ []) ∷ rec 5 (0 ∷ 0 ∷ []) ∷ rec 5 (1 ∷ 0 ∷ []) ∷
    rec 4 (8 ∷ 0 ∷ 0 ∷ 0 ∷ 1 ∷ []) ∷ rec 5 (0 ∷ 1 ∷ []) ∷
    rec 4 (9 ∷ 0 ∷ 0 ∷ 0 ∷ 2 ∷ []) ∷ rec 5 (1 ∷ 1 ∷ []) ∷
    rec 8 (0 ∷ 0 ∷ []) ∷ rec 8 (1 ∷ 0 ∷ []) ∷ []

-- the same edges with two faces each: two fans of two boundaries, and no question of joining is answered
unfoldable pub two_boundaries : ℕ → List Record
two_boundaries point =
    rec 1 (1 ∷ []) ∷ rec 2 (point ∷ []) ∷
    rec 3 (5 ∷ 0 ∷ 0 ∷ 0 ∷ []) ∷ rec 3 (6 ∷ 0 ∷ 0 ∷ 0 ∷ []) ∷
    rec 4 (7 ∷ 0 ∷ 0 ∷ 0 ∷ 0 ∷ []) ∷ rec 5 (0 ∷ 0 ∷ []) ∷ rec 4 (8 ∷ 0 ∷ 0 ∷ 0 ∷ 1 ∷ []) ∷ rec 5 (0 ∷ 1 ∷ []) ∷
    rec 4 (7 ∷ 0 ∷ 0 ∷ 0 ∷ 2 ∷ []) ∷ rec 5 (1 ∷ 0 ∷ []) ∷ rec 4 (8 ∷ 0 ∷ 0 ∷ 0 ∷ 3 ∷ []) ∷ rec 5 (1 ∷ 1 ∷ []) ∷
    rec 8 (0 ∷ 0 ∷ []) ∷ rec 8 (2 ∷ 0 ∷ []) ∷ []

-- two faces, and an edge for each vertex from it to itself: the vertices stand on these points
unfoldable pub on_points : ℕ → ℕ → ℕ → ℕ → List Record
on_points a b c d =
    rec 1 (1 ∷ []) ∷ rec 2 (a ∷ []) ∷ rec 2 (b ∷ []) ∷ rec 2 (c ∷ []) ∷ rec 2 (d ∷ []) ∷
    rec 3 (1 ∷ 0 ∷ 0 ∷ 0 ∷ []) ∷ rec 3 (2 ∷ 0 ∷ 1 ∷ 1 ∷ []) ∷ rec 3 (3 ∷ 0 ∷ 2 ∷ 2 ∷ []) ∷ rec 3 (4 ∷ 0 ∷ 3 ∷ 3 ∷ []) ∷
    rec 4 (7 ∷ 0 ∷ 0 ∷ 0 ∷ 0 ∷ []) ∷ rec 5 (0 ∷ 0 ∷ []) ∷ rec 5 (1 ∷ 0 ∷ []) ∷ rec 5 (2 ∷ 0 ∷ []) ∷ rec 5 (3 ∷ 0 ∷ []) ∷
    rec 4 (8 ∷ 0 ∷ 0 ∷ 0 ∷ 1 ∷ []) ∷ rec 5 (0 ∷ 1 ∷ []) ∷ rec 5 (1 ∷ 1 ∷ []) ∷ rec 5 (2 ∷ 1 ∷ []) ∷ rec 5 (3 ∷ 1 ∷ []) ∷
    rec 8 (0 ∷ 0 ∷ []) ∷ rec 8 (1 ∷ 0 ∷ []) ∷ rec 8 (2 ∷ 0 ∷ []) ∷ rec 8 (3 ∷ 0 ∷ []) ∷ []

-- two lenses that share point 4, each a boundary and a lump, with these answers about the surfaces of the second
unfoldable pub touching : List Record → List Record
touching second =
    rec 1 (1 ∷ []) ∷ rec 2 (4 ∷ []) ∷ rec 2 (1 ∷ []) ∷ rec 2 (4 ∷ []) ∷ rec 2 (3 ∷ []) ∷
    rec 3 (5 ∷ 0 ∷ 0 ∷ 1 ∷ []) ∷ rec 3 (5 ∷ 0 ∷ 1 ∷ 0 ∷ []) ∷ rec 3 (6 ∷ 0 ∷ 2 ∷ 3 ∷ []) ∷ rec 3 (6 ∷ 0 ∷ 3 ∷ 2 ∷ []) ∷
    rec 4 (7 ∷ 0 ∷ 0 ∷ 0 ∷ 0 ∷ []) ∷ rec 5 (0 ∷ 0 ∷ 1 ∷ 0 ∷ []) ∷ rec 4 (8 ∷ 0 ∷ 0 ∷ 0 ∷ 1 ∷ []) ∷ rec 5 (1 ∷ 1 ∷ 0 ∷ 1 ∷ []) ∷
    rec 4 (7 ∷ 0 ∷ 0 ∷ 0 ∷ 2 ∷ []) ∷ rec 5 (2 ∷ 0 ∷ 3 ∷ 0 ∷ []) ∷ rec 4 (8 ∷ 0 ∷ 0 ∷ 0 ∷ 3 ∷ []) ∷ rec 5 (3 ∷ 1 ∷ 2 ∷ 1 ∷ []) ∷
    rec 8 (0 ∷ 0 ∷ []) ∷ rec 8 (1 ∷ 0 ∷ []) ∷
    rec 11 (5 ∷ 0 ∷ 1 ∷ 4 ∷ 0 ∷ []) ∷ rec 11 (5 ∷ 0 ∷ 1 ∷ 1 ∷ 0 ∷ []) ∷ rec 11 (6 ∷ 2 ∷ 3 ∷ 4 ∷ 0 ∷ []) ∷ rec 11 (6 ∷ 2 ∷ 3 ∷ 3 ∷ 0 ∷ []) ∷ second

unfoldable pub apart : List Record
apart = rec 8 (4 ∷ 0 ∷ []) ∷ rec 8 (5 ∷ 0 ∷ []) ∷ []

-- the second lens merges into one face, so that its uses are removed and have no fan
unfoldable pub merged : List Record
merged = rec 8 (4 ∷ 1 ∷ []) ∷ rec 8 (5 ∷ 1 ∷ []) ∷ []

-- the ordinary body: two rings, each in a shell and a lump of its own
unfoldable pub two_rings : Outcome (List Record)
two_rings = Ok
    (rec 21 (1 ∷ 8 ∷ 0 ∷ 0 ∷ 2 ∷ 2 ∷ 0 ∷ []) ∷
    rec 23 (5 ∷ 1 ∷ unset ∷ unset ∷ []) ∷ rec 23 (6 ∷ 1 ∷ unset ∷ unset ∷ []) ∷
    rec 24 (7 ∷ 0 ∷ []) ∷ rec 29 (0 ∷ 0 ∷ []) ∷ rec 25 (0 ∷ 1 ∷ []) ∷ rec 24 (8 ∷ 0 ∷ []) ∷ rec 29 (0 ∷ 1 ∷ []) ∷ rec 25 (0 ∷ 0 ∷ []) ∷
    rec 24 (7 ∷ 0 ∷ []) ∷ rec 29 (0 ∷ 2 ∷ []) ∷ rec 25 (1 ∷ 1 ∷ []) ∷ rec 24 (8 ∷ 0 ∷ []) ∷ rec 29 (0 ∷ 3 ∷ []) ∷ rec 25 (1 ∷ 0 ∷ []) ∷
    rec 27 [] ∷ rec 28 (0 ∷ 1 ∷ []) ∷ rec 27 [] ∷ rec 28 (2 ∷ 3 ∷ []) ∷ [])

-- one ring, and a face without loops in a lump of its own
unfoldable pub one_ring : Outcome (List Record)
one_ring = Ok
    (rec 21 (1 ∷ 8 ∷ 4 ∷ 0 ∷ 1 ∷ 1 ∷ 1 ∷ []) ∷
    rec 23 (5 ∷ 1 ∷ unset ∷ unset ∷ []) ∷
    rec 24 (7 ∷ 0 ∷ []) ∷ rec 29 (0 ∷ 0 ∷ []) ∷ rec 25 (0 ∷ 1 ∷ []) ∷ rec 24 (8 ∷ 0 ∷ []) ∷ rec 29 (0 ∷ 1 ∷ []) ∷ rec 25 (0 ∷ 0 ∷ []) ∷
    rec 24 (7 ∷ 0 ∷ []) ∷ rec 29 (0 ∷ 2 ∷ 0 ∷ 3 ∷ []) ∷
    rec 27 [] ∷ rec 28 (0 ∷ 1 ∷ []) ∷ rec 27 [] ∷ rec 28 (2 ∷ []) ∷ [])

-- a lens with a vertex loop where a fan stands: that is no fan
unfoldable pub looped_lens : List Record
looped_lens =
    rec 1 (1 ∷ []) ∷ rec 2 (0 ∷ []) ∷ rec 2 (1 ∷ []) ∷
    rec 3 (5 ∷ 0 ∷ 0 ∷ 1 ∷ []) ∷ rec 3 (5 ∷ 0 ∷ 1 ∷ 0 ∷ []) ∷
    rec 4 (7 ∷ 0 ∷ 0 ∷ 0 ∷ 0 ∷ []) ∷ rec 5 (0 ∷ 0 ∷ 1 ∷ 0 ∷ []) ∷ rec 6 (0 ∷ []) ∷ rec 4 (8 ∷ 0 ∷ 0 ∷ 0 ∷ 1 ∷ []) ∷ rec 5 (1 ∷ 1 ∷ 0 ∷ 1 ∷ []) ∷
    rec 8 (0 ∷ 0 ∷ []) ∷ rec 8 (1 ∷ 0 ∷ []) ∷ rec 11 (5 ∷ 0 ∷ 1 ∷ 0 ∷ 0 ∷ []) ∷ rec 11 (5 ∷ 0 ∷ 1 ∷ 1 ∷ 0 ∷ []) ∷ []

unfoldable pub looped_ring : Outcome (List Record)
looped_ring = Ok
    (rec 21 (1 ∷ 4 ∷ 0 ∷ 0 ∷ 1 ∷ 1 ∷ 0 ∷ []) ∷ rec 23 (5 ∷ 1 ∷ unset ∷ unset ∷ []) ∷
    rec 24 (7 ∷ 0 ∷ []) ∷ rec 29 (0 ∷ 0 ∷ []) ∷ rec 25 (0 ∷ 1 ∷ []) ∷ rec 26 (0 ∷ []) ∷ rec 24 (8 ∷ 0 ∷ []) ∷ rec 29 (0 ∷ 1 ∷ []) ∷ rec 25 (0 ∷ 0 ∷ []) ∷
    rec 27 [] ∷ rec 28 (0 ∷ 1 ∷ []) ∷ [])

-- two lenses on one point whose first faces merge over a ring and hold two vertex loops: their question is put before 42
unfoldable pub loops_asked : List Record
loops_asked =
    rec 1 (1 ∷ []) ∷ rec 2 (4 ∷ []) ∷ rec 2 (4 ∷ []) ∷ rec 2 (8 ∷ []) ∷ rec 2 (9 ∷ []) ∷
    rec 3 (1 ∷ 0 ∷ 0 ∷ 0 ∷ []) ∷ rec 3 (2 ∷ 0 ∷ 1 ∷ 1 ∷ []) ∷
    rec 4 (7 ∷ 0 ∷ 0 ∷ 0 ∷ 0 ∷ []) ∷ rec 5 (0 ∷ 0 ∷ []) ∷ rec 6 (2 ∷ []) ∷ rec 6 (3 ∷ []) ∷ rec 4 (8 ∷ 0 ∷ 0 ∷ 0 ∷ 1 ∷ []) ∷ rec 5 (0 ∷ 1 ∷ []) ∷
    rec 4 (7 ∷ 0 ∷ 0 ∷ 0 ∷ 2 ∷ []) ∷ rec 5 (1 ∷ 0 ∷ []) ∷ rec 4 (8 ∷ 0 ∷ 0 ∷ 0 ∷ 3 ∷ []) ∷ rec 5 (1 ∷ 1 ∷ []) ∷
    rec 8 (0 ∷ 0 ∷ []) ∷ rec 8 (2 ∷ 0 ∷ []) ∷ []

-- two faces on one ring, each with a vertex loop on point 4: no fan stands there
unfoldable pub looped_faces : List Record
looped_faces =
    rec 1 (1 ∷ []) ∷ rec 2 (4 ∷ []) ∷ rec 3 (5 ∷ 0 ∷ unset ∷ unset ∷ []) ∷
    rec 4 (7 ∷ 0 ∷ 0 ∷ 0 ∷ 0 ∷ []) ∷ rec 5 (0 ∷ 0 ∷ []) ∷ rec 6 (0 ∷ []) ∷
    rec 4 (8 ∷ 0 ∷ 0 ∷ 0 ∷ 1 ∷ []) ∷ rec 5 (0 ∷ 1 ∷ []) ∷ rec 6 (0 ∷ []) ∷
    rec 8 (0 ∷ 0 ∷ []) ∷ []

unfoldable pub looped_faces_body : Outcome (List Record)
looped_faces_body = Ok
    (rec 21 (1 ∷ 2 ∷ 0 ∷ 0 ∷ 0 ∷ 0 ∷ 0 ∷ []) ∷ rec 23 (5 ∷ 0 ∷ unset ∷ unset ∷ []) ∷
    rec 24 (7 ∷ 0 ∷ []) ∷ rec 29 (0 ∷ 0 ∷ []) ∷ rec 25 (0 ∷ 0 ∷ []) ∷ rec 26 (4 ∷ []) ∷
    rec 24 (8 ∷ 0 ∷ []) ∷ rec 29 (0 ∷ 1 ∷ []) ∷ rec 25 (0 ∷ 1 ∷ []) ∷ rec 26 (4 ∷ []) ∷
    rec 27 [] ∷ rec 28 (0 ∷ 1 ∷ []) ∷ [])

unfoldable pub many_fans_cases : List Bool
many_fans_cases =
    -- two fans of one boundary: 42 comes before 31
    prints (one_vertex 4) (refuse ManyFans 4) ∷ sews (one_vertex 4) (refuse FansInBoundary 4) ∷
    prints point_in_bound.records (refuse ManyFans 4) ∷
    -- of two boundaries, and of two lumps: with and without answers to what joining asks, which 42 comes before
    prints (two_boundaries 4) (refuse ManyFans 4) ∷ sews (two_boundaries 4) (refuse Unanswered 11) ∷
    prints (touching apart) (refuse ManyFans 4) ∷ sews (touching apart) two_rings ∷
    prints singular_missing.records (refuse ManyFans 4) ∷
    prints singular_open.records (refuse ManyFans 4) ∷
    prints point_shared.records (refuse ManyFans 4) ∷
    prints point_in_lump.records (refuse ManyFans 4) ∷
    -- any point counts: 0 and the highest number too
    prints (two_boundaries 0) (refuse ManyFans 0) ∷
    prints (two_boundaries 4294967295) (refuse ManyFans 4294967295) ∷
    prints (one_vertex 0) (refuse ManyFans 0) ∷
    -- by ascending point, whatever is met first; fans need not be neighbours, and there may be three
    prints lowest_point.job (refuse ManyFans 4) ∷
    prints fans_apart.job (refuse ManyFans 4) ∷
    prints (on_points 9 4 9 4) (refuse ManyFans 4) ∷
    prints (on_points 4 9 9 4) (refuse ManyFans 4) ∷
    prints (on_points 4 9 4 9) (refuse ManyFans 4) ∷
    prints (on_points 2 9 9 3) (refuse ManyFans 9) ∷
    prints (on_points 9 9 1 9) (refuse ManyFans 9) ∷
    prints (on_points 1 5 6 5) (refuse ManyFans 5) ∷
    prints (on_points 9 9 9 9) (refuse ManyFans 9) ∷
    prints (on_points 65540 4 65540 5) (refuse ManyFans 65540) ∷
    -- points are compared whole
    prints (on_points 4 65540 131076 196612) (refuse Unanswered 11) ∷
    prints (on_points 4 2147483652 5 6) (refuse Unanswered 11) ∷
    -- after the questions about surfaces and vertex loops, before 40
    prints (touching []) (refuse Unanswered 8) ∷
    prints loops_asked (refuse Unanswered 9) ∷
    prints_in 0 (touching apart) (refuse ManyFans 4) ∷
    -- only kept uses with ends have fans: not removed ones, not rings, not vertex loops
    prints (touching merged) one_ring ∷ sews (touching merged) one_ring ∷
    prints looped_lens looped_ring ∷
    -- two vertex loops on one point are no fans either
    prints looped_faces looped_faces_body ∷
    -- points are the same by their numbers, whatever an answer says
    prints (P7.job ++ (rec 9 (0 ∷ 1 ∷ 1 ∷ []) ∷ [])) P7.ending ∷
    -- faces join as in ordinary sewing
    prints (opposed_job 2) P3.ending ∷
    prints (opposed_job 1) kept_apart ∷
    prints (ring_job 1 ++ (rec 8 (0 ∷ 2 ∷ []) ∷ [])) P2.ending ∷
    -- only with this profile, and not with a joining table
    same_bytes (sewn_with_table (1 ∷ 0 ∷ 0 ∷ 1 ∷ []) (framed_all (touching apart)) 65536) (bytes_of two_rings) ∷ []

pub many_fans_right : all (λ b. b) many_fans_cases ≡ true
unfolding computes one_vertex two_boundaries on_points touching apart merged two_rings one_ring looped_lens looped_ring loops_asked many_fans_cases point_in_bound singular_missing
    looped_faces looped_faces_body ring_job lens_job P2 P3 P7 opposed_faces opposed_job kept_apart
    singular_open point_shared point_in_lump lowest_point fans_apart
many_fans_right = refl

-- NEITHER FAULT

-- a job with neither fault ends as in ordinary sewing
abbrev pub alike : Row → Bool
alike r = prints r.job r.ending

abbrev pub alike_case : Case → Bool
alike_case c = same_bytes (sewn print_shop (framed_all c.records ++ c.damaged) c.room) (bytes_of c.ending)

unfoldable pub faultless_rows : List Row
faultless_rows = P1 ∷ P2 ∷ P3 ∷ P4 ∷ P5 ∷ P6 ∷ P7 ∷ P8 ∷ P9 ∷ merged_place ∷ merged_singular ∷ sorted_pair ∷ two_halves ∷ triangle_by_point ∷ []

unfoldable pub faultless_cases : List Case
faultless_cases =
    empty_job ∷ cut_payload ∷ no_room ∷ just_room ∷ surface_missing ∷ surface_open ∷ surface_vanish ∷ points_missing ∷ points_same ∷ curves_missing ∷ curves_open ∷
    void_inside ∷ seam ∷ turned ∷ four_joined ∷ pass_twice ∷ unused_edge ∷ vertex_loop_last ∷ inner ∷ outer_kept ∷ void_first ∷ []

pub faultless_right : (all alike faultless_rows && all alike_case faultless_cases) ≡ true
unfolding computes two_halves triangle_by_point ring_job lens_job P1 P2 P3 P4 P5 P6 P7 P8 P9 merged_place merged_singular sorted_pair faultless_rows faultless_cases
    empty_job cut_payload no_room just_room
    surface_missing surface_open surface_vanish points_missing points_same curves_missing curves_open void_inside seam turned four_joined pass_twice unused_edge vertex_loop_last
    inner outer_kept void_first
faultless_right = refl

-- STAGES AND TEXT

-- 40 is by the ordinary body; the stages by these rules stop at 41 before pairing's answer, and at 42 after the fans; and the listing
unfoldable pub print_texts : List Bool
print_texts =
    prints_in 159 P2.job (refuse NoRoom 160) ∷ prints_in 160 P2.job P2.ending ∷
    same_bytes (pair_stage print_shop (framed_all two_shells.records) 65536) (refuse ManyUses 0) ∷
    same_bytes (merge_stage print_shop (framed_all two_shells.records) 65536) (refuse ManyUses 0) ∷
    same_bytes (vertex_loop_stage print_shop (framed_all two_shells.records) 65536) (refuse ManyUses 0) ∷
    same_bytes (walk_stage print_shop (framed_all two_shells.records) 65536) (refuse ManyUses 0) ∷
    same_bytes (loop_stage print_shop (framed_all two_shells.records) 65536) (refuse ManyUses 0) ∷
    same_bytes (fan_stage print_shop (framed_all two_shells.records) 65536) (refuse ManyUses 0) ∷
    same_bytes (joining_stage print_shop (framed_all (touching apart)) 65536) (refuse ManyFans 4) ∷
    same_bytes (shell_stage print_shop (framed_all (touching apart)) 65536) (refuse ManyFans 4) ∷
    same_bytes (lump_stage print_shop (framed_all (touching apart)) 65536) (refuse ManyFans 4) ∷
    same (stage_listing (Some Walk) print_shop (framed_all two_shells.records) 65536) (refusal_line 41 0) ∷
    same_bytes (fan_stage print_shop (framed_all (one_vertex 4)) 65536) (fan_stage ordinary (framed_all (one_vertex 4)) 65536) ∷
    same_bytes (edge_stage print_shop (framed_all (touching apart)) 65536) (refuse ManyFans 4) ∷
    same (listing print_shop (framed_all two_shells.records)) (114 ∷ 101 ∷ 102 ∷ 117 ∷ 115 ∷ 101 ∷ 100 ∷ 32 ∷ 52 ∷ 49 ∷ 32 ∷ 48 ∷ 10 ∷ []) ∷
    same (listing print_shop (framed_all (touching apart))) (114 ∷ 101 ∷ 102 ∷ 117 ∷ 115 ∷ 101 ∷ 100 ∷ 32 ∷ 52 ∷ 50 ∷ 32 ∷ 52 ∷ 10 ∷ []) ∷
    same (listing print_shop (framed_all (two_boundaries 4294967295))) (refusal_line 42 4294967295) ∷
    same (listing print_shop (framed_all P7.job)) (listing_of P7.ending) ∷
    same (listing print_shop []) (refusal_line 3 0) ∷
    same (walk_listing_with_table (1 ∷ 0 ∷ 0 ∷ 1 ∷ []) (framed_all two_shells.records) 65536) (stage_listing (Some Walk) ordinary (framed_all two_shells.records) 65536) ∷ []

pub print_texts_right : all (λ b. b) print_texts ≡ true
unfolding computes ring_job lens_job P2 P7 two_shells one_vertex two_boundaries touching apart print_texts
print_texts_right = refl
