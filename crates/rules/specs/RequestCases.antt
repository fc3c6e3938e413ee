-- Jobs made by hand from document 02, request by request.
use Rattle.std.specs.Prelude.{◌≡◌, refl, List, [], ◌∷◌, ◌++◌, map, ℕ, length, take, Bool, true}
use Rattle.lists.specs.Lists.{same, all, below}
use Rattle.rules.specs.Outcome.{Outcome, Ok, refuse, ◌>>=◌, throughout}
use Rattle.rules.specs.Fields.{field_bytes}
use Rattle.rules.specs.Frame.{Record, framed_all}
use Rattle.rules.specs.Listing.{listing}
use Rattle.rules.specs.Job.{unset}
use Rattle.rules.specs.Load.{loaded, requested, shown}
use Rattle.rules.specs.Read.{uses_of, use_start}
use Rattle.rules.specs.Pair.{pair}
use Rattle.rules.specs.Rules.{full_table, ordinary}
use Rattle.rules.specs.Merge.{merge_step, ungrouped}
use Rattle.rules.specs.Body.{rec}
use Rattle.rules.specs.Tables.{Row, right, same_records}
use Rattle.rules.specs.Cases.{same_bytes}
use Rattle.rules.specs.MoreCases.{same_stretch}
use Rattle.rules.specs.Sew.{sewn}
use Rattle.rules.specs.Stage.{read_stage, fan_stage}
use Rattle.rules.specs.Open.{computes}
use Rattle.rules.specs.declared.Fault.TheVariants.{CutShort, Misplaced, FieldNotPermitted, LoopJoints, NoRoom, SelectedTwice}

-- FOUR, SENSE BY CASES

-- own times selected: Same Same, Same Reversed, Reversed Same, Reversed Reversed
unfoldable pub four_faces : Row
four_faces = record {
  job = rec 1 (1 ∷ []) ∷ rec 4 (7 ∷ 0 ∷ 0 ∷ 0 ∷ 0 ∷ []) ∷ rec 4 (8 ∷ 0 ∷ 1 ∷ 0 ∷ 1 ∷ []) ∷ rec 4 (9 ∷ 1 ∷ 0 ∷ 0 ∷ 2 ∷ []) ∷ rec 4 (10 ∷ 1 ∷ 1 ∷ 0 ∷ 3 ∷ []) ∷ [];
  ending =
      Ok (rec 21 (1 ∷ 0 ∷ 0 ∷ 0 ∷ 0 ∷ 0 ∷ 0 ∷ []) ∷ rec 24 (7 ∷ 0 ∷ []) ∷ rec 29 (0 ∷ 0 ∷ []) ∷ rec 24 (8 ∷ 1 ∷ []) ∷ rec 29 (0 ∷ 1 ∷ []) ∷ rec 24 (9 ∷ 1 ∷ []) ∷
      rec 29 (0 ∷ 2 ∷ []) ∷ rec 24 (10 ∷ 0 ∷ []) ∷ rec 29 (0 ∷ 3 ∷ []) ∷ rec 27 [] ∷ rec 28 (0 ∷ []) ∷
      rec 27 [] ∷ rec 28 (1 ∷ []) ∷ rec 27 [] ∷ rec 28 (2 ∷ []) ∷ rec 27 [] ∷ rec 28 (3 ∷ []) ∷ []);
}

-- normals agree, and Reversed times Reversed is the other face's Same: the two faces are one
unfoldable pub reversed_twice : Row
reversed_twice = record {
  job =
      rec 1 (1 ∷ []) ∷ rec 3 (5 ∷ 0 ∷ unset ∷ unset ∷ []) ∷ rec 4 (7 ∷ 0 ∷ 0 ∷ 0 ∷ 0 ∷ []) ∷ rec 5 (0 ∷ 0 ∷ []) ∷ rec 4 (8 ∷ 1 ∷ 1 ∷ 0 ∷ 1 ∷ []) ∷ rec 5 (0 ∷ 0 ∷ []) ∷
      rec 8 (0 ∷ 1 ∷ []) ∷ [];
  ending = Ok (rec 21 (1 ∷ 2 ∷ 2 ∷ 0 ∷ 0 ∷ 0 ∷ 1 ∷ []) ∷ rec 24 (7 ∷ 0 ∷ []) ∷ rec 29 (0 ∷ 0 ∷ 0 ∷ 1 ∷ []) ∷ rec 27 [] ∷ rec 28 (0 ∷ []) ∷ []);
}

-- a loop's sense times the selected sense, the four cases in turn: two rings, a face selected Same and one selected Reversed
unfoldable pub four_uses : Row
four_uses = record {
  job =
      rec 1 (1 ∷ []) ∷ rec 3 (5 ∷ 0 ∷ unset ∷ unset ∷ []) ∷ rec 3 (6 ∷ 0 ∷ unset ∷ unset ∷ []) ∷ rec 4 (7 ∷ 0 ∷ 0 ∷ 0 ∷ 0 ∷ []) ∷ rec 5 (0 ∷ 0 ∷ []) ∷
      rec 5 (1 ∷ 1 ∷ []) ∷
      rec 4 (8 ∷ 0 ∷ 1 ∷ 0 ∷ 1 ∷ []) ∷ rec 5 (0 ∷ 0 ∷ []) ∷ rec 5 (1 ∷ 1 ∷ []) ∷ rec 8 (0 ∷ 0 ∷ []) ∷ rec 8 (1 ∷ 0 ∷ []) ∷ [];
  ending =
      Ok (rec 21 (1 ∷ 4 ∷ 0 ∷ 0 ∷ 0 ∷ 0 ∷ 0 ∷ []) ∷ rec 23 (5 ∷ 0 ∷ unset ∷ unset ∷ []) ∷ rec 23 (6 ∷ 0 ∷ unset ∷ unset ∷ []) ∷ rec 24 (7 ∷ 0 ∷ []) ∷
      rec 29 (0 ∷ 0 ∷ []) ∷ rec 25 (0 ∷ 0 ∷ []) ∷
      rec 25 (1 ∷ 1 ∷ []) ∷ rec 24 (8 ∷ 1 ∷ []) ∷ rec 29 (0 ∷ 1 ∷ []) ∷ rec 25 (0 ∷ 1 ∷ []) ∷ rec 25 (1 ∷ 0 ∷ []) ∷ rec 27 [] ∷ rec 28 (0 ∷ 1 ∷ []) ∷ []);
}

unfoldable pub sense_rows : List Row
sense_rows = four_faces ∷ reversed_twice ∷ four_uses ∷ []

pub senses_right : all right sense_rows ≡ true
unfolding computes same_records sense_rows four_faces reversed_twice four_uses
senses_right = refl

-- the uses as read: edge, face, sense, successor of each
pub senses_read_right : same_bytes (read_stage (framed_all four_uses.job) 64) (Ok (field_bytes (0 ∷ 0 ∷ 0 ∷ 0 ∷ 1 ∷ 0 ∷ 1 ∷ 1 ∷ 0 ∷ 1 ∷ 1 ∷ 2 ∷ 1 ∷ 1 ∷ 0 ∷ 3 ∷ []))) ≡ true
unfolding computes four_uses
senses_read_right = refl

-- THREE, JOINTS BY POINT

-- P7 from two halves: neighbouring uses meet at two vertex records that stand on one point
unfoldable pub two_halves : Row
two_halves = record {
  job =
      rec 1 (1 ∷ []) ∷ rec 2 (0 ∷ []) ∷ rec 2 (1 ∷ []) ∷ rec 2 (1 ∷ []) ∷ rec 2 (0 ∷ []) ∷ rec 3 (5 ∷ 0 ∷ 0 ∷ 1 ∷ []) ∷ rec 3 (5 ∷ 0 ∷ 2 ∷ 3 ∷ []) ∷
      rec 4 (7 ∷ 0 ∷ 0 ∷ 0 ∷ 0 ∷ []) ∷ rec 5 (0 ∷ 0 ∷ 1 ∷ 0 ∷ []) ∷ rec 4 (8 ∷ 0 ∷ 0 ∷ 0 ∷ 1 ∷ []) ∷ rec 5 (1 ∷ 1 ∷ 0 ∷ 1 ∷ []) ∷ rec 8 (0 ∷ 0 ∷ []) ∷
      rec 8 (1 ∷ 0 ∷ []) ∷
      rec 11 (5 ∷ 0 ∷ 1 ∷ 0 ∷ 0 ∷ []) ∷ rec 11 (5 ∷ 0 ∷ 1 ∷ 1 ∷ 0 ∷ []) ∷ [];
  ending =
      Ok (rec 21 (1 ∷ 4 ∷ 0 ∷ 0 ∷ 1 ∷ 1 ∷ 0 ∷ []) ∷ rec 23 (5 ∷ 1 ∷ unset ∷ unset ∷ []) ∷ rec 24 (7 ∷ 0 ∷ []) ∷ rec 29 (0 ∷ 0 ∷ []) ∷ rec 25 (0 ∷ 1 ∷ []) ∷
      rec 24 (8 ∷ 0 ∷ []) ∷ rec 29 (0 ∷ 1 ∷ []) ∷
      rec 25 (0 ∷ 0 ∷ []) ∷ rec 27 [] ∷ rec 28 (0 ∷ 1 ∷ []) ∷ []);
}

-- a triangle whose edges have a vertex record for each end; the second face is selected Reversed, its joints hold as stored
unfoldable pub triangle_by_point : Row
triangle_by_point = record {
  job =
      rec 1 (1 ∷ []) ∷ rec 2 (11 ∷ []) ∷ rec 2 (12 ∷ []) ∷ rec 2 (12 ∷ []) ∷ rec 2 (13 ∷ []) ∷ rec 2 (13 ∷ []) ∷ rec 2 (11 ∷ []) ∷ rec 3 (5 ∷ 0 ∷ 0 ∷ 1 ∷ []) ∷
      rec 3 (6 ∷ 0 ∷ 2 ∷ 3 ∷ []) ∷ rec 3 (7 ∷ 0 ∷ 4 ∷ 5 ∷ []) ∷ rec 4 (7 ∷ 0 ∷ 0 ∷ 0 ∷ 0 ∷ []) ∷ rec 5 (0 ∷ 0 ∷ 1 ∷ 0 ∷ 2 ∷ 0 ∷ []) ∷
      rec 4 (8 ∷ 0 ∷ 1 ∷ 0 ∷ 1 ∷ []) ∷
      rec 5 (1 ∷ 0 ∷ 2 ∷ 0 ∷ 0 ∷ 0 ∷ []) ∷ rec 8 (0 ∷ 0 ∷ []) ∷ rec 8 (1 ∷ 0 ∷ []) ∷ rec 8 (2 ∷ 0 ∷ []) ∷ rec 10 (5 ∷ 6 ∷ 0 ∷ []) ∷ rec 10 (6 ∷ 7 ∷ 0 ∷ []) ∷
      rec 10 (5 ∷ 7 ∷ 0 ∷ []) ∷ [];
  ending =
      Ok (rec 21 (1 ∷ 6 ∷ 0 ∷ 0 ∷ 0 ∷ 0 ∷ 0 ∷ []) ∷ rec 22 (11 ∷ []) ∷ rec 22 (12 ∷ []) ∷ rec 22 (13 ∷ []) ∷ rec 23 (5 ∷ 0 ∷ 0 ∷ 1 ∷ []) ∷
      rec 23 (6 ∷ 0 ∷ 1 ∷ 2 ∷ []) ∷
      rec 23 (7 ∷ 0 ∷ 2 ∷ 0 ∷ []) ∷ rec 24 (7 ∷ 0 ∷ []) ∷ rec 29 (0 ∷ 0 ∷ []) ∷ rec 25 (0 ∷ 0 ∷ 1 ∷ 0 ∷ 2 ∷ 0 ∷ []) ∷ rec 24 (8 ∷ 1 ∷ []) ∷ rec 29 (0 ∷ 1 ∷ []) ∷
      rec 25 (0 ∷ 1 ∷ 2 ∷ 1 ∷ 1 ∷ 1 ∷ []) ∷ rec 27 [] ∷
      rec 28 (0 ∷ 1 ∷ []) ∷ []);
}

-- a use alone in its loop, between two vertex records on point 4,294,967,295: it loads, and is no ring, since it has a corner
unfoldable pub alone_by_point : Row
alone_by_point = record {
  job =
      rec 1 (1 ∷ []) ∷ rec 2 (4294967295 ∷ []) ∷ rec 2 (4294967295 ∷ []) ∷ rec 3 (5 ∷ 0 ∷ 0 ∷ 1 ∷ []) ∷ rec 4 (7 ∷ 0 ∷ 0 ∷ 0 ∷ 0 ∷ []) ∷ rec 5 (0 ∷ 0 ∷ []) ∷
      rec 4 (8 ∷ 0 ∷ 0 ∷ 0 ∷ 1 ∷ []) ∷
      rec 5 (0 ∷ 1 ∷ []) ∷ rec 8 (0 ∷ 0 ∷ []) ∷ rec 11 (5 ∷ 0 ∷ 1 ∷ 4294967295 ∷ 1 ∷ []) ∷ [];
  ending =
      Ok (rec 21 (1 ∷ 2 ∷ 0 ∷ 0 ∷ 0 ∷ 0 ∷ 0 ∷ []) ∷ rec 22 (4294967295 ∷ []) ∷ rec 23 (5 ∷ 0 ∷ 0 ∷ 0 ∷ []) ∷ rec 24 (7 ∷ 0 ∷ []) ∷ rec 29 (0 ∷ 0 ∷ []) ∷
      rec 25 (0 ∷ 0 ∷ []) ∷ rec 24 (8 ∷ 0 ∷ []) ∷ rec 29 (0 ∷ 1 ∷ []) ∷
      rec 25 (0 ∷ 1 ∷ []) ∷ rec 27 [] ∷ rec 28 (0 ∷ 1 ∷ []) ∷ []);
}

-- the last use ends at another point than the first starts
unfoldable pub last_open : Row
last_open = record {
  job =
      rec 1 (1 ∷ []) ∷ rec 2 (0 ∷ []) ∷ rec 2 (1 ∷ []) ∷ rec 2 (1 ∷ []) ∷ rec 2 (2 ∷ []) ∷ rec 3 (5 ∷ 0 ∷ 0 ∷ 1 ∷ []) ∷ rec 3 (5 ∷ 0 ∷ 2 ∷ 3 ∷ []) ∷
      rec 4 (7 ∷ 0 ∷ 0 ∷ 0 ∷ 0 ∷ []) ∷ rec 5 (0 ∷ 0 ∷ 1 ∷ 0 ∷ []) ∷ [];
  ending = refuse LoopJoints 120;
}

-- the second use starts at another point than the first ends, though the last leads to the first
unfoldable pub first_open : Row
first_open = record {
  job =
      rec 1 (1 ∷ []) ∷ rec 2 (0 ∷ []) ∷ rec 2 (1 ∷ []) ∷ rec 2 (2 ∷ []) ∷ rec 2 (0 ∷ []) ∷ rec 3 (5 ∷ 0 ∷ 0 ∷ 1 ∷ []) ∷ rec 3 (5 ∷ 0 ∷ 2 ∷ 3 ∷ []) ∷
      rec 4 (7 ∷ 0 ∷ 0 ∷ 0 ∷ 0 ∷ []) ∷ rec 5 (0 ∷ 0 ∷ 1 ∷ 0 ∷ []) ∷ [];
  ending = refuse LoopJoints 120;
}

-- the second loop breaks between its second use and its third
unfoldable pub middle_open : Row
middle_open = record {
  job =
      rec 1 (1 ∷ []) ∷ rec 2 (1 ∷ []) ∷ rec 2 (2 ∷ []) ∷ rec 2 (2 ∷ []) ∷ rec 2 (3 ∷ []) ∷ rec 2 (4 ∷ []) ∷ rec 2 (1 ∷ []) ∷ rec 2 (4 ∷ []) ∷
      rec 3 (5 ∷ 0 ∷ 0 ∷ 1 ∷ []) ∷ rec 3 (6 ∷ 0 ∷ 2 ∷ 3 ∷ []) ∷ rec 3 (7 ∷ 0 ∷ 4 ∷ 5 ∷ []) ∷ rec 3 (8 ∷ 0 ∷ 4 ∷ 6 ∷ []) ∷ rec 4 (7 ∷ 0 ∷ 0 ∷ 0 ∷ 0 ∷ []) ∷
      rec 5 (3 ∷ 0 ∷ []) ∷
      rec 5 (0 ∷ 0 ∷ 1 ∷ 0 ∷ 2 ∷ 0 ∷ []) ∷ [];
  ending = refuse LoopJoints 208;
}

-- point numbers that differ above their lower 16 bits
unfoldable pub point_numbers : Row
point_numbers = record {
  job =
      rec 1 (1 ∷ []) ∷ rec 2 (1 ∷ []) ∷ rec 2 (65537 ∷ []) ∷ rec 3 (5 ∷ 0 ∷ 0 ∷ 1 ∷ []) ∷ rec 4 (7 ∷ 0 ∷ 0 ∷ 0 ∷ 0 ∷ []) ∷ rec 5 (0 ∷ 0 ∷ []) ∷ [];
  ending = refuse LoopJoints 78;
}

-- an answer calls the two points the same; no question is put, the numbers differ
unfoldable pub answered_same : Row
answered_same = record {
  job =
      rec 1 (1 ∷ []) ∷ rec 2 (1 ∷ []) ∷ rec 2 (2 ∷ []) ∷ rec 3 (5 ∷ 0 ∷ 0 ∷ 1 ∷ []) ∷ rec 4 (7 ∷ 0 ∷ 0 ∷ 0 ∷ 0 ∷ []) ∷ rec 5 (0 ∷ 0 ∷ []) ∷
      rec 9 (1 ∷ 2 ∷ 1 ∷ []) ∷ [];
  ending = refuse LoopJoints 78;
}

-- the ring rule remains: a ring's use before one that starts and ends at point 4,294,967,295
unfoldable pub ring_first : Row
ring_first = record {
  job =
      rec 1 (1 ∷ []) ∷ rec 2 (4294967295 ∷ []) ∷ rec 3 (5 ∷ 0 ∷ unset ∷ unset ∷ []) ∷ rec 3 (6 ∷ 0 ∷ 0 ∷ 0 ∷ []) ∷ rec 4 (7 ∷ 0 ∷ 0 ∷ 0 ∷ 0 ∷ []) ∷
      rec 5 (0 ∷ 0 ∷ 1 ∷ 0 ∷ []) ∷
      [];
  ending = refuse LoopJoints 90;
}

-- and after one that starts and ends at point 0
unfoldable pub ring_last : Row
ring_last = record {
  job =
      rec 1 (1 ∷ []) ∷ rec 2 (0 ∷ []) ∷ rec 3 (5 ∷ 0 ∷ unset ∷ unset ∷ []) ∷ rec 3 (6 ∷ 0 ∷ 0 ∷ 0 ∷ []) ∷ rec 4 (7 ∷ 0 ∷ 0 ∷ 0 ∷ 0 ∷ []) ∷
      rec 5 (1 ∷ 0 ∷ 0 ∷ 1 ∷ []) ∷ [];
  ending = refuse LoopJoints 90;
}

-- and beside a ring's
unfoldable pub two_rings : Row
two_rings = record {
  job =
      rec 1 (1 ∷ []) ∷ rec 3 (5 ∷ 0 ∷ unset ∷ unset ∷ []) ∷ rec 3 (6 ∷ 0 ∷ unset ∷ unset ∷ []) ∷ rec 4 (7 ∷ 0 ∷ 0 ∷ 0 ∷ 0 ∷ []) ∷ rec 5 (0 ∷ 0 ∷ 1 ∷ 0 ∷ []) ∷ [];
  ending = refuse LoopJoints 80;
}

unfoldable pub joint_rows : List Row
joint_rows = two_halves ∷ triangle_by_point ∷ alone_by_point ∷ last_open ∷ first_open ∷ middle_open ∷ point_numbers ∷ answered_same ∷ ring_first ∷ ring_last ∷ two_rings ∷ []

pub joints_right : all right joint_rows ≡ true
unfolding computes same_records joint_rows two_halves triangle_by_point alone_by_point last_open first_open middle_open point_numbers answered_same ring_first ring_last two_rings
joints_right = refl

-- each fan of the triangle starts at two vertices and at one point: where each use starts, and of each use its fan and point
pub starts_right : same_bytes (loaded (framed_all triangle_by_point.job) >>= λ j. Ok (map (use_start j.edges) (uses_of j))) (Ok (0 ∷ 2 ∷ 4 ∷ 1 ∷ 5 ∷ 3 ∷ [])) ≡ true
unfolding computes triangle_by_point
starts_right = refl

pub fans_right : same_bytes (fan_stage ordinary (framed_all triangle_by_point.job) 72)
    (Ok (field_bytes (0 ∷ 0 ∷ 11 ∷ 1 ∷ 1 ∷ 12 ∷ 2 ∷ 2 ∷ 13 ∷ 3 ∷ 1 ∷ 12 ∷ 4 ∷ 0 ∷ 11 ∷ 5 ∷ 2 ∷ 13 ∷ []))) ≡ true
unfolding computes triangle_by_point
fans_right = refl

-- SIX, WHETHER ANYTHING JOINED

-- two surface questions between the same two faces: both answers join, and the second finds one group
unfoldable pub joined_once : Row
joined_once = record {
  job =
      rec 1 (1 ∷ []) ∷ rec 3 (5 ∷ 0 ∷ unset ∷ unset ∷ []) ∷ rec 3 (6 ∷ 0 ∷ unset ∷ unset ∷ []) ∷ rec 4 (7 ∷ 0 ∷ 0 ∷ 0 ∷ 0 ∷ []) ∷ rec 5 (0 ∷ 0 ∷ []) ∷
      rec 5 (1 ∷ 0 ∷ []) ∷ rec 4 (7 ∷ 0 ∷ 0 ∷ 0 ∷ 1 ∷ []) ∷ rec 5 (0 ∷ 1 ∷ []) ∷ rec 5 (1 ∷ 1 ∷ []) ∷ rec 8 (0 ∷ 1 ∷ []) ∷ rec 8 (1 ∷ 1 ∷ []) ∷ [];
  ending =
      Ok (rec 21 (1 ∷ 4 ∷ 4 ∷ 0 ∷ 0 ∷ 0 ∷ 1 ∷ []) ∷ rec 24 (7 ∷ 0 ∷ []) ∷ rec 29 (0 ∷ 0 ∷ 0 ∷ 1 ∷ []) ∷ rec 27 [] ∷ rec 28 (0 ∷ []) ∷ []);
}

-- the face across is in a group already, and not its lowest: the join counts
unfoldable pub second_face_in_a_group : Row
second_face_in_a_group = record {
  job =
      rec 1 (1 ∷ []) ∷ rec 3 (5 ∷ 0 ∷ unset ∷ unset ∷ []) ∷ rec 3 (6 ∷ 0 ∷ unset ∷ unset ∷ []) ∷ rec 4 (7 ∷ 0 ∷ 0 ∷ 0 ∷ 0 ∷ []) ∷ rec 5 (0 ∷ 0 ∷ []) ∷
      rec 4 (7 ∷ 0 ∷ 0 ∷ 0 ∷ 1 ∷ []) ∷ rec 5 (1 ∷ 0 ∷ []) ∷ rec 4 (7 ∷ 0 ∷ 0 ∷ 0 ∷ 2 ∷ []) ∷ rec 5 (0 ∷ 1 ∷ []) ∷ rec 5 (1 ∷ 1 ∷ []) ∷ rec 8 (0 ∷ 1 ∷ []) ∷
      rec 8 (1 ∷ 1 ∷ []) ∷ [];
  ending =
      Ok (rec 21 (1 ∷ 4 ∷ 4 ∷ 0 ∷ 0 ∷ 0 ∷ 2 ∷ []) ∷ rec 24 (7 ∷ 0 ∷ []) ∷ rec 29 (0 ∷ 0 ∷ 0 ∷ 1 ∷ 0 ∷ 2 ∷ []) ∷ rec 27 [] ∷ rec 28 (0 ∷ []) ∷ []);
}

-- the same for the face that asks
unfoldable pub first_face_in_a_group : Row
first_face_in_a_group = record {
  job =
      rec 1 (1 ∷ []) ∷ rec 3 (5 ∷ 0 ∷ unset ∷ unset ∷ []) ∷ rec 3 (6 ∷ 0 ∷ unset ∷ unset ∷ []) ∷ rec 4 (7 ∷ 0 ∷ 0 ∷ 0 ∷ 0 ∷ []) ∷ rec 5 (0 ∷ 0 ∷ []) ∷
      rec 4 (7 ∷ 0 ∷ 0 ∷ 0 ∷ 1 ∷ []) ∷ rec 5 (0 ∷ 1 ∷ []) ∷ rec 5 (1 ∷ 0 ∷ []) ∷ rec 4 (7 ∷ 0 ∷ 0 ∷ 0 ∷ 2 ∷ []) ∷ rec 5 (1 ∷ 1 ∷ []) ∷ rec 8 (0 ∷ 1 ∷ []) ∷
      rec 8 (2 ∷ 1 ∷ []) ∷ [];
  ending =
      Ok (rec 21 (1 ∷ 4 ∷ 4 ∷ 0 ∷ 0 ∷ 0 ∷ 2 ∷ []) ∷ rec 24 (7 ∷ 0 ∷ []) ∷ rec 29 (0 ∷ 0 ∷ 0 ∷ 1 ∷ 0 ∷ 2 ∷ []) ∷ rec 27 [] ∷ rec 28 (0 ∷ []) ∷ []);
}

-- two groups of two faces each become one through the higher faces of both
unfoldable pub pairs_of_faces : Row
pairs_of_faces = record {
  job =
      rec 1 (1 ∷ []) ∷ rec 3 (5 ∷ 0 ∷ unset ∷ unset ∷ []) ∷ rec 3 (6 ∷ 0 ∷ unset ∷ unset ∷ []) ∷ rec 3 (7 ∷ 0 ∷ unset ∷ unset ∷ []) ∷
      rec 4 (7 ∷ 0 ∷ 0 ∷ 0 ∷ 0 ∷ []) ∷ rec 5 (0 ∷ 0 ∷ []) ∷ rec 4 (7 ∷ 0 ∷ 0 ∷ 0 ∷ 1 ∷ []) ∷ rec 5 (1 ∷ 0 ∷ []) ∷ rec 4 (7 ∷ 0 ∷ 0 ∷ 0 ∷ 2 ∷ []) ∷
      rec 5 (0 ∷ 1 ∷ []) ∷
      rec 5 (2 ∷ 0 ∷ []) ∷ rec 4 (7 ∷ 0 ∷ 0 ∷ 0 ∷ 3 ∷ []) ∷ rec 5 (1 ∷ 1 ∷ []) ∷ rec 5 (2 ∷ 1 ∷ []) ∷ rec 8 (0 ∷ 1 ∷ []) ∷ rec 8 (1 ∷ 1 ∷ []) ∷ rec 8 (3 ∷ 1 ∷ []) ∷
      [];
  ending =
      Ok (rec 21 (1 ∷ 6 ∷ 6 ∷ 0 ∷ 0 ∷ 0 ∷ 3 ∷ []) ∷ rec 24 (7 ∷ 0 ∷ []) ∷ rec 29 (0 ∷ 0 ∷ 0 ∷ 1 ∷ 0 ∷ 2 ∷ 0 ∷ 3 ∷ []) ∷ rec 27 [] ∷ rec 28 (0 ∷ []) ∷ []);
}

-- three faces, each beside each: the first two answers join, the third finds one group
unfoldable pub three_in_a_round : Row
three_in_a_round = record {
  job =
      rec 1 (1 ∷ []) ∷ rec 3 (5 ∷ 0 ∷ unset ∷ unset ∷ []) ∷ rec 3 (6 ∷ 0 ∷ unset ∷ unset ∷ []) ∷ rec 3 (7 ∷ 0 ∷ unset ∷ unset ∷ []) ∷
      rec 4 (7 ∷ 0 ∷ 0 ∷ 0 ∷ 0 ∷ []) ∷ rec 5 (0 ∷ 0 ∷ []) ∷ rec 5 (1 ∷ 0 ∷ []) ∷ rec 4 (7 ∷ 0 ∷ 0 ∷ 0 ∷ 1 ∷ []) ∷ rec 5 (0 ∷ 1 ∷ []) ∷ rec 5 (2 ∷ 0 ∷ []) ∷
      rec 4 (7 ∷ 0 ∷ 0 ∷ 0 ∷ 2 ∷ []) ∷ rec 5 (1 ∷ 1 ∷ []) ∷ rec 5 (2 ∷ 1 ∷ []) ∷ rec 8 (0 ∷ 1 ∷ []) ∷ rec 8 (1 ∷ 1 ∷ []) ∷ rec 8 (3 ∷ 1 ∷ []) ∷ [];
  ending =
      Ok (rec 21 (1 ∷ 6 ∷ 6 ∷ 0 ∷ 0 ∷ 0 ∷ 2 ∷ []) ∷ rec 24 (7 ∷ 0 ∷ []) ∷ rec 29 (0 ∷ 0 ∷ 0 ∷ 1 ∷ 0 ∷ 2 ∷ []) ∷ rec 27 [] ∷ rec 28 (0 ∷ []) ∷ []);
}

-- of three questions one joins: surfaces distinct, and normals that agree where the stored senses differ
unfoldable pub asked_in_vain : Row
asked_in_vain = record {
  job =
      rec 1 (1 ∷ []) ∷ rec 3 (5 ∷ 0 ∷ unset ∷ unset ∷ []) ∷ rec 3 (6 ∷ 0 ∷ unset ∷ unset ∷ []) ∷ rec 3 (7 ∷ 0 ∷ unset ∷ unset ∷ []) ∷
      rec 4 (7 ∷ 0 ∷ 0 ∷ 0 ∷ 0 ∷ []) ∷ rec 5 (0 ∷ 0 ∷ []) ∷ rec 4 (8 ∷ 0 ∷ 0 ∷ 0 ∷ 1 ∷ []) ∷ rec 5 (0 ∷ 1 ∷ []) ∷ rec 5 (1 ∷ 0 ∷ []) ∷
      rec 4 (8 ∷ 0 ∷ 0 ∷ 0 ∷ 2 ∷ []) ∷
      rec 5 (1 ∷ 1 ∷ []) ∷ rec 5 (2 ∷ 0 ∷ []) ∷ rec 4 (8 ∷ 1 ∷ 0 ∷ 0 ∷ 3 ∷ []) ∷ rec 5 (2 ∷ 1 ∷ []) ∷ rec 8 (0 ∷ 0 ∷ []) ∷ rec 8 (2 ∷ 1 ∷ []) ∷ rec 8 (4 ∷ 1 ∷ []) ∷
      [];
  ending =
      Ok (rec 21 (1 ∷ 6 ∷ 2 ∷ 0 ∷ 0 ∷ 0 ∷ 1 ∷ []) ∷ rec 23 (5 ∷ 0 ∷ unset ∷ unset ∷ []) ∷ rec 23 (7 ∷ 0 ∷ unset ∷ unset ∷ []) ∷ rec 24 (7 ∷ 0 ∷ []) ∷
      rec 29 (0 ∷ 0 ∷ []) ∷
      rec 25 (0 ∷ 0 ∷ []) ∷ rec 24 (8 ∷ 0 ∷ []) ∷ rec 29 (0 ∷ 1 ∷ 0 ∷ 2 ∷ []) ∷ rec 25 (0 ∷ 1 ∷ []) ∷ rec 25 (1 ∷ 0 ∷ []) ∷ rec 24 (8 ∷ 1 ∷ []) ∷ rec 29 (0 ∷ 3 ∷ []) ∷
      rec 25 (1 ∷ 1 ∷ []) ∷ rec 27 [] ∷
      rec 28 (0 ∷ 1 ∷ 2 ∷ []) ∷ []);
}

unfoldable pub join_rows : List Row
join_rows = joined_once ∷ second_face_in_a_group ∷ first_face_in_a_group ∷ pairs_of_faces ∷ three_in_a_round ∷ asked_in_vain ∷ []

pub joins_right : all right join_rows ≡ true
unfolding computes same_records join_rows joined_once second_face_in_a_group first_face_in_a_group pairs_of_faces three_in_a_round asked_in_vain
joins_right = refl

-- face joins and groups when so many uses of the three in a round have asked: the third question, of use 3, changes nothing
unfoldable pub joins_so_far : ℕ → Outcome (List ℕ)
joins_so_far k = loaded (framed_all three_in_a_round.job) >>= λ j.
    pair ordinary.profile j.answers (uses_of j) (length j.edges) >>= λ ts.
    throughout (merge_step full_table j.answers j.faces (uses_of j) ts) (below k) (ungrouped (length j.faces)) >>= λ g.
    Ok (g.joins ∷ g.groups)

unfoldable pub question_tests : List Bool
question_tests =
    same_bytes (joins_so_far 0) (Ok (0 ∷ 0 ∷ 1 ∷ 2 ∷ [])) ∷
    same_bytes (joins_so_far 1) (Ok (1 ∷ 0 ∷ 0 ∷ 2 ∷ [])) ∷
    same_bytes (joins_so_far 2) (Ok (2 ∷ 0 ∷ 0 ∷ 0 ∷ [])) ∷
    same_bytes (joins_so_far 3) (Ok (2 ∷ 0 ∷ 0 ∷ 0 ∷ [])) ∷
    same_bytes (joins_so_far 4) (Ok (2 ∷ 0 ∷ 0 ∷ 0 ∷ [])) ∷ []

pub each_question_right : all (λ b. b) question_tests ≡ true
unfolding computes question_tests joins_so_far three_in_a_round
each_question_right = refl

-- the body of two faces that are one: 34 bytes of the Body record, 14 of the face, 22 of its members, 6 of the lump, 10 of the shell
unfoldable pub room_tests : List Bool
room_tests =
    same_bytes (sewn ordinary (framed_all joined_once.job) 85) (refuse NoRoom 86) ∷
    same_bytes (sewn ordinary (framed_all joined_once.job) 86)
    (Ok
    ((28 ∷ 0 ∷ 0 ∷ 0 ∷ 21 ∷ 0 ∷ []) ++ field_bytes (1 ∷ 4 ∷ 4 ∷ 0 ∷ 0 ∷ 0 ∷ 1 ∷ []) ++ (8 ∷ 0 ∷ 0 ∷ 0 ∷ 24 ∷ 0 ∷ []) ++ field_bytes (7 ∷ 0 ∷ []) ++
    (16 ∷ 0 ∷ 0 ∷ 0 ∷ 29 ∷ 0 ∷ []) ++ field_bytes (0 ∷ 0 ∷ 0 ∷ 1 ∷ []) ++ (0 ∷ 0 ∷ 0 ∷ 0 ∷ 27 ∷ 0 ∷ []) ++ (4 ∷ 0 ∷ 0 ∷ 0 ∷ 28 ∷ 0 ∷ []) ++
    field_bytes (0 ∷ []))) ∷
    []

pub room_right : all (λ b. b) room_tests ≡ true
unfolding computes room_tests joined_once
room_right = refl

-- SEVEN, FACES REMEMBER THEIR MEMBERS

-- a face of so many fields: the forms with three, four and six give 3
unfoldable pub face_of_fields : List ℕ → List Record
face_of_fields fields = rec 1 (1 ∷ []) ∷ rec 4 fields ∷ []

unfoldable pub three_fields : Row
three_fields = record { job = face_of_fields (9 ∷ 0 ∷ 0 ∷ []); ending = refuse Misplaced 10 }

unfoldable pub four_fields : Row
four_fields = record { job = face_of_fields (9 ∷ 0 ∷ 0 ∷ 0 ∷ []); ending = refuse Misplaced 10 }

unfoldable pub six_fields : Row
six_fields = record { job = face_of_fields (9 ∷ 0 ∷ 0 ∷ 0 ∷ 0 ∷ 0 ∷ []); ending = refuse Misplaced 10 }

-- a body other than 0 or 1 is a field fault, also of the second face
unfoldable pub body_two : Row
body_two = record { job = face_of_fields (9 ∷ 0 ∷ 0 ∷ 2 ∷ 0 ∷ []); ending = refuse FieldNotPermitted 10 }

unfoldable pub body_highest : Row
body_highest = record { job = face_of_fields (9 ∷ 0 ∷ 0 ∷ 0 ∷ 0 ∷ []) ++ (rec 4 (9 ∷ 0 ∷ 0 ∷ unset ∷ 0 ∷ []) ∷ []); ending = refuse FieldNotPermitted 36 }

-- a source face may be anything, 4,294,967,295 as any other number; a face without loops has its members too
unfoldable pub source_anything : Row
source_anything = record {
  job = rec 1 (1 ∷ []) ∷ rec 4 (7 ∷ 0 ∷ 0 ∷ 0 ∷ unset ∷ []) ∷ rec 4 (8 ∷ 0 ∷ 0 ∷ 1 ∷ 65536 ∷ []) ∷ [];
  ending = Ok
      (rec 21 (1 ∷ 0 ∷ 0 ∷ 0 ∷ 0 ∷ 0 ∷ 0 ∷ []) ∷ rec 24 (7 ∷ 0 ∷ []) ∷ rec 29 (0 ∷ unset ∷ []) ∷ rec 24 (8 ∷ 0 ∷ []) ∷ rec 29 (1 ∷ 65536 ∷ []) ∷
      rec 27 [] ∷ rec 28 (0 ∷ []) ∷ rec 27 [] ∷ rec 28 (1 ∷ []) ∷ []);
}

-- three members of two bodies in one face, by ascending selected face and not by source; the pairs are body and source of each in turn, and they stand before the face's loop and its vertex loop
unfoldable pub three_members : Row
three_members = record {
  job =
      rec 1 (1 ∷ []) ∷ rec 2 (4 ∷ []) ∷ rec 3 (5 ∷ 0 ∷ unset ∷ unset ∷ []) ∷ rec 3 (6 ∷ 0 ∷ unset ∷ unset ∷ []) ∷ rec 3 (9 ∷ 0 ∷ unset ∷ unset ∷ []) ∷
      rec 4 (8 ∷ 0 ∷ 0 ∷ 1 ∷ 0 ∷ []) ∷ rec 5 (2 ∷ 1 ∷ []) ∷
      rec 4 (7 ∷ 0 ∷ 0 ∷ 1 ∷ 9 ∷ []) ∷ rec 5 (0 ∷ 0 ∷ []) ∷ rec 5 (2 ∷ 0 ∷ []) ∷
      rec 4 (7 ∷ 0 ∷ 0 ∷ 0 ∷ unset ∷ []) ∷ rec 5 (1 ∷ 1 ∷ []) ∷ rec 6 (0 ∷ []) ∷
      rec 4 (7 ∷ 0 ∷ 0 ∷ 0 ∷ 3 ∷ []) ∷ rec 5 (0 ∷ 1 ∷ []) ∷ rec 5 (1 ∷ 0 ∷ []) ∷
      rec 8 (0 ∷ 0 ∷ []) ∷ rec 8 (1 ∷ 1 ∷ []) ∷ rec 8 (3 ∷ 1 ∷ []) ∷ [];
  ending = Ok
      (rec 21 (1 ∷ 6 ∷ 4 ∷ 0 ∷ 0 ∷ 0 ∷ 2 ∷ []) ∷ rec 23 (9 ∷ 0 ∷ unset ∷ unset ∷ []) ∷
      rec 24 (8 ∷ 0 ∷ []) ∷ rec 29 (1 ∷ 0 ∷ []) ∷ rec 25 (0 ∷ 1 ∷ []) ∷
      rec 24 (7 ∷ 0 ∷ []) ∷ rec 29 (1 ∷ 9 ∷ 0 ∷ unset ∷ 0 ∷ 3 ∷ []) ∷ rec 25 (0 ∷ 0 ∷ []) ∷ rec 26 (4 ∷ []) ∷
      rec 27 [] ∷ rec 28 (0 ∷ 1 ∷ []) ∷ []);
}

-- two merged faces whose selected faces alternate: each has its own, and not those between
unfoldable pub members_alternate : Row
members_alternate = record {
  job =
      rec 1 (1 ∷ []) ∷ rec 3 (5 ∷ 0 ∷ unset ∷ unset ∷ []) ∷ rec 3 (6 ∷ 0 ∷ unset ∷ unset ∷ []) ∷
      rec 4 (7 ∷ 0 ∷ 0 ∷ 0 ∷ 40 ∷ []) ∷ rec 5 (0 ∷ 0 ∷ []) ∷ rec 4 (8 ∷ 1 ∷ 0 ∷ 1 ∷ 40 ∷ []) ∷ rec 5 (1 ∷ 0 ∷ []) ∷
      rec 4 (7 ∷ 0 ∷ 0 ∷ 1 ∷ 20 ∷ []) ∷ rec 5 (0 ∷ 1 ∷ []) ∷ rec 4 (8 ∷ 1 ∷ 0 ∷ 0 ∷ 20 ∷ []) ∷ rec 5 (1 ∷ 1 ∷ []) ∷
      rec 8 (0 ∷ 1 ∷ []) ∷ rec 8 (1 ∷ 1 ∷ []) ∷ [];
  ending = Ok
      (rec 21 (1 ∷ 4 ∷ 4 ∷ 0 ∷ 0 ∷ 0 ∷ 2 ∷ []) ∷ rec 24 (7 ∷ 0 ∷ []) ∷ rec 29 (0 ∷ 40 ∷ 1 ∷ 20 ∷ []) ∷ rec 24 (8 ∷ 1 ∷ []) ∷ rec 29 (1 ∷ 40 ∷ 0 ∷ 20 ∷ []) ∷
      rec 27 [] ∷ rec 28 (0 ∷ []) ∷ rec 27 [] ∷ rec 28 (1 ∷ []) ∷ []);
}

-- kind 29 is a record of the body alone
unfoldable pub members_in_job : Row
members_in_job = record { job = face_of_fields (9 ∷ 0 ∷ 0 ∷ 0 ∷ 0 ∷ []) ++ (rec 29 (0 ∷ 0 ∷ []) ∷ []); ending = refuse Misplaced 36 }

unfoldable pub member_rows : List Row
member_rows =
    three_fields ∷ four_fields ∷ six_fields ∷ body_two ∷ body_highest ∷ source_anything ∷ three_members ∷ members_alternate ∷ members_in_job ∷ []

pub members_right : all right member_rows ≡ true
unfolding computes same_records member_rows face_of_fields three_fields four_fields six_fields body_two body_highest source_anything three_members members_alternate members_in_job
members_right = refl

-- the lines of a listing: `members`, pairs, and 4,294,967,295 as a number
unfoldable pub member_texts : List Bool
member_texts =
    same (listing ordinary (framed_all (face_of_fields (9 ∷ 0 ∷ 0 ∷ 0 ∷ 0 ∷ []))))
    (98 ∷ 111 ∷ 100 ∷ 121 ∷ 32 ∷ 49 ∷ 32 ∷ 48 ∷ 32 ∷ 48 ∷ 32 ∷ 48 ∷ 32 ∷ 48 ∷ 32 ∷ 48 ∷ 32 ∷ 48 ∷ 10 ∷ 102 ∷ 97 ∷ 99 ∷ 101 ∷ 32 ∷ 57 ∷ 32 ∷ 48 ∷ 10 ∷ 109 ∷ 101 ∷ 109 ∷ 98 ∷ 101 ∷ 114 ∷ 115 ∷
    32 ∷ 48 ∷ 32 ∷ 48 ∷ 10 ∷ 108 ∷ 117 ∷ 109 ∷ 112 ∷ 10 ∷ 115 ∷ 104 ∷ 101 ∷ 108 ∷ 108 ∷ 32 ∷ 48 ∷ 10 ∷ []) ∷
    same (listing ordinary (framed_all source_anything.job))
    (98 ∷ 111 ∷ 100 ∷ 121 ∷ 32 ∷ 49 ∷ 32 ∷ 48 ∷ 32 ∷ 48 ∷ 32 ∷ 48 ∷ 32 ∷ 48 ∷ 32 ∷ 48 ∷ 32 ∷ 48 ∷ 10 ∷ 102 ∷ 97 ∷ 99 ∷ 101 ∷ 32 ∷ 55 ∷ 32 ∷ 48 ∷ 10 ∷ 109 ∷ 101 ∷ 109 ∷ 98 ∷ 101 ∷ 114 ∷ 115 ∷
    32 ∷ 48 ∷ 32 ∷ 52 ∷ 50 ∷ 57 ∷ 52 ∷ 57 ∷ 54 ∷ 55 ∷ 50 ∷ 57 ∷ 53 ∷ 10 ∷ 102 ∷ 97 ∷ 99 ∷ 101 ∷ 32 ∷ 56 ∷ 32 ∷ 48 ∷ 10 ∷ 109 ∷ 101 ∷ 109 ∷ 98 ∷ 101 ∷ 114 ∷ 115 ∷ 32 ∷ 49 ∷ 32 ∷ 54 ∷ 53 ∷ 53 ∷
    51 ∷ 54 ∷ 10 ∷ 108 ∷ 117 ∷ 109 ∷ 112 ∷ 10 ∷ 115 ∷ 104 ∷ 101 ∷ 108 ∷ 108 ∷ 32 ∷ 48 ∷ 10 ∷ 108 ∷ 117 ∷ 109 ∷ 112 ∷ 10 ∷ 115 ∷ 104 ∷ 101 ∷ 108 ∷ 108 ∷ 32 ∷ 49 ∷ 10 ∷ []) ∷
    []

pub member_texts_right : all (λ b. b) member_texts ≡ true
unfolding computes member_texts face_of_fields source_anything
member_texts_right = refl

-- EIGHT, NO FACE SELECTED TWICE

-- a job that selects faces with such fields: surface, own sense, selected sense, body, source face; face i stands at byte 10 + 26 i
unfoldable pub selecting : List (List ℕ) → List Record
selecting faces = rec 1 (1 ∷ []) ∷ map (rec 4) faces

-- the same face selected twice, in both senses: the pairing error that puzzled the user is not reached
unfoldable pub selected_twice : Row
selected_twice = record {
  job =
      rec 1 (1 ∷ []) ∷ rec 3 (5 ∷ 0 ∷ unset ∷ unset ∷ []) ∷ rec 4 (7 ∷ 0 ∷ 0 ∷ 1 ∷ 9 ∷ []) ∷ rec 5 (0 ∷ 0 ∷ []) ∷
      rec 4 (7 ∷ 0 ∷ 1 ∷ 1 ∷ 9 ∷ []) ∷ rec 5 (0 ∷ 1 ∷ []) ∷ [];
  ending = refuse SelectedTwice 72;
}

-- two that would be joined into one face
unfoldable pub twice_and_joined : Row
twice_and_joined = record {
  job =
      rec 1 (1 ∷ []) ∷ rec 3 (5 ∷ 0 ∷ unset ∷ unset ∷ []) ∷ rec 4 (7 ∷ 0 ∷ 0 ∷ 1 ∷ 6 ∷ []) ∷ rec 5 (0 ∷ 0 ∷ []) ∷
      rec 4 (7 ∷ 0 ∷ 0 ∷ 1 ∷ 6 ∷ []) ∷ rec 5 (0 ∷ 1 ∷ []) ∷ rec 8 (0 ∷ 1 ∷ []) ∷ [];
  ending = refuse SelectedTwice 72;
}

-- neither the surface nor a sense makes it another face
unfoldable pub twice_on_another_surface : Row
twice_on_another_surface = record { job = selecting ((7 ∷ 0 ∷ 0 ∷ 0 ∷ 5 ∷ []) ∷ (8 ∷ 0 ∷ 0 ∷ 0 ∷ 5 ∷ []) ∷ []); ending = refuse SelectedTwice 36 }

-- nor the own sense
unfoldable pub twice_with_another_own_sense : Row
twice_with_another_own_sense = record { job = selecting ((7 ∷ 0 ∷ 0 ∷ 0 ∷ 5 ∷ []) ∷ (7 ∷ 1 ∷ 0 ∷ 0 ∷ 5 ∷ []) ∷ []); ending = refuse SelectedTwice 36 }

-- in body 1 as in body 0
unfoldable pub twice_in_the_other_body : Row
twice_in_the_other_body = record { job = selecting ((7 ∷ 0 ∷ 0 ∷ 1 ∷ 5 ∷ []) ∷ (7 ∷ 0 ∷ 0 ∷ 1 ∷ 5 ∷ []) ∷ []); ending = refuse SelectedTwice 36 }

-- the number 0, and the highest, are numbers as any other
unfoldable pub zero_twice : Row
zero_twice = record { job = selecting ((7 ∷ 0 ∷ 0 ∷ 0 ∷ 0 ∷ []) ∷ (7 ∷ 0 ∷ 0 ∷ 0 ∷ 0 ∷ []) ∷ []); ending = refuse SelectedTwice 36 }

unfoldable pub highest_twice : Row
highest_twice = record { job = selecting ((7 ∷ 0 ∷ 0 ∷ 0 ∷ unset ∷ []) ∷ (7 ∷ 0 ∷ 0 ∷ 0 ∷ unset ∷ []) ∷ []); ending = refuse SelectedTwice 36 }

-- each face is held against all before it, and not only against the one before
unfoldable pub not_the_face_before : Row
not_the_face_before = record { job = selecting ((7 ∷ 0 ∷ 0 ∷ 0 ∷ 5 ∷ []) ∷ (7 ∷ 0 ∷ 0 ∷ 0 ∷ 6 ∷ []) ∷ (7 ∷ 0 ∷ 0 ∷ 0 ∷ 5 ∷ []) ∷ []); ending = refuse SelectedTwice 62 }

-- or against the first
unfoldable pub not_the_first_face : Row
not_the_first_face = record { job = selecting ((7 ∷ 0 ∷ 0 ∷ 0 ∷ 5 ∷ []) ∷ (7 ∷ 0 ∷ 0 ∷ 0 ∷ 6 ∷ []) ∷ (7 ∷ 0 ∷ 0 ∷ 0 ∷ 6 ∷ []) ∷ []); ending = refuse SelectedTwice 62 }

-- with the same number of the other body between
unfoldable pub after_the_other_body : Row
after_the_other_body = record { job = selecting ((7 ∷ 0 ∷ 0 ∷ 0 ∷ 5 ∷ []) ∷ (7 ∷ 0 ∷ 0 ∷ 1 ∷ 5 ∷ []) ∷ (7 ∷ 0 ∷ 0 ∷ 0 ∷ 5 ∷ []) ∷ []); ending = refuse SelectedTwice 62 }

-- the first record that repeats one is told, though an earlier face is repeated later
unfoldable pub first_of_two_repeats : Row
first_of_two_repeats = record { job = selecting ((7 ∷ 0 ∷ 0 ∷ 0 ∷ 5 ∷ []) ∷ (7 ∷ 0 ∷ 0 ∷ 0 ∷ 6 ∷ []) ∷ (7 ∷ 0 ∷ 0 ∷ 0 ∷ 6 ∷ []) ∷ (7 ∷ 0 ∷ 0 ∷ 0 ∷ 5 ∷ []) ∷ []); ending = refuse SelectedTwice 62 }

-- of that record the length comes first
unfoldable pub length_before_twice : Row
length_before_twice = record { job = selecting ((7 ∷ 0 ∷ 0 ∷ 0 ∷ 0 ∷ []) ∷ (7 ∷ 0 ∷ 0 ∷ []) ∷ []); ending = refuse Misplaced 36 }

-- and the fields: a sense that is none
unfoldable pub fields_before_twice : Row
fields_before_twice = record { job = selecting ((7 ∷ 0 ∷ 0 ∷ 0 ∷ 9 ∷ []) ∷ (7 ∷ 0 ∷ 2 ∷ 0 ∷ 9 ∷ []) ∷ []); ending = refuse FieldNotPermitted 36 }

-- before a later loop that does not join
unfoldable pub twice_before_joints : Row
twice_before_joints = record {
  job =
      rec 1 (1 ∷ []) ∷ rec 2 (0 ∷ []) ∷ rec 2 (1 ∷ []) ∷ rec 3 (5 ∷ 0 ∷ 0 ∷ 1 ∷ []) ∷ rec 4 (7 ∷ 0 ∷ 0 ∷ 0 ∷ 9 ∷ []) ∷ rec 4 (7 ∷ 0 ∷ 0 ∷ 0 ∷ 9 ∷ []) ∷
      rec 5 (0 ∷ 0 ∷ []) ∷ [];
  ending = refuse SelectedTwice 78;
}

-- and after an earlier one
unfoldable pub joints_before_twice : Row
joints_before_twice = record {
  job =
      rec 1 (1 ∷ []) ∷ rec 2 (0 ∷ []) ∷ rec 2 (1 ∷ []) ∷ rec 3 (5 ∷ 0 ∷ 0 ∷ 1 ∷ []) ∷ rec 4 (7 ∷ 0 ∷ 0 ∷ 0 ∷ 9 ∷ []) ∷ rec 5 (0 ∷ 0 ∷ []) ∷
      rec 4 (7 ∷ 0 ∷ 0 ∷ 0 ∷ 9 ∷ []) ∷ [];
  ending = refuse LoopJoints 78;
}

-- before a later record of no kind
unfoldable pub twice_before_unknown : Row
twice_before_unknown = record { job = selecting ((7 ∷ 0 ∷ 0 ∷ 0 ∷ 9 ∷ []) ∷ (7 ∷ 0 ∷ 0 ∷ 0 ∷ 9 ∷ []) ∷ []) ++ (rec 14 [] ∷ []); ending = refuse SelectedTwice 36 }

-- the same number in the other body is another face
unfoldable pub same_number_of_both : Row
same_number_of_both = record {
  job =
      rec 1 (1 ∷ []) ∷ rec 3 (5 ∷ 0 ∷ unset ∷ unset ∷ []) ∷ rec 4 (7 ∷ 0 ∷ 0 ∷ 0 ∷ 9 ∷ []) ∷ rec 5 (0 ∷ 0 ∷ []) ∷
      rec 4 (7 ∷ 0 ∷ 0 ∷ 1 ∷ 9 ∷ []) ∷ rec 5 (0 ∷ 1 ∷ []) ∷ rec 8 (0 ∷ 1 ∷ []) ∷ [];
  ending = Ok (rec 21 (1 ∷ 2 ∷ 2 ∷ 0 ∷ 0 ∷ 0 ∷ 1 ∷ []) ∷ rec 24 (7 ∷ 0 ∷ []) ∷ rec 29 (0 ∷ 9 ∷ 1 ∷ 9 ∷ []) ∷ rec 27 [] ∷ rec 28 (0 ∷ []) ∷ []);
}

-- body and number are compared each for itself
unfoldable pub same_sum : Row
same_sum = record {
  job = selecting ((7 ∷ 0 ∷ 0 ∷ 0 ∷ 6 ∷ []) ∷ (7 ∷ 0 ∷ 0 ∷ 1 ∷ 5 ∷ []) ∷ []);
  ending = Ok
      (rec 21 (1 ∷ 0 ∷ 0 ∷ 0 ∷ 0 ∷ 0 ∷ 0 ∷ []) ∷ rec 24 (7 ∷ 0 ∷ []) ∷ rec 29 (0 ∷ 6 ∷ []) ∷ rec 24 (7 ∷ 0 ∷ []) ∷ rec 29 (1 ∷ 5 ∷ []) ∷
      rec 27 [] ∷ rec 28 (0 ∷ []) ∷ rec 27 [] ∷ rec 28 (1 ∷ []) ∷ []);
}

-- numbers that agree in their lowest 8, 16, 24 or 31 bits are different
unfoldable pub by_all_bits : Row
by_all_bits = record {
  job = selecting ((7 ∷ 0 ∷ 0 ∷ 0 ∷ 1 ∷ []) ∷ (7 ∷ 0 ∷ 0 ∷ 0 ∷ 257 ∷ []) ∷ (7 ∷ 0 ∷ 0 ∷ 0 ∷ 65537 ∷ []) ∷ (7 ∷ 0 ∷ 0 ∷ 0 ∷ 16777217 ∷ []) ∷ (7 ∷ 0 ∷ 0 ∷ 0 ∷ 2147483649 ∷ []) ∷ []);
  ending = Ok
      (rec 21 (1 ∷ 0 ∷ 0 ∷ 0 ∷ 0 ∷ 0 ∷ 0 ∷ []) ∷ rec 24 (7 ∷ 0 ∷ []) ∷ rec 29 (0 ∷ 1 ∷ []) ∷ rec 24 (7 ∷ 0 ∷ []) ∷ rec 29 (0 ∷ 257 ∷ []) ∷
      rec 24 (7 ∷ 0 ∷ []) ∷ rec 29 (0 ∷ 65537 ∷ []) ∷ rec 24 (7 ∷ 0 ∷ []) ∷ rec 29 (0 ∷ 16777217 ∷ []) ∷ rec 24 (7 ∷ 0 ∷ []) ∷
      rec 29 (0 ∷ 2147483649 ∷ []) ∷ rec 27 [] ∷ rec 28 (0 ∷ []) ∷ rec 27 [] ∷ rec 28 (1 ∷ []) ∷ rec 27 [] ∷ rec 28 (2 ∷ []) ∷
      rec 27 [] ∷ rec 28 (3 ∷ []) ∷ rec 27 [] ∷ rec 28 (4 ∷ []) ∷ []);
}

unfoldable pub selected_rows : List Row
selected_rows =
    selected_twice ∷ twice_and_joined ∷ twice_on_another_surface ∷ twice_with_another_own_sense ∷
    twice_in_the_other_body ∷ zero_twice ∷ highest_twice ∷ not_the_face_before ∷ not_the_first_face ∷
    after_the_other_body ∷ first_of_two_repeats ∷ length_before_twice ∷ fields_before_twice ∷ twice_before_joints ∷
    joints_before_twice ∷ twice_before_unknown ∷ same_number_of_both ∷ same_sum ∷ by_all_bits ∷ []

pub selected_right : all right selected_rows ≡ true
unfolding computes same_records selected_rows selecting selected_twice twice_and_joined twice_on_another_surface
    twice_with_another_own_sense twice_in_the_other_body zero_twice highest_twice not_the_face_before
    not_the_first_face after_the_other_body first_of_two_repeats length_before_twice fields_before_twice
    twice_before_joints joints_before_twice twice_before_unknown same_number_of_both same_sum by_all_bits
selected_right = refl

-- a record that is cut, after the second of two; and as the second of them
unfoldable pub selected_tests : List Bool
selected_tests =
    same_bytes (sewn ordinary (framed_all selected_twice.job ++ (4 ∷ 0 ∷ 0 ∷ [])) 65536) (refuse SelectedTwice 72) ∷
    same_bytes (sewn ordinary (take 60 (framed_all twice_before_unknown.job)) 65536) (refuse CutShort 36) ∷
    -- in a stage, and in the loop request before a loop that there is none of; that shows nothing
    same_bytes (read_stage (framed_all selected_twice.job) 65536) (refuse SelectedTwice 72) ∷
    same_bytes (fan_stage ordinary (framed_all selected_twice.job) 65536) (refuse SelectedTwice 72) ∷
    same_stretch (requested (framed_all selected_twice.job) 9) (refuse SelectedTwice 72) ∷
    same_stretch (requested (framed_all selected_twice.job) 0) (refuse SelectedTwice 72) ∷
    same (shown (framed_all selected_twice.job) (requested (framed_all selected_twice.job) 0)) [] ∷
    []

pub selected_tests_right : all (λ b. b) selected_tests ≡ true
unfolding computes selected_tests selecting selected_twice twice_before_unknown
selected_tests_right = refl
