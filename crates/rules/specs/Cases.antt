-- Further jobs made by hand from document 01, each with its ending: what P1 to P9 leave open.
use Rattle.std.specs.Prelude.{◌≡◌, refl, List, [], ◌∷◌, ◌++◌, Bool, true, false, ℕ}
use Rattle.lists.specs.Lists.{same, all}
use Rattle.rules.specs.Outcome.{Outcome, Ok, refuse, Err, same_refusal}
use Rattle.rules.specs.Frame.{Record, framed_all}
use Rattle.rules.specs.Job.{unset}
use Rattle.rules.specs.Rules.{ordinary}
use Rattle.rules.specs.Body.{rec}
use Rattle.rules.specs.Sew.{sewn}
use Rattle.rules.specs.Open.{computes}
use Rattle.rules.specs.declared.Fault.TheVariants.{CutShort, Misplaced, FieldNotPermitted, LoopJoints, AnsweredTwice, OddUses, SamePredecessor, NoTwin, Unanswered, AnswerUndecided}
use Rattle.rules.specs.declared.Fault.TheVariants.{NormalsVanish, NotRound, PairsInBoundary, FansInBoundary, FansInLump, PairsInLump, NoOuterShell, NoRoom}

-- a job, its records and then the bytes of a damaged one, the length of the output, the expected ending
pub record Case : Type 0 where
  pub records : List Record
  pub damaged : List ℕ
  pub room : ℕ
  pub ending : Outcome (List Record)

abbrev pub bytes_of : Outcome (List Record) → Outcome (List ℕ)
bytes_of (Ok rs) = Ok (framed_all rs)
bytes_of (Err r) = Err r

abbrev pub same_bytes : Outcome (List ℕ) → Outcome (List ℕ) → Bool
same_bytes (Ok a) (Ok b) = same a b
same_bytes (Ok a) (Err q) = false
same_bytes (Err r) (Ok b) = false
same_bytes (Err r) (Err q) = same_refusal r q

-- sewing the case's job ends as the case says
abbrev pub right : Case → Bool
right c = same_bytes (sewn ordinary (framed_all c.records ++ c.damaged) c.room) (bytes_of c.ending)

-- no Head
unfoldable pub empty_job : Case
empty_job = record {
  records =
      [];
  damaged = [];
  room = 65536;
  ending = refuse Misplaced 0;
}

-- first record is no Head
unfoldable pub no_head : Case
no_head = record {
  records =
      rec 2 (0 ∷ []) ∷ [];
  damaged = [];
  room = 65536;
  ending = refuse Misplaced 0;
}

-- header cut short
unfoldable pub cut_header : Case
cut_header = record {
  records =
      [];
  damaged = 4 ∷ 0 ∷ 0 ∷ [];
  room = 65536;
  ending = refuse CutShort 0;
}

-- payload cut short
unfoldable pub cut_payload : Case
cut_payload = record {
  records =
      rec 1 (1 ∷ []) ∷ [];
  damaged = 4 ∷ 0 ∷ 0 ∷ 0 ∷ 2 ∷ 0 ∷ 7 ∷ 0 ∷ 0 ∷ [];
  room = 65536;
  ending = refuse CutShort 10;
}

-- a payload length far past the end
unfoldable pub cut_huge : Case
cut_huge = record {
  records =
      rec 1 (1 ∷ []) ∷ [];
  damaged = 255 ∷ 255 ∷ 255 ∷ 255 ∷ 2 ∷ 0 ∷ [];
  room = 65536;
  ending = refuse CutShort 10;
}

-- unknown kind
unfoldable pub unknown_kind : Case
unknown_kind = record {
  records =
      rec 1 (1 ∷ []) ∷ rec 14 (0 ∷ []) ∷ [];
  damaged = [];
  room = 65536;
  ending = refuse Misplaced 10;
}

-- Head twice
unfoldable pub two_heads : Case
two_heads = record {
  records =
      rec 1 (1 ∷ []) ∷ rec 1 (1 ∷ []) ∷ [];
  damaged = [];
  room = 65536;
  ending = refuse Misplaced 10;
}

-- Vertex after Edge
unfoldable pub late_vertex : Case
late_vertex = record {
  records =
      rec 1 (1 ∷ []) ∷ rec 3 (5 ∷ 0 ∷ unset ∷ unset ∷ []) ∷ rec 2 (0 ∷ []) ∷ [];
  damaged = [];
  room = 65536;
  ending = refuse Misplaced 32;
}

-- loop before any face
unfoldable pub loose_loop : Case
loose_loop = record {
  records =
      rec 1 (1 ∷ []) ∷ rec 3 (5 ∷ 0 ∷ unset ∷ unset ∷ []) ∷ rec 5 (0 ∷ 0 ∷ []) ∷ [];
  damaged = [];
  room = 65536;
  ending = refuse Misplaced 32;
}

-- face after an answer
unfoldable pub late_face : Case
late_face = record {
  records =
      rec 1 (1 ∷ []) ∷ rec 9 (1 ∷ 2 ∷ 0 ∷ []) ∷ rec 4 (7 ∷ 0 ∷ 0 ∷ 0 ∷ 0 ∷ []) ∷ [];
  damaged = [];
  room = 65536;
  ending = refuse Misplaced 28;
}

-- loop without items
unfoldable pub empty_loop : Case
empty_loop = record {
  records =
      rec 1 (1 ∷ []) ∷ rec 4 (7 ∷ 0 ∷ 0 ∷ 0 ∷ 0 ∷ []) ∷ rec 5 [] ∷ [];
  damaged = [];
  room = 65536;
  ending = refuse Misplaced 36;
}

-- loop of one field
unfoldable pub odd_loop : Case
odd_loop = record {
  records =
      rec 1 (1 ∷ []) ∷ rec 4 (7 ∷ 0 ∷ 0 ∷ 0 ∷ 0 ∷ []) ∷ rec 5 (0 ∷ []) ∷ [];
  damaged = [];
  room = 65536;
  ending = refuse Misplaced 36;
}

-- Head 2
unfoldable pub head_two : Case
head_two = record {
  records =
      rec 1 (2 ∷ []) ∷ [];
  damaged = [];
  room = 65536;
  ending = refuse FieldNotPermitted 0;
}

-- one end without vertex
unfoldable pub half_ring : Case
half_ring = record {
  records =
      rec 1 (1 ∷ []) ∷ rec 2 (0 ∷ []) ∷ rec 3 (5 ∷ 0 ∷ 0 ∷ unset ∷ []) ∷ [];
  damaged = [];
  room = 65536;
  ending = refuse FieldNotPermitted 20;
}

-- edge sense 2
unfoldable pub edge_sense : Case
edge_sense = record {
  records =
      rec 1 (1 ∷ []) ∷ rec 3 (5 ∷ 2 ∷ unset ∷ unset ∷ []) ∷ [];
  damaged = [];
  room = 65536;
  ending = refuse FieldNotPermitted 10;
}

-- selected sense 2
unfoldable pub face_sense : Case
face_sense = record {
  records =
      rec 1 (1 ∷ []) ∷ rec 4 (7 ∷ 0 ∷ 2 ∷ 0 ∷ 0 ∷ []) ∷ [];
  damaged = [];
  room = 65536;
  ending = refuse FieldNotPermitted 10;
}

-- no such edge
unfoldable pub loop_edge : Case
loop_edge = record {
  records =
      rec 1 (1 ∷ []) ∷ rec 4 (7 ∷ 0 ∷ 0 ∷ 0 ∷ 0 ∷ []) ∷ rec 5 (0 ∷ 0 ∷ []) ∷ [];
  damaged = [];
  room = 65536;
  ending = refuse FieldNotPermitted 36;
}

-- no such vertex
unfoldable pub loop_vertex : Case
loop_vertex = record {
  records =
      rec 1 (1 ∷ []) ∷ rec 4 (7 ∷ 0 ∷ 0 ∷ 0 ∷ 0 ∷ []) ∷ rec 6 (0 ∷ []) ∷ [];
  damaged = [];
  room = 65536;
  ending = refuse FieldNotPermitted 36;
}

-- equal points
unfoldable pub points_equal : Case
points_equal = record {
  records =
      rec 1 (1 ∷ []) ∷ rec 9 (3 ∷ 3 ∷ 1 ∷ []) ∷ [];
  damaged = [];
  room = 65536;
  ending = refuse FieldNotPermitted 10;
}

-- lower face not less than higher
unfoldable pub singular_order : Case
singular_order = record {
  records =
      rec 1 (1 ∷ []) ∷ rec 4 (7 ∷ 0 ∷ 0 ∷ 0 ∷ 0 ∷ []) ∷ rec 4 (8 ∷ 0 ∷ 0 ∷ 0 ∷ 1 ∷ []) ∷ rec 11 (5 ∷ 1 ∷ 1 ∷ 0 ∷ 0 ∷ []) ∷ [];
  damaged = [];
  room = 65536;
  ending = refuse FieldNotPermitted 62;
}

-- a question answered before, in the other order
unfoldable pub points_twice : Case
points_twice = record {
  records =
      rec 1 (1 ∷ []) ∷ rec 9 (3 ∷ 4 ∷ 1 ∷ []) ∷ rec 9 (4 ∷ 3 ∷ 0 ∷ []) ∷ [];
  damaged = [];
  room = 65536;
  ending = refuse AnsweredTwice 28;
}

-- unasked answers are ignored
unfoldable pub empty_unasked : Case
empty_unasked = record {
  records =
      rec 1 (0 ∷ []) ∷ rec 9 (3 ∷ 4 ∷ 1 ∷ []) ∷ rec 10 (3 ∷ 4 ∷ 1 ∷ []) ∷ [];
  damaged = [];
  room = 65536;
  ending = Ok
      (rec 21 (0 ∷ 0 ∷ 0 ∷ 0 ∷ 0 ∷ 0 ∷ 0 ∷ []) ∷ []);
}

-- output too short
unfoldable pub no_room : Case
no_room = record {
  records =
      rec 1 (1 ∷ []) ∷ [];
  damaged = [];
  room = 33;
  ending = refuse NoRoom 34;
}

-- output just long enough
unfoldable pub just_room : Case
just_room = record {
  records =
      rec 1 (1 ∷ []) ∷ [];
  damaged = [];
  room = 34;
  ending = Ok
      (rec 21 (0 ∷ 0 ∷ 0 ∷ 0 ∷ 0 ∷ 0 ∷ 0 ∷ []) ∷ []);
}

-- joint at two vertices
unfoldable pub broken_joint : Case
broken_joint = record {
  records =
      rec 1 (1 ∷ []) ∷ rec 2 (0 ∷ []) ∷ rec 2 (1 ∷ []) ∷ rec 3 (5 ∷ 0 ∷ 0 ∷ 1 ∷ []) ∷ rec 3 (5 ∷ 0 ∷ 1 ∷ 0 ∷ []) ∷ rec 4 (7 ∷ 0 ∷ 0 ∷ 0 ∷ 0 ∷ []) ∷
      rec 5 (0 ∷ 0 ∷ 1 ∷ 1 ∷ []) ∷ [];
  damaged = [];
  room = 65536;
  ending = refuse LoopJoints 100;
}

-- no radial answer
unfoldable pub radial_missing : Case
radial_missing = record {
  records =
      rec 1 (1 ∷ []) ∷ rec 3 (5 ∷ 0 ∷ unset ∷ unset ∷ []) ∷ rec 4 (7 ∷ 0 ∷ 0 ∷ 0 ∷ 0 ∷ []) ∷ rec 5 (0 ∷ 0 ∷ []) ∷ rec 4 (8 ∷ 0 ∷ 0 ∷ 0 ∷ 1 ∷ []) ∷
      rec 5 (0 ∷ 1 ∷ []) ∷
      rec 4 (9 ∷ 0 ∷ 0 ∷ 0 ∷ 2 ∷ []) ∷ rec 5 (0 ∷ 0 ∷ []) ∷ rec 4 (10 ∷ 0 ∷ 0 ∷ 0 ∷ 3 ∷ []) ∷ rec 5 (0 ∷ 1 ∷ []) ∷ [];
  damaged = [];
  room = 65536;
  ending = refuse Unanswered 7;
}

-- radial order undecided
unfoldable pub radial_open : Case
radial_open = record {
  records =
      rec 1 (1 ∷ []) ∷ rec 3 (5 ∷ 0 ∷ unset ∷ unset ∷ []) ∷ rec 4 (7 ∷ 0 ∷ 0 ∷ 0 ∷ 0 ∷ []) ∷ rec 5 (0 ∷ 0 ∷ []) ∷ rec 4 (8 ∷ 0 ∷ 0 ∷ 0 ∷ 1 ∷ []) ∷
      rec 5 (0 ∷ 1 ∷ []) ∷
      rec 4 (9 ∷ 0 ∷ 0 ∷ 0 ∷ 2 ∷ []) ∷ rec 5 (0 ∷ 0 ∷ []) ∷ rec 4 (10 ∷ 0 ∷ 0 ∷ 0 ∷ 3 ∷ []) ∷ rec 5 (0 ∷ 1 ∷ []) ∷ rec 7 (0 ∷ []) ∷ [];
  damaged = [];
  room = 65536;
  ending = refuse AnswerUndecided 7;
}

-- radial list leaves a use out
unfoldable pub radial_short : Case
radial_short = record {
  records =
      rec 1 (1 ∷ []) ∷ rec 3 (5 ∷ 0 ∷ unset ∷ unset ∷ []) ∷ rec 4 (7 ∷ 0 ∷ 0 ∷ 0 ∷ 0 ∷ []) ∷ rec 5 (0 ∷ 0 ∷ []) ∷ rec 4 (8 ∷ 0 ∷ 0 ∷ 0 ∷ 1 ∷ []) ∷
      rec 5 (0 ∷ 1 ∷ []) ∷
      rec 4 (9 ∷ 0 ∷ 0 ∷ 0 ∷ 2 ∷ []) ∷ rec 5 (0 ∷ 0 ∷ []) ∷ rec 4 (10 ∷ 0 ∷ 0 ∷ 0 ∷ 3 ∷ []) ∷ rec 5 (0 ∷ 1 ∷ []) ∷ rec 7 (0 ∷ 0 ∷ 1 ∷ 2 ∷ []) ∷ [];
  damaged = [];
  room = 65536;
  ending = refuse NotRound 0;
}

-- radial list has a use twice
unfoldable pub radial_twice : Case
radial_twice = record {
  records =
      rec 1 (1 ∷ []) ∷ rec 3 (5 ∷ 0 ∷ unset ∷ unset ∷ []) ∷ rec 4 (7 ∷ 0 ∷ 0 ∷ 0 ∷ 0 ∷ []) ∷ rec 5 (0 ∷ 0 ∷ []) ∷ rec 4 (8 ∷ 0 ∷ 0 ∷ 0 ∷ 1 ∷ []) ∷
      rec 5 (0 ∷ 1 ∷ []) ∷
      rec 4 (9 ∷ 0 ∷ 0 ∷ 0 ∷ 2 ∷ []) ∷ rec 5 (0 ∷ 0 ∷ []) ∷ rec 4 (10 ∷ 0 ∷ 0 ∷ 0 ∷ 3 ∷ []) ∷ rec 5 (0 ∷ 1 ∷ []) ∷ rec 7 (0 ∷ 0 ∷ 1 ∷ 2 ∷ 2 ∷ []) ∷ [];
  damaged = [];
  room = 65536;
  ending = refuse NotRound 0;
}

-- Same after Same
unfoldable pub same_same : Case
same_same = record {
  records =
      rec 1 (1 ∷ []) ∷ rec 3 (5 ∷ 0 ∷ unset ∷ unset ∷ []) ∷ rec 4 (7 ∷ 0 ∷ 0 ∷ 0 ∷ 0 ∷ []) ∷ rec 5 (0 ∷ 0 ∷ []) ∷ rec 4 (8 ∷ 0 ∷ 0 ∷ 0 ∷ 1 ∷ []) ∷
      rec 5 (0 ∷ 1 ∷ []) ∷
      rec 4 (9 ∷ 0 ∷ 0 ∷ 0 ∷ 2 ∷ []) ∷ rec 5 (0 ∷ 0 ∷ []) ∷ rec 4 (10 ∷ 0 ∷ 0 ∷ 0 ∷ 3 ∷ []) ∷ rec 5 (0 ∷ 1 ∷ []) ∷ rec 7 (0 ∷ 0 ∷ 2 ∷ 1 ∷ 3 ∷ []) ∷ [];
  damaged = [];
  room = 65536;
  ending = refuse SamePredecessor 0;
}

-- three Reversed and one Same
unfoldable pub lone_use : Case
lone_use = record {
  records =
      rec 1 (1 ∷ []) ∷ rec 3 (5 ∷ 0 ∷ unset ∷ unset ∷ []) ∷ rec 4 (7 ∷ 0 ∷ 0 ∷ 0 ∷ 0 ∷ []) ∷ rec 5 (0 ∷ 0 ∷ []) ∷ rec 4 (8 ∷ 0 ∷ 0 ∷ 0 ∷ 1 ∷ []) ∷
      rec 5 (0 ∷ 1 ∷ []) ∷
      rec 4 (9 ∷ 0 ∷ 0 ∷ 0 ∷ 2 ∷ []) ∷ rec 5 (0 ∷ 1 ∷ []) ∷ rec 4 (10 ∷ 0 ∷ 0 ∷ 0 ∷ 3 ∷ []) ∷ rec 5 (0 ∷ 1 ∷ []) ∷ rec 7 (0 ∷ 0 ∷ 1 ∷ 2 ∷ 3 ∷ []) ∷ [];
  damaged = [];
  room = 65536;
  ending = refuse NoTwin 1;
}

-- three uses
unfoldable pub three_uses : Case
three_uses = record {
  records =
      rec 1 (1 ∷ []) ∷ rec 3 (5 ∷ 0 ∷ unset ∷ unset ∷ []) ∷ rec 4 (7 ∷ 0 ∷ 0 ∷ 0 ∷ 0 ∷ []) ∷ rec 5 (0 ∷ 0 ∷ []) ∷ rec 4 (8 ∷ 0 ∷ 0 ∷ 0 ∷ 1 ∷ []) ∷
      rec 5 (0 ∷ 1 ∷ []) ∷
      rec 4 (9 ∷ 0 ∷ 0 ∷ 0 ∷ 2 ∷ []) ∷ rec 5 (0 ∷ 1 ∷ []) ∷ [];
  damaged = [];
  room = 65536;
  ending = refuse OddUses 0;
}

-- surface unanswered
unfoldable pub surface_missing : Case
surface_missing = record {
  records =
      rec 1 (1 ∷ []) ∷ rec 3 (5 ∷ 0 ∷ unset ∷ unset ∷ []) ∷ rec 4 (7 ∷ 0 ∷ 0 ∷ 0 ∷ 0 ∷ []) ∷ rec 5 (0 ∷ 0 ∷ []) ∷ rec 4 (8 ∷ 0 ∷ 0 ∷ 0 ∷ 1 ∷ []) ∷
      rec 5 (0 ∷ 1 ∷ []) ∷ [];
  damaged = [];
  room = 65536;
  ending = refuse Unanswered 8;
}

-- surface undecided
unfoldable pub surface_open : Case
surface_open = record {
  records =
      rec 1 (1 ∷ []) ∷ rec 3 (5 ∷ 0 ∷ unset ∷ unset ∷ []) ∷ rec 4 (7 ∷ 0 ∷ 0 ∷ 0 ∷ 0 ∷ []) ∷ rec 5 (0 ∷ 0 ∷ []) ∷ rec 4 (8 ∷ 0 ∷ 0 ∷ 0 ∷ 1 ∷ []) ∷
      rec 5 (0 ∷ 1 ∷ []) ∷
      rec 8 (0 ∷ 4 ∷ []) ∷ [];
  damaged = [];
  room = 65536;
  ending = refuse AnswerUndecided 8;
}

-- normals vanish
unfoldable pub surface_vanish : Case
surface_vanish = record {
  records =
      rec 1 (1 ∷ []) ∷ rec 3 (5 ∷ 0 ∷ unset ∷ unset ∷ []) ∷ rec 4 (7 ∷ 0 ∷ 0 ∷ 0 ∷ 0 ∷ []) ∷ rec 5 (0 ∷ 0 ∷ []) ∷ rec 4 (8 ∷ 0 ∷ 0 ∷ 0 ∷ 1 ∷ []) ∷
      rec 5 (0 ∷ 1 ∷ []) ∷
      rec 8 (0 ∷ 3 ∷ []) ∷ [];
  damaged = [];
  room = 65536;
  ending = refuse NormalsVanish 8;
}

-- two shells touch along an edge
unfoldable pub two_shells : Case
two_shells = record {
  records =
      rec 1 (1 ∷ []) ∷ rec 3 (5 ∷ 0 ∷ unset ∷ unset ∷ []) ∷ rec 4 (7 ∷ 0 ∷ 0 ∷ 0 ∷ 0 ∷ []) ∷ rec 5 (0 ∷ 0 ∷ []) ∷ rec 4 (8 ∷ 0 ∷ 0 ∷ 0 ∷ 1 ∷ []) ∷
      rec 5 (0 ∷ 1 ∷ []) ∷
      rec 4 (9 ∷ 0 ∷ 0 ∷ 0 ∷ 2 ∷ []) ∷ rec 5 (0 ∷ 0 ∷ []) ∷ rec 4 (10 ∷ 0 ∷ 0 ∷ 0 ∷ 3 ∷ []) ∷ rec 5 (0 ∷ 1 ∷ []) ∷ rec 7 (0 ∷ 0 ∷ 3 ∷ 2 ∷ 1 ∷ []) ∷
      rec 8 (0 ∷ 0 ∷ []) ∷
      rec 8 (2 ∷ 0 ∷ []) ∷ [];
  damaged = [];
  room = 65536;
  ending = Ok
      (rec 21 (1 ∷ 4 ∷ 0 ∷ 0 ∷ 0 ∷ 0 ∷ 0 ∷ []) ∷ rec 23 (5 ∷ 0 ∷ unset ∷ unset ∷ []) ∷ rec 23 (5 ∷ 0 ∷ unset ∷ unset ∷ []) ∷ rec 24 (7 ∷ 0 ∷ []) ∷
      rec 29 (0 ∷ 0 ∷ []) ∷
      rec 25 (0 ∷ 0 ∷ []) ∷ rec 24 (8 ∷ 0 ∷ []) ∷ rec 29 (0 ∷ 1 ∷ []) ∷ rec 25 (0 ∷ 1 ∷ []) ∷ rec 24 (9 ∷ 0 ∷ []) ∷ rec 29 (0 ∷ 2 ∷ []) ∷ rec 25 (1 ∷ 0 ∷ []) ∷
      rec 24 (10 ∷ 0 ∷ []) ∷ rec 29 (0 ∷ 3 ∷ []) ∷
      rec 25 (1 ∷ 1 ∷ []) ∷ rec 27 [] ∷ rec 28 (0 ∷ 1 ∷ []) ∷ rec 27 [] ∷ rec 28 (2 ∷ 3 ∷ []) ∷ []);
}

-- orientation unanswered
unfoldable pub orient_missing : Case
orient_missing = record {
  records =
      rec 1 (0 ∷ []) ∷ rec 3 (5 ∷ 0 ∷ unset ∷ unset ∷ []) ∷ rec 4 (7 ∷ 0 ∷ 0 ∷ 0 ∷ 0 ∷ []) ∷ rec 5 (0 ∷ 0 ∷ []) ∷ rec 4 (8 ∷ 0 ∷ 0 ∷ 0 ∷ 1 ∷ []) ∷
      rec 5 (0 ∷ 1 ∷ []) ∷
      rec 4 (9 ∷ 0 ∷ 0 ∷ 0 ∷ 2 ∷ []) ∷ rec 5 (0 ∷ 0 ∷ []) ∷ rec 4 (10 ∷ 0 ∷ 0 ∷ 0 ∷ 3 ∷ []) ∷ rec 5 (0 ∷ 1 ∷ []) ∷ rec 7 (0 ∷ 0 ∷ 3 ∷ 2 ∷ 1 ∷ []) ∷
      rec 8 (0 ∷ 0 ∷ []) ∷
      rec 8 (2 ∷ 0 ∷ []) ∷ [];
  damaged = [];
  room = 65536;
  ending = refuse Unanswered 12;
}

-- second orientation undecided
unfoldable pub orient_second : Case
orient_second = record {
  records =
      rec 1 (0 ∷ []) ∷ rec 3 (5 ∷ 0 ∷ unset ∷ unset ∷ []) ∷ rec 4 (7 ∷ 0 ∷ 0 ∷ 0 ∷ 0 ∷ []) ∷ rec 5 (0 ∷ 0 ∷ []) ∷ rec 4 (8 ∷ 0 ∷ 0 ∷ 0 ∷ 1 ∷ []) ∷
      rec 5 (0 ∷ 1 ∷ []) ∷
      rec 4 (9 ∷ 0 ∷ 0 ∷ 0 ∷ 2 ∷ []) ∷ rec 5 (0 ∷ 0 ∷ []) ∷ rec 4 (10 ∷ 0 ∷ 0 ∷ 0 ∷ 3 ∷ []) ∷ rec 5 (0 ∷ 1 ∷ []) ∷ rec 7 (0 ∷ 0 ∷ 3 ∷ 2 ∷ 1 ∷ []) ∷
      rec 8 (0 ∷ 0 ∷ []) ∷
      rec 8 (2 ∷ 0 ∷ []) ∷ rec 12 (0 ∷ 1 ∷ []) ∷ rec 12 (2 ∷ 2 ∷ []) ∷ [];
  damaged = [];
  room = 65536;
  ending = refuse AnswerUndecided 12;
}

-- void without an outer shell
unfoldable pub void_alone : Case
void_alone = record {
  records =
      rec 1 (0 ∷ []) ∷ rec 3 (5 ∷ 0 ∷ unset ∷ unset ∷ []) ∷ rec 4 (7 ∷ 0 ∷ 0 ∷ 0 ∷ 0 ∷ []) ∷ rec 5 (0 ∷ 0 ∷ []) ∷ rec 4 (8 ∷ 0 ∷ 0 ∷ 0 ∷ 1 ∷ []) ∷
      rec 5 (0 ∷ 1 ∷ []) ∷
      rec 4 (9 ∷ 0 ∷ 0 ∷ 0 ∷ 2 ∷ []) ∷ rec 5 (0 ∷ 0 ∷ []) ∷ rec 4 (10 ∷ 0 ∷ 0 ∷ 0 ∷ 3 ∷ []) ∷ rec 5 (0 ∷ 1 ∷ []) ∷ rec 7 (0 ∷ 0 ∷ 3 ∷ 2 ∷ 1 ∷ []) ∷
      rec 8 (0 ∷ 0 ∷ []) ∷
      rec 8 (2 ∷ 0 ∷ []) ∷ rec 12 (0 ∷ 0 ∷ []) ∷ rec 12 (2 ∷ 0 ∷ []) ∷ [];
  damaged = [];
  room = 65536;
  ending = refuse NoOuterShell 0;
}

-- inside unanswered
unfoldable pub inside_missing : Case
inside_missing = record {
  records =
      rec 1 (0 ∷ []) ∷ rec 3 (5 ∷ 0 ∷ unset ∷ unset ∷ []) ∷ rec 4 (7 ∷ 0 ∷ 0 ∷ 0 ∷ 0 ∷ []) ∷ rec 5 (0 ∷ 0 ∷ []) ∷ rec 4 (8 ∷ 0 ∷ 0 ∷ 0 ∷ 1 ∷ []) ∷
      rec 5 (0 ∷ 1 ∷ []) ∷
      rec 4 (9 ∷ 0 ∷ 0 ∷ 0 ∷ 2 ∷ []) ∷ rec 5 (0 ∷ 0 ∷ []) ∷ rec 4 (10 ∷ 0 ∷ 0 ∷ 0 ∷ 3 ∷ []) ∷ rec 5 (0 ∷ 1 ∷ []) ∷ rec 7 (0 ∷ 0 ∷ 3 ∷ 2 ∷ 1 ∷ []) ∷
      rec 8 (0 ∷ 0 ∷ []) ∷
      rec 8 (2 ∷ 0 ∷ []) ∷ rec 12 (0 ∷ 1 ∷ []) ∷ rec 12 (2 ∷ 0 ∷ []) ∷ [];
  damaged = [];
  room = 65536;
  ending = refuse Unanswered 13;
}

-- void outside the one outer shell
unfoldable pub not_inside : Case
not_inside = record {
  records =
      rec 1 (0 ∷ []) ∷ rec 3 (5 ∷ 0 ∷ unset ∷ unset ∷ []) ∷ rec 4 (7 ∷ 0 ∷ 0 ∷ 0 ∷ 0 ∷ []) ∷ rec 5 (0 ∷ 0 ∷ []) ∷ rec 4 (8 ∷ 0 ∷ 0 ∷ 0 ∷ 1 ∷ []) ∷
      rec 5 (0 ∷ 1 ∷ []) ∷
      rec 4 (9 ∷ 0 ∷ 0 ∷ 0 ∷ 2 ∷ []) ∷ rec 5 (0 ∷ 0 ∷ []) ∷ rec 4 (10 ∷ 0 ∷ 0 ∷ 0 ∷ 3 ∷ []) ∷ rec 5 (0 ∷ 1 ∷ []) ∷ rec 7 (0 ∷ 0 ∷ 3 ∷ 2 ∷ 1 ∷ []) ∷
      rec 8 (0 ∷ 0 ∷ []) ∷
      rec 8 (2 ∷ 0 ∷ []) ∷ rec 12 (0 ∷ 1 ∷ []) ∷ rec 12 (2 ∷ 0 ∷ []) ∷ rec 13 (2 ∷ 0 ∷ 0 ∷ []) ∷ [];
  damaged = [];
  room = 65536;
  ending = refuse NoOuterShell 2;
}

-- two pairs of an edge in one lump
unfoldable pub edge_in_lump : Case
edge_in_lump = record {
  records =
      rec 1 (0 ∷ []) ∷ rec 3 (5 ∷ 0 ∷ unset ∷ unset ∷ []) ∷ rec 4 (7 ∷ 0 ∷ 0 ∷ 0 ∷ 0 ∷ []) ∷ rec 5 (0 ∷ 0 ∷ []) ∷ rec 4 (8 ∷ 0 ∷ 0 ∷ 0 ∷ 1 ∷ []) ∷
      rec 5 (0 ∷ 1 ∷ []) ∷
      rec 4 (9 ∷ 0 ∷ 0 ∷ 0 ∷ 2 ∷ []) ∷ rec 5 (0 ∷ 0 ∷ []) ∷ rec 4 (10 ∷ 0 ∷ 0 ∷ 0 ∷ 3 ∷ []) ∷ rec 5 (0 ∷ 1 ∷ []) ∷ rec 7 (0 ∷ 0 ∷ 3 ∷ 2 ∷ 1 ∷ []) ∷
      rec 8 (0 ∷ 0 ∷ []) ∷
      rec 8 (2 ∷ 0 ∷ []) ∷ rec 12 (0 ∷ 1 ∷ []) ∷ rec 12 (2 ∷ 0 ∷ []) ∷ rec 13 (2 ∷ 0 ∷ 1 ∷ []) ∷ [];
  damaged = [];
  room = 65536;
  ending = refuse PairsInLump 0;
}

-- two pairs of an edge in one boundary
unfoldable pub edge_in_bound : Case
edge_in_bound = record {
  records =
      rec 1 (1 ∷ []) ∷ rec 3 (5 ∷ 0 ∷ unset ∷ unset ∷ []) ∷ rec 3 (6 ∷ 0 ∷ unset ∷ unset ∷ []) ∷ rec 4 (7 ∷ 0 ∷ 0 ∷ 0 ∷ 0 ∷ []) ∷ rec 5 (0 ∷ 0 ∷ []) ∷
      rec 5 (1 ∷ 0 ∷ []) ∷ rec 4 (8 ∷ 0 ∷ 0 ∷ 0 ∷ 1 ∷ []) ∷ rec 5 (0 ∷ 1 ∷ []) ∷ rec 4 (9 ∷ 0 ∷ 0 ∷ 0 ∷ 2 ∷ []) ∷ rec 5 (0 ∷ 0 ∷ []) ∷ rec 5 (1 ∷ 1 ∷ []) ∷
      rec 4 (10 ∷ 0 ∷ 0 ∷ 0 ∷ 3 ∷ []) ∷ rec 5 (0 ∷ 1 ∷ []) ∷ rec 7 (0 ∷ 0 ∷ 5 ∷ 3 ∷ 2 ∷ []) ∷ rec 8 (0 ∷ 0 ∷ []) ∷ rec 8 (1 ∷ 0 ∷ []) ∷ rec 8 (3 ∷ 0 ∷ []) ∷ [];
  damaged = [];
  room = 65536;
  ending = refuse PairsInBoundary 0;
}

-- two fans at a point in one boundary
unfoldable pub point_in_bound : Case
point_in_bound = record {
  records =
      rec 1 (1 ∷ []) ∷ rec 2 (4 ∷ []) ∷ rec 2 (4 ∷ []) ∷ rec 3 (5 ∷ 0 ∷ 0 ∷ 0 ∷ []) ∷ rec 3 (6 ∷ 0 ∷ 1 ∷ 1 ∷ []) ∷ rec 4 (7 ∷ 0 ∷ 0 ∷ 0 ∷ 0 ∷ []) ∷
      rec 5 (0 ∷ 0 ∷ []) ∷ rec 5 (1 ∷ 0 ∷ []) ∷ rec 4 (8 ∷ 0 ∷ 0 ∷ 0 ∷ 1 ∷ []) ∷ rec 5 (0 ∷ 1 ∷ []) ∷ rec 5 (1 ∷ 1 ∷ []) ∷ rec 8 (0 ∷ 0 ∷ []) ∷
      rec 8 (1 ∷ 0 ∷ []) ∷ [];
  damaged = [];
  room = 65536;
  ending = refuse FansInBoundary 4;
}

-- singular unanswered
unfoldable pub singular_missing : Case
singular_missing = record {
  records =
      rec 1 (1 ∷ []) ∷ rec 2 (4 ∷ []) ∷ rec 2 (4 ∷ []) ∷ rec 3 (5 ∷ 0 ∷ 0 ∷ 0 ∷ []) ∷ rec 3 (6 ∷ 0 ∷ 1 ∷ 1 ∷ []) ∷ rec 4 (7 ∷ 0 ∷ 0 ∷ 0 ∷ 0 ∷ []) ∷
      rec 5 (0 ∷ 0 ∷ []) ∷ rec 4 (8 ∷ 0 ∷ 0 ∷ 0 ∷ 1 ∷ []) ∷ rec 5 (0 ∷ 1 ∷ []) ∷ rec 4 (9 ∷ 0 ∷ 0 ∷ 0 ∷ 2 ∷ []) ∷ rec 5 (1 ∷ 0 ∷ []) ∷
      rec 4 (10 ∷ 0 ∷ 0 ∷ 0 ∷ 3 ∷ []) ∷
      rec 5 (1 ∷ 1 ∷ []) ∷ rec 8 (0 ∷ 0 ∷ []) ∷ rec 8 (2 ∷ 0 ∷ []) ∷ rec 11 (5 ∷ 0 ∷ 1 ∷ 4 ∷ 0 ∷ []) ∷ [];
  damaged = [];
  room = 65536;
  ending = refuse Unanswered 11;
}

-- singular undecided
unfoldable pub singular_open : Case
singular_open = record {
  records =
      rec 1 (1 ∷ []) ∷ rec 2 (4 ∷ []) ∷ rec 2 (4 ∷ []) ∷ rec 3 (5 ∷ 0 ∷ 0 ∷ 0 ∷ []) ∷ rec 3 (6 ∷ 0 ∷ 1 ∷ 1 ∷ []) ∷ rec 4 (7 ∷ 0 ∷ 0 ∷ 0 ∷ 0 ∷ []) ∷
      rec 5 (0 ∷ 0 ∷ []) ∷ rec 4 (8 ∷ 0 ∷ 0 ∷ 0 ∷ 1 ∷ []) ∷ rec 5 (0 ∷ 1 ∷ []) ∷ rec 4 (9 ∷ 0 ∷ 0 ∷ 0 ∷ 2 ∷ []) ∷ rec 5 (1 ∷ 0 ∷ []) ∷
      rec 4 (10 ∷ 0 ∷ 0 ∷ 0 ∷ 3 ∷ []) ∷
      rec 5 (1 ∷ 1 ∷ []) ∷ rec 8 (0 ∷ 0 ∷ []) ∷ rec 8 (2 ∷ 0 ∷ []) ∷ rec 11 (5 ∷ 0 ∷ 1 ∷ 4 ∷ 1 ∷ []) ∷ rec 11 (6 ∷ 2 ∷ 3 ∷ 4 ∷ 2 ∷ []) ∷ [];
  damaged = [];
  room = 65536;
  ending = refuse AnswerUndecided 11;
}

-- two lumps meet at a point
unfoldable pub point_shared : Case
point_shared = record {
  records =
      rec 1 (1 ∷ []) ∷ rec 2 (4 ∷ []) ∷ rec 2 (4 ∷ []) ∷ rec 3 (5 ∷ 0 ∷ 0 ∷ 0 ∷ []) ∷ rec 3 (6 ∷ 0 ∷ 1 ∷ 1 ∷ []) ∷ rec 4 (7 ∷ 0 ∷ 0 ∷ 0 ∷ 0 ∷ []) ∷
      rec 5 (0 ∷ 0 ∷ []) ∷ rec 4 (8 ∷ 0 ∷ 0 ∷ 0 ∷ 1 ∷ []) ∷ rec 5 (0 ∷ 1 ∷ []) ∷ rec 4 (9 ∷ 0 ∷ 0 ∷ 0 ∷ 2 ∷ []) ∷ rec 5 (1 ∷ 0 ∷ []) ∷
      rec 4 (10 ∷ 0 ∷ 0 ∷ 0 ∷ 3 ∷ []) ∷
      rec 5 (1 ∷ 1 ∷ []) ∷ rec 8 (0 ∷ 0 ∷ []) ∷ rec 8 (2 ∷ 0 ∷ []) ∷ rec 11 (5 ∷ 0 ∷ 1 ∷ 4 ∷ 1 ∷ []) ∷ rec 11 (6 ∷ 2 ∷ 3 ∷ 4 ∷ 0 ∷ []) ∷ [];
  damaged = [];
  room = 65536;
  ending = Ok
      (rec 21 (1 ∷ 4 ∷ 0 ∷ 0 ∷ 0 ∷ 1 ∷ 0 ∷ []) ∷ rec 22 (4 ∷ []) ∷ rec 23 (5 ∷ 0 ∷ 0 ∷ 0 ∷ []) ∷ rec 23 (6 ∷ 0 ∷ unset ∷ unset ∷ []) ∷ rec 24 (7 ∷ 0 ∷ []) ∷
      rec 29 (0 ∷ 0 ∷ []) ∷
      rec 25 (0 ∷ 0 ∷ []) ∷ rec 24 (8 ∷ 0 ∷ []) ∷ rec 29 (0 ∷ 1 ∷ []) ∷ rec 25 (0 ∷ 1 ∷ []) ∷ rec 24 (9 ∷ 0 ∷ []) ∷ rec 29 (0 ∷ 2 ∷ []) ∷ rec 25 (1 ∷ 0 ∷ []) ∷
      rec 24 (10 ∷ 0 ∷ []) ∷ rec 29 (0 ∷ 3 ∷ []) ∷
      rec 25 (1 ∷ 1 ∷ []) ∷ rec 27 [] ∷ rec 28 (0 ∷ 1 ∷ []) ∷ rec 27 [] ∷ rec 28 (2 ∷ 3 ∷ []) ∷ []);
}

-- two fans at a point in one lump
unfoldable pub point_in_lump : Case
point_in_lump = record {
  records =
      rec 1 (0 ∷ []) ∷ rec 2 (4 ∷ []) ∷ rec 2 (4 ∷ []) ∷ rec 3 (5 ∷ 0 ∷ 0 ∷ 0 ∷ []) ∷ rec 3 (6 ∷ 0 ∷ 1 ∷ 1 ∷ []) ∷ rec 4 (7 ∷ 0 ∷ 0 ∷ 0 ∷ 0 ∷ []) ∷
      rec 5 (0 ∷ 0 ∷ []) ∷ rec 4 (8 ∷ 0 ∷ 0 ∷ 0 ∷ 1 ∷ []) ∷ rec 5 (0 ∷ 1 ∷ []) ∷ rec 4 (9 ∷ 0 ∷ 0 ∷ 0 ∷ 2 ∷ []) ∷ rec 5 (1 ∷ 0 ∷ []) ∷
      rec 4 (10 ∷ 0 ∷ 0 ∷ 0 ∷ 3 ∷ []) ∷
      rec 5 (1 ∷ 1 ∷ []) ∷ rec 8 (0 ∷ 0 ∷ []) ∷ rec 8 (2 ∷ 0 ∷ []) ∷ rec 11 (5 ∷ 0 ∷ 1 ∷ 4 ∷ 1 ∷ []) ∷ rec 11 (6 ∷ 2 ∷ 3 ∷ 4 ∷ 1 ∷ []) ∷
      rec 12 (0 ∷ 1 ∷ []) ∷ rec 12 (2 ∷ 0 ∷ []) ∷ rec 13 (2 ∷ 0 ∷ 1 ∷ []) ∷ [];
  damaged = [];
  room = 65536;
  ending = refuse FansInLump 4;
}

-- a void in its lump
unfoldable pub void_inside : Case
void_inside = record {
  records =
      rec 1 (0 ∷ []) ∷ rec 2 (4 ∷ []) ∷ rec 2 (5 ∷ []) ∷ rec 3 (5 ∷ 0 ∷ 0 ∷ 0 ∷ []) ∷ rec 3 (6 ∷ 0 ∷ 1 ∷ 1 ∷ []) ∷ rec 4 (7 ∷ 0 ∷ 0 ∷ 0 ∷ 0 ∷ []) ∷
      rec 5 (0 ∷ 0 ∷ []) ∷ rec 4 (8 ∷ 0 ∷ 0 ∷ 0 ∷ 1 ∷ []) ∷ rec 5 (0 ∷ 1 ∷ []) ∷ rec 4 (9 ∷ 0 ∷ 0 ∷ 0 ∷ 2 ∷ []) ∷ rec 5 (1 ∷ 0 ∷ []) ∷
      rec 4 (10 ∷ 0 ∷ 0 ∷ 0 ∷ 3 ∷ []) ∷
      rec 5 (1 ∷ 1 ∷ []) ∷ rec 8 (0 ∷ 0 ∷ []) ∷ rec 8 (2 ∷ 0 ∷ []) ∷ rec 11 (5 ∷ 0 ∷ 1 ∷ 4 ∷ 1 ∷ []) ∷ rec 11 (6 ∷ 2 ∷ 3 ∷ 5 ∷ 1 ∷ []) ∷
      rec 12 (0 ∷ 1 ∷ []) ∷ rec 12 (2 ∷ 0 ∷ []) ∷ rec 13 (2 ∷ 0 ∷ 1 ∷ []) ∷ [];
  damaged = [];
  room = 65536;
  ending = Ok
      (rec 21 (1 ∷ 4 ∷ 0 ∷ 0 ∷ 0 ∷ 0 ∷ 0 ∷ []) ∷ rec 22 (4 ∷ []) ∷ rec 22 (5 ∷ []) ∷ rec 23 (5 ∷ 0 ∷ 0 ∷ 0 ∷ []) ∷ rec 23 (6 ∷ 0 ∷ 1 ∷ 1 ∷ []) ∷
      rec 24 (7 ∷ 0 ∷ []) ∷ rec 29 (0 ∷ 0 ∷ []) ∷ rec 25 (0 ∷ 0 ∷ []) ∷ rec 24 (8 ∷ 0 ∷ []) ∷ rec 29 (0 ∷ 1 ∷ []) ∷ rec 25 (0 ∷ 1 ∷ []) ∷ rec 24 (9 ∷ 0 ∷ []) ∷
      rec 29 (0 ∷ 2 ∷ []) ∷ rec 25 (1 ∷ 0 ∷ []) ∷
      rec 24 (10 ∷ 0 ∷ []) ∷ rec 29 (0 ∷ 3 ∷ []) ∷ rec 25 (1 ∷ 1 ∷ []) ∷ rec 27 [] ∷ rec 28 (0 ∷ 1 ∷ []) ∷ rec 28 (2 ∷ 3 ∷ []) ∷ []);
}

-- a seam goes without a surface question
unfoldable pub seam : Case
seam = record {
  records =
      rec 1 (1 ∷ []) ∷ rec 2 (0 ∷ []) ∷ rec 2 (1 ∷ []) ∷ rec 3 (5 ∷ 0 ∷ 0 ∷ 0 ∷ []) ∷ rec 3 (6 ∷ 0 ∷ 1 ∷ 1 ∷ []) ∷ rec 3 (9 ∷ 0 ∷ 0 ∷ 1 ∷ []) ∷
      rec 4 (7 ∷ 0 ∷ 0 ∷ 0 ∷ 0 ∷ []) ∷ rec 5 (0 ∷ 0 ∷ 2 ∷ 0 ∷ 1 ∷ 1 ∷ 2 ∷ 1 ∷ []) ∷ rec 4 (8 ∷ 0 ∷ 0 ∷ 0 ∷ 1 ∷ []) ∷ rec 5 (0 ∷ 1 ∷ []) ∷
      rec 4 (8 ∷ 0 ∷ 0 ∷ 0 ∷ 2 ∷ []) ∷
      rec 5 (1 ∷ 0 ∷ []) ∷ rec 8 (0 ∷ 0 ∷ []) ∷ rec 8 (2 ∷ 0 ∷ []) ∷ rec 11 (5 ∷ 0 ∷ 1 ∷ 0 ∷ 0 ∷ []) ∷ rec 11 (6 ∷ 0 ∷ 2 ∷ 1 ∷ 0 ∷ []) ∷ [];
  damaged = [];
  room = 65536;
  ending = Ok
      (rec 21 (1 ∷ 6 ∷ 2 ∷ 2 ∷ 0 ∷ 2 ∷ 0 ∷ []) ∷ rec 23 (5 ∷ 0 ∷ unset ∷ unset ∷ []) ∷ rec 23 (6 ∷ 0 ∷ unset ∷ unset ∷ []) ∷ rec 24 (7 ∷ 0 ∷ []) ∷
      rec 29 (0 ∷ 0 ∷ []) ∷
      rec 25 (0 ∷ 0 ∷ []) ∷ rec 25 (1 ∷ 1 ∷ []) ∷ rec 24 (8 ∷ 0 ∷ []) ∷ rec 29 (0 ∷ 1 ∷ []) ∷ rec 25 (0 ∷ 1 ∷ []) ∷ rec 24 (8 ∷ 0 ∷ []) ∷ rec 29 (0 ∷ 2 ∷ []) ∷
      rec 25 (1 ∷ 0 ∷ []) ∷ rec 27 [] ∷
      rec 28 (0 ∷ 1 ∷ 2 ∷ []) ∷ []);
}

-- a face selected Reversed
unfoldable pub turned : Case
turned = record {
  records =
      rec 1 (1 ∷ []) ∷ rec 2 (0 ∷ []) ∷ rec 2 (1 ∷ []) ∷ rec 3 (5 ∷ 0 ∷ 0 ∷ 0 ∷ []) ∷ rec 3 (6 ∷ 0 ∷ 1 ∷ 1 ∷ []) ∷ rec 3 (9 ∷ 0 ∷ 0 ∷ 1 ∷ []) ∷
      rec 4 (7 ∷ 0 ∷ 1 ∷ 0 ∷ 0 ∷ []) ∷ rec 5 (2 ∷ 0 ∷ 1 ∷ 0 ∷ 2 ∷ 1 ∷ 0 ∷ 1 ∷ []) ∷ rec 4 (8 ∷ 0 ∷ 0 ∷ 0 ∷ 1 ∷ []) ∷ rec 5 (0 ∷ 1 ∷ []) ∷
      rec 4 (8 ∷ 0 ∷ 0 ∷ 0 ∷ 2 ∷ []) ∷
      rec 5 (1 ∷ 0 ∷ []) ∷ rec 8 (0 ∷ 0 ∷ []) ∷ rec 8 (2 ∷ 0 ∷ []) ∷ rec 11 (5 ∷ 0 ∷ 1 ∷ 0 ∷ 0 ∷ []) ∷ rec 11 (6 ∷ 0 ∷ 2 ∷ 1 ∷ 0 ∷ []) ∷ [];
  damaged = [];
  room = 65536;
  ending = Ok
      (rec 21 (1 ∷ 6 ∷ 2 ∷ 2 ∷ 0 ∷ 2 ∷ 0 ∷ []) ∷ rec 23 (5 ∷ 0 ∷ unset ∷ unset ∷ []) ∷ rec 23 (6 ∷ 0 ∷ unset ∷ unset ∷ []) ∷ rec 24 (7 ∷ 1 ∷ []) ∷
      rec 29 (0 ∷ 0 ∷ []) ∷
      rec 25 (0 ∷ 0 ∷ []) ∷ rec 25 (1 ∷ 1 ∷ []) ∷ rec 24 (8 ∷ 0 ∷ []) ∷ rec 29 (0 ∷ 1 ∷ []) ∷ rec 25 (0 ∷ 1 ∷ []) ∷ rec 24 (8 ∷ 0 ∷ []) ∷ rec 29 (0 ∷ 2 ∷ []) ∷
      rec 25 (1 ∷ 0 ∷ []) ∷ rec 27 [] ∷
      rec 28 (0 ∷ 1 ∷ 2 ∷ []) ∷ []);
}

-- opposed surfaces, stored senses different
unfoldable pub opposed : Case
opposed = record {
  records =
      rec 1 (1 ∷ []) ∷ rec 3 (5 ∷ 0 ∷ unset ∷ unset ∷ []) ∷ rec 4 (7 ∷ 0 ∷ 0 ∷ 0 ∷ 0 ∷ []) ∷ rec 5 (0 ∷ 0 ∷ []) ∷ rec 4 (7 ∷ 1 ∷ 0 ∷ 0 ∷ 1 ∷ []) ∷
      rec 5 (0 ∷ 1 ∷ []) ∷
      rec 8 (0 ∷ 2 ∷ []) ∷ [];
  damaged = [];
  room = 65536;
  ending = Ok
      (rec 21 (1 ∷ 2 ∷ 2 ∷ 0 ∷ 0 ∷ 0 ∷ 1 ∷ []) ∷ rec 24 (7 ∷ 0 ∷ []) ∷ rec 29 (0 ∷ 0 ∷ 0 ∷ 1 ∷ []) ∷ rec 27 [] ∷ rec 28 (0 ∷ []) ∷ []);
}

-- opposed surfaces, stored senses equal
unfoldable pub opposed_same : Case
opposed_same = record {
  records =
      rec 1 (1 ∷ []) ∷ rec 3 (5 ∷ 0 ∷ unset ∷ unset ∷ []) ∷ rec 4 (7 ∷ 0 ∷ 0 ∷ 0 ∷ 0 ∷ []) ∷ rec 5 (0 ∷ 0 ∷ []) ∷ rec 4 (7 ∷ 0 ∷ 0 ∷ 0 ∷ 1 ∷ []) ∷
      rec 5 (0 ∷ 1 ∷ []) ∷
      rec 8 (0 ∷ 2 ∷ []) ∷ [];
  damaged = [];
  room = 65536;
  ending = Ok
      (rec 21 (1 ∷ 2 ∷ 0 ∷ 0 ∷ 0 ∷ 0 ∷ 0 ∷ []) ∷ rec 23 (5 ∷ 0 ∷ unset ∷ unset ∷ []) ∷ rec 24 (7 ∷ 0 ∷ []) ∷ rec 29 (0 ∷ 0 ∷ []) ∷ rec 25 (0 ∷ 0 ∷ []) ∷
      rec 24 (7 ∷ 0 ∷ []) ∷ rec 29 (0 ∷ 1 ∷ []) ∷
      rec 25 (0 ∷ 1 ∷ []) ∷ rec 27 [] ∷ rec 28 (0 ∷ 1 ∷ []) ∷ []);
}

-- points unanswered
unfoldable pub points_missing : Case
points_missing = record {
  records =
      rec 1 (1 ∷ []) ∷ rec 2 (3 ∷ []) ∷ rec 2 (4 ∷ []) ∷ rec 2 (3 ∷ []) ∷ rec 3 (5 ∷ 0 ∷ unset ∷ unset ∷ []) ∷ rec 4 (7 ∷ 0 ∷ 0 ∷ 0 ∷ 0 ∷ []) ∷
      rec 5 (0 ∷ 0 ∷ []) ∷ rec 6 (0 ∷ []) ∷ rec 4 (7 ∷ 0 ∷ 0 ∷ 0 ∷ 1 ∷ []) ∷ rec 6 (1 ∷ []) ∷ rec 5 (0 ∷ 1 ∷ []) ∷ rec 6 (2 ∷ []) ∷ rec 8 (0 ∷ 1 ∷ []) ∷ [];
  damaged = [];
  room = 65536;
  ending = refuse Unanswered 9;
}

-- one vertex loop of three is kept
unfoldable pub points_same : Case
points_same = record {
  records =
      rec 1 (1 ∷ []) ∷ rec 2 (3 ∷ []) ∷ rec 2 (4 ∷ []) ∷ rec 2 (3 ∷ []) ∷ rec 3 (5 ∷ 0 ∷ unset ∷ unset ∷ []) ∷ rec 4 (7 ∷ 0 ∷ 0 ∷ 0 ∷ 0 ∷ []) ∷
      rec 5 (0 ∷ 0 ∷ []) ∷ rec 6 (0 ∷ []) ∷ rec 4 (7 ∷ 0 ∷ 0 ∷ 0 ∷ 1 ∷ []) ∷ rec 6 (1 ∷ []) ∷ rec 5 (0 ∷ 1 ∷ []) ∷ rec 6 (2 ∷ []) ∷ rec 8 (0 ∷ 1 ∷ []) ∷
      rec 9 (4 ∷ 3 ∷ 1 ∷ []) ∷ [];
  damaged = [];
  room = 65536;
  ending = Ok
      (rec 21 (1 ∷ 2 ∷ 2 ∷ 0 ∷ 0 ∷ 0 ∷ 1 ∷ []) ∷ rec 24 (7 ∷ 0 ∷ []) ∷ rec 29 (0 ∷ 0 ∷ 0 ∷ 1 ∷ []) ∷ rec 26 (3 ∷ []) ∷ rec 27 [] ∷ rec 28 (0 ∷ []) ∷ []);
}

-- two vertex loops are kept
unfoldable pub points_differ : Case
points_differ = record {
  records =
      rec 1 (1 ∷ []) ∷ rec 2 (3 ∷ []) ∷ rec 2 (4 ∷ []) ∷ rec 2 (3 ∷ []) ∷ rec 3 (5 ∷ 0 ∷ unset ∷ unset ∷ []) ∷ rec 4 (7 ∷ 0 ∷ 0 ∷ 0 ∷ 0 ∷ []) ∷
      rec 5 (0 ∷ 0 ∷ []) ∷ rec 6 (0 ∷ []) ∷ rec 4 (7 ∷ 0 ∷ 0 ∷ 0 ∷ 1 ∷ []) ∷ rec 6 (1 ∷ []) ∷ rec 5 (0 ∷ 1 ∷ []) ∷ rec 6 (2 ∷ []) ∷ rec 8 (0 ∷ 1 ∷ []) ∷
      rec 9 (4 ∷ 3 ∷ 0 ∷ []) ∷ [];
  damaged = [];
  room = 65536;
  ending = Ok
      (rec 21 (1 ∷ 2 ∷ 2 ∷ 0 ∷ 0 ∷ 0 ∷ 1 ∷ []) ∷ rec 24 (7 ∷ 0 ∷ []) ∷ rec 29 (0 ∷ 0 ∷ 0 ∷ 1 ∷ []) ∷ rec 26 (3 ∷ []) ∷ rec 26 (4 ∷ []) ∷ rec 27 [] ∷
      rec 28 (0 ∷ []) ∷ []);
}

-- in two faces nothing is asked but inside each
unfoldable pub points_apart : Case
points_apart = record {
  records =
      rec 1 (1 ∷ []) ∷ rec 2 (3 ∷ []) ∷ rec 2 (4 ∷ []) ∷ rec 2 (3 ∷ []) ∷ rec 3 (5 ∷ 0 ∷ unset ∷ unset ∷ []) ∷ rec 4 (7 ∷ 0 ∷ 0 ∷ 0 ∷ 0 ∷ []) ∷
      rec 5 (0 ∷ 0 ∷ []) ∷ rec 6 (0 ∷ []) ∷ rec 4 (7 ∷ 0 ∷ 0 ∷ 0 ∷ 1 ∷ []) ∷ rec 6 (1 ∷ []) ∷ rec 5 (0 ∷ 1 ∷ []) ∷ rec 6 (2 ∷ []) ∷ rec 8 (0 ∷ 0 ∷ []) ∷ [];
  damaged = [];
  room = 65536;
  ending = refuse Unanswered 9;
}

-- four edges become a ring
unfoldable pub four_joined : Case
four_joined = record {
  records =
      rec 1 (1 ∷ []) ∷ rec 2 (0 ∷ []) ∷ rec 2 (1 ∷ []) ∷ rec 2 (2 ∷ []) ∷ rec 2 (3 ∷ []) ∷ rec 3 (5 ∷ 0 ∷ 0 ∷ 1 ∷ []) ∷ rec 3 (5 ∷ 0 ∷ 1 ∷ 2 ∷ []) ∷
      rec 3 (5 ∷ 0 ∷ 2 ∷ 3 ∷ []) ∷ rec 3 (5 ∷ 0 ∷ 3 ∷ 0 ∷ []) ∷ rec 4 (7 ∷ 0 ∷ 0 ∷ 0 ∷ 0 ∷ []) ∷ rec 5 (0 ∷ 0 ∷ 1 ∷ 0 ∷ 2 ∷ 0 ∷ 3 ∷ 0 ∷ []) ∷
      rec 4 (8 ∷ 0 ∷ 0 ∷ 0 ∷ 1 ∷ []) ∷ rec 5 (3 ∷ 1 ∷ 2 ∷ 1 ∷ 1 ∷ 1 ∷ 0 ∷ 1 ∷ []) ∷ rec 8 (0 ∷ 0 ∷ []) ∷ rec 8 (1 ∷ 0 ∷ []) ∷ rec 8 (2 ∷ 0 ∷ []) ∷
      rec 8 (3 ∷ 0 ∷ []) ∷ rec 11 (5 ∷ 0 ∷ 1 ∷ 0 ∷ 0 ∷ []) ∷ rec 11 (5 ∷ 0 ∷ 1 ∷ 1 ∷ 0 ∷ []) ∷ rec 11 (5 ∷ 0 ∷ 1 ∷ 2 ∷ 0 ∷ []) ∷
      rec 11 (5 ∷ 0 ∷ 1 ∷ 3 ∷ 0 ∷ []) ∷ [];
  damaged = [];
  room = 65536;
  ending = Ok
      (rec 21 (1 ∷ 8 ∷ 0 ∷ 0 ∷ 3 ∷ 1 ∷ 0 ∷ []) ∷ rec 23 (5 ∷ 1 ∷ unset ∷ unset ∷ []) ∷ rec 24 (7 ∷ 0 ∷ []) ∷ rec 29 (0 ∷ 0 ∷ []) ∷ rec 25 (0 ∷ 1 ∷ []) ∷
      rec 24 (8 ∷ 0 ∷ []) ∷ rec 29 (0 ∷ 1 ∷ []) ∷
      rec 25 (0 ∷ 0 ∷ []) ∷ rec 27 [] ∷ rec 28 (0 ∷ 1 ∷ []) ∷ []);
}

-- two uses passed over at once
unfoldable pub pass_twice : Case
pass_twice = record {
  records =
      rec 1 (1 ∷ []) ∷ rec 2 (0 ∷ []) ∷ rec 2 (1 ∷ []) ∷ rec 2 (2 ∷ []) ∷ rec 2 (3 ∷ []) ∷ rec 2 (4 ∷ []) ∷ rec 3 (10 ∷ 0 ∷ 0 ∷ 1 ∷ []) ∷
      rec 3 (11 ∷ 0 ∷ 1 ∷ 2 ∷ []) ∷ rec 3 (12 ∷ 0 ∷ 2 ∷ 3 ∷ []) ∷ rec 3 (13 ∷ 0 ∷ 3 ∷ 4 ∷ []) ∷ rec 3 (14 ∷ 0 ∷ 4 ∷ 0 ∷ []) ∷ rec 3 (20 ∷ 0 ∷ 0 ∷ 2 ∷ []) ∷
      rec 3 (21 ∷ 0 ∷ 0 ∷ 3 ∷ []) ∷ rec 4 (7 ∷ 0 ∷ 0 ∷ 0 ∷ 0 ∷ []) ∷ rec 5 (0 ∷ 0 ∷ 1 ∷ 0 ∷ 5 ∷ 1 ∷ []) ∷ rec 4 (7 ∷ 0 ∷ 0 ∷ 0 ∷ 1 ∷ []) ∷
      rec 5 (5 ∷ 0 ∷ 2 ∷ 0 ∷ 6 ∷ 1 ∷ []) ∷ rec 4 (7 ∷ 0 ∷ 0 ∷ 0 ∷ 2 ∷ []) ∷ rec 5 (6 ∷ 0 ∷ 3 ∷ 0 ∷ 4 ∷ 0 ∷ []) ∷ rec 4 (8 ∷ 0 ∷ 0 ∷ 0 ∷ 3 ∷ []) ∷
      rec 5 (4 ∷ 1 ∷ 3 ∷ 1 ∷ 2 ∷ 1 ∷ 1 ∷ 1 ∷ 0 ∷ 1 ∷ []) ∷ rec 8 (0 ∷ 0 ∷ []) ∷ rec 8 (1 ∷ 0 ∷ []) ∷ rec 8 (2 ∷ 1 ∷ []) ∷ rec 8 (4 ∷ 0 ∷ []) ∷
      rec 8 (5 ∷ 1 ∷ []) ∷ rec 8 (7 ∷ 0 ∷ []) ∷ rec 8 (8 ∷ 0 ∷ []) ∷ rec 10 (10 ∷ 11 ∷ 0 ∷ []) ∷ rec 10 (11 ∷ 12 ∷ 0 ∷ []) ∷ rec 10 (12 ∷ 13 ∷ 0 ∷ []) ∷
      rec 10 (13 ∷ 14 ∷ 0 ∷ []) ∷ rec 10 (14 ∷ 10 ∷ 0 ∷ []) ∷ [];
  damaged = [];
  room = 65536;
  ending = Ok
      (rec 21 (1 ∷ 14 ∷ 4 ∷ 4 ∷ 0 ∷ 0 ∷ 2 ∷ []) ∷ rec 22 (0 ∷ []) ∷ rec 22 (1 ∷ []) ∷ rec 22 (2 ∷ []) ∷ rec 22 (3 ∷ []) ∷ rec 22 (4 ∷ []) ∷
      rec 23 (10 ∷ 0 ∷ 0 ∷ 1 ∷ []) ∷ rec 23 (11 ∷ 0 ∷ 1 ∷ 2 ∷ []) ∷ rec 23 (12 ∷ 0 ∷ 2 ∷ 3 ∷ []) ∷ rec 23 (13 ∷ 0 ∷ 3 ∷ 4 ∷ []) ∷
      rec 23 (14 ∷ 0 ∷ 4 ∷ 0 ∷ []) ∷ rec 24 (7 ∷ 0 ∷ []) ∷ rec 29 (0 ∷ 0 ∷ 0 ∷ 1 ∷ 0 ∷ 2 ∷ []) ∷ rec 25 (0 ∷ 0 ∷ 1 ∷ 0 ∷ 2 ∷ 0 ∷ 3 ∷ 0 ∷ 4 ∷ 0 ∷ []) ∷
      rec 24 (8 ∷ 0 ∷ []) ∷ rec 29 (0 ∷ 3 ∷ []) ∷
      rec 25 (4 ∷ 1 ∷ 3 ∷ 1 ∷ 2 ∷ 1 ∷ 1 ∷ 1 ∷ 0 ∷ 1 ∷ []) ∷ rec 27 [] ∷ rec 28 (0 ∷ 1 ∷ []) ∷ []);
}

-- curves unanswered at the third corner
unfoldable pub curves_missing : Case
curves_missing = record {
  records =
      rec 1 (1 ∷ []) ∷ rec 2 (0 ∷ []) ∷ rec 2 (1 ∷ []) ∷ rec 2 (2 ∷ []) ∷ rec 2 (3 ∷ []) ∷ rec 2 (4 ∷ []) ∷ rec 3 (10 ∷ 0 ∷ 0 ∷ 1 ∷ []) ∷
      rec 3 (11 ∷ 0 ∷ 1 ∷ 2 ∷ []) ∷ rec 3 (12 ∷ 0 ∷ 2 ∷ 3 ∷ []) ∷ rec 3 (13 ∷ 0 ∷ 3 ∷ 4 ∷ []) ∷ rec 3 (14 ∷ 0 ∷ 4 ∷ 0 ∷ []) ∷ rec 3 (20 ∷ 0 ∷ 0 ∷ 2 ∷ []) ∷
      rec 3 (21 ∷ 0 ∷ 0 ∷ 3 ∷ []) ∷ rec 4 (7 ∷ 0 ∷ 0 ∷ 0 ∷ 0 ∷ []) ∷ rec 5 (0 ∷ 0 ∷ 1 ∷ 0 ∷ 5 ∷ 1 ∷ []) ∷ rec 4 (7 ∷ 0 ∷ 0 ∷ 0 ∷ 1 ∷ []) ∷
      rec 5 (5 ∷ 0 ∷ 2 ∷ 0 ∷ 6 ∷ 1 ∷ []) ∷ rec 4 (7 ∷ 0 ∷ 0 ∷ 0 ∷ 2 ∷ []) ∷ rec 5 (6 ∷ 0 ∷ 3 ∷ 0 ∷ 4 ∷ 0 ∷ []) ∷ rec 4 (8 ∷ 0 ∷ 0 ∷ 0 ∷ 3 ∷ []) ∷
      rec 5 (4 ∷ 1 ∷ 3 ∷ 1 ∷ 2 ∷ 1 ∷ 1 ∷ 1 ∷ 0 ∷ 1 ∷ []) ∷ rec 8 (0 ∷ 0 ∷ []) ∷ rec 8 (1 ∷ 0 ∷ []) ∷ rec 8 (2 ∷ 1 ∷ []) ∷ rec 8 (4 ∷ 0 ∷ []) ∷
      rec 8 (5 ∷ 1 ∷ []) ∷ rec 8 (7 ∷ 0 ∷ []) ∷ rec 8 (8 ∷ 0 ∷ []) ∷ rec 10 (10 ∷ 11 ∷ 0 ∷ []) ∷ rec 10 (10 ∷ 14 ∷ 0 ∷ []) ∷ [];
  damaged = [];
  room = 65536;
  ending = refuse Unanswered 10;
}

-- curves undecided
unfoldable pub curves_open : Case
curves_open = record {
  records =
      rec 1 (1 ∷ []) ∷ rec 2 (0 ∷ []) ∷ rec 2 (1 ∷ []) ∷ rec 2 (2 ∷ []) ∷ rec 2 (3 ∷ []) ∷ rec 2 (4 ∷ []) ∷ rec 3 (10 ∷ 0 ∷ 0 ∷ 1 ∷ []) ∷
      rec 3 (11 ∷ 0 ∷ 1 ∷ 2 ∷ []) ∷ rec 3 (12 ∷ 0 ∷ 2 ∷ 3 ∷ []) ∷ rec 3 (13 ∷ 0 ∷ 3 ∷ 4 ∷ []) ∷ rec 3 (14 ∷ 0 ∷ 4 ∷ 0 ∷ []) ∷ rec 3 (20 ∷ 0 ∷ 0 ∷ 2 ∷ []) ∷
      rec 3 (21 ∷ 0 ∷ 0 ∷ 3 ∷ []) ∷ rec 4 (7 ∷ 0 ∷ 0 ∷ 0 ∷ 0 ∷ []) ∷ rec 5 (0 ∷ 0 ∷ 1 ∷ 0 ∷ 5 ∷ 1 ∷ []) ∷ rec 4 (7 ∷ 0 ∷ 0 ∷ 0 ∷ 1 ∷ []) ∷
      rec 5 (5 ∷ 0 ∷ 2 ∷ 0 ∷ 6 ∷ 1 ∷ []) ∷ rec 4 (7 ∷ 0 ∷ 0 ∷ 0 ∷ 2 ∷ []) ∷ rec 5 (6 ∷ 0 ∷ 3 ∷ 0 ∷ 4 ∷ 0 ∷ []) ∷ rec 4 (8 ∷ 0 ∷ 0 ∷ 0 ∷ 3 ∷ []) ∷
      rec 5 (4 ∷ 1 ∷ 3 ∷ 1 ∷ 2 ∷ 1 ∷ 1 ∷ 1 ∷ 0 ∷ 1 ∷ []) ∷ rec 8 (0 ∷ 0 ∷ []) ∷ rec 8 (1 ∷ 0 ∷ []) ∷ rec 8 (2 ∷ 1 ∷ []) ∷ rec 8 (4 ∷ 0 ∷ []) ∷
      rec 8 (5 ∷ 1 ∷ []) ∷ rec 8 (7 ∷ 0 ∷ []) ∷ rec 8 (8 ∷ 0 ∷ []) ∷ rec 10 (10 ∷ 14 ∷ 2 ∷ []) ∷ [];
  damaged = [];
  room = 65536;
  ending = refuse AnswerUndecided 10;
}

-- an edge and a vertex without uses
unfoldable pub unused_edge : Case
unused_edge = record {
  records =
      rec 1 (1 ∷ []) ∷ rec 2 (9 ∷ []) ∷ rec 3 (4 ∷ 0 ∷ 0 ∷ 0 ∷ []) ∷ rec 3 (5 ∷ 0 ∷ unset ∷ unset ∷ []) ∷ rec 4 (7 ∷ 0 ∷ 0 ∷ 0 ∷ 0 ∷ []) ∷ rec 5 (1 ∷ 0 ∷ []) ∷
      rec 4 (8 ∷ 0 ∷ 0 ∷ 0 ∷ 1 ∷ []) ∷ rec 5 (1 ∷ 1 ∷ []) ∷ rec 8 (0 ∷ 0 ∷ []) ∷ [];
  damaged = [];
  room = 65536;
  ending = Ok
      (rec 21 (1 ∷ 2 ∷ 0 ∷ 0 ∷ 0 ∷ 0 ∷ 0 ∷ []) ∷ rec 23 (5 ∷ 0 ∷ unset ∷ unset ∷ []) ∷ rec 24 (7 ∷ 0 ∷ []) ∷ rec 29 (0 ∷ 0 ∷ []) ∷ rec 25 (0 ∷ 0 ∷ []) ∷
      rec 24 (8 ∷ 0 ∷ []) ∷ rec 29 (0 ∷ 1 ∷ []) ∷
      rec 25 (0 ∷ 1 ∷ []) ∷ rec 27 [] ∷ rec 28 (0 ∷ 1 ∷ []) ∷ []);
}

-- a vertex loop given before a loop comes after it
unfoldable pub vertex_loop_last : Case
vertex_loop_last = record {
  records =
      rec 1 (1 ∷ []) ∷ rec 2 (9 ∷ []) ∷ rec 3 (5 ∷ 0 ∷ unset ∷ unset ∷ []) ∷ rec 4 (7 ∷ 0 ∷ 0 ∷ 0 ∷ 0 ∷ []) ∷ rec 6 (0 ∷ []) ∷ rec 5 (0 ∷ 0 ∷ []) ∷
      rec 4 (8 ∷ 0 ∷ 0 ∷ 0 ∷ 1 ∷ []) ∷ rec 5 (0 ∷ 1 ∷ []) ∷ rec 8 (0 ∷ 0 ∷ []) ∷ [];
  damaged = [];
  room = 65536;
  ending = Ok
      (rec 21 (1 ∷ 2 ∷ 0 ∷ 0 ∷ 0 ∷ 0 ∷ 0 ∷ []) ∷ rec 23 (5 ∷ 0 ∷ unset ∷ unset ∷ []) ∷ rec 24 (7 ∷ 0 ∷ []) ∷ rec 29 (0 ∷ 0 ∷ []) ∷ rec 25 (0 ∷ 0 ∷ []) ∷
      rec 26 (9 ∷ []) ∷
      rec 24 (8 ∷ 0 ∷ []) ∷ rec 29 (0 ∷ 1 ∷ []) ∷ rec 25 (0 ∷ 1 ∷ []) ∷ rec 27 [] ∷ rec 28 (0 ∷ 1 ∷ []) ∷ []);
}

-- a second radial answer
unfoldable pub radial_again : Case
radial_again = record {
  records =
      rec 1 (1 ∷ []) ∷ rec 3 (5 ∷ 0 ∷ unset ∷ unset ∷ []) ∷ rec 4 (7 ∷ 0 ∷ 0 ∷ 0 ∷ 0 ∷ []) ∷ rec 5 (0 ∷ 0 ∷ []) ∷ rec 4 (8 ∷ 0 ∷ 0 ∷ 0 ∷ 1 ∷ []) ∷
      rec 5 (0 ∷ 1 ∷ []) ∷
      rec 4 (9 ∷ 0 ∷ 0 ∷ 0 ∷ 2 ∷ []) ∷ rec 5 (0 ∷ 0 ∷ []) ∷ rec 4 (10 ∷ 0 ∷ 0 ∷ 0 ∷ 3 ∷ []) ∷ rec 5 (0 ∷ 1 ∷ []) ∷ rec 7 (0 ∷ 0 ∷ 3 ∷ 2 ∷ 1 ∷ []) ∷
      rec 7 (0 ∷ []) ∷ [];
  damaged = [];
  room = 65536;
  ending = refuse AnsweredTwice 218;
}

-- 32 comes before 33
unfoldable pub point_before_edge : Case
point_before_edge = record {
  records =
      rec 1 (0 ∷ []) ∷ rec 2 (4 ∷ []) ∷ rec 2 (4 ∷ []) ∷ rec 3 (5 ∷ 0 ∷ 0 ∷ 0 ∷ []) ∷ rec 3 (6 ∷ 0 ∷ 1 ∷ 1 ∷ []) ∷ rec 3 (9 ∷ 0 ∷ unset ∷ unset ∷ []) ∷
      rec 4 (7 ∷ 0 ∷ 0 ∷ 0 ∷ 0 ∷ []) ∷ rec 5 (2 ∷ 0 ∷ []) ∷ rec 5 (0 ∷ 0 ∷ []) ∷ rec 4 (8 ∷ 0 ∷ 0 ∷ 0 ∷ 1 ∷ []) ∷ rec 5 (2 ∷ 1 ∷ []) ∷ rec 5 (0 ∷ 1 ∷ []) ∷
      rec 4 (9 ∷ 0 ∷ 0 ∷ 0 ∷ 2 ∷ []) ∷ rec 5 (2 ∷ 0 ∷ []) ∷ rec 5 (1 ∷ 0 ∷ []) ∷ rec 4 (10 ∷ 0 ∷ 0 ∷ 0 ∷ 3 ∷ []) ∷ rec 5 (2 ∷ 1 ∷ []) ∷ rec 5 (1 ∷ 1 ∷ []) ∷
      rec 7 (2 ∷ 0 ∷ 6 ∷ 4 ∷ 2 ∷ []) ∷ rec 8 (0 ∷ 0 ∷ []) ∷ rec 8 (1 ∷ 0 ∷ []) ∷ rec 8 (4 ∷ 0 ∷ []) ∷ rec 8 (5 ∷ 0 ∷ []) ∷
      rec 11 (5 ∷ 0 ∷ 1 ∷ 4 ∷ 1 ∷ []) ∷ rec 11 (6 ∷ 2 ∷ 3 ∷ 4 ∷ 1 ∷ []) ∷ rec 12 (0 ∷ 1 ∷ []) ∷ rec 12 (2 ∷ 0 ∷ []) ∷ rec 13 (2 ∷ 0 ∷ 1 ∷ []) ∷ [];
  damaged = [];
  room = 65536;
  ending = refuse FansInLump 4;
}

-- the later outer shell lies inside
unfoldable pub inner : Case
inner = record {
  records =
      rec 1 (0 ∷ []) ∷ rec 3 (5 ∷ 0 ∷ unset ∷ unset ∷ []) ∷ rec 3 (6 ∷ 0 ∷ unset ∷ unset ∷ []) ∷ rec 3 (7 ∷ 0 ∷ unset ∷ unset ∷ []) ∷
      rec 4 (7 ∷ 0 ∷ 0 ∷ 0 ∷ 0 ∷ []) ∷ rec 5 (0 ∷ 0 ∷ []) ∷ rec 4 (8 ∷ 0 ∷ 0 ∷ 0 ∷ 1 ∷ []) ∷ rec 5 (0 ∷ 1 ∷ []) ∷ rec 4 (9 ∷ 0 ∷ 0 ∷ 0 ∷ 2 ∷ []) ∷
      rec 5 (1 ∷ 0 ∷ []) ∷
      rec 4 (10 ∷ 0 ∷ 0 ∷ 0 ∷ 3 ∷ []) ∷ rec 5 (1 ∷ 1 ∷ []) ∷ rec 4 (11 ∷ 0 ∷ 0 ∷ 0 ∷ 4 ∷ []) ∷ rec 5 (2 ∷ 0 ∷ []) ∷ rec 4 (12 ∷ 0 ∷ 0 ∷ 0 ∷ 5 ∷ []) ∷
      rec 5 (2 ∷ 1 ∷ []) ∷
      rec 8 (0 ∷ 0 ∷ []) ∷ rec 8 (2 ∷ 0 ∷ []) ∷ rec 8 (4 ∷ 0 ∷ []) ∷ rec 12 (0 ∷ 1 ∷ []) ∷ rec 12 (2 ∷ 1 ∷ []) ∷ rec 12 (4 ∷ 0 ∷ []) ∷
      rec 13 (4 ∷ 0 ∷ 1 ∷ []) ∷ rec 13 (4 ∷ 2 ∷ 1 ∷ []) ∷ rec 13 (2 ∷ 0 ∷ 1 ∷ []) ∷ [];
  damaged = [];
  room = 65536;
  ending = Ok
      (rec 21 (1 ∷ 6 ∷ 0 ∷ 0 ∷ 0 ∷ 0 ∷ 0 ∷ []) ∷ rec 23 (5 ∷ 0 ∷ unset ∷ unset ∷ []) ∷ rec 23 (6 ∷ 0 ∷ unset ∷ unset ∷ []) ∷
      rec 23 (7 ∷ 0 ∷ unset ∷ unset ∷ []) ∷ rec 24 (7 ∷ 0 ∷ []) ∷ rec 29 (0 ∷ 0 ∷ []) ∷ rec 25 (0 ∷ 0 ∷ []) ∷ rec 24 (8 ∷ 0 ∷ []) ∷ rec 29 (0 ∷ 1 ∷ []) ∷
      rec 25 (0 ∷ 1 ∷ []) ∷ rec 24 (9 ∷ 0 ∷ []) ∷ rec 29 (0 ∷ 2 ∷ []) ∷
      rec 25 (1 ∷ 0 ∷ []) ∷ rec 24 (10 ∷ 0 ∷ []) ∷ rec 29 (0 ∷ 3 ∷ []) ∷ rec 25 (1 ∷ 1 ∷ []) ∷ rec 24 (11 ∷ 0 ∷ []) ∷ rec 29 (0 ∷ 4 ∷ []) ∷ rec 25 (2 ∷ 0 ∷ []) ∷
      rec 24 (12 ∷ 0 ∷ []) ∷ rec 29 (0 ∷ 5 ∷ []) ∷
      rec 25 (2 ∷ 1 ∷ []) ∷ rec 27 [] ∷ rec 28 (0 ∷ 1 ∷ []) ∷ rec 27 [] ∷ rec 28 (2 ∷ 3 ∷ []) ∷ rec 28 (4 ∷ 5 ∷ []) ∷ []);
}

-- the later outer shell lies outside
unfoldable pub outer_kept : Case
outer_kept = record {
  records =
      rec 1 (0 ∷ []) ∷ rec 3 (5 ∷ 0 ∷ unset ∷ unset ∷ []) ∷ rec 3 (6 ∷ 0 ∷ unset ∷ unset ∷ []) ∷ rec 3 (7 ∷ 0 ∷ unset ∷ unset ∷ []) ∷
      rec 4 (7 ∷ 0 ∷ 0 ∷ 0 ∷ 0 ∷ []) ∷ rec 5 (0 ∷ 0 ∷ []) ∷ rec 4 (8 ∷ 0 ∷ 0 ∷ 0 ∷ 1 ∷ []) ∷ rec 5 (0 ∷ 1 ∷ []) ∷ rec 4 (9 ∷ 0 ∷ 0 ∷ 0 ∷ 2 ∷ []) ∷
      rec 5 (1 ∷ 0 ∷ []) ∷
      rec 4 (10 ∷ 0 ∷ 0 ∷ 0 ∷ 3 ∷ []) ∷ rec 5 (1 ∷ 1 ∷ []) ∷ rec 4 (11 ∷ 0 ∷ 0 ∷ 0 ∷ 4 ∷ []) ∷ rec 5 (2 ∷ 0 ∷ []) ∷ rec 4 (12 ∷ 0 ∷ 0 ∷ 0 ∷ 5 ∷ []) ∷
      rec 5 (2 ∷ 1 ∷ []) ∷
      rec 8 (0 ∷ 0 ∷ []) ∷ rec 8 (2 ∷ 0 ∷ []) ∷ rec 8 (4 ∷ 0 ∷ []) ∷ rec 12 (0 ∷ 1 ∷ []) ∷ rec 12 (2 ∷ 1 ∷ []) ∷ rec 12 (4 ∷ 0 ∷ []) ∷
      rec 13 (4 ∷ 0 ∷ 1 ∷ []) ∷ rec 13 (4 ∷ 2 ∷ 1 ∷ []) ∷ rec 13 (2 ∷ 0 ∷ 0 ∷ []) ∷ [];
  damaged = [];
  room = 65536;
  ending = Ok
      (rec 21 (1 ∷ 6 ∷ 0 ∷ 0 ∷ 0 ∷ 0 ∷ 0 ∷ []) ∷ rec 23 (5 ∷ 0 ∷ unset ∷ unset ∷ []) ∷ rec 23 (6 ∷ 0 ∷ unset ∷ unset ∷ []) ∷
      rec 23 (7 ∷ 0 ∷ unset ∷ unset ∷ []) ∷ rec 24 (7 ∷ 0 ∷ []) ∷ rec 29 (0 ∷ 0 ∷ []) ∷ rec 25 (0 ∷ 0 ∷ []) ∷ rec 24 (8 ∷ 0 ∷ []) ∷ rec 29 (0 ∷ 1 ∷ []) ∷
      rec 25 (0 ∷ 1 ∷ []) ∷ rec 24 (9 ∷ 0 ∷ []) ∷ rec 29 (0 ∷ 2 ∷ []) ∷
      rec 25 (1 ∷ 0 ∷ []) ∷ rec 24 (10 ∷ 0 ∷ []) ∷ rec 29 (0 ∷ 3 ∷ []) ∷ rec 25 (1 ∷ 1 ∷ []) ∷ rec 24 (11 ∷ 0 ∷ []) ∷ rec 29 (0 ∷ 4 ∷ []) ∷ rec 25 (2 ∷ 0 ∷ []) ∷
      rec 24 (12 ∷ 0 ∷ []) ∷ rec 29 (0 ∷ 5 ∷ []) ∷
      rec 25 (2 ∷ 1 ∷ []) ∷ rec 27 [] ∷ rec 28 (0 ∷ 1 ∷ []) ∷ rec 28 (4 ∷ 5 ∷ []) ∷ rec 27 [] ∷ rec 28 (2 ∷ 3 ∷ []) ∷ []);
}

-- a void before its outer shell
unfoldable pub void_first : Case
void_first = record {
  records =
      rec 1 (0 ∷ []) ∷ rec 3 (5 ∷ 0 ∷ unset ∷ unset ∷ []) ∷ rec 3 (6 ∷ 0 ∷ unset ∷ unset ∷ []) ∷ rec 3 (7 ∷ 0 ∷ unset ∷ unset ∷ []) ∷
      rec 4 (7 ∷ 0 ∷ 0 ∷ 0 ∷ 0 ∷ []) ∷ rec 5 (0 ∷ 0 ∷ []) ∷ rec 4 (8 ∷ 0 ∷ 0 ∷ 0 ∷ 1 ∷ []) ∷ rec 5 (0 ∷ 1 ∷ []) ∷ rec 4 (9 ∷ 0 ∷ 0 ∷ 0 ∷ 2 ∷ []) ∷
      rec 5 (1 ∷ 0 ∷ []) ∷
      rec 4 (10 ∷ 0 ∷ 0 ∷ 0 ∷ 3 ∷ []) ∷ rec 5 (1 ∷ 1 ∷ []) ∷ rec 4 (11 ∷ 0 ∷ 0 ∷ 0 ∷ 4 ∷ []) ∷ rec 5 (2 ∷ 0 ∷ []) ∷ rec 4 (12 ∷ 0 ∷ 0 ∷ 0 ∷ 5 ∷ []) ∷
      rec 5 (2 ∷ 1 ∷ []) ∷
      rec 8 (0 ∷ 0 ∷ []) ∷ rec 8 (2 ∷ 0 ∷ []) ∷ rec 8 (4 ∷ 0 ∷ []) ∷ rec 12 (0 ∷ 0 ∷ []) ∷ rec 12 (2 ∷ 1 ∷ []) ∷ rec 12 (4 ∷ 1 ∷ []) ∷
      rec 13 (0 ∷ 2 ∷ 0 ∷ []) ∷ rec 13 (0 ∷ 4 ∷ 1 ∷ []) ∷ [];
  damaged = [];
  room = 65536;
  ending = Ok
      (rec 21 (1 ∷ 6 ∷ 0 ∷ 0 ∷ 0 ∷ 0 ∷ 0 ∷ []) ∷ rec 23 (5 ∷ 0 ∷ unset ∷ unset ∷ []) ∷ rec 23 (6 ∷ 0 ∷ unset ∷ unset ∷ []) ∷
      rec 23 (7 ∷ 0 ∷ unset ∷ unset ∷ []) ∷ rec 24 (7 ∷ 0 ∷ []) ∷ rec 29 (0 ∷ 0 ∷ []) ∷ rec 25 (0 ∷ 0 ∷ []) ∷ rec 24 (8 ∷ 0 ∷ []) ∷ rec 29 (0 ∷ 1 ∷ []) ∷
      rec 25 (0 ∷ 1 ∷ []) ∷ rec 24 (9 ∷ 0 ∷ []) ∷ rec 29 (0 ∷ 2 ∷ []) ∷
      rec 25 (1 ∷ 0 ∷ []) ∷ rec 24 (10 ∷ 0 ∷ []) ∷ rec 29 (0 ∷ 3 ∷ []) ∷ rec 25 (1 ∷ 1 ∷ []) ∷ rec 24 (11 ∷ 0 ∷ []) ∷ rec 29 (0 ∷ 4 ∷ []) ∷ rec 25 (2 ∷ 0 ∷ []) ∷
      rec 24 (12 ∷ 0 ∷ []) ∷ rec 29 (0 ∷ 5 ∷ []) ∷
      rec 25 (2 ∷ 1 ∷ []) ∷ rec 27 [] ∷ rec 28 (2 ∷ 3 ∷ []) ∷ rec 27 [] ∷ rec 28 (4 ∷ 5 ∷ []) ∷ rec 28 (0 ∷ 1 ∷ []) ∷ []);
}

-- a sense that is none in a loop whose joints are broken: fields come first
unfoldable pub sense_and_joint : Case
sense_and_joint = record {
  records =
      rec 1 (1 ∷ []) ∷ rec 2 (0 ∷ []) ∷ rec 2 (1 ∷ []) ∷ rec 3 (5 ∷ 0 ∷ 0 ∷ 1 ∷ []) ∷ rec 3 (5 ∷ 0 ∷ 0 ∷ 1 ∷ []) ∷ rec 4 (7 ∷ 0 ∷ 0 ∷ 0 ∷ 0 ∷ []) ∷
      rec 5 (0 ∷ 0 ∷ 1 ∷ 0 ∷ 0 ∷ 5 ∷ []) ∷ [];
  damaged = [];
  room = 65536;
  ending = refuse FieldNotPermitted 100;
}

unfoldable pub cases : List Case
cases =
    empty_job ∷
    no_head ∷
    cut_header ∷
    cut_payload ∷
    cut_huge ∷
    unknown_kind ∷
    two_heads ∷
    late_vertex ∷
    loose_loop ∷
    late_face ∷
    empty_loop ∷
    odd_loop ∷
    head_two ∷
    half_ring ∷
    edge_sense ∷
    face_sense ∷
    loop_edge ∷
    loop_vertex ∷
    points_equal ∷
    singular_order ∷
    points_twice ∷
    empty_unasked ∷
    no_room ∷
    just_room ∷
    broken_joint ∷
    radial_missing ∷
    radial_open ∷
    radial_short ∷
    radial_twice ∷
    same_same ∷
    lone_use ∷
    three_uses ∷
    surface_missing ∷
    surface_open ∷
    surface_vanish ∷
    two_shells ∷
    orient_missing ∷
    orient_second ∷
    void_alone ∷
    inside_missing ∷
    not_inside ∷
    edge_in_lump ∷
    edge_in_bound ∷
    point_in_bound ∷
    singular_missing ∷
    singular_open ∷
    point_shared ∷
    point_in_lump ∷
    void_inside ∷
    seam ∷
    turned ∷
    opposed ∷
    opposed_same ∷
    points_missing ∷
    points_same ∷
    points_differ ∷
    points_apart ∷
    four_joined ∷
    pass_twice ∷
    curves_missing ∷
    curves_open ∷
    unused_edge ∷
    vertex_loop_last ∷
    radial_again ∷
    point_before_edge ∷
    inner ∷
    outer_kept ∷
    void_first ∷
    sense_and_joint ∷
    []

-- each case ends as it says
pub cases_right : all right cases ≡ true
unfolding computes cases sense_and_joint empty_job no_head cut_header cut_payload cut_huge unknown_kind two_heads
    late_vertex loose_loop late_face empty_loop odd_loop head_two half_ring edge_sense face_sense loop_edge
    loop_vertex points_equal singular_order points_twice empty_unasked no_room just_room broken_joint radial_missing
    radial_open radial_short radial_twice same_same lone_use three_uses surface_missing surface_open surface_vanish
    two_shells orient_missing orient_second void_alone inside_missing not_inside edge_in_lump edge_in_bound
    point_in_bound singular_missing singular_open point_shared point_in_lump void_inside seam turned opposed
    opposed_same points_missing points_same points_differ points_apart four_joined pass_twice curves_missing
    curves_open unused_edge vertex_loop_last radial_again point_before_edge inner outer_kept void_first
cases_right = refl
