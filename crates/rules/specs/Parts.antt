-- Document 01's drawn parts P1 to P9 as one tabulated fact.
use Rattle.std.specs.Prelude.{◌≡◌, refl, List, [], ◌∷◌, ◌++◌, true, ℕ}
use Rattle.lists.specs.Lists.{all}
use Rattle.rules.specs.Outcome.{Ok, refuse}
use Rattle.rules.specs.Frame.{Record}
use Rattle.rules.specs.Job.{unset}
use Rattle.rules.specs.Body.{rec}
use Rattle.rules.specs.Tables.{Row, same_records, right}
use Rattle.rules.specs.Open.{computes}
use Rattle.rules.specs.declared.Fault.TheVariants.{LoopJoints, EqualSenses, OddUses}

-- Head only
unfoldable pub P1 : Row
P1 = record {
  job = rec 1 (0 ∷ []) ∷ [];
  ending = Ok (rec 21 (0 ∷ 0 ∷ 0 ∷ 0 ∷ 0 ∷ 0 ∷ 0 ∷ []) ∷ []);
}

-- two faces on one ring, used Same then in the given sense
unfoldable pub ring_job : ℕ → List Record
ring_job second =
    rec 1 (1 ∷ []) ∷
    rec 3 (5 ∷ 0 ∷ unset ∷ unset ∷ []) ∷
    rec 4 (7 ∷ 0 ∷ 0 ∷ 0 ∷ 0 ∷ []) ∷ rec 5 (0 ∷ 0 ∷ []) ∷
    rec 4 (8 ∷ 0 ∷ 0 ∷ 0 ∷ 1 ∷ []) ∷ rec 5 (0 ∷ second ∷ []) ∷ []

-- the surfaces differ: 2 faces, 1 edge, 1 shell
unfoldable pub P2 : Row
P2 = record {
  job = ring_job 1 ++ (rec 8 (0 ∷ 0 ∷ []) ∷ []);
  ending = Ok
      (rec 21 (1 ∷ 2 ∷ 0 ∷ 0 ∷ 0 ∷ 0 ∷ 0 ∷ []) ∷
      rec 23 (5 ∷ 0 ∷ unset ∷ unset ∷ []) ∷
      rec 24 (7 ∷ 0 ∷ []) ∷ rec 29 (0 ∷ 0 ∷ []) ∷ rec 25 (0 ∷ 0 ∷ []) ∷
      rec 24 (8 ∷ 0 ∷ []) ∷ rec 29 (0 ∷ 1 ∷ []) ∷ rec 25 (0 ∷ 1 ∷ []) ∷
      rec 27 [] ∷ rec 28 (0 ∷ 1 ∷ []) ∷ []);
}

-- the surfaces are the same: one face without loops
unfoldable pub P3 : Row
P3 = record {
  job = ring_job 1 ++ (rec 8 (0 ∷ 1 ∷ []) ∷ []);
  ending = Ok (rec 21 (1 ∷ 2 ∷ 2 ∷ 0 ∷ 0 ∷ 0 ∷ 1 ∷ []) ∷ rec 24 (7 ∷ 0 ∷ []) ∷ rec 29 (0 ∷ 0 ∷ 0 ∷ 1 ∷ []) ∷ rec 27 [] ∷ rec 28 (0 ∷ []) ∷ []);
}

-- both uses Same
unfoldable pub P4 : Row
P4 = record { job = ring_job 0; ending = refuse EqualSenses 0 }

-- one use
unfoldable pub P5 : Row
P5 = record {
  job = rec 1 (1 ∷ []) ∷ rec 3 (5 ∷ 0 ∷ unset ∷ unset ∷ []) ∷ rec 4 (7 ∷ 0 ∷ 0 ∷ 0 ∷ 0 ∷ []) ∷ rec 5 (0 ∷ 0 ∷ []) ∷ [];
  ending = refuse OddUses 0;
}

-- a ring with a second use in its loop
unfoldable pub P6 : Row
P6 = record {
  job = rec 1 (1 ∷ []) ∷ rec 3 (5 ∷ 0 ∷ unset ∷ unset ∷ []) ∷ rec 4 (7 ∷ 0 ∷ 0 ∷ 0 ∷ 0 ∷ []) ∷ rec 5 (0 ∷ 0 ∷ 0 ∷ 1 ∷ []) ∷ [];
  ending = refuse LoopJoints 58;
}

-- two edges between two vertices, two faces, all answers 0 but whether point 0 is singular
unfoldable pub lens_job : ℕ → List Record
lens_job singular =
    rec 1 (1 ∷ []) ∷
    rec 2 (0 ∷ []) ∷ rec 2 (1 ∷ []) ∷
    rec 3 (5 ∷ 0 ∷ 0 ∷ 1 ∷ []) ∷ rec 3 (5 ∷ 0 ∷ 1 ∷ 0 ∷ []) ∷
    rec 4 (7 ∷ 0 ∷ 0 ∷ 0 ∷ 0 ∷ []) ∷ rec 5 (0 ∷ 0 ∷ 1 ∷ 0 ∷ []) ∷
    rec 4 (8 ∷ 0 ∷ 0 ∷ 0 ∷ 1 ∷ []) ∷ rec 5 (1 ∷ 1 ∷ 0 ∷ 1 ∷ []) ∷
    rec 8 (0 ∷ 0 ∷ []) ∷ rec 8 (1 ∷ 0 ∷ []) ∷
    rec 11 (5 ∷ 0 ∷ 1 ∷ 0 ∷ singular ∷ []) ∷ rec 11 (5 ∷ 0 ∷ 1 ∷ 1 ∷ 0 ∷ []) ∷ []

-- one join, one ring
unfoldable pub P7 : Row
P7 = record {
  job = lens_job 0;
  ending = Ok
      (rec 21 (1 ∷ 4 ∷ 0 ∷ 0 ∷ 1 ∷ 1 ∷ 0 ∷ []) ∷
      rec 23 (5 ∷ 1 ∷ unset ∷ unset ∷ []) ∷
      rec 24 (7 ∷ 0 ∷ []) ∷ rec 29 (0 ∷ 0 ∷ []) ∷ rec 25 (0 ∷ 1 ∷ []) ∷
      rec 24 (8 ∷ 0 ∷ []) ∷ rec 29 (0 ∷ 1 ∷ []) ∷ rec 25 (0 ∷ 0 ∷ []) ∷
      rec 27 [] ∷ rec 28 (0 ∷ 1 ∷ []) ∷ []);
}

-- point 0 is singular: one join, no ring
unfoldable pub P8 : Row
P8 = record {
  job = lens_job 1;
  ending = Ok
      (rec 21 (1 ∷ 4 ∷ 0 ∷ 0 ∷ 1 ∷ 0 ∷ 0 ∷ []) ∷
      rec 22 (0 ∷ []) ∷
      rec 23 (5 ∷ 0 ∷ 0 ∷ 0 ∷ []) ∷
      rec 24 (7 ∷ 0 ∷ []) ∷ rec 29 (0 ∷ 0 ∷ []) ∷ rec 25 (0 ∷ 0 ∷ []) ∷
      rec 24 (8 ∷ 0 ∷ []) ∷ rec 29 (0 ∷ 1 ∷ []) ∷ rec 25 (0 ∷ 1 ∷ []) ∷
      rec 27 [] ∷ rec 28 (0 ∷ 1 ∷ []) ∷ []);
}

-- an edge splits face 0, and the halves merge
unfoldable pub P9 : Row
P9 = record {
  job =
      rec 1 (1 ∷ []) ∷
      rec 2 (0 ∷ []) ∷ rec 2 (1 ∷ []) ∷
      rec 3 (5 ∷ 0 ∷ 0 ∷ 1 ∷ []) ∷ rec 3 (6 ∷ 0 ∷ 1 ∷ 0 ∷ []) ∷ rec 3 (9 ∷ 0 ∷ 0 ∷ 1 ∷ []) ∷
      rec 4 (7 ∷ 0 ∷ 0 ∷ 0 ∷ 0 ∷ []) ∷ rec 5 (0 ∷ 0 ∷ 2 ∷ 1 ∷ []) ∷
      rec 4 (7 ∷ 0 ∷ 0 ∷ 0 ∷ 1 ∷ []) ∷ rec 5 (2 ∷ 0 ∷ 1 ∷ 0 ∷ []) ∷
      rec 4 (8 ∷ 0 ∷ 0 ∷ 0 ∷ 2 ∷ []) ∷ rec 5 (1 ∷ 1 ∷ 0 ∷ 1 ∷ []) ∷
      rec 8 (0 ∷ 0 ∷ []) ∷ rec 8 (1 ∷ 1 ∷ []) ∷ rec 8 (3 ∷ 0 ∷ []) ∷
      rec 10 (5 ∷ 6 ∷ 0 ∷ []) ∷ [];
  ending = Ok
      (rec 21 (1 ∷ 6 ∷ 2 ∷ 2 ∷ 0 ∷ 0 ∷ 1 ∷ []) ∷
      rec 22 (0 ∷ []) ∷ rec 22 (1 ∷ []) ∷
      rec 23 (5 ∷ 0 ∷ 0 ∷ 1 ∷ []) ∷ rec 23 (6 ∷ 0 ∷ 1 ∷ 0 ∷ []) ∷
      rec 24 (7 ∷ 0 ∷ []) ∷ rec 29 (0 ∷ 0 ∷ 0 ∷ 1 ∷ []) ∷ rec 25 (0 ∷ 0 ∷ 1 ∷ 0 ∷ []) ∷
      rec 24 (8 ∷ 0 ∷ []) ∷ rec 29 (0 ∷ 2 ∷ []) ∷ rec 25 (1 ∷ 1 ∷ 0 ∷ 1 ∷ []) ∷
      rec 27 [] ∷ rec 28 (0 ∷ 1 ∷ []) ∷ []);
}

unfoldable pub parts : List Row
parts = P1 ∷ P2 ∷ P3 ∷ P4 ∷ P5 ∷ P6 ∷ P7 ∷ P8 ∷ P9 ∷ []

-- each part ends as document 01 says
pub parts_right : all right parts ≡ true
unfolding computes same_records ring_job lens_job P1 P2 P3 P4 P5 P6 P7 P8 P9 parts
parts_right = refl
