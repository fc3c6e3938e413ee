-- Eleven: jobs sewn and walked with a joining table, each with its ending.
use Rattle.std.specs.Prelude.{◌≡◌, refl, List, [], ◌∷◌, ◌++◌, ℕ, replicate, Bool, true}
use Rattle.lists.specs.Lists.{all, same}
use Rattle.rules.specs.Outcome.{Outcome, Ok, refuse}
use Rattle.rules.specs.Fields.{field_bytes}
use Rattle.rules.specs.Frame.{Record, framed_all}
use Rattle.rules.specs.Job.{unset}
use Rattle.rules.specs.Body.{rec}
use Rattle.rules.specs.Sew.{sewn_with_table}
use Rattle.rules.specs.Stage.{walk_stage_with_table}
use Rattle.rules.specs.Listing.{refusal_line, listing_of, listing_with_table}
use Rattle.rules.specs.Rows.{rows_listing, walk_listing_with_table}
use Rattle.rules.specs.Parts.{ring_job, P1, P2, P3, P9}
use Rattle.rules.specs.Cases.{bytes_of, same_bytes}
use Rattle.rules.specs.MoreCases.{removed_pair_counts}
use Rattle.rules.specs.Open.{computes}
use Rattle.rules.specs.declared.Fault.TheVariants.{WrongTable, Misplaced, EqualSenses, Unanswered, AnswerUndecided, NormalsVanish, NoRoom}

-- SEWING

-- a table, a job and its ending
pub record TableCase : Type 0 where
  pub table : List ℕ
  pub records : List Record
  pub ending : Outcome (List Record)

abbrev pub right_sewn : TableCase → Bool
right_sewn c = same_bytes (sewn_with_table c.table (framed_all c.records) 65536) (bytes_of c.ending)

abbrev sewn_case : List ℕ → List Record → Outcome (List Record) → TableCase
sewn_case table records ending = record { table = table; records = records; ending = ending }

-- the four tables that are permitted
abbrev full : List ℕ
full = 1 ∷ 0 ∷ 0 ∷ 1 ∷ []

abbrev only_agreeing : List ℕ
only_agreeing = 1 ∷ 0 ∷ 0 ∷ 0 ∷ []

abbrev only_opposed : List ℕ
only_opposed = 0 ∷ 0 ∷ 0 ∷ 1 ∷ []

abbrev joins_none : List ℕ
joins_none = 0 ∷ 0 ∷ 0 ∷ 0 ∷ []

-- two faces on one ring, the second with its own sense reversed
unfoldable pub opposed_faces : List Record
opposed_faces =
    rec 1 (1 ∷ []) ∷
    rec 3 (5 ∷ 0 ∷ unset ∷ unset ∷ []) ∷
    rec 4 (7 ∷ 0 ∷ 0 ∷ 0 ∷ 0 ∷ []) ∷ rec 5 (0 ∷ 0 ∷ []) ∷
    rec 4 (8 ∷ 1 ∷ 0 ∷ 0 ∷ 1 ∷ []) ∷ rec 5 (0 ∷ 1 ∷ []) ∷ []

-- and an answer about their surfaces
unfoldable pub opposed_job : ℕ → List Record
opposed_job answer = opposed_faces ++ (rec 8 (0 ∷ answer ∷ []) ∷ [])

-- the surfaces are the same, but the table does not join them
unfoldable pub kept_apart : Outcome (List Record)
kept_apart = Ok
    (rec 21 (1 ∷ 2 ∷ 0 ∷ 0 ∷ 0 ∷ 0 ∷ 0 ∷ []) ∷
    rec 23 (5 ∷ 0 ∷ unset ∷ unset ∷ []) ∷
    rec 24 (7 ∷ 0 ∷ []) ∷ rec 29 (0 ∷ 0 ∷ []) ∷ rec 25 (0 ∷ 0 ∷ []) ∷
    rec 24 (8 ∷ 1 ∷ []) ∷ rec 29 (0 ∷ 1 ∷ []) ∷ rec 25 (0 ∷ 1 ∷ []) ∷
    rec 27 [] ∷ rec 28 (0 ∷ 1 ∷ []) ∷ [])

-- P9 with its halves apart: every use is kept, and three edges meet at both corners
unfoldable pub halves_apart : Outcome (List Record)
halves_apart = Ok
    (rec 21 (1 ∷ 6 ∷ 0 ∷ 0 ∷ 0 ∷ 0 ∷ 0 ∷ []) ∷
    rec 22 (0 ∷ []) ∷ rec 22 (1 ∷ []) ∷
    rec 23 (5 ∷ 0 ∷ 0 ∷ 1 ∷ []) ∷ rec 23 (9 ∷ 0 ∷ 0 ∷ 1 ∷ []) ∷ rec 23 (6 ∷ 0 ∷ 1 ∷ 0 ∷ []) ∷
    rec 24 (7 ∷ 0 ∷ []) ∷ rec 29 (0 ∷ 0 ∷ []) ∷ rec 25 (0 ∷ 0 ∷ 1 ∷ 1 ∷ []) ∷
    rec 24 (7 ∷ 0 ∷ []) ∷ rec 29 (0 ∷ 1 ∷ []) ∷ rec 25 (1 ∷ 0 ∷ 2 ∷ 0 ∷ []) ∷
    rec 24 (8 ∷ 0 ∷ []) ∷ rec 29 (0 ∷ 2 ∷ []) ∷ rec 25 (2 ∷ 1 ∷ 0 ∷ 1 ∷ []) ∷
    rec 27 [] ∷ rec 28 (0 ∷ 1 ∷ 2 ∷ []) ∷ [])

-- four faces on two rings: the first two agree, the second of them and the third are opposed, and so on the second ring
unfoldable pub both_answers : List Record
both_answers =
    rec 1 (1 ∷ []) ∷
    rec 3 (5 ∷ 0 ∷ unset ∷ unset ∷ []) ∷ rec 3 (6 ∷ 0 ∷ unset ∷ unset ∷ []) ∷
    rec 4 (7 ∷ 0 ∷ 0 ∷ 0 ∷ 0 ∷ []) ∷ rec 5 (0 ∷ 0 ∷ []) ∷
    rec 4 (7 ∷ 0 ∷ 0 ∷ 0 ∷ 1 ∷ []) ∷ rec 5 (0 ∷ 1 ∷ []) ∷ rec 5 (1 ∷ 0 ∷ []) ∷
    rec 4 (8 ∷ 1 ∷ 0 ∷ 0 ∷ 2 ∷ []) ∷ rec 5 (1 ∷ 1 ∷ []) ∷
    rec 8 (0 ∷ 1 ∷ []) ∷ rec 8 (2 ∷ 2 ∷ []) ∷ []

-- joined by both answers, by the first alone, by the second alone
unfoldable pub by_both : Outcome (List Record)
by_both = Ok (rec 21 (1 ∷ 4 ∷ 4 ∷ 0 ∷ 0 ∷ 0 ∷ 2 ∷ []) ∷ rec 24 (7 ∷ 0 ∷ []) ∷ rec 29 (0 ∷ 0 ∷ 0 ∷ 1 ∷ 0 ∷ 2 ∷ []) ∷ rec 27 [] ∷ rec 28 (0 ∷ []) ∷ [])

unfoldable pub by_agreeing : Outcome (List Record)
by_agreeing = Ok
    (rec 21 (1 ∷ 4 ∷ 2 ∷ 0 ∷ 0 ∷ 0 ∷ 1 ∷ []) ∷
    rec 23 (6 ∷ 0 ∷ unset ∷ unset ∷ []) ∷
    rec 24 (7 ∷ 0 ∷ []) ∷ rec 29 (0 ∷ 0 ∷ 0 ∷ 1 ∷ []) ∷ rec 25 (0 ∷ 0 ∷ []) ∷
    rec 24 (8 ∷ 1 ∷ []) ∷ rec 29 (0 ∷ 2 ∷ []) ∷ rec 25 (0 ∷ 1 ∷ []) ∷
    rec 27 [] ∷ rec 28 (0 ∷ 1 ∷ []) ∷ [])

unfoldable pub by_opposed : Outcome (List Record)
by_opposed = Ok
    (rec 21 (1 ∷ 4 ∷ 2 ∷ 0 ∷ 0 ∷ 0 ∷ 1 ∷ []) ∷
    rec 23 (5 ∷ 0 ∷ unset ∷ unset ∷ []) ∷
    rec 24 (7 ∷ 0 ∷ []) ∷ rec 29 (0 ∷ 0 ∷ []) ∷ rec 25 (0 ∷ 0 ∷ []) ∷
    rec 24 (7 ∷ 0 ∷ []) ∷ rec 29 (0 ∷ 1 ∷ 0 ∷ 2 ∷ []) ∷ rec 25 (0 ∷ 1 ∷ []) ∷
    rec 27 [] ∷ rec 28 (0 ∷ 1 ∷ []) ∷ [])

-- two faces on one ring that agree, each with a vertex loop
unfoldable pub two_vertex_loops : List Record
two_vertex_loops =
    rec 1 (1 ∷ []) ∷ rec 2 (3 ∷ []) ∷ rec 2 (4 ∷ []) ∷
    rec 3 (5 ∷ 0 ∷ unset ∷ unset ∷ []) ∷
    rec 4 (7 ∷ 0 ∷ 0 ∷ 0 ∷ 0 ∷ []) ∷ rec 5 (0 ∷ 0 ∷ []) ∷ rec 6 (0 ∷ []) ∷
    rec 4 (7 ∷ 0 ∷ 0 ∷ 0 ∷ 1 ∷ []) ∷ rec 5 (0 ∷ 1 ∷ []) ∷ rec 6 (1 ∷ []) ∷
    rec 8 (0 ∷ 1 ∷ []) ∷ []

unfoldable pub vertex_loops_apart : Outcome (List Record)
vertex_loops_apart = Ok
    (rec 21 (1 ∷ 2 ∷ 0 ∷ 0 ∷ 0 ∷ 0 ∷ 0 ∷ []) ∷
    rec 23 (5 ∷ 0 ∷ unset ∷ unset ∷ []) ∷
    rec 24 (7 ∷ 0 ∷ []) ∷ rec 29 (0 ∷ 0 ∷ []) ∷ rec 25 (0 ∷ 0 ∷ []) ∷ rec 26 (3 ∷ []) ∷
    rec 24 (7 ∷ 0 ∷ []) ∷ rec 29 (0 ∷ 1 ∷ []) ∷ rec 25 (0 ∷ 1 ∷ []) ∷ rec 26 (4 ∷ []) ∷
    rec 27 [] ∷ rec 28 (0 ∷ 1 ∷ []) ∷ [])

-- each permitted table on jobs whose answers are 1 or 2
unfoldable pub table_cases : List TableCase
table_cases =
    sewn_case full P3.job P3.ending ∷
    sewn_case only_agreeing P3.job P3.ending ∷
    sewn_case only_opposed P3.job P2.ending ∷
    sewn_case joins_none P3.job P2.ending ∷
    sewn_case full (opposed_job 2) P3.ending ∷
    sewn_case only_opposed (opposed_job 2) P3.ending ∷
    sewn_case only_agreeing (opposed_job 2) kept_apart ∷
    sewn_case joins_none (opposed_job 2) kept_apart ∷
    sewn_case full both_answers by_both ∷
    sewn_case only_agreeing both_answers by_agreeing ∷
    sewn_case only_opposed both_answers by_opposed ∷
    sewn_case full P9.job P9.ending ∷
    sewn_case only_agreeing P9.job P9.ending ∷
    sewn_case only_opposed P9.job halves_apart ∷
    -- no table joins answer 1 with different senses, or answer 2 with equal ones
    sewn_case full (opposed_job 1) kept_apart ∷
    sewn_case only_agreeing (opposed_job 1) kept_apart ∷
    sewn_case full (ring_job 1 ++ (rec 8 (0 ∷ 2 ∷ []) ∷ [])) P2.ending ∷
    sewn_case only_opposed (ring_job 1 ++ (rec 8 (0 ∷ 2 ∷ []) ∷ [])) P2.ending ∷
    -- a question is put whatever the table says, and refused where normals vanish and where it is undecided
    sewn_case joins_none (ring_job 1) (refuse Unanswered 8) ∷
    sewn_case joins_none (ring_job 1 ++ (rec 8 (0 ∷ 3 ∷ []) ∷ [])) (refuse NormalsVanish 8) ∷
    sewn_case joins_none (ring_job 1 ++ (rec 8 (0 ∷ 4 ∷ []) ∷ [])) (refuse AnswerUndecided 8) ∷
    -- also where neither answer joins faces of these senses under it
    sewn_case only_agreeing opposed_faces (refuse Unanswered 8) ∷
    sewn_case only_agreeing (opposed_job 3) (refuse NormalsVanish 8) ∷
    sewn_case only_agreeing (opposed_job 4) (refuse AnswerUndecided 8) ∷
    sewn_case only_opposed (ring_job 1) (refuse Unanswered 8) ∷
    sewn_case only_opposed (ring_job 1 ++ (rec 8 (0 ∷ 3 ∷ []) ∷ [])) (refuse NormalsVanish 8) ∷
    sewn_case only_opposed (ring_job 1 ++ (rec 8 (0 ∷ 4 ∷ []) ∷ [])) (refuse AnswerUndecided 8) ∷
    -- a question that only merged faces put
    sewn_case only_agreeing two_vertex_loops (refuse Unanswered 9) ∷
    sewn_case only_opposed two_vertex_loops vertex_loops_apart ∷
    -- no face selected
    sewn_case joins_none P1.job P1.ending ∷
    -- with a permitted table a job is refused as without
    sewn_case joins_none (ring_job 0) (refuse EqualSenses 0) ∷
    sewn_case full [] (refuse Misplaced 0) ∷ []

pub table_cases_right : all right_sewn table_cases ≡ true
unfolding computes ring_job P1 P2 P3 P9 opposed_faces opposed_job kept_apart halves_apart two_vertex_loops vertex_loops_apart both_answers by_both by_agreeing by_opposed table_cases
table_cases_right = refl

-- 40 is by the body's records under that table
abbrev right_in : List ℕ → ℕ → Outcome (List ℕ) → Bool
right_in table room bytes = same_bytes (sewn_with_table table (framed_all P3.job) room) bytes

pub table_room_right : all (λ b. b)
    (right_in full 85 (refuse NoRoom 86) ∷ right_in full 86 (bytes_of P3.ending) ∷ right_in joins_none 159 (refuse NoRoom 160) ∷ right_in joins_none 160 (bytes_of P2.ending) ∷ []) ≡ true
unfolding computes ring_job P2 P3
table_room_right = refl

-- 48

-- a table of other length or entry, with the place of what is wrong
pub record WrongCase : Type 0 where
  pub table : List ℕ
  pub place : ℕ

abbrev wrong : List ℕ → ℕ → WrongCase
wrong table place = record { table = table; place = place }

-- length first, whatever the entries are; then the first faulty byte: above 1, or a 1 where document 01 does not join
unfoldable pub wrong_cases : List WrongCase
wrong_cases =
    wrong [] 4 ∷ wrong (1 ∷ []) 4 ∷ wrong (1 ∷ 0 ∷ 0 ∷ []) 4 ∷ wrong (1 ∷ 0 ∷ 0 ∷ 1 ∷ 0 ∷ []) 4 ∷ wrong (2 ∷ 0 ∷ 0 ∷ 1 ∷ 0 ∷ []) 4 ∷ wrong (2 ∷ 1 ∷ 1 ∷ []) 4 ∷
    wrong (replicate 260 1) 4 ∷
    wrong (2 ∷ 0 ∷ 0 ∷ 1 ∷ []) 0 ∷ wrong (255 ∷ 1 ∷ 1 ∷ 2 ∷ []) 0 ∷ wrong (49 ∷ 48 ∷ 48 ∷ 49 ∷ []) 0 ∷ wrong (48 ∷ 48 ∷ 48 ∷ 48 ∷ []) 0 ∷
    wrong (1 ∷ 1 ∷ 0 ∷ 1 ∷ []) 1 ∷ wrong (1 ∷ 2 ∷ 0 ∷ 1 ∷ []) 1 ∷ wrong (0 ∷ 1 ∷ 1 ∷ 2 ∷ []) 1 ∷ wrong (1 ∷ 1 ∷ 0 ∷ 2 ∷ []) 1 ∷
    wrong (1 ∷ 0 ∷ 1 ∷ 1 ∷ []) 2 ∷ wrong (0 ∷ 0 ∷ 2 ∷ 0 ∷ []) 2 ∷ wrong (1 ∷ 0 ∷ 1 ∷ 2 ∷ []) 2 ∷
    wrong (1 ∷ 0 ∷ 0 ∷ 2 ∷ []) 3 ∷ wrong (0 ∷ 0 ∷ 0 ∷ 255 ∷ []) 3 ∷ []

-- before the job is looked at: one of no bytes, one that sews, one without faces, one whose body has no room, and one that is too long
abbrev wrong_in : List ℕ → ℕ → WrongCase → Bool
wrong_in job room c = same_bytes (sewn_with_table c.table job room) (refuse WrongTable c.place)

abbrev wrong_walk : List ℕ → ℕ → WrongCase → Bool
wrong_walk job room c = same_bytes (walk_stage_with_table c.table job room) (refuse WrongTable c.place)

pub wrong_cases_right : all (λ b. b)
    (all (wrong_in [] 65536) wrong_cases ∷ all (wrong_in (framed_all P3.job) 65536) wrong_cases ∷
    all (wrong_in (framed_all P1.job) 65536) wrong_cases ∷ all (wrong_in (framed_all P3.job) 0) wrong_cases ∷
    all (wrong_walk [] 65536) wrong_cases ∷ all (wrong_walk (framed_all P3.job) 0) wrong_cases
    ∷ wrong_in (replicate 65537 0) 65536 (wrong [] 4) ∷ wrong_in (replicate 65537 0) 65536 (wrong (0 ∷ 0 ∷ 1 ∷ 0 ∷ []) 2)
    ∷ wrong_walk (replicate 65537 0) 65536 (wrong [] 4) ∷ wrong_walk (replicate 65537 0) 65536 (wrong (0 ∷ 0 ∷ 1 ∷ 0 ∷ []) 2) ∷ []) ≡ true
unfolding computes wrong_cases ring_job P1 P3
wrong_cases_right = refl

-- THE WALK STAGE

-- of P9: passing over the removed uses, and nothing removed where answer 1 does not join
abbrev right_walked : List ℕ → ℕ → Outcome (List ℕ) → Bool
right_walked table room rows = same_bytes (walk_stage_with_table table (framed_all P9.job) room) rows

unfoldable pub walk_cases : List Bool
walk_cases =
    right_walked full 48 (Ok (field_bytes (0 ∷ 3 ∷ 1 ∷ 3 ∷ 0 ∷ 1 ∷ 4 ∷ 5 ∷ 0 ∷ 5 ∷ 4 ∷ 0 ∷ []))) ∷
    right_walked only_agreeing 48 (Ok (field_bytes (0 ∷ 3 ∷ 1 ∷ 3 ∷ 0 ∷ 1 ∷ 4 ∷ 5 ∷ 0 ∷ 5 ∷ 4 ∷ 0 ∷ []))) ∷
    right_walked only_opposed 72 (Ok (field_bytes (0 ∷ 1 ∷ 0 ∷ 1 ∷ 0 ∷ 0 ∷ 2 ∷ 3 ∷ 0 ∷ 3 ∷ 2 ∷ 0 ∷ 4 ∷ 5 ∷ 0 ∷ 5 ∷ 4 ∷ 0 ∷ []))) ∷
    -- 40 is by the rows under that table
    right_walked full 47 (refuse NoRoom 48) ∷
    right_walked joins_none 71 (refuse NoRoom 72) ∷
    -- a job is refused as without a table
    same_bytes (walk_stage_with_table joins_none (framed_all (ring_job 1)) 65536) (refuse Unanswered 8) ∷
    same_bytes (walk_stage_with_table full [] 65536) (refuse Misplaced 0) ∷
    -- no contact test stands in it
    same_bytes (walk_stage_with_table full (framed_all removed_pair_counts.job) 65536) (Ok (field_bytes (1 ∷ 1 ∷ 0 ∷ 3 ∷ 3 ∷ 0 ∷ 4 ∷ 4 ∷ 0 ∷ 5 ∷ 5 ∷ 0 ∷ []))) ∷
    same_bytes (walk_stage_with_table full (framed_all two_vertex_loops) 65536) (refuse Unanswered 9) ∷
    same_bytes (walk_stage_with_table joins_none (framed_all two_vertex_loops) 65536) (Ok (field_bytes (0 ∷ 0 ∷ 0 ∷ 1 ∷ 1 ∷ 0 ∷ []))) ∷ []

pub walk_cases_right : all (λ b. b) walk_cases ≡ true
unfolding computes P9 ring_job removed_pair_counts two_vertex_loops walk_cases
walk_cases_right = refl

-- AS TEXT

-- `refused 48 4`, and a line for each record or row
unfoldable pub table_texts : List Bool
table_texts =
    same (listing_with_table (1 ∷ 0 ∷ []) (framed_all P3.job)) (114 ∷ 101 ∷ 102 ∷ 117 ∷ 115 ∷ 101 ∷ 100 ∷ 32 ∷ 52 ∷ 56 ∷ 32 ∷ 52 ∷ 10 ∷ []) ∷
    same (listing_with_table full (framed_all P3.job))
    (98 ∷ 111 ∷ 100 ∷ 121 ∷ 32 ∷ 49 ∷ 32 ∷ 50 ∷ 32 ∷ 50 ∷ 32 ∷ 48 ∷ 32 ∷ 48 ∷ 32 ∷ 48 ∷ 32 ∷ 49 ∷ 10 ∷ 102 ∷ 97 ∷ 99 ∷ 101 ∷ 32 ∷ 55 ∷ 32 ∷ 48 ∷ 10 ∷ 109 ∷ 101 ∷ 109 ∷ 98 ∷ 101 ∷ 114 ∷ 115 ∷
    32 ∷ 48 ∷ 32 ∷ 48 ∷ 32 ∷ 48 ∷ 32 ∷ 49 ∷ 10 ∷ 108 ∷ 117 ∷ 109 ∷ 112 ∷ 10 ∷ 115 ∷ 104 ∷ 101 ∷ 108 ∷ 108 ∷ 32 ∷ 48 ∷ 10 ∷ []) ∷
    same (walk_listing_with_table (1 ∷ 1 ∷ 0 ∷ 1 ∷ []) (framed_all P9.job) 131072) (114 ∷ 101 ∷ 102 ∷ 117 ∷ 115 ∷ 101 ∷ 100 ∷ 32 ∷ 52 ∷ 56 ∷ 32 ∷ 49 ∷ 10 ∷ []) ∷
    same (walk_listing_with_table full (framed_all P9.job) 131072)
    (48 ∷ 32 ∷ 51 ∷ 32 ∷ 49 ∷ 10 ∷ 51 ∷ 32 ∷ 48 ∷ 32 ∷ 49 ∷ 10 ∷ 52 ∷ 32 ∷ 53 ∷ 32 ∷ 48 ∷ 10 ∷ 53 ∷ 32 ∷ 52 ∷ 32 ∷ 48 ∷ 10 ∷ []) ∷
    -- lesser tables, and a table that is wrong beside a job that is
    same (listing_with_table joins_none (framed_all P3.job)) (listing_of P2.ending) ∷
    same (listing_with_table joins_none (framed_all two_vertex_loops)) (listing_of vertex_loops_apart) ∷
    same (listing_with_table [] []) (refusal_line 48 4) ∷
    same (walk_listing_with_table only_opposed (framed_all P9.job) 72)
    (rows_listing (Ok ((0 ∷ 1 ∷ 0 ∷ []) ∷ (1 ∷ 0 ∷ 0 ∷ []) ∷ (2 ∷ 3 ∷ 0 ∷ []) ∷ (3 ∷ 2 ∷ 0 ∷ []) ∷ (4 ∷ 5 ∷ 0 ∷ []) ∷ (5 ∷ 4 ∷ 0 ∷ []) ∷ []))) ∷
    same (walk_listing_with_table only_opposed (framed_all P9.job) 71) (refusal_line 40 72) ∷
    same (walk_listing_with_table [] [] 131072) (refusal_line 48 4) ∷ []

pub table_texts_right : all (λ b. b) table_texts ≡ true
unfolding computes ring_job P2 P3 P9 two_vertex_loops vertex_loops_apart table_texts
table_texts_right = refl
