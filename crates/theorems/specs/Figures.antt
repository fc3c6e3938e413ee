-- The executable parts of demand 3, and jobs to compute them on.
use Rattle.std.specs.Prelude.{ℕ, List, [], ◌∷◌, ◌++◌, Bool, false, length}
use Rattle.lists.specs.Lists.{same, keep}
use Rattle.rules.specs.Outcome.{Outcome, Ok, ◌>>=◌, Err}
use Rattle.rules.specs.Frame.{Record, framed_all}
use Rattle.rules.specs.Load.{loaded}
use Rattle.rules.specs.Rules.{ordinary}
use Rattle.rules.specs.Join.{Joining, corners, active_edges}
use Rattle.rules.specs.Body.{rec}
use Rattle.rules.specs.Sew.{Walked, walked, Fanned, fans_of, unjoined, through_joining}
use Rattle.rules.specs.Parts.{P3, P7, P8, P9}
use Rattle.theorems.specs.Demand3.{passed_sum, reached}

-- uses, removed uses, the sum of the passed counts, the removed uses whose turn holds a kept one
abbrev pub walk_figures : Walked → List ℕ
walk_figures w = length w.uses ∷ length (keep (λ gone. gone) w.merge.removed) ∷ passed_sum w ∷ length (reached w) ∷ []

-- corners and edges before joining, corners and edges after it, joins, rings
abbrev pub join_figures : Fanned → Joining → Joining → List ℕ
join_figures f before after =
    length (corners before.edges f.names) ∷ length (active_edges before.edges) ∷
    length (corners after.edges f.names) ∷ length (active_edges after.edges) ∷
    after.joins ∷ after.rings ∷ []

unfoldable pub figures : List Record → Outcome (List ℕ)
figures records = loaded (framed_all records) >>= λ j. walked ordinary j >>= λ w.
    let f = fans_of j w in
    through_joining ordinary j >>= λ x.
    Ok (walk_figures w ++ join_figures f (unjoined j f) x.joining)

-- a job with the figures that it has
pub record Figured : Type 0 where
  pub job : List Record
  pub have : List ℕ

abbrev pub have_them : Outcome (List ℕ) → List ℕ → Bool
have_them (Ok a) b = same a b
have_them (Err r) b = false

abbrev pub right : Figured → Bool
right r = have_them (figures r.job) r.have

-- a cylinder: the seam goes, and two edges become rings
unfoldable pub cylinder : List Record
cylinder =
    rec 1 (1 ∷ []) ∷ rec 2 (0 ∷ []) ∷ rec 2 (1 ∷ []) ∷
    rec 3 (5 ∷ 0 ∷ 0 ∷ 0 ∷ []) ∷ rec 3 (6 ∷ 0 ∷ 1 ∷ 1 ∷ []) ∷ rec 3 (9 ∷ 0 ∷ 0 ∷ 1 ∷ []) ∷
    rec 4 (7 ∷ 0 ∷ 0 ∷ 0 ∷ 0 ∷ []) ∷ rec 5 (0 ∷ 0 ∷ 2 ∷ 0 ∷ 1 ∷ 1 ∷ 2 ∷ 1 ∷ []) ∷
    rec 4 (8 ∷ 0 ∷ 0 ∷ 0 ∷ 1 ∷ []) ∷ rec 5 (0 ∷ 1 ∷ []) ∷ rec 4 (8 ∷ 0 ∷ 0 ∷ 0 ∷ 2 ∷ []) ∷ rec 5 (1 ∷ 0 ∷ []) ∷
    rec 8 (0 ∷ 0 ∷ []) ∷ rec 8 (2 ∷ 0 ∷ []) ∷ rec 11 (5 ∷ 0 ∷ 1 ∷ 0 ∷ 0 ∷ []) ∷ rec 11 (6 ∷ 0 ∷ 2 ∷ 1 ∷ 0 ∷ []) ∷ []

-- four edges round two faces become one ring
unfoldable pub four_edges : List Record
four_edges =
    rec 1 (1 ∷ []) ∷ rec 2 (0 ∷ []) ∷ rec 2 (1 ∷ []) ∷ rec 2 (2 ∷ []) ∷ rec 2 (3 ∷ []) ∷
    rec 3 (5 ∷ 0 ∷ 0 ∷ 1 ∷ []) ∷ rec 3 (5 ∷ 0 ∷ 1 ∷ 2 ∷ []) ∷ rec 3 (5 ∷ 0 ∷ 2 ∷ 3 ∷ []) ∷ rec 3 (5 ∷ 0 ∷ 3 ∷ 0 ∷ []) ∷
    rec 4 (7 ∷ 0 ∷ 0 ∷ 0 ∷ 0 ∷ []) ∷ rec 5 (0 ∷ 0 ∷ 1 ∷ 0 ∷ 2 ∷ 0 ∷ 3 ∷ 0 ∷ []) ∷
    rec 4 (8 ∷ 0 ∷ 0 ∷ 0 ∷ 1 ∷ []) ∷ rec 5 (3 ∷ 1 ∷ 2 ∷ 1 ∷ 1 ∷ 1 ∷ 0 ∷ 1 ∷ []) ∷
    rec 8 (0 ∷ 0 ∷ []) ∷ rec 8 (1 ∷ 0 ∷ []) ∷ rec 8 (2 ∷ 0 ∷ []) ∷ rec 8 (3 ∷ 0 ∷ []) ∷
    rec 11 (5 ∷ 0 ∷ 1 ∷ 0 ∷ 0 ∷ []) ∷ rec 11 (5 ∷ 0 ∷ 1 ∷ 1 ∷ 0 ∷ []) ∷ rec 11 (5 ∷ 0 ∷ 1 ∷ 2 ∷ 0 ∷ []) ∷ rec 11 (5 ∷ 0 ∷ 1 ∷ 3 ∷ 0 ∷ []) ∷ []

-- a pentagon cut in three at one corner: two removed uses passed in one step
unfoldable pub pentagon : List Record
pentagon =
    rec 1 (1 ∷ []) ∷ rec 2 (0 ∷ []) ∷ rec 2 (1 ∷ []) ∷ rec 2 (2 ∷ []) ∷ rec 2 (3 ∷ []) ∷ rec 2 (4 ∷ []) ∷
    rec 3 (10 ∷ 0 ∷ 0 ∷ 1 ∷ []) ∷ rec 3 (11 ∷ 0 ∷ 1 ∷ 2 ∷ []) ∷ rec 3 (12 ∷ 0 ∷ 2 ∷ 3 ∷ []) ∷ rec 3 (13 ∷ 0 ∷ 3 ∷ 4 ∷ []) ∷
    rec 3 (14 ∷ 0 ∷ 4 ∷ 0 ∷ []) ∷ rec 3 (20 ∷ 0 ∷ 0 ∷ 2 ∷ []) ∷ rec 3 (21 ∷ 0 ∷ 0 ∷ 3 ∷ []) ∷
    rec 4 (7 ∷ 0 ∷ 0 ∷ 0 ∷ 0 ∷ []) ∷ rec 5 (0 ∷ 0 ∷ 1 ∷ 0 ∷ 5 ∷ 1 ∷ []) ∷
    rec 4 (7 ∷ 0 ∷ 0 ∷ 0 ∷ 1 ∷ []) ∷ rec 5 (5 ∷ 0 ∷ 2 ∷ 0 ∷ 6 ∷ 1 ∷ []) ∷
    rec 4 (7 ∷ 0 ∷ 0 ∷ 0 ∷ 2 ∷ []) ∷ rec 5 (6 ∷ 0 ∷ 3 ∷ 0 ∷ 4 ∷ 0 ∷ []) ∷
    rec 4 (8 ∷ 0 ∷ 0 ∷ 0 ∷ 3 ∷ []) ∷ rec 5 (4 ∷ 1 ∷ 3 ∷ 1 ∷ 2 ∷ 1 ∷ 1 ∷ 1 ∷ 0 ∷ 1 ∷ []) ∷
    rec 8 (0 ∷ 0 ∷ []) ∷ rec 8 (1 ∷ 0 ∷ []) ∷ rec 8 (2 ∷ 1 ∷ []) ∷ rec 8 (4 ∷ 0 ∷ []) ∷ rec 8 (5 ∷ 1 ∷ []) ∷ rec 8 (7 ∷ 0 ∷ []) ∷ rec 8 (8 ∷ 0 ∷ []) ∷
    rec 10 (10 ∷ 11 ∷ 0 ∷ []) ∷ rec 10 (11 ∷ 12 ∷ 0 ∷ []) ∷ rec 10 (12 ∷ 13 ∷ 0 ∷ []) ∷ rec 10 (13 ∷ 14 ∷ 0 ∷ []) ∷ rec 10 (14 ∷ 10 ∷ 0 ∷ []) ∷ []

-- two loops of one face at one corner, a seam between them: two passed in one step where P9 passes one
unfoldable pub spur : List Record
spur =
    rec 1 (1 ∷ []) ∷ rec 2 (0 ∷ []) ∷ rec 3 (0 ∷ 0 ∷ 0 ∷ 0 ∷ []) ∷ rec 3 (0 ∷ 0 ∷ 0 ∷ 0 ∷ []) ∷
    rec 4 (0 ∷ 0 ∷ 0 ∷ 0 ∷ 0 ∷ []) ∷ rec 5 (0 ∷ 0 ∷ []) ∷ rec 4 (1 ∷ 0 ∷ 1 ∷ 0 ∷ 1 ∷ []) ∷ rec 5 (1 ∷ 1 ∷ 0 ∷ 0 ∷ []) ∷ rec 5 (1 ∷ 0 ∷ []) ∷
    rec 11 (0 ∷ 0 ∷ 1 ∷ 0 ∷ 0 ∷ []) ∷ rec 8 (0 ∷ 0 ∷ []) ∷ []

unfoldable pub table : List Figured
table =
    record { job = P3.job; have = 2 ∷ 2 ∷ 0 ∷ 0 ∷ 0 ∷ 0 ∷ 0 ∷ 0 ∷ 0 ∷ 0 ∷ [] } ∷
    record { job = P7.job; have = 4 ∷ 0 ∷ 0 ∷ 0 ∷ 2 ∷ 2 ∷ 0 ∷ 1 ∷ 1 ∷ 1 ∷ [] } ∷
    record { job = P8.job; have = 4 ∷ 0 ∷ 0 ∷ 0 ∷ 2 ∷ 2 ∷ 1 ∷ 1 ∷ 1 ∷ 0 ∷ [] } ∷
    record { job = P9.job; have = 6 ∷ 2 ∷ 2 ∷ 2 ∷ 2 ∷ 2 ∷ 2 ∷ 2 ∷ 0 ∷ 0 ∷ [] } ∷
    record { job = cylinder; have = 6 ∷ 2 ∷ 2 ∷ 2 ∷ 2 ∷ 2 ∷ 0 ∷ 2 ∷ 0 ∷ 2 ∷ [] } ∷
    record { job = four_edges; have = 8 ∷ 0 ∷ 0 ∷ 0 ∷ 4 ∷ 4 ∷ 0 ∷ 1 ∷ 3 ∷ 1 ∷ [] } ∷
    record { job = pentagon; have = 14 ∷ 4 ∷ 4 ∷ 4 ∷ 5 ∷ 5 ∷ 5 ∷ 5 ∷ 0 ∷ 0 ∷ [] } ∷
    record { job = spur; have = 4 ∷ 2 ∷ 2 ∷ 2 ∷ 1 ∷ 1 ∷ 0 ∷ 1 ∷ 0 ∷ 1 ∷ [] } ∷ []
