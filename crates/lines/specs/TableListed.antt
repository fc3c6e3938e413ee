-- What is listed of a job that is sewn or walked with a joining table.
use Rattle.std.specs.Prelude.{ℕ, ◌<◌, ◌≡◌, refl, List, length}
use Rattle.std.proofs.Common.{arith, ap, subst, ◌∙◌}
use Rattle.rules.specs.declared.Table.{Table}
use Rattle.rules.specs.declared.Stage.TheVariants.{Walk}
use Rattle.rules.specs.Outcome.{Outcome, Ok, Err, ◌>>=◌}
use Rattle.rules.specs.Rules.{with_table, table_of}
use Rattle.rules.specs.Sew.{sewn, sewn_with_table, Ends}
use Rattle.rules.specs.Stage.{walk_stage, walk_stage_with_table}
use Rattle.rules.specs.Listing.{listing_of, sewn_records, records_with_table, listing_with_table}
use Rattle.rules.specs.Rows.{walk_rows, staged_rows, walk_rows_with_table, walk_listing_with_table}
use Rattle.fields.specs.Wrote.{Wrote, wrote_as}
use Rattle.theorems.specs.Narrow.{Below}
use Rattle.theorems.proofs.Shapes.{walk_shaped}
use Rattle.lines.specs.Text.{recorded, stage_rows, stage_text}
use Rattle.lines.specs.Exact.{AllFit, framed_of, sewn_records_lem, recorded_is, Printed, prints}
use Rattle.lines.specs.Room.{Within, listed_small, sewn_within}
use Rattle.lines.specs.Listed.{all_fit}
use Rattle.lines.specs.StageBytes.{row_bytes, walk_bytes}
use Rattle.lines.specs.StageListed.{AllHeld, held_by, shaped_held, held_text, held_small}

-- SEWING

module _ (table job : List ℕ) (room : ℕ) where
  -- sewing's outcome is that of its records
  records_sewn : sewn_with_table table job room ≡ framed_of (records_with_table table job room)
  unfolding sewn_with_table records_with_table
  records_sewn = go (table_of table)
    where
      go : (o : Outcome Table) → (o >>= λ t. sewn (with_table t) job room) ≡ framed_of (o >>= λ t. sewn_records (with_table t) job room)
      go (Ok t) = sewn_records_lem (with_table t) job room
      go (Err r) = refl

  -- the records of a job of bytes fit their bytes
  records_fit : Below 256 job → room < 4294967296 → AllFit (records_with_table table job room)
  unfolding records_with_table
  records_fit bytes h = go (table_of table)
    where
      go : (o : Outcome Table) → AllFit (o >>= λ t. sewn_records (with_table t) job room)
      go (Ok t) = all_fit (with_table t) job room bytes h
      go (Err r) = tt

  records_within : Within room (records_with_table table job room)
  unfolding records_with_table
  records_within = go (table_of table)
    where
      go : (o : Outcome Table) → Within room (o >>= λ t. sewn_records (with_table t) job room)
      go (Ok t) = sewn_within (with_table t) job room
      go (Err r) = tt

-- the text of sewing's answer in so many bytes is that of the job's records
pub recorded_with_table : (table job before after : List ℕ) (e : Outcome ℕ) → Below 256 job → length before < 4294967296
    → Ends (sewn_with_table table job (length before)) before after e → listing_of (recorded after e) ≡ listing_of (records_with_table table job (length before))
recorded_with_table table job before after e bytes h E =
    let room : ℕ = length before in
    ap listing_of (recorded_is (records_with_table table job room) before after e (records_fit table job room bytes h)
    (subst (λ o. Ends o before after e) (records_sewn table job room) E))

-- what sewing a job with a table makes of an output
abbrev pub SewnWith : List ℕ → List ℕ → List ℕ → List ℕ → Type 0
SewnWith table job before after = (e : Outcome ℕ) × Ends (sewn_with_table table job (length before)) before after e

pub sews_with : (table job before after : List ℕ) (e : Outcome ℕ) → Ends (sewn_with_table table job (length before)) before after e → SewnWith table job before after
sews_with table job before after e E = (e, E)

-- a page on which the listing of a job with a table was put: the place after the text, which is at most 196,608, and the whole text where the page has room
abbrev pub ListsWith : List ℕ → List ℕ → List ℕ → List ℕ → ℕ → Type 0
ListsWith table job page printed r = Printed (listing_with_table table job) page printed 196608 r

-- the text of sewing's answer is put as the job's listing
pub lists_with : (table job before after page printed : List ℕ) (q : ℕ) (e : Outcome ℕ) → Below 256 job → length before ≡ 65536
    → Ends (sewn_with_table table job (length before)) before after e → Wrote page 0 (listing_of (recorded after e)) printed q → ListsWith table job page printed q
lists_with table job before after page printed q e bytes n E w =
    let is : listing_of (recorded after e) ≡ listing_with_table table job =
    recorded_with_table table job before after e bytes (omega arith) E ∙ ap (λ room. listing_of (records_with_table table job room)) n in
    prints (listing_with_table table job) page printed 196608 q
    (wrote_as page printed (listing_of (recorded after e)) (listing_with_table table job) 0 q is w)
    (listed_small (records_with_table table job 65536) (records_fit table job 65536 bytes (omega arith)) (records_within table job 65536))

-- THE WALK STAGE

module _ (table job : List ℕ) (room : ℕ) where
  -- the stage writes the bytes of its rows
  rows_walked : walk_stage_with_table table job room ≡ row_bytes (walk_rows_with_table table job room)
  unfolding walk_stage_with_table walk_rows_with_table
  rows_walked = go (table_of table)
    where
      go : (o : Outcome Table) → (o >>= λ t. walk_stage (with_table t) job room) ≡ row_bytes (o >>= λ t. staged_rows walk_rows (with_table t) job room)
      go (Ok t) = walk_bytes (with_table t) job room
      go (Err r) = refl

  -- and they are read back
  rows_held : Below 256 job → AllHeld Walk room (walk_rows_with_table table job room)
  unfolding walk_rows_with_table stage_rows
  rows_held b = go (table_of table)
    where
      go : (o : Outcome Table) → AllHeld Walk room (o >>= λ t. staged_rows walk_rows (with_table t) job room)
      go (Ok t) =
          held_by (with_table t) Walk walk_rows job room (λ j rows l e le. shaped_held Walk room 3 0 rows (omega arith) refl le (walk_shaped (with_table t) job b j l rows e))
      go (Err r) = tt

-- what the walk stage with a table makes of an output
abbrev pub WalkedWith : List ℕ → List ℕ → List ℕ → List ℕ → Type 0
WalkedWith table job before after = (e : Outcome ℕ) × Ends (walk_stage_with_table table job (length before)) before after e

pub walks_into : (table job before after : List ℕ) (e : Outcome ℕ) → Ends (walk_stage_with_table table job (length before)) before after e → WalkedWith table job before after
walks_into table job before after e E = (e, E)

-- a page on which its lines were put: the place after the text, which is at most 360,448, and the whole text where the page has room
abbrev pub WalkListsWith : List ℕ → List ℕ → List ℕ → List ℕ → ℕ → Type 0
WalkListsWith table job page printed r = Printed (walk_listing_with_table table job 131072) page printed 360448 r

-- the lines of the stage are put as its listing says
pub lists_walk : (table job before after page printed : List ℕ) (q : ℕ) (e : Outcome ℕ) → Below 256 job → length before ≡ 131072
    → Ends (walk_stage_with_table table job (length before)) before after e → Wrote page 0 (stage_text Walk after e) printed q → WalkListsWith table job page printed q
lists_walk table job before after page printed q e b n E w =
    let room : ℕ = length before in
    let text : List ℕ = walk_listing_with_table table job 131072 in
    let is : stage_text Walk after e ≡ text =
    held_text Walk room (walk_rows_with_table table job room) before after e (rows_held table job room b)
    (subst (λ o. Ends o before after e) (rows_walked table job room) E)
    ∙ ap (walk_listing_with_table table job) n in
    prints text page printed 360448 q (wrote_as page printed (stage_text Walk after e) text 0 q is w)
    (held_small Walk (walk_rows_with_table table job 131072) (rows_held table job 131072 b))
