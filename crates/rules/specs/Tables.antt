-- Tables of jobs with their expected endings, which antt computes.
use Rattle.std.specs.Prelude.{List, [], ◌∷◌, Bool, true, false, ◌&&◌, eqb}
use Rattle.lists.specs.Lists.{same}
use Rattle.rules.specs.Outcome.{Outcome, Ok, Err, same_refusal}
use Rattle.rules.specs.Frame.{Record, framed_all}
use Rattle.rules.specs.Rules.{ordinary}
use Rattle.rules.specs.Listing.{sewn_records}

-- a job and its expected ending: body records, or refusal number and place
pub record Row : Type 0 where
  pub job : List Record
  pub ending : Outcome (List Record)

abbrev pub same_record : Record → Record → Bool
same_record a b = eqb a.kind b.kind && same a.fields b.fields

unfoldable pub same_records : List Record → List Record → Bool
same_records [] [] = true
same_records [] (b ∷ bs) = false
same_records (a ∷ as') [] = false
same_records (a ∷ as') (b ∷ bs) = same_record a b && same_records as' bs

abbrev pub same_ending : Outcome (List Record) → Outcome (List Record) → Bool
same_ending (Ok a) (Ok b) = same_records a b
same_ending (Ok a) (Err q) = false
same_ending (Err r) (Ok b) = false
same_ending (Err r) (Err q) = same_refusal r q

-- sewing the row's job ends as the row says
abbrev pub right : Row → Bool
right r = same_ending (sewn_records ordinary (framed_all r.job) 65536) r.ending
