-- What a caller in another language is told of an outcome: numbers, and the output.
use Rattle.std.specs.Prelude.{ℕ, ◌+◌, ◌<◌, ◌≤◌, ◌≡◌, List, [], ◌∷◌, Bool, true, cond, length, take, eqb}
use mathlib.Core.List.{flat_map}
use Rattle.lists.specs.Lists.{has}
use Rattle.rules.specs.declared.Refusal.{Refusal}
use Rattle.rules.specs.Outcome.{Outcome, Ok, Err, fault_number}
use Rattle.rules.specs.Job.{Stretch}
use Rattle.rules.specs.declared.Rules.{Rules}
use Rattle.rules.specs.Sew.{sewn, sewn_with_table, written}
use Rattle.rules.specs.Listing.{line_of, refusal_line, listing_of, sewn_records, records_with_table}
use Rattle.fields.specs.Wrote.{Wrote}
use Rattle.theorems.specs.Narrow.{Below}
use Rattle.lines.specs.Text.{records_in}

-- NUMBERS

-- the numbers of refusals, of documents 01 and 02; 0 is none of them
unfoldable pub is_number : ℕ → Bool
is_number n = has n (1 ∷ 2 ∷ 3 ∷ 4 ∷ 5 ∷ 6 ∷ 7 ∷ 10 ∷ 11 ∷ 12 ∷ 13 ∷ 20 ∷ 21 ∷ 22 ∷ 23 ∷ 30 ∷ 31 ∷ 32 ∷ 33 ∷ 34 ∷ 40 ∷ 41 ∷ 42 ∷ 45 ∷ 48 ∷ [])

-- an outcome that, if it is a refusal, has such a number
pub record Numbered {A : Type 0} (o : Outcome A) : Type 0 where
  pub listed : (r : Refusal) → o ≡ Err r → is_number (fault_number r.fault) ≡ true

-- OUTCOMES

-- Endings: 0 for success, a refusal gives its number
abbrev pub number_of : {A : Type 0} → Outcome A → ℕ
number_of (Ok x) = 0
number_of (Err refusal) = fault_number refusal.fault

-- the value beside it, as code has it: the bytes written, or the refusal's place
abbrev pub end_value : Outcome ℕ → ℕ
end_value (Ok n) = n
end_value (Err refusal) = refusal.place

-- Endings: success gives the bytes written, a refusal one place
abbrev pub value_of : Outcome (List ℕ) → ℕ
value_of (Ok bytes) = length bytes
value_of (Err refusal) = refusal.place

-- an operation that found this outcome answers this number, which is 0 for success alone, and leaves this output and this value
abbrev pub Tells : Outcome (List ℕ) → List ℕ → List ℕ → ℕ → ℕ → Type 0
Tells o before after value number = (number ≡ number_of o) × (value ≡ value_of o) × (after ≡ written o before) × Numbered o

-- THE LISTING

-- the text of an answer by its number and value, with the body's bytes
abbrev pub answer_text : ℕ → ℕ → List ℕ → List ℕ
answer_text number value out = cond (eqb number 0) (flat_map line_of (records_in (take value out))) (refusal_line number value)

-- a listing of an answer on a page, by the answer's number and value and the output that sewing left
pub record ListsAnswer (number value : ℕ) (out page printed : List ℕ) (r : ℕ) : Type 0 where
  -- the text of what the output's bytes read back as
  pub text : Wrote page 0 (answer_text number value (take 4294967295 out)) printed r
  -- where that is sewing's answer to a job of bytes, by whatever rules: the text of the job's records, which for an output of 65,536 bytes is
  -- the job's listing by these rules
  pub records : (rules : Rules) (job before : List ℕ) → Below 256 job → length before < 4294967296 → length out ≡ length before
      → Tells (sewn rules job (length before)) before out value number
      → Wrote page 0 (listing_of (sewn_records rules job (length before))) printed r
  -- and where it is the answer of sewing with a joining table
  pub records_with : (table job before : List ℕ) → Below 256 job → length before < 4294967296 → length out ≡ length before
      → Tells (sewn_with_table table job (length before)) before out value number
      → Wrote page 0 (listing_of (records_with_table table job (length before))) printed r

-- THE LOOP REQUEST

-- where the payload begins in the job; 0 for a refusal
abbrev pub loop_start : Outcome Stretch → ℕ
loop_start (Ok s) = s.start
loop_start (Err refusal) = 0

-- how many bytes it has; a refusal's place
abbrev pub loop_value : Outcome Stretch → ℕ
loop_value (Ok s) = s.size
loop_value (Err refusal) = refusal.place

-- the stretch is not empty and ends within the job
abbrev pub Inside : List ℕ → Outcome Stretch → Type 0
Inside job (Ok s) = (0 < s.size) × (s.start + s.size ≤ length job)
Inside job (Err refusal) = Unit {0}

-- a request that found this stretch answers this number, which is 0 for success alone, and leaves this start and this value
abbrev pub TellsLoop : Outcome Stretch → ℕ → ℕ → ℕ → Type 0
TellsLoop o start value number = (number ≡ number_of o) × (start ≡ loop_start o) × (value ≡ loop_value o) × Numbered o
