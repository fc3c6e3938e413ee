-- What is told follows from the ending.
use Rattle.std.specs.Prelude.{ℕ, ◌<◌, ◌≡◌, refl, List, true, cond, length, take}
use Rattle.std.proofs.Common.{arith, sym, ap, ◌∙◌, length-take, take_all, eq-eqb, ne_eqb}
use Rattle.std.proofs.lemmas.Bool.{false≢true}
use mathlib.Core.List.{flat_map}
use Rattle.lists.specs.Lists.{has}
use Rattle.rules.specs.declared.Fault.{Fault}
use Rattle.rules.specs.declared.Fault.TheVariants.{TooLong, CutShort, Misplaced, LimitPassed, FieldNotPermitted, LoopJoints, AnsweredTwice, SelectedTwice}
use Rattle.rules.specs.declared.Fault.TheVariants.{EqualSenses, OddUses, SamePredecessor, NoTwin, Unanswered, AnswerUndecided, NormalsVanish, NotRound}
use Rattle.rules.specs.declared.Fault.TheVariants.{PairsInBoundary, FansInBoundary, FansInLump, PairsInLump, NoOuterShell, NoRoom, ManyUses, ManyFans, WrongTable}
use Rattle.rules.specs.Sew.{Ends, ended, sewn, sewn_with_table}
use Rattle.rules.specs.Outcome.{Outcome, Ok, Err, fault_number}
use Rattle.rules.specs.Listing.{line_of, refusal_line, listing_of, sewn_records, records_with_table}
use Rattle.fields.specs.Wrote.{Wrote, wrote_as}
use Rattle.lines.specs.Text.{records_in, recorded}
use Rattle.lines.specs.Listed.{recorded_listing}
use Rattle.lines.specs.TableListed.{recorded_with_table}
use Rattle.sewing_c.specs.Told.{is_number, Numbered, number_of, end_value, value_of, Tells, answer_text, ListsAnswer}

-- NUMBERS

-- the number of each fault is one of them
fault_listed : (f : Fault) → is_number (fault_number f) ≡ true
unfolding is_number has fault_number
fault_listed TooLong = refl
fault_listed CutShort = refl
fault_listed Misplaced = refl
fault_listed FieldNotPermitted = refl
fault_listed LimitPassed = refl
fault_listed LoopJoints = refl
fault_listed AnsweredTwice = refl
fault_listed EqualSenses = refl
fault_listed OddUses = refl
fault_listed SamePredecessor = refl
fault_listed NoTwin = refl
fault_listed Unanswered = refl
fault_listed AnswerUndecided = refl
fault_listed NormalsVanish = refl
fault_listed NotRound = refl
fault_listed PairsInBoundary = refl
fault_listed FansInBoundary = refl
fault_listed FansInLump = refl
fault_listed PairsInLump = refl
fault_listed NoOuterShell = refl
fault_listed NoRoom = refl
fault_listed ManyUses = refl
fault_listed ManyFans = refl
fault_listed SelectedTwice = refl
fault_listed WrongTable = refl

-- so each outcome is a numbered one
pub numbered : {A : Type 0} (o : Outcome A) → Numbered o
numbered o = record { listed = λ r e. fault_listed r.fault }

-- what is told of an ending is told of the outcome that it is the ending of
pub tells : (o : Outcome (List ℕ)) (before after : List ℕ) (e : Outcome ℕ) (number value : ℕ) → Ends o before after e → number ≡ number_of e → value ≡ end_value e
    → Tells o before after value number
tells o before after e number value E n v = (n ∙ ap number_of E.0 ∙ number_ended o, v ∙ ap end_value E.0 ∙ value_ended o, E.1, numbered o)
  where
    number_ended : (o : Outcome (List ℕ)) → number_of (ended o) ≡ number_of o
    number_ended (Ok bytes) = refl
    number_ended (Err r) = refl

    value_ended : (o : Outcome (List ℕ)) → end_value (ended o) ≡ value_of o
    value_ended (Ok bytes) = refl
    value_ended (Err r) = refl

not_zero : (n : ℕ) → is_number n ≡ true → n ≡ 0 → ⊥
unfolding is_number has
not_zero n t e = false≢true (ap is_number (sym e) ∙ t)

-- THE LISTING

-- the text by number and value
text_written : (number value : ℕ) (out : List ℕ) → number ≡ 0 → listing_of (recorded out (Ok value)) ≡ answer_text number value out
text_written number value out e =
    sym (ap (λ t. cond t (flat_map line_of (records_in (take value out))) (refusal_line number value)) (eq-eqb number 0 e))

text_refused : (number value : ℕ) (out : List ℕ) → (number ≡ 0 → ⊥) → refusal_line number value ≡ answer_text number value out
text_refused number value out n =
    sym (ap (λ t. cond t (flat_map line_of (records_in (take value out))) (refusal_line number value)) (ne_eqb number 0 n))

-- what was told is an ending, and its text is that
abbrev Answered : Outcome (List ℕ) → List ℕ → List ℕ → ℕ → ℕ → Type 0
Answered o before out number value = (e : Outcome ℕ) × Ends o before out e × (answer_text number value out ≡ listing_of (recorded out e))

answered : (o : Outcome (List ℕ)) (before out : List ℕ) (number value : ℕ) → Tells o before out value number → Answered o before out number value
answered (Ok bytes) before out number value T = (Ok value, (ap Ok T.1, T.2), sym (text_written number value out T.0))
answered (Err r) before out number value T =
    let other : number ≡ 0 → ⊥ = λ z. not_zero (fault_number r.fault) (T.3.listed r refl) (sym T.0 ∙ z) in
    (Err r, (refl, T.2), sym (text_refused number value out other) ∙ (λ i. refusal_line (T.0 i) (T.1 i)))

-- the first bytes of a body are few
pub few_bytes : (out body : List ℕ) → body ≡ take 4294967295 out → length body < 4294967296
few_bytes out body e = omega (arith, ap length e ∙ length-take 4294967295 out)

module _ {number value r : ℕ} {out page printed : List ℕ} where
  answer_lists : Wrote page 0 (answer_text number value (take 4294967295 out)) printed r → ListsAnswer number value out page printed r
  answer_lists w = record {
    text = w;
    records = λ rules job before bytes few same T.
        let all : take 4294967295 out ≡ out = take_all 4294967295 out (omega (arith, few, same)) in
        let a = answered (sewn rules job (length before)) before out number value T in
        wrote_as page printed (answer_text number value (take 4294967295 out)) (listing_of (sewn_records rules job (length before))) 0 r
        (ap (answer_text number value) all ∙ a.2 ∙ recorded_listing rules job before out a.0 bytes few a.1) w;
    records_with = λ table job before bytes few same T.
        let all : take 4294967295 out ≡ out = take_all 4294967295 out (omega (arith, few, same)) in
        let a = answered (sewn_with_table table job (length before)) before out number value T in
        wrote_as page printed (answer_text number value (take 4294967295 out)) (listing_of (records_with_table table job (length before))) 0 r
        (ap (answer_text number value) all ∙ a.2 ∙ recorded_with_table table job before out a.0 bytes few a.1) w;
  }

  -- the listing of a body, and that of a refusal
  pub text_lists : {body : List ℕ} → body ≡ take 4294967295 out → number ≡ 0 → Wrote page 0 (listing_of (recorded body (Ok value))) printed r
      → ListsAnswer number value out page printed r
  text_lists {body} p e w =
      answer_lists (wrote_as page printed (listing_of (recorded body (Ok value))) (answer_text number value (take 4294967295 out)) 0 r
      (text_written number value body e ∙ ap (answer_text number value) p) w)

  pub refusal_lists : (number ≡ 0 → ⊥) → Wrote page 0 (refusal_line number value) printed r → ListsAnswer number value out page printed r
  refusal_lists n w =
      answer_lists (wrote_as page printed (refusal_line number value) (answer_text number value (take 4294967295 out)) 0 r
      (text_refused number value (take 4294967295 out) n) w)
