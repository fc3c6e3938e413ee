-- The refusals of document 01's "Endings", and document 02's 41, 42, 45 and 48, each with its number as it stands there.
use Rattle.std.specs.Prelude.{ℕ, ◌≡◌, refl, List, [], ◌∷◌, map}
use Rattle.rules.specs.Outcome.{fault_number}
use Rattle.rules.specs.declared.Fault.{Fault}
use Rattle.rules.specs.declared.Fault.TheVariants.{TooLong, CutShort, Misplaced, FieldNotPermitted, LimitPassed, LoopJoints, AnsweredTwice, EqualSenses, OddUses, SamePredecessor, NoTwin, Unanswered}
use Rattle.rules.specs.declared.Fault.TheVariants.{AnswerUndecided, NormalsVanish, NotRound, PairsInBoundary, FansInBoundary, FansInLump, PairsInLump, NoOuterShell}
use Rattle.rules.specs.declared.Fault.TheVariants.{NoRoom, ManyUses, ManyFans, SelectedTwice, WrongTable}

-- a refusal, and the number by which documents and programs tell it
pub record Numbered : Type 0 where
  pub fault : Fault
  pub number : ℕ

abbrev numbered : Fault → ℕ → Numbered
numbered fault number = record { fault = fault; number = number }

unfoldable pub numbered_faults : List Numbered
numbered_faults =
    -- of loading
    numbered TooLong 1 ∷ numbered CutShort 2 ∷ numbered Misplaced 3 ∷ numbered FieldNotPermitted 4 ∷ numbered LimitPassed 5 ∷ numbered LoopJoints 6 ∷ numbered AnsweredTwice 7 ∷
    -- of pairing
    numbered EqualSenses 10 ∷ numbered OddUses 11 ∷ numbered SamePredecessor 12 ∷ numbered NoTwin 13 ∷
    -- of the questions put
    numbered Unanswered 20 ∷ numbered AnswerUndecided 21 ∷ numbered NormalsVanish 22 ∷ numbered NotRound 23 ∷
    -- of contact tests and shells
    numbered PairsInBoundary 30 ∷ numbered FansInBoundary 31 ∷ numbered FansInLump 32 ∷ numbered PairsInLump 33 ∷ numbered NoOuterShell 34 ∷
    -- of the output, of the print-shop profile, of the same source face selected twice, and of a joining table
    numbered NoRoom 40 ∷ numbered ManyUses 41 ∷ numbered ManyFans 42 ∷ numbered SelectedTwice 45 ∷ numbered WrongTable 48 ∷ []

pub fault_numbers_right : map (λ r. fault_number r.fault) numbered_faults ≡ map (λ r. r.number) numbered_faults
unfolding fault_number numbered_faults
fault_numbers_right = refl
