-- What a rule gives: a value, or a refusal. Rules that stand one after the other stop at the first refusal.
use Rattle.std.specs.Prelude.{ℕ, List, [], ◌∷◌, Bool, true, false, ◌&&◌, eqb, Result}
use Rattle.rules.specs.declared.Fault.{Fault}
use Rattle.rules.specs.declared.Fault.TheVariants.{TooLong, CutShort, Misplaced, FieldNotPermitted, LimitPassed, LoopJoints, AnsweredTwice, EqualSenses, OddUses, SamePredecessor, NoTwin, Unanswered}
use Rattle.rules.specs.declared.Fault.TheVariants.{AnswerUndecided, NormalsVanish, NotRound, PairsInBoundary, FansInBoundary, FansInLump, PairsInLump, NoOuterShell}
use Rattle.rules.specs.declared.Fault.TheVariants.{NoRoom, ManyUses, ManyFans, SelectedTwice, WrongTable}
use Rattle.rules.specs.declared.Refusal.{Refusal}
pub use Rattle.std.specs.Prelude.{Ok, Err}

-- Endings: a value, or a refusal with its number and one place
abbrev pub Outcome : Type 0 → Type 0
Outcome A = Result A Refusal

abbrev pub refuse : {A : Type 0} → Fault → ℕ → Outcome A
refuse fault place = Err (record { fault = fault; place = place })

-- Endings: the number of a refusal
unfoldable pub fault_number : Fault → ℕ
fault_number TooLong = 1
fault_number CutShort = 2
fault_number Misplaced = 3
fault_number FieldNotPermitted = 4
fault_number LimitPassed = 5
fault_number LoopJoints = 6
fault_number AnsweredTwice = 7
fault_number EqualSenses = 10
fault_number OddUses = 11
fault_number SamePredecessor = 12
fault_number NoTwin = 13
fault_number Unanswered = 20
fault_number AnswerUndecided = 21
fault_number NormalsVanish = 22
fault_number NotRound = 23
fault_number PairsInBoundary = 30
fault_number FansInBoundary = 31
fault_number FansInLump = 32
fault_number PairsInLump = 33
fault_number NoOuterShell = 34
fault_number NoRoom = 40
fault_number ManyUses = 41
fault_number ManyFans = 42
fault_number SelectedTwice = 45
fault_number WrongTable = 48

-- one refusal: the number and the place are the same
abbrev pub same_refusal : Refusal → Refusal → Bool
same_refusal r q = eqb (fault_number r.fault) (fault_number q.fault) && eqb r.place q.place

infixl 20 ◌>>=◌
-- what follows is done where nothing was refused
abbrev pub ◌>>=◌ : {A B : Type 0} → Outcome A → (A → Outcome B) → Outcome B
◌>>=◌ (Ok a) f = f a
◌>>=◌ (Err refusal) f = Err refusal

-- a refusal, with its fault and place, where a test fails; else what follows
unfoldable pub need : {A : Type 0} → Bool → Fault → ℕ → Outcome A → Outcome A
need true fault place rest = rest
need false fault place rest = refuse fault place

-- a step for each member of a list, in order, from a first value
unfoldable pub throughout : {A S : Type 0} → (A → S → Outcome S) → List A → S → Outcome S
throughout step [] s = Ok s
throughout step (x ∷ xs) s = step x s >>= throughout step xs

-- an answer for each member of a list, in order
unfoldable pub for_each : {A B : Type 0} → (A → Outcome B) → List A → Outcome (List B)
for_each f [] = Ok []
for_each f (x ∷ xs) = f x >>= λ y. for_each f xs >>= λ ys. Ok (y ∷ ys)
