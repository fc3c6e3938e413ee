-- Questions and their answers: refusals 20, 21 and the values.
use Rattle.std.specs.Prelude.{ℕ, List, [], ◌∷◌, Bool, true, false, ◌&&◌, cond, eqb, leb, Option, Some, None}
use Rattle.lists.specs.Lists.{same}
use Rattle.rules.specs.declared.SurfaceAnswer.{SurfaceAnswer}
use Rattle.rules.specs.declared.SurfaceAnswer.TheVariants.{Different, Agreeing, Opposed, Vanishing, Undecided as SurfaceUndecided}
use Rattle.rules.specs.declared.Verdict.{Verdict}
use Rattle.rules.specs.declared.Verdict.TheVariants.{No, Yes, Undecided}
use Rattle.rules.specs.Outcome.{Outcome, Ok, refuse, ◌>>=◌}
use Rattle.rules.specs.Fields.{field}
use Rattle.rules.specs.Job.{Answer}
use Rattle.rules.specs.declared.Fault.TheVariants.{Unanswered, AnswerUndecided}

-- Job records: kinds 9 and 10 have no order of their two
abbrev pub unordered : ℕ → ℕ → List ℕ
unordered a b = cond (leb a b) (a ∷ b ∷ []) (b ∷ a ∷ [])

-- what is on record for a question of a kind: nothing, or the fields of its answer
unfoldable pub find : List Answer → ℕ → List ℕ → Option (List ℕ)
find [] kind question = None
find (a ∷ more) kind question =
    let later = find more kind question in
    cond (eqb a.kind kind && same a.question question) (Some a.value) later

-- THE ANSWERS BY NUMBER

-- Job records, kind 8: 0 different, 1 same with normals agreeing, 2 same and opposed, 3 vanishing, 4 undecided
unfoldable pub surface_number : SurfaceAnswer → ℕ
surface_number Different = 0
surface_number Agreeing = 1
surface_number Opposed = 2
surface_number Vanishing = 3
surface_number SurfaceUndecided = 4

-- Job records, kinds 9 to 13: 0 different, no or void; 1 same, yes or outer; 2 undecided
unfoldable pub verdict_number : Verdict → ℕ
verdict_number No = 0
verdict_number Yes = 1
verdict_number Undecided = 2

-- Job records, the values permitted: kind 8, 0 to 4; kinds 9 to 13, 0 to 2. They are the numbers of the answers (QuestionLaws)
abbrev pub is_surface : ℕ → Bool
is_surface v = leb v 4

abbrev pub is_verdict : ℕ → Bool
is_verdict v = leb v 2

-- the first of some answers that has number v, else another
unfoldable pub numbered : {A : Type 0} → (A → ℕ) → List A → A → ℕ → A
numbered number [] other v = other
numbered number (a ∷ more) other v =
    let later = numbered number more other v in
    cond (eqb v (number a)) a later

-- the answer of kind 8 that has a number: undecided, if no other has it
unfoldable pub surface_answer : ℕ → SurfaceAnswer
surface_answer v = numbered surface_number (Different ∷ Agreeing ∷ Opposed ∷ Vanishing ∷ []) SurfaceUndecided v

-- the answer of kinds 9 to 13 that has a number: undecided, if no other has it
unfoldable pub verdict : ℕ → Verdict
verdict v = numbered verdict_number (No ∷ Yes ∷ []) Undecided v

-- THE QUESTIONS PUT

-- Endings, 20, kinds 8 to 13: no record answers it, else the value on record
unfoldable pub on_record : ℕ → Option (List ℕ) → Outcome ℕ
on_record kind None = refuse Unanswered kind
on_record kind (Some v) = Ok (field v 0)

-- a question of kinds 8 to 13 is put
abbrev pub ask : List Answer → ℕ → List ℕ → Outcome ℕ
ask answers kind question = on_record kind (find answers kind question)

-- Endings, 21, kinds 9 to 13: the answer is undecided, else yes or no
unfoldable pub decided : ℕ → Verdict → Outcome Bool
decided kind No = Ok false
decided kind Yes = Ok true
decided kind Undecided = refuse AnswerUndecided kind

-- a question of kinds 9 to 13 is put
abbrev pub ask_yes : List Answer → ℕ → List ℕ → Outcome Bool
ask_yes answers kind question = ask answers kind question >>= λ v. decided kind (verdict v)

-- Job records: equal numbers are the same without a record (kinds 9 and 10)
unfoldable pub ask_same : List Answer → ℕ → ℕ → ℕ → Outcome Bool
ask_same answers kind a b =
    let put = ask_yes answers kind (unordered a b) in
    cond (eqb a b) (Ok true) put

-- Endings, 20 and 21, kind 7: none means undecided
unfoldable pub ordered : Option (List ℕ) → Outcome (List ℕ)
ordered None = refuse Unanswered 7
ordered (Some []) = refuse AnswerUndecided 7
ordered (Some (h ∷ hs)) = Ok (h ∷ hs)

-- kind 7: the uses of an edge in order round it
abbrev pub ask_radial : List Answer → ℕ → Outcome (List ℕ)
ask_radial answers e = ordered (find answers 7 (e ∷ []))
