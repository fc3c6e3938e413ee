-- Laws of senses: the test of equality, the reverse, the product, and where a sense starts and ends an edge.
use denote.Enum.Bare.{sameb}
use Rattle.rules.specs.contracts.Sense.{the_type as Sense_type}
use Rattle.std.specs.Prelude.{◌≡◌, refl, ◌⊎◌, true, false}
use Rattle.std.proofs.Common.{sym, ap, ◌∙◌, inl, inr, true≢false}
use Rattle.rules.specs.declared.Sense.{Sense}
use Rattle.rules.specs.declared.Sense.TheVariants.{Same, Reversed}
use Rattle.rules.specs.declared.Edge.{Edge}
use Rattle.rules.specs.declared.EdgeData.{EdgeData}
use Rattle.rules.specs.Sense.{reverse, product, FourAnswers, same_sense, is_same}
use Rattle.rules.specs.Job.{start_by, end_by}
use Rattle.rules.specs.Join.{start_fan, end_fan}

-- `==` of senses is the test of the definitions
pub same_tested : (a b : Sense) → sameb Sense_type a b ≡ same_sense a b
same_tested Same Same = refl
same_tested Same Reversed = refl
same_tested Reversed Same = refl
same_tested Reversed Reversed = refl

-- senses that pass the test are equal, and equal ones pass
pub tested_sense : (s t : Sense) → same_sense s t ≡ true → s ≡ t
tested_sense Same Same e = refl
tested_sense Same Reversed e = absurd (true≢false (sym e))
tested_sense Reversed Same e = absurd (true≢false (sym e))
tested_sense Reversed Reversed e = refl

pub sense_tested : (s : Sense) → same_sense s s ≡ true
sense_tested Same = refl
sense_tested Reversed = refl

-- of two senses that differ, one is the other's reverse
pub other_sense : (s t : Sense) → same_sense s t ≡ false → s ≡ reverse t
other_sense Same Same e = absurd (true≢false e)
other_sense Same Reversed e = refl
other_sense Reversed Same e = refl
other_sense Reversed Reversed e = absurd (true≢false e)

-- a sense is another or its reverse is; it never is its own
pub sense_cases : (s t : Sense) → (s ≡ t) ⊎ (reverse s ≡ t)
sense_cases Same Same = inl refl
sense_cases Same Reversed = inr refl
sense_cases Reversed Same = inr refl
sense_cases Reversed Reversed = inl refl

pub sense_apart : (s : Sense) → s ≡ reverse s → ⊥
sense_apart Same e = true≢false (ap (λ x. same_sense Same x) e)
sense_apart Reversed e = true≢false (ap (λ x. same_sense Reversed x) e)

-- THE PRODUCT, FROM ITS FOUR ANSWERS

-- Same times a sense is that sense
pub same_times : (s r : Sense) → FourAnswers Same s r → r ≡ s
unfolding FourAnswers
same_times Same r f = f.0 refl refl
same_times Reversed r f = f.1 refl refl

-- Reversed times a sense is its reverse
pub reversed_times : (s r : Sense) → FourAnswers Reversed s r → r ≡ reverse s
unfolding FourAnswers
reversed_times Same r f = f.2 refl refl
reversed_times Reversed r f = f.3 refl refl

-- what has the four answers is the product
pub answers_product : (a b r : Sense) → FourAnswers a b r → r ≡ product a b
answers_product Same Same r f = same_times Same r f
answers_product Same Reversed r f = same_times Reversed r f
answers_product Reversed Same r f = reversed_times Same r f
answers_product Reversed Reversed r f = reversed_times Reversed r f

-- the answer for two senses that are known has the four answers
pub answers_told : (a b x y r : Sense) → a ≡ x → b ≡ y → r ≡ product x y → FourAnswers a b r
unfolding FourAnswers
answers_told a b x y r ea eb er = (told Same Same, told Same Reversed, told Reversed Same, told Reversed Reversed)
  where
    told : (s t : Sense) → a ≡ s → b ≡ t → r ≡ product s t
    told s t p q = er ∙ (λ i. product ((sym ea ∙ p) i) ((sym eb ∙ q) i))

-- and the product has them
pub product_answers : (a b : Sense) → FourAnswers a b (product a b)
product_answers a b = answers_told a b a b (product a b) refl refl refl

-- document 01's sentence: Same exactly when both are equal
pub product_when : (a b : Sense) → is_same (product a b) ≡ same_sense a b
product_when Same Same = refl
product_when Same Reversed = refl
product_when Reversed Same = refl
product_when Reversed Reversed = refl

-- WHERE A SENSE STARTS AND ENDS AN EDGE

-- the reverse starts an edge of the job where the sense ends it, and ends it where that starts it
pub start_reverse : (s : Sense) (e : Edge) → start_by (reverse s) e ≡ end_by s e
start_reverse Same e = refl
start_reverse Reversed e = refl

pub end_reverse : (s : Sense) (e : Edge) → end_by (reverse s) e ≡ start_by s e
end_reverse Same e = refl
end_reverse Reversed e = refl

-- the same for an edge of the result
pub start_against : (s : Sense) (e : EdgeData) → start_fan s e ≡ end_fan (reverse s) e
start_against Same e = refl
start_against Reversed e = refl

pub end_against : (s : Sense) (e : EdgeData) → end_fan s e ≡ start_fan (reverse s) e
end_against Same e = refl
end_against Reversed e = refl

-- ISO 10303-42, an oriented edge with orientation false runs against its edge. Of the four answers: Same times a sense runs an edge as
-- that sense does, Reversed times it runs the edge against it
pub runs_along : (s r : Sense) (e : Edge) → FourAnswers Same s r → (start_by r e ≡ start_by s e) × (end_by r e ≡ end_by s e)
runs_along s r e f = (ap (λ t. start_by t e) (same_times s r f), ap (λ t. end_by t e) (same_times s r f))

pub runs_against : (s r : Sense) (e : Edge) → FourAnswers Reversed s r → (start_by r e ≡ end_by s e) × (end_by r e ≡ start_by s e)
runs_against s r e f =
    (ap (λ t. start_by t e) (reversed_times s r f) ∙ start_reverse s e, ap (λ t. end_by t e) (reversed_times s r f) ∙ end_reverse s e)
