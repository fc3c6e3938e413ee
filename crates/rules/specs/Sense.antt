-- Senses, as both programs have them.
use Rattle.std.specs.Prelude.{ℕ, ◌≡◌, Bool, true, false, cond, eqb}
use Rattle.rules.specs.declared.Sense.{Sense}
use Rattle.rules.specs.declared.Sense.TheVariants.{Same, Reversed}

-- Job records: sense is 0 Same, 1 Reversed
abbrev pub sense_of : ℕ → Sense
sense_of n = cond (eqb n 0) Same Reversed

-- the number that stands for a sense
abbrev pub sense_number : Sense → ℕ
sense_number Same = 0
sense_number Reversed = 1

-- The stages: `reverse` swaps senses
abbrev pub reverse : Sense → Sense
reverse Same = Reversed
reverse Reversed = Same

-- The stages: `product` is Same exactly when both are equal
abbrev pub product : Sense → Sense → Sense
product Same Same = Same
product Same Reversed = Reversed
product Reversed Same = Reversed
product Reversed Reversed = Same

-- Request Four: the four answers of `product`, r being the answer for a and b. To be held against ISO 10303-42: an oriented edge runs
-- along its edge if its orientation is true, against it if it is false; Same stands for true, Reversed for false
unfoldable pub FourAnswers : Sense → Sense → Sense → Type 0
FourAnswers a b r =
    (a ≡ Same → b ≡ Same → r ≡ Same)
    × (a ≡ Same → b ≡ Reversed → r ≡ Reversed)
    × (a ≡ Reversed → b ≡ Same → r ≡ Reversed)
    × (a ≡ Reversed → b ≡ Reversed → r ≡ Same)

-- two senses are equal, as a test
abbrev pub same_sense : Sense → Sense → Bool
same_sense Same Same = true
same_sense Same Reversed = false
same_sense Reversed Same = false
same_sense Reversed Reversed = true

-- a sense is Same, as a test
abbrev pub is_same : Sense → Bool
is_same Same = true
is_same Reversed = false
