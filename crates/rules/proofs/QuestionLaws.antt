-- Laws of answers by number: each case of an answer has its own number, and the permitted values are just these numbers.
use Rattle.std.specs.Prelude.{ℕ, zero, suc, ◌≡◌, refl, true}
use Rattle.std.proofs.Common.{arith, leb-true}
use Rattle.rules.specs.declared.SurfaceAnswer.{SurfaceAnswer}
use Rattle.rules.specs.declared.SurfaceAnswer.TheVariants.{Different, Agreeing, Opposed, Vanishing}
use Rattle.rules.specs.declared.SurfaceAnswer.TheVariants.{Undecided as SurfaceUndecided}
use Rattle.rules.specs.declared.Verdict.{Verdict}
use Rattle.rules.specs.declared.Verdict.TheVariants.{No, Yes, Undecided}
use Rattle.rules.specs.Questions.{surface_number, verdict_number, is_surface, is_verdict, numbered, surface_answer, verdict}

-- the answer of a case's number is that case
pub surface_case : (a : SurfaceAnswer) → surface_answer (surface_number a) ≡ a
unfolding surface_number numbered surface_answer
surface_case Different = refl
surface_case Agreeing = refl
surface_case Opposed = refl
surface_case Vanishing = refl
surface_case SurfaceUndecided = refl

pub verdict_case : (a : Verdict) → verdict (verdict_number a) ≡ a
unfolding verdict_number numbered verdict
verdict_case No = refl
verdict_case Yes = refl
verdict_case Undecided = refl

-- Job records, kind 8: the values permitted are the numbers of the answers, and no others
pub surface_permitted : (a : SurfaceAnswer) → is_surface (surface_number a) ≡ true
unfolding surface_number
surface_permitted Different = refl
surface_permitted Agreeing = refl
surface_permitted Opposed = refl
surface_permitted Vanishing = refl
surface_permitted SurfaceUndecided = refl

pub surface_value : (v : ℕ) → is_surface v ≡ true → surface_number (surface_answer v) ≡ v
unfolding surface_number numbered surface_answer
surface_value zero h = refl
surface_value (suc zero) h = refl
surface_value (suc (suc zero)) h = refl
surface_value (suc (suc (suc zero))) h = refl
surface_value (suc (suc (suc (suc zero)))) h = refl
surface_value (suc (suc (suc (suc (suc v))))) h = absurd (omega (arith, leb-true (suc (suc (suc (suc (suc v))))) 4 h))

-- kinds 9 to 13: the same
pub verdict_permitted : (a : Verdict) → is_verdict (verdict_number a) ≡ true
unfolding verdict_number
verdict_permitted No = refl
verdict_permitted Yes = refl
verdict_permitted Undecided = refl

pub verdict_value : (v : ℕ) → is_verdict v ≡ true → verdict_number (verdict v) ≡ v
unfolding verdict_number numbered verdict
verdict_value zero h = refl
verdict_value (suc zero) h = refl
verdict_value (suc (suc zero)) h = refl
verdict_value (suc (suc (suc v))) h = absurd (omega (arith, leb-true (suc (suc (suc v))) 2 h))
