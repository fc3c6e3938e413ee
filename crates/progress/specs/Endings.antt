-- Endings: of one outcome as of another, of a refusal; a stage that is asked for or not.
use Rattle.std.specs.Prelude.{ℕ, ◌≡◌, refl, List, length, true, false, cond, Option}
use Rattle.std.proofs.Common.{sym, ap, subst, ◌∙◌}
use Rattle.lists.specs.Tests.{cond_true, cond_false}
use Rattle.rules.specs.declared.Refusal.{Refusal}
use Rattle.rules.specs.declared.Stage.{Stage}
use Rattle.rules.specs.Outcome.{Outcome, Err}
use Rattle.rules.specs.Operation.{is_asked}
use Rattle.rules.specs.Sew.{Ends}
use Rattle.rules.specs.Stage.{stage_bytes}

-- the ending of one outcome is that of another
pub ends_as : (o o' : Outcome (List ℕ)) (before after : List ℕ) (r : Outcome ℕ) → o ≡ o' → Ends o' before after r → Ends o before after r
ends_as o o' before after r e s = subst (λ x. Ends x before after r) (sym e) s

-- a refusal leaves the output
pub ends_refused : (o : Outcome (List ℕ)) (out : List ℕ) (refusal : Refusal) (e : Outcome ℕ) → o ≡ Err refusal → e ≡ Err refusal → Ends o out out e
ends_refused o out refusal e q h = ends_as o (Err refusal) out out e q (h, refl)

-- a stage that wrote its fields ends as the definition whose fields these are
pub ends_staged : (o : Outcome (List ℕ)) (fields written before after : List ℕ) (r : Outcome ℕ) → o ≡ stage_bytes (length before) fields
    → written ≡ fields → Ends (stage_bytes (length before) written) before after r → Ends o before after r
ends_staged o fields written before after r e w s = ends_as o (stage_bytes (length before) written) before after r (e ∙ ap (stage_bytes (length before)) (sym w)) s

-- a stage that is asked for, and one that is not
pub asked : {A : Type 0} (s : Stage) (stage : Option Stage) (x y : A) → is_asked s stage ≡ true → cond (is_asked s stage) x y ≡ x
asked s stage x y e = cond_true (is_asked s stage) x y e

pub unasked : {A : Type 0} (s : Stage) (stage : Option Stage) (x y : A) → is_asked s stage ≡ false → cond (is_asked s stage) x y ≡ y
unasked s stage x y e = cond_false (is_asked s stage) x y e
