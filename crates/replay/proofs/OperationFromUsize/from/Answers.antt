use Rattle.std.specs.Prelude.{ℕ, ◌≡◌, Option, Some, None}
use Rattle.std.proofs.Common.{arith, refl, sym, ◌∙◌}
use Rattle.rules.specs.declared.Stage.{Stage}
use Rattle.rules.specs.Operation.{stage_of}
use Rattle.replay.specs.Operation.{packed_stage, packed_operation}
use Rattle.replay.proofs.StageNumbers.{stage_found, packed_other}
use Rattle.replay.proofs.OperationFromUsize.from.Goals as goal

pub returns-in-Some : goal.returns-in-Some
returns-in-Some c =
    let n = c.args.n in
    let other = c.in_default in
    let found : stage_of n ≡ Some c.in-Some.stage = sym c.numbered.ensures ∙ c.in-Some.is in (
      packed_other n (Some c.in-Some.stage) (λ e. omega (arith, e, other)) (λ e. omega (arith, e, other)) (λ e. omega (arith, e, other)) (λ e. omega (arith, e, other))
          (λ e. omega (arith, e, other)) (λ e. omega (arith, e, other)) found,
      stage_found n c.in-Some.stage found,
    )

pub returns-in-None : goal.returns-in-None
returns-in-None c =
    let n = c.args.n in
    let other = c.in_default in
    let found : stage_of n ≡ None = sym c.numbered.ensures ∙ c.in-None.is in (
      packed_other n None (λ e. omega (arith, e, other)) (λ e. omega (arith, e, other)) (λ e. omega (arith, e, other)) (λ e. omega (arith, e, other))
          (λ e. omega (arith, e, other)) (λ e. omega (arith, e, other)) found,
      refl,
    )
