use Rattle.std.proofs.Common.{sym, ◌∙◌, ◌≤◌, ◌≡◌, cond, arith, rules}
use Rattle.rules.proofs.OutcomeLaws.{hands_on, bind_stop}
use Rattle.merge_faces.specs.MergingLaws.{merging_step, merging_stop, merging_end}
use Rattle.merge_faces.proofs.merge_groups.Goals as goal

pub returns-in_err-merge_use-clause-equals : goal.returns-in_err-merge_use-clause-equals
returns-in_err-merge_use-clause-equals c =
    bind_stop _ (hands_on _ c.from_residual.ensures.1)
    ∙ sym (merging_stop _ _ _ _ c.merge_use.new.labels _ _ c.loop-h.invariant.0 _ (omega arith) c.in_err-merge_use.ensures)

pub returns-clause-equals : goal.returns-clause-equals
returns-clause-equals c = merging_end _ _ _ _ _ _ _ c.loop-h.invariant.0 (omega arith) c.settle.ensures

pub loop-h-preserved : goal.loop-h-preserved
loop-h-preserved c =
    let one : c.from.result ≡ cond c.in_ok-merge_use.field-0 1 0 = search (rules, c.from.ensures) in
    let few : c.from.result ≤ 1 = search (rules, c.from.ensures) in (
      rw one (merging_step _ _ _ _ _ _ _ c.loop-h.invariant.0 _ (omega arith) c.in_ok-merge_use.ensures),
      omega (arith, few, c.loop-h.invariant.1),
    )
