use Rattle.std.proofs.Common.{◌∙◌}
use Rattle.fans.specs.Naming.{naming_start, naming_yes, naming_no}
use Rattle.fans.proofs.fan_names.Goals.{then-names_fan, else-names_fan}
use Rattle.fans.proofs.fan_names.Goals as goal

pub loop-h-init : goal.loop-h-init
loop-h-init g c = naming_start _ _ c.new-names.ensures

pub loop-h-preserved : goal.loop-h-preserved
loop-h-preserved g c =
    let n = c.loop-h.invariant in
    let k = c.names_fan.ensures in
    elim c.if-names_fan.branch [
      | then-names_fan w ↦ naming_yes _ _ _ _ _ n k w.if-names_fan.true ((λ i. (w.names-is i).entries) ∙ w.push.ensures)
      | else-names_fan w ↦ naming_no _ _ _ _ _ n k w.if-names_fan.false (λ i. (w.names-is i).entries)
    ]
