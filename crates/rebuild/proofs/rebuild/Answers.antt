use Rattle.std.proofs.Common.{arith, sym, subst, ◌∙◌}
use Rattle.contact.specs.Clear.{LowLabels}
use Rattle.contact.specs.ClearLaws.{lowest_low}
use Rattle.progress.specs.KnownLaws.{seen}
use Rattle.rebuild.proofs.rebuild.Goals as goal

pub clear_edges-requires : goal.clear_edges-requires
clear_edges-requires c =
    let S = seen c.w.invariant c.w.view_is in
    subst LowLabels (sym (c.boundaries.ensures.0 ∙ S.boundaries)) (lowest_low S.lowest_boundaries S.faces)

pub fans_in_tables-requires-2 : goal.fans_in_tables-requires-2
fans_in_tables-requires-2 c = ((seen c.w.invariant c.w.view_is).ground.few, omega arith)
