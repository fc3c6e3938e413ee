use Rattle.std.proofs.Common.{arith, sym, subst, ◌∙◌}
use Rattle.rules.specs.Groups.{Lowest}
use Rattle.rules.specs.Sew.{lumps_clear}
use Rattle.contact.specs.Clear.{LowLabels}
use Rattle.progress.specs.Parts.{part_long}
use Rattle.progress.specs.KnownLaws.{seen}
use Rattle.rebuild.specs.Homes.{labels_low}
use Rattle.rebuild.proofs.drawn.lumps_clear.Goals as goal

pub lump_labels-requires : goal.lump_labels-requires
lump_labels-requires c =
    let S = seen c.w.invariant (c.w.view_is ∙ c.walks-w.ensures) in (
      subst Lowest (sym (c.boundaries-boundaries.ensures.0 ∙ S.boundaries)) S.lowest_boundaries,
      part_long 0 _ 256 c.boundaries-boundaries.ensures.1,
    )

pub clear_edges-requires : goal.clear_edges-requires
clear_edges-requires c =
    subst LowLabels (sym (c.lump_labels.ensures _ _)) (labels_low _ _ c.requires)

pub returns-in_err-clear_points : goal.returns-in_err-clear_points
unfolding lumps_clear
returns-in_err-clear_points c =
    let S = seen c.w.invariant (c.w.view_is ∙ c.walks-w.ensures) in
    let s = c.args.shells.now in
    let labels = rw (c.boundaries-boundaries.ensures.0, S.boundaries) at c.lump_labels.ensures s.boundaries.now s.members.now in
    grind arith

pub returns : goal.returns
unfolding lumps_clear
returns c =
    let S = seen c.w.invariant (c.w.view_is ∙ c.walks-w.ensures) in
    let s = c.args.shells.now in
    let labels = rw (c.boundaries-boundaries.ensures.0, S.boundaries) at c.lump_labels.ensures s.boundaries.now s.members.now in
    grind arith
