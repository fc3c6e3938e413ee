use Rattle.std.proofs.Common.{arith, sym, ap, ◌∙◌, length}
use Rattle.progress.specs.Parts.{part_long}
use Rattle.progress.specs.KnownLaws.{seen, settled_permuted}
use Rattle.rebuild.proofs.fans_in_tables.Goals as goal

pub fans-requires : goal.fans-requires
fans-requires g c =
    let S = seen c.w.invariant c.w.view_is in (
      (settled_permuted c.w.invariant).size ∙ ap length (S.uses ∙ sym c.kept_uses-kept.ensures.1),
      part_long _ _ _ (omega (arith, ap length c.kept_uses-kept.ensures.1, c.requires.0)),
    )
