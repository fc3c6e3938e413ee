use Rattle.sewing_c.specs.ToldLaws.{tells}
use Rattle.sewing_c.proofs.zaxclover_walk_stage_with_table.Goals as goal

pub returns : goal.returns
returns c =
    let ending = c.walk_stage_with_table-ending in
    (tells _ _ _ ending.result _ _ ending.ensures.0 c.tell.ensures.0 c.tell.ensures.1, ending.ensures.1)
