use Rattle.sewing_c.specs.ToldLaws.{tells}
use Rattle.sewing_c.proofs.zaxclover_sew_for_print.Goals as goal

pub returns : goal.returns
returns c =
    let ending = c.sew_for_print-ending in
    (tells _ _ _ ending.result _ _ ending.ensures.0 c.tell.ensures.0 c.tell.ensures.1, ending.ensures.1)
