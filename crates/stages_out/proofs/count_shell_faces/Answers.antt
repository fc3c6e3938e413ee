use Rattle.std.proofs.Common.{arith, rules, tests, ◌≡◌, length, ◌∙◌}
use Rattle.std.proofs.lemmas.Iterator.{YieldsList-from_slice}
use Rattle.std.proofs.lemmas.Iterator.Consumers.{count_from_yields_List, YieldsList-from_filter}
use Rattle.std.proofs.lemmas.List.Sums.{length-filter, count_by-le-length}
use Rattle.std.specs.List.{filter}
use Rattle.stages_out.proofs.ShellFaces.{is_own, faces_counted}
use Rattle.stages_out.proofs.count_shell_faces.Goals as goal

pub returns : goal.returns
returns c =
    let bs = c.args.boundaries.now in
    let ms = c.args.members.now in
    let own = is_own bs ms c.args.b in
    let counted : c.count.result ≡ length (filter own ms) =
    count_from_yields_List c.filter.result _ c.count.ensures.ran (YieldsList-from_filter _ own (YieldsList-from_slice ms cc) c.filter.ensures.closure (λ x r q k. search (rules, tests))) in (
      counted ∙ faces_counted bs ms c.args.b,
      omega (arith, counted, length-filter own ms, count_by-le-length own ms, c.requires),
    )
