use Rattle.rules.specs.Rules.{print_shop}
use Rattle.lines.specs.Listed.{bytes_below, sews, lists}
use Rattle.listed.proofs.list_for_print.Goals as goal

pub returns : goal.returns
returns c =
    let a = c.args in
    let sew = c.sew_for_print-answer in
    let put = c.put_listing in
    let bytes = bytes_below a.job.now (λ i. (c.type_inv.job i).fits) in
    let size = c.told-out in (
      sews print_shop a.job.now a.out.now sew.new.out sew.result sew.ensures.0,
      lists print_shop a.job.now a.out.now sew.new.out a.page.now put.new.page put.result sew.result bytes size sew.ensures.0
          put.ensures,
    )
