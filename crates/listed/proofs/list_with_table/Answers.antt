use Rattle.lines.specs.Listed.{bytes_below}
use Rattle.lines.specs.TableListed.{sews_with, lists_with}
use Rattle.listed.proofs.list_with_table.Goals as goal

pub returns : goal.returns
returns c =
    let a = c.args in
    let sew = c.sew_with_table-answer in
    let put = c.put_listing in
    let bytes = bytes_below a.job.now (λ i. (c.type_inv.job i).fits) in
    let size = c.told-out in (
      sews_with a.table.now a.job.now a.out.now sew.new.out sew.result sew.ensures.0,
      lists_with a.table.now a.job.now a.out.now sew.new.out a.page.now put.new.page put.result sew.result bytes size
          sew.ensures.0 put.ensures,
    )
