use Rattle.lines.specs.Listed.{bytes_below}
use Rattle.lines.specs.TableListed.{walks_into, lists_walk}
use Rattle.programs.proofs.list_walk_with_table.Goals as goal

pub returns : goal.returns
returns c =
    let a = c.args in
    let run = c.walk_stage_with_table-ending in
    let put = c.put_stage in
    let bytes = bytes_below a.job.now (λ i. (c.type_inv.job i).fits) in (
      walks_into a.table.now a.job.now a.out.now run.new.out run.result run.ensures.0,
      lists_walk a.table.now a.job.now a.out.now run.new.out a.page.now put.new.page put.result run.result bytes c.told-out
          run.ensures.0 put.ensures,
    )
