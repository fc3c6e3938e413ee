use Rattle.std.proofs.Common.{sym, subst}
use Rattle.lines.specs.Listed.{bytes_below}
use Rattle.lines.specs.StageListed.{StagedInto, StageLists, stays, lists_stage, lists_none}
use Rattle.programs.proofs.list_stage.Goals as goal

pub returns-in_default : goal.returns-in_default
returns-in_default c =
    let a = c.args in
    subst (λ s. StagedInto s a.job.now a.out.now a.out.now × StageLists s a.job.now a.page.now a.page.now 0)
    (sym c.in_default.is) (stays a.job.now a.out.now, lists_none a.job.now a.page.now)

pub returns : goal.returns
returns c =
    let a = c.args in
    let run = c.operate-ending in
    let put = c.put_stage in
    let bytes = bytes_below a.job.now (λ i. (c.type_inv.job i).fits) in
    subst
    (λ s. StagedInto s a.job.now a.out.now run.new.out × StageLists s a.job.now a.page.now put.new.page put.result)
    (sym c.in-Some.is) (
      (run.result, run.ensures),
      lists_stage c.in-Some.named a.job.now a.out.now run.new.out a.page.now put.new.page put.result run.result bytes
          c.told-out run.ensures put.ensures,
    )
