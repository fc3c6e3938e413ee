use Rattle.std.proofs.Common.{refl, rules}
use Rattle.fields.specs.Tabled.{tabled_start, tabled_step}
use Rattle.fields.proofs.put_table.Goals as goal

pub loop-x-init : goal.loop-x-init
loop-x-init c = (refl, tabled_start c.args.out.now c.args.at c.args.t.now)

pub loop-x-preserved : goal.loop-x-preserved
loop-x-preserved c =
    let l = c.loop-x in (
      search rules,
      tabled_step _ _ _ _ _ _ _ _ _ l.invariant.1 c.loop-x-test.true (search rules) c.put_word-p.ensures,
    )
