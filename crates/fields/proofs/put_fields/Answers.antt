use Rattle.std.proofs.Common.{arith, refl, rules}
use Rattle.fields.specs.Tabled.{tabled_start, tabled_step}
use Rattle.fields.proofs.put_fields.Goals as goal

pub loop-field-init : goal.loop-field-init
loop-field-init g c = (refl, tabled_start c.args.out.now c.args.at c.args.fields.now)

pub loop-field-preserved : goal.loop-field-preserved
loop-field-preserved g c =
    let l = c.loop-field in (
      search rules,
      tabled_step _ _ _ _ _ _ _ _ _ l.invariant.1 (omega arith) (search rules) c.put_word-p.ensures,
    )
