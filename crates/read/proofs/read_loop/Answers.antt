use Rattle.std.proofs.Common.{◌∙◌, ◌+◌, ◌<◌, ◌≡◌, arith, ext_get_or}
use Rattle.lists.specs.Tables.{set_each}
use Rattle.fields.specs.Spans.{after_of}
use Rattle.rules.specs.Read.{traversed, loop_uses, no_use, use_at}
use Rattle.read.proofs.ReadLaws.{length_loop, use_made}
use Rattle.read.proofs.read_loop.Goals as goal

pub loop-i-preserved : goal.loop-i-preserved
loop-i-preserved c =
    let loop = loop_uses c.args.face c.args.first c.args.first (traversed c.args.selected c.args.items.now) in
    λ j. set_each (λ k u. k < c.loop-i.i + 1 → u ≡ use_at loop k) c.loop-i.uses c.loop-i.i _ no_use (omega arith)
    (λ _. use_made _ _ _ _ _ _ _ _ _ _ c.len-n.ensures.0 (omega arith) c.place.ensures.0 c.at-item.ensures c.mul.ensures (c.place_after.ensures.0 ∙ after_of c.args.first _ _ (omega arith))) j
    (λ ne h. c.loop-i.invariant j (omega arith))

pub returns : goal.returns
returns c =
    ext_get_or no_use c.loop-i.uses _ (omega (arith, length_loop c.args.face c.args.first c.args.selected c.args.items.now)) (λ j h. c.loop-i.invariant j (omega arith))
