use Rattle.sewing_c.specs.ToldLaws.{few_bytes, text_lists, refusal_lists}
use Rattle.sewing_c.proofs.zaxclover_listing.Goals as goal

-- By hand: where the attribute names these laws, the search stops at one of its limits.

pub put_listing-requires : goal.put_listing-requires
put_listing-requires c = few_bytes c.args.out.now c.front-body.result.now c.front-body.ensures

pub returns-then-number-eq0 : goal.returns-then-number-eq0
returns-then-number-eq0 c = text_lists c.front-body.ensures c.if-number-eq0.true c.put_listing.ensures

pub returns : goal.returns
returns c = refusal_lists c.if-number-eq0.false c.put_refusal.ensures
