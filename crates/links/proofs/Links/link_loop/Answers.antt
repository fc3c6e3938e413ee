use Rattle.std.proofs.Common.{sym, subst}
use Rattle.links.specs.Tables.{LinkTables}
use Rattle.links.specs.Link.{Linking, linking_from, linking_more, linking_past}
use Rattle.links.proofs.Links.link_loop.Goals as goal

pub loop-s-init : goal.loop-s-init
loop-s-init g c =
    let a = c.args in
    let v = c.self.view_is in (
      c.self.invariant,
      linking_from _ _ _ _ _ _ c.requires.1 _
          c.requires.3
          (subst (λ (t : LinkTables). Linking a.items.now a.self.now.stretches g.row.SLOTS g.row.CODES t a.k 0) (sym v) c.requires.0),
    )

pub loop-s-preserved : goal.loop-s-preserved
loop-s-preserved g c = (
  c.loop-s.invariant.0,
  linking_more _ _ _ _ _ _ c.requires.1 _
      c.requires.3 _ _ _ _ _ _ _
      c.loop-s.invariant.1 c.loop-s.auto.s c.loop-s-test.true c.get-x.ensures.0 c.place_after-q.ensures.0 c.put.ensures
      c.put-in-loop-s.ensures c.put-in-loop-s-2.ensures c.put-in-loop-s-3.ensures,
)

pub invariant_of-self : goal.invariant_of-self
invariant_of-self g c = c.loop-s.invariant.0

pub returns : goal.returns
returns g c =
    linking_past _ _ _ _ _ _ c.requires.1 _
    c.requires.3 _ _ c.loop-s.invariant.1
    c.loop-s-test.false c.put-2.ensures
