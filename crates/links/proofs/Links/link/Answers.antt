use Rattle.links.specs.Link.{linked_all}
use Rattle.links.proofs.Links.link.Goals as goal

pub returns : goal.returns
returns g c =
    let u = c.loop-k.invariant in
    (linked_all _ _ _ _ _ _ c.loop-k-test.false u, u.same, u.sized.spots_size)
