use Rattle.std.specs.Prelude.{◌≤◌, take}
use Rattle.links.specs.Tables.{links_of}
use Rattle.links.specs.Link.{Linking}
use Rattle.links.proofs.Links.link_loop.Given as goal

abbrev pub invariant-loop-s : goal.invariant-loop-s
invariant-loop-s g l =
    let t = l.self-inside in
    (t.loops ≤ g.row.SLOTS)
    × Linking l.items l.fn.self.stretches g.row.SLOTS g.row.CODES
    (links_of t.list t.nexts t.heads t.owners t.spots (take t.loops t.stretches)) l.k l.s
