use Rattle.std.specs.Prelude.{length}
use Rattle.std.proofs.Common.{arith, sym, ap, ◌∙◌}
use Rattle.std.proofs.lemmas.List.{take_all}
use Rattle.links.specs.Tables.{LinkTables, links_of}
use Rattle.links.specs.Fuse.{fuse_is}
use Rattle.links.proofs.fuse.Goals as goal

-- the stretches are the whole of their table
pub returns : goal.returns
returns c =
    let a = c.args in
    let t : LinkTables = links_of a.list.now a.nexts.now a.heads.now a.owners.now a.spots.now a.stretches.now in
    let n = length a.stretches.now in
    let s = c.put_entry.new.t in
    ap (links_of _ _ _ a.owners.now _) (sym (take_all n s (omega arith)))
    ∙ fuse_is t _ _ _ _ _ c.requires.0 c.get-p.ensures.0 c.get-k.ensures.0 c.span_at-stretch.ensures
    c.own_end-bound.ensures a.x n _ _ _ _ a.stretches.now s (sym (take_all n a.stretches.now (omega arith)))
    c.turn_and_replace.ensures c.put.ensures c.put_entry.ensures
