use Rattle.std.proofs.Common.{◌≡◌, List, rules, arith, length, take, length-take-le, sym, subst}
use Rattle.fields.specs.declared.Span.{Span}
use Rattle.theorems.specs.Linked.{LoopsSound}
use Rattle.edges.specs.Table.{Laid}
use Rattle.links.specs.Lay.{laid_same}
use Rattle.links.specs.Spread.{sound_linkable, laid_loops}
use Rattle.maximal_edges.specs.Hung.{hung_start}
use Rattle.maximal_edges.proofs.join_in.Goals as goal

pub link-requires : goal.link-requires
link-requires g c =
    let a = c.args in
    let fit = c.requires.sound in
    let es = take a.count a.rows.now in
    let count : length es ≡ a.count = length-take-le a.count a.rows.now (omega (arith, c.requires.room)) in
    let linkable = sound_linkable es a.items.now a.stretches.now c.requires.laid fit.sound g.row.SLOTS g.row.CODES (omega (arith, fit))
    (omega (arith, fit)) (omega (arith, fit, c.requires.twice)) in
    (omega arith, (linkable, omega (arith, fit, c.requires.small)))

pub join_all-requires : goal.join_all-requires
join_all-requires g c =
    let a = c.args in
    let pre = c.requires in
    let es = take a.count a.rows.now in
    let count : length es ≡ a.count = length-take-le a.count a.rows.now (omega (arith, pre.room)) in
    let same : c.link.new.self.stretches ≡ a.stretches.now = c.link.ensures.1 in
    let sound = subst (λ (s : List Span). LoopsSound es (laid_loops a.items.now s)) (sym same) pre.sound.sound in
    let laid = subst (λ (s : List Span). Laid s a.items.now) (sym same) pre.laid in
    let hung = hung_start es a.items.now c.link.new.self c.link.ensures.0 sound (omega (arith, pre.sound, pre.twice, c.link.ensures.2)) in
    let linked = laid_same c.link.new.self a.items.now laid c.link.ensures.0.same in
    search rules
