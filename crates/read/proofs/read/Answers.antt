use Rattle.std.proofs.Common.{arith, ap}
use Rattle.read.proofs.ReadLaws.{reading_room, reading_more, reading_all}
use Rattle.read.proofs.read.Goals as goal

pub slice_bounds-read_loop-end : goal.slice_bounds-read_loop-end
slice_bounds-read_loop-end c =
    omega (
      arith,
      reading_room _ _ _ _ c.loop-l.invariant (omega arith) _ _ _ _ (omega arith) c.items-items.ensures c.len.ensures.0 c.loop_face-face.ensures (ap (λ f. f.selected) c.face-selected.ensures),
    )

pub loop-l-preserved : goal.loop-l-preserved
loop-l-preserved c =
    reading_more _ _ _ _ c.loop-l.invariant (omega arith) _ _ _ _ (omega arith) c.items-items.ensures c.len.ensures.0 c.loop_face-face.ensures (ap (λ f. f.selected) c.face-selected.ensures) _
    c.read_loop.ensures

pub returns : goal.returns
returns c = reading_all _ _ _ _ c.loop-l.invariant (omega arith) (omega arith)
