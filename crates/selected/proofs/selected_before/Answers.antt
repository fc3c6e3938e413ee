use Rattle.std.proofs.Common.{arith}
use Rattle.selected.specs.SourceLaws.{walk_start, walk_more, walk_end}
use Rattle.selected.proofs.selected_before.Goals as goal

pub loop-i-init : goal.loop-i-init
loop-i-init c = grind (arith, walk_start c.requires.sourced c.face_in-face.result c.requires.room)

pub returns-then-same_source : goal.returns-then-same_source
returns-then-same_source c = grind (arith, walk_more c.requires.sourced c.face_in-face.result c.loop-i.i c.loop-i-test.true)

pub loop-i-smaller : goal.loop-i-smaller
loop-i-smaller c = omega (arith, walk_more c.requires.sourced c.face_in-face.result c.loop-i.i c.loop-i-test.true)

pub loop-i-preserved : goal.loop-i-preserved
loop-i-preserved c = grind (arith, walk_more c.requires.sourced c.face_in-face.result c.loop-i.i c.loop-i-test.true)

pub returns : goal.returns
returns c = grind (arith, walk_end c.requires.sourced c.face_in-face.result)
