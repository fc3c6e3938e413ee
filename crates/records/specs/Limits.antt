-- What a record of the right length, in its part and within the limits, does to lengths and counts.
use Rattle.std.specs.Prelude.{ℕ, ◌+◌, ◌*◌, ◌/◌, ◌%◌, ◌<◌, ◌≡◌, true, false, eqb, ltb, leb}
use Rattle.std.proofs.Common.{arith}
use Rattle.std.proofs.lemmas.Bool.{false≢true}
use borrow.Author.Tests.{eqb-true, ltb-false, leb-false}
use Rattle.lists.specs.Tests.{and_both, or_none}
use Rattle.rules.specs.declared.Kind.{Kind}
use Rattle.rules.specs.declared.Kind.TheVariants.{Unknown, Head, Vertex, EdgeRecord, FaceRecord, LoopRecord, VertexLoop, Radial, Surface, Points, Curves, Singular, Orientation, Inside}
use Rattle.rules.specs.declared.Counts.{Counts}
use Rattle.rules.specs.Kinds.{number_of, part_of, is_loop, is_answer, right_length, right_position, limit_passed}
use Rattle.rules.specs.Load.{counted}
use Rattle.theorems.specs.Sound.{Limited}

long : (size m : ℕ) → eqb size (4 * m) ≡ true → size ≡ 4 * (size / 4)
long size m e = let q = eqb-true size (4 * m) e in omega arith

-- a payload of the right length is whole fields
pub whole_fields : (k : Kind) (size : ℕ) → right_length k size ≡ true → size ≡ 4 * (size / 4)
unfolding right_length
whole_fields Unknown size e = absurd (false≢true e)
whole_fields Head size e = long size 1 e
whole_fields Vertex size e = long size 1 e
whole_fields EdgeRecord size e = long size 4 e
whole_fields FaceRecord size e = long size 5 e
whole_fields LoopRecord size e = let q = eqb-true (size % 8) 0 (and_both (ltb 0 size) (eqb (size % 8) 0) e).1 in omega arith
whole_fields VertexLoop size e = long size 1 e
whole_fields Radial size e = let q = eqb-true (size % 4) 0 (and_both (ltb 0 size) (eqb (size % 4) 0) e).1 in omega arith
whole_fields Surface size e = long size 2 e
whole_fields Points size e = long size 3 e
whole_fields Curves size e = long size 3 e
whole_fields Singular size e = long size 5 e
whole_fields Orientation size e = long size 2 e
whole_fields Inside size e = long size 3 e

-- a record that passes no limit keeps the counts within them
module _ (c : Counts) (L : Limited c) where
  one_answer : leb 2048 c.answers ≡ false
      → Limited (record { part = 5; vertices = c.vertices; edges = c.edges; faces = c.faces; loops = c.loops; uses = c.uses; answers = c.answers + 1 })
  one_answer e =
      let h = leb-false 2048 c.answers e in
      record { vertices = L.vertices; edges = L.edges; faces = L.faces; loops = L.loops; uses = L.uses; answers = omega arith }

  pub limited_kept : (k : Kind) (n : ℕ) → limit_passed k c n ≡ false → Limited (counted k n c)
  unfolding counted number_of part_of limit_passed
  limited_kept Unknown n e = record { vertices = L.vertices; edges = L.edges; faces = L.faces; loops = L.loops; uses = L.uses; answers = L.answers }
  limited_kept Head n e = record { vertices = L.vertices; edges = L.edges; faces = L.faces; loops = L.loops; uses = L.uses; answers = L.answers }
  limited_kept Vertex n e =
      let h = leb-false 1024 c.vertices e in
      record { vertices = omega arith; edges = L.edges; faces = L.faces; loops = L.loops; uses = L.uses; answers = L.answers }
  limited_kept EdgeRecord n e =
      let h = leb-false 1024 c.edges e in
      record { vertices = L.vertices; edges = omega arith; faces = L.faces; loops = L.loops; uses = L.uses; answers = L.answers }
  limited_kept FaceRecord n e =
      let h = leb-false 256 c.faces e in
      record { vertices = L.vertices; edges = L.edges; faces = omega arith; loops = L.loops; uses = L.uses; answers = L.answers }
  limited_kept LoopRecord n e =
      let q = or_none (leb 1024 c.loops) (ltb 2048 (c.uses + n / 2)) e in
      let h = leb-false 1024 c.loops q.0 in
      record { vertices = L.vertices; edges = L.edges; faces = L.faces; loops = omega arith; uses = ltb-false 2048 (c.uses + n / 2) q.1; answers = L.answers }
  limited_kept VertexLoop n e =
      let h = leb-false 1024 c.loops e in
      record { vertices = L.vertices; edges = L.edges; faces = L.faces; loops = omega arith; uses = L.uses; answers = L.answers }
  limited_kept Radial n e = one_answer e
  limited_kept Surface n e = one_answer e
  limited_kept Points n e = one_answer e
  limited_kept Curves n e = one_answer e
  limited_kept Singular n e = one_answer e
  limited_kept Orientation n e = one_answer e
  limited_kept Inside n e = one_answer e

-- a loop in its place stands in part 4
pub loop_part : (k : Kind) (part : ℕ) → is_loop k ≡ true → right_position k part ≡ true → part ≡ 4
unfolding number_of right_position
loop_part Unknown part t e = absurd (false≢true t)
loop_part Head part t e = absurd (false≢true t)
loop_part Vertex part t e = absurd (false≢true t)
loop_part EdgeRecord part t e = absurd (false≢true t)
loop_part FaceRecord part t e = absurd (false≢true t)
loop_part LoopRecord part t e = eqb-true part 4 e
loop_part VertexLoop part t e = eqb-true part 4 e
loop_part Radial part t e = absurd (false≢true t)
loop_part Surface part t e = absurd (false≢true t)
loop_part Points part t e = absurd (false≢true t)
loop_part Curves part t e = absurd (false≢true t)
loop_part Singular part t e = absurd (false≢true t)
loop_part Orientation part t e = absurd (false≢true t)
loop_part Inside part t e = absurd (false≢true t)

-- an answer that passes no limit has a number below 2,048
pub answer_room : (k : Kind) (c : Counts) (n : ℕ) → is_answer k ≡ true → limit_passed k c n ≡ false → c.answers < 2048
unfolding number_of limit_passed
answer_room Unknown c n t e = absurd (false≢true t)
answer_room Head c n t e = absurd (false≢true t)
answer_room Vertex c n t e = absurd (false≢true t)
answer_room EdgeRecord c n t e = absurd (false≢true t)
answer_room FaceRecord c n t e = absurd (false≢true t)
answer_room LoopRecord c n t e = absurd (false≢true t)
answer_room VertexLoop c n t e = absurd (false≢true t)
answer_room Radial c n t e = leb-false 2048 c.answers e
answer_room Surface c n t e = leb-false 2048 c.answers e
answer_room Points c n t e = leb-false 2048 c.answers e
answer_room Curves c n t e = leb-false 2048 c.answers e
answer_room Singular c n t e = leb-false 2048 c.answers e
answer_room Orientation c n t e = leb-false 2048 c.answers e
answer_room Inside c n t e = leb-false 2048 c.answers e
