-- Vertices, then edges, stand at computed places: where the next record begins, by the counts.
use Rattle.std.specs.Prelude.{ℕ, ◌+◌, ◌*◌, ◌<◌, ◌≤◌, refl, true}
use Rattle.std.proofs.Common.{arith}
use Rattle.std.proofs.Math.Path.{◌≡◌}
use Rattle.std.proofs.lemmas.Bool.{false≢true}
use borrow.Author.Tests.{eqb-true}
use Rattle.rules.specs.declared.Kind.{Kind}
use Rattle.rules.specs.declared.Kind.TheVariants.{Unknown, Head, Vertex, EdgeRecord, FaceRecord, LoopRecord, VertexLoop, Radial, Surface, Points, Curves, Singular, Orientation, Inside}
use Rattle.rules.specs.declared.Counts.{Counts}
use Rattle.rules.specs.Kinds.{number_of, part_of, right_length, right_position}
use Rattle.rules.specs.Load.{counted, no_counts}
use Rattle.theorems.proofs.Permitted.{in_turn_lem}

-- what the counts say of the byte where the next record begins, and of each other
pub record Placed (c : Counts) (at : ℕ) : Type 0 where
  pub first : c.part ≡ 0 → at ≡ 0
  pub bare : c.part < 2 → c.vertices ≡ 0
  pub plain : c.part < 3 → c.edges ≡ 0
  pub here : 0 < c.part → c.part < 4 → at ≡ 10 + 10 * c.vertices + 22 * c.edges
  pub faced : c.part ≡ 4 → 0 < c.faces

pub placed_none : Placed no_counts 0
placed_none = record {
  first = λ e. refl;
  bare = λ h. refl;
  plain = λ h. refl;
  here = λ h k. absurd (omega arith);
  faced = λ (e : ◌≡◌ {A = ℕ} 0 4). absurd (omega arith);
}

-- from part 4 on only a face is asked for
late : (d : Counts) (next : ℕ) → 4 ≤ d.part → (d.part ≡ 4 → 0 < d.faces) → Placed d next
late d next h faced = record {
  first = λ e. absurd (omega arith);
  bare = λ k. absurd (omega arith);
  plain = λ k. absurd (omega arith);
  here = λ k l. absurd (omega arith);
  faced = faced;
}

-- a record in its place, of n fields, keeps the places
module _ (n : ℕ) (c : Counts) (at : ℕ) (P : Placed c at) where
  head : right_length Head (4 * n) ≡ true → right_position Head c.part ≡ true → Placed (counted Head n c) (at + 6 + 4 * n)
  unfolding counted number_of part_of right_length right_position
  head l p =
      let q = eqb-true (4 * n) 4 l in
      let none : c.part ≡ 0 = eqb-true c.part 0 p in
      let start = P.first none in
      let v = P.bare (omega arith) in
      let e = P.plain (omega arith) in
      record {
        first = λ (z : ◌≡◌ {A = ℕ} 1 0). absurd (omega arith);
        bare = λ h. v;
        plain = λ h. e;
        here = λ h k. omega arith;
        faced = λ (z : ◌≡◌ {A = ℕ} 1 4). absurd (omega arith);
      }

  vertex : right_length Vertex (4 * n) ≡ true → right_position Vertex c.part ≡ true → Placed (counted Vertex n c) (at + 6 + 4 * n)
  unfolding counted number_of part_of right_length right_position
  vertex l p =
      let q = eqb-true (4 * n) 4 l in
      let t = in_turn_lem c.part 2 p in
      let e = P.plain (omega (arith, t.1)) in
      let start = P.here t.0 (omega (arith, t.1)) in
      record {
        first = λ (z : ◌≡◌ {A = ℕ} 2 0). absurd (omega arith);
        bare = λ (h : 2 < 2). absurd (omega arith);
        plain = λ h. e;
        here = λ h k. omega arith;
        faced = λ (z : ◌≡◌ {A = ℕ} 2 4). absurd (omega arith);
      }

  edge : right_length EdgeRecord (4 * n) ≡ true → right_position EdgeRecord c.part ≡ true → Placed (counted EdgeRecord n c) (at + 6 + 4 * n)
  unfolding counted number_of part_of right_length right_position
  edge l p =
      let q = eqb-true (4 * n) 16 l in
      let t = in_turn_lem c.part 3 p in
      let start = P.here t.0 (omega (arith, t.1)) in
      record {
        first = λ (z : ◌≡◌ {A = ℕ} 3 0). absurd (omega arith);
        bare = λ (h : 3 < 2). absurd (omega arith);
        plain = λ (h : 3 < 3). absurd (omega arith);
        here = λ h k. omega arith;
        faced = λ (z : ◌≡◌ {A = ℕ} 3 4). absurd (omega arith);
      }

  pub placed_kept : (k : Kind) → right_length k (4 * n) ≡ true → right_position k c.part ≡ true → Placed (counted k n c) (at + 6 + 4 * n)
  unfolding counted number_of part_of right_position
  placed_kept Unknown l p = absurd (false≢true p)
  placed_kept Head l p = head l p
  placed_kept Vertex l p = vertex l p
  placed_kept EdgeRecord l p = edge l p
  placed_kept FaceRecord l p = late (counted FaceRecord n c) (at + 6 + 4 * n) (omega arith) (λ e. omega arith)
  placed_kept LoopRecord l p = late (counted LoopRecord n c) (at + 6 + 4 * n) (omega arith) (λ e. P.faced (eqb-true c.part 4 p))
  placed_kept VertexLoop l p = late (counted VertexLoop n c) (at + 6 + 4 * n) (omega arith) (λ e. P.faced (eqb-true c.part 4 p))
  placed_kept Radial l p = late (counted Radial n c) (at + 6 + 4 * n) (omega arith) (λ (e : ◌≡◌ {A = ℕ} 5 4). absurd (omega arith))
  placed_kept Surface l p = late (counted Surface n c) (at + 6 + 4 * n) (omega arith) (λ (e : ◌≡◌ {A = ℕ} 5 4). absurd (omega arith))
  placed_kept Points l p = late (counted Points n c) (at + 6 + 4 * n) (omega arith) (λ (e : ◌≡◌ {A = ℕ} 5 4). absurd (omega arith))
  placed_kept Curves l p = late (counted Curves n c) (at + 6 + 4 * n) (omega arith) (λ (e : ◌≡◌ {A = ℕ} 5 4). absurd (omega arith))
  placed_kept Singular l p = late (counted Singular n c) (at + 6 + 4 * n) (omega arith) (λ (e : ◌≡◌ {A = ℕ} 5 4). absurd (omega arith))
  placed_kept Orientation l p = late (counted Orientation n c) (at + 6 + 4 * n) (omega arith) (λ (e : ◌≡◌ {A = ℕ} 5 4). absurd (omega arith))
  placed_kept Inside l p = late (counted Inside n c) (at + 6 + 4 * n) (omega arith) (λ (e : ◌≡◌ {A = ℕ} 5 4). absurd (omega arith))
