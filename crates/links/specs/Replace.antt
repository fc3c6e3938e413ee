-- The loops of linked tables, laid out, before and after a join: at each place the two items became one.
use Rattle.std.specs.Prelude.{ℕ, ◌≤◌, ◌<◌, ◌≡◌, refl, List, map, length, get_or}
use Rattle.std.proofs.Common.{arith, sym, ap, ◌∙◌}
use Rattle.std.proofs.lemmas.Simd.{map-map}
use Rattle.fields.specs.declared.Span.{Span}
use Rattle.fields.specs.Spans.{span_at}
use Rattle.lists.specs.Lists.{below}
use Rattle.lists.specs.Runs.{below_in}
use Rattle.lists.specs.Members.{map_same}
use Rattle.rules.specs.declared.EdgeData.{EdgeData}
use Rattle.rules.specs.Edges.{FaceLoop}
use Rattle.rules.specs.Join.{replaced_in, replaced_all}
use Rattle.edges.specs.Table.{item_in, loop_at, face_loops_in, Laid}
use Rattle.theorems.specs.JoinLoops.{joined_items}
use Rattle.links.specs.Tables.{LinkTables, IsLoop}
use Rattle.links.specs.JoinLinks.{Joined}
use Rattle.links.specs.Lay.{laid_by, length_laid, laid_loops_lem}

-- loops one after the other, in which the join of edges a and b at corner v has its places replaced
pub record Replaced (es : List EdgeData) (v a b new : ℕ) (items₀ : List ℕ) (stretches₀ : List Span) (items : List ℕ) (stretches : List Span) : Type 0 where
  pub laid : Laid stretches items
  pub loops : (faces : List ℕ) → length faces ≤ length stretches₀ → face_loops_in items stretches faces ≡ replaced_all es v a b new (face_loops_in items₀ stretches₀ faces)

-- loops lie one after the other in any list as long
laid_as_long : (stretches : List Span) (items items' : List ℕ) → length items' ≡ length items → Laid stretches items → Laid stretches items'
laid_as_long stretches items items' e l = record { order = l.order; inside = λ k q. omega (arith, l.inside k q); apart = l.apart }

pub laid_base : (t : LinkTables) (items : List ℕ) → Laid t.stretches (laid_by t items) → Laid t.stretches items
laid_base t items l = laid_as_long t.stretches (laid_by t items) items (sym (length_laid t items)) l

replaced_items : (es : List EdgeData) (v a b : ℕ) (l : FaceLoop) → replaced_in es v a b (length es) l ≡ record { face = l.face; items = joined_items es v a b l.items }
unfolding replaced_in joined_items
replaced_items es v a b l = refl

-- a join of linked loops
pub joined_replaced : (es : List EdgeData) (v a b new : ℕ) (t t' : LinkTables) (items : List ℕ) → new ≡ length es → Joined es v a b t t' → Laid t.stretches items
    → Replaced es v a b new (laid_by t items) t.stretches (laid_by t' items) t'.stretches
unfolding face_loops_in
joined_replaced es v a b new t t' items en j laid = record {
  laid = laid_as_long t'.stretches items (laid_by t' items) (length_laid t' items) (j.laid items laid);
  loops = λ faces few.
      map_same (loop t' faces) (λ k. replaced_in es v a b new (loop t faces k)) (below (length faces))
      (λ k m.
      let w : k < length faces = below_in (length faces) k m in
      let q : IsLoop t.stretches k = omega arith in
      let q' : IsLoop t'.stretches k = omega (arith, j.count) in
      (λ i. record { face = get_or faces k 0; items = (ap (map item_in) (laid_loops_lem t' items (j.laid items laid) k q') ∙ j.loops k q) i })
      ∙ (λ i. record { face = get_or faces k 0; items = joined_items es v a b (map item_in (sym (laid_loops_lem t items laid k q) i)) })
      ∙ sym (replaced_items es v a b (loop t faces k))
      ∙ ap (λ n. replaced_in es v a b n (loop t faces k)) (sym en))
      ∙ sym (map-map (replaced_in es v a b new) (loop t faces) (below (length faces)));
}
  where
    loop : LinkTables → List ℕ → ℕ → FaceLoop
    loop s faces k = record { face = get_or faces k 0; items = map item_in (loop_at (laid_by s items) (span_at s.stretches k)) }
