-- What follows of a job that is loaded: its counts are the lengths of its lists and within the limits.
use Rattle.std.specs.Prelude.{ℕ, ◌<◌, ◌≡◌, ◌≢◌, refl, Bool, true, false, cond, List, ◌+◌, ◌/◌, length, eqb, Some, None}
use Rattle.std.proofs.Common.{arith, sym, ap, ◌∙◌}
use Rattle.lists.specs.Runs.{get_or_table}
use Rattle.rules.specs.declared.Counts.{Counts}
use Rattle.rules.specs.declared.Kind.TheVariants.{LoopRecord}
use Rattle.rules.specs.Kinds.{kind_of, number_of}
use Rattle.job.specs.ListLaws.{of_loop, of_no_loop}
use Rattle.rules.specs.Fields.{le16, le32, fields_in}
use Rattle.rules.specs.Job.{of_items, at_vertex, Job, items_of, items_from}
use Rattle.rules.proofs.FieldLaws.{items_half}
use Rattle.rules.specs.Read.{content_items}
use Rattle.job.specs.Lists.{points_in, edges_in, faces_in, loop_byte, fields_at, loop_in, item_count, loops_in, job_in}
use Rattle.loaded.specs.Opened.{Opened}
use Rattle.loaded.specs.Told.{no_loop, loop_at, vertex_of}

module _ {bytes ix : List ℕ} {c : Counts} (o : Opened bytes ix c) where
  -- the job that contracts see
  module _ {j : Job} (is : job_in bytes ix c ≡ j) where
    pub points_are : points_in bytes c ≡ j.points
    unfolding job_in
    points_are = ap (λ (x : Job). x.points) is

    pub edges_are : edges_in bytes c ≡ j.edges
    unfolding job_in
    edges_are = ap (λ (x : Job). x.edges) is

    pub faces_are : faces_in bytes ix c ≡ j.faces
    unfolding job_in
    faces_are = ap (λ (x : Job). x.faces) is

    -- loop l, by its record
    pub loop_is : (l : ℕ) → l < length j.loops → loop_in bytes ix l ≡ loop_at j.loops l
    unfolding job_in loops_in
    loop_is l h =
        sym (get_or_table (loop_in bytes ix) c.loops l no_loop (omega (arith, o.counted.loops, ap (λ (x : Job). length x.loops) is)))
        ∙ ap (λ (x : Job). loop_at x.loops l) is

-- the items of loop l, and the vertex of a vertex loop
module _ (bytes ix : List ℕ) (l : ℕ) where
  pub content_is : items_from bytes (loop_byte ix l + 6) (item_count bytes ix l) ≡ content_items (loop_in bytes ix l).content
  unfolding loop_in item_count fields_at items_of fields_in
  content_is = go (eqb (number_of (kind_of (le16 bytes (loop_byte ix l + 4)))) 5)
    where
      go : (b : Bool) → items_from bytes (loop_byte ix l + 6) (cond b (le32 bytes (loop_byte ix l) / 8) 0)
          ≡ content_items (cond b (of_items (items_of (fields_at bytes (loop_byte ix l)))) (at_vertex (le32 bytes (loop_byte ix l + 6))))
      go true = let e : le32 bytes (loop_byte ix l) / 4 / 2 ≡ le32 bytes (loop_byte ix l) / 8 = omega arith in
          sym (items_half (le32 bytes (loop_byte ix l) / 4) bytes (loop_byte ix l + 6) ∙ ap (items_from bytes (loop_byte ix l + 6)) e)
      go false = refl

  pub vertex_none : kind_of (le16 bytes (loop_byte ix l + 4)) ≡ LoopRecord → None ≡ vertex_of (loop_in bytes ix l).content
  unfolding loop_in
  vertex_none e = sym (ap (λ b. vertex_of (cond b (of_items (items_of (fields_at bytes (loop_byte ix l)))) (at_vertex (le32 bytes (loop_byte ix l + 6))))) (of_loop _ e))

  pub vertex_some : (v : ℕ) → kind_of (le16 bytes (loop_byte ix l + 4)) ≢ LoopRecord → v ≡ le32 bytes (loop_byte ix l + 6) → Some v ≡ vertex_of (loop_in bytes ix l).content
  unfolding loop_in
  vertex_some v n e =
      ap Some e
      ∙ sym (ap (λ b. vertex_of (cond b (of_items (items_of (fields_at bytes (loop_byte ix l)))) (at_vertex (le32 bytes (loop_byte ix l + 6))))) (of_no_loop _ n))
