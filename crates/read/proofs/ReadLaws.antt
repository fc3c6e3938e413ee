-- Reading: one use of a loop, and one loop more.
use Rattle.std.specs.Prelude.{ℕ, suc, ◌+◌, ◌-◌, ◌<◌, ◌≤◌, ◌≡◌, refl, List, ◌++◌, length, take, drop}
use Rattle.std.proofs.Common.{arith, sym, ap, ◌∙◌, append_assoc, append-nil, length-append, length-take-le, take_all}
use Rattle.std.proofs.lemmas.List.{at_drop_more, at_drop_all}
use Rattle.std.proofs.lemmas.Slice.{take-put_mid}
use borrow.Rule.Slice.PartMut.{put_mid}
use Rattle.lists.specs.Cyclic.{next_place}
use Rattle.lists.specs.Stretches.{length_put}
use Rattle.rules.specs.declared.Sense.{Sense}
use Rattle.rules.specs.declared.Sense.TheVariants.{Same, Reversed}
use Rattle.rules.specs.declared.Item.{Item}
use Rattle.rules.specs.declared.Use.{Use}
use Rattle.rules.specs.Sense.{reverse, product, FourAnswers}
use Rattle.rules.proofs.SenseLaws.{answers_product}
use Rattle.rules.specs.Job.{Job, face_at}
use Rattle.rules.specs.Read.{traversed, content_items, loop_uses, read, uses_of, use_at}
use Rattle.theorems.specs.Reading.{item_at}
use Rattle.theorems.proofs.Reading.{traversed_length, reversed_at, loop_length, loop_at_lem}
use Rattle.loaded.specs.Told.{no_loop, loop_at}
use Rattle.read.specs.Places.{place_of}

-- A USE OF A LOOP

-- the item at a place of a loop as its face is selected
traversed_at : (s : Sense) (xs : List Item) (k : ℕ) → k < length xs
    → item_at (traversed s xs) k ≡ record { edge = (item_at xs (place_of s (length xs) k)).edge; sense = product (item_at xs (place_of s (length xs) k)).sense s }
traversed_at Same xs k h = λ i. record { edge = (item_at xs k).edge; sense = sym (product_same (item_at xs k).sense) i }
  where
    product_same : (s : Sense) → product s Same ≡ s
    product_same Same = refl
    product_same Reversed = refl
traversed_at Reversed xs k h = reversed_at xs k h ∙ (λ i. record { edge = (item_at xs (length xs - suc k)).edge; sense = sym (product_reversed (item_at xs (length xs - suc k)).sense) i })
  where
    product_reversed : (s : Sense) → product s Reversed ≡ reverse s
    product_reversed Same = refl
    product_reversed Reversed = refl

-- a loop has a use for each item
pub length_loop : (face first : ℕ) (s : Sense) (xs : List Item) → length (loop_uses face first first (traversed s xs)) ≡ length xs
length_loop face first s xs = loop_length face first first (traversed s xs) ∙ traversed_length s xs

-- a use as the code makes it, from the item at place p of n, is the one at its place of the loop
pub use_made : (xs : List Item) (face first n k p next : ℕ) (x : Item) (s sense : Sense) → n ≡ length xs → k < n → p ≡ place_of s n k → x ≡ item_at xs p → FourAnswers x.sense s sense
    → next ≡ first + next_place k n → record { edge = x.edge; face = face; sense = sense; next = next } ≡ use_at (loop_uses face first first (traversed s xs)) k
use_made xs face first n k p next x s sense en h ep ex es eq =
    sym
    (loop_at_lem face first ys k (omega (arith, turned))
    ∙ (λ i. record { edge = (item i).edge; face = face; sense = (item i).sense; next = (ap (λ m. first + next_place k m) (turned ∙ sym en) ∙ sym eq) i }))
  where
    ys : List Item
    ys = traversed s xs

    turned : length ys ≡ length xs
    turned = traversed_length s xs

    there : item_at xs (place_of s (length xs) k) ≡ x
    there = ap (λ m. item_at xs (place_of s m k)) (sym en) ∙ ap (item_at xs) (sym ep) ∙ sym ex

    item : item_at ys k ≡ record { edge = x.edge; sense = sense }
    item =
        traversed_at s xs k (omega arith) ∙ ap (λ (y : Item). record { edge = y.edge; sense = product y.sense s }) there
        ∙ ap (λ t. record { edge = x.edge; sense = t }) (sym (answers_product x.sense s sense es))

-- ALL LOOPS

-- the first h uses are there, and the loops from l on have the others
pub record Reading (job : Job) (uses : List Use) (h l : ℕ) : Type 0 where
  pub room : h ≤ length uses
  pub left : take h uses ++ read job.faces h (drop l job.loops) ≡ uses_of job

pub reading_none : (job : Job) (uses : List Use) → Reading job uses 0 0
reading_none job uses = record { room = omega arith; left = refl }

module _ (job : Job) (uses : List Use) (h l : ℕ) (r : Reading job uses h l) (size : length uses ≡ length (uses_of job)) where
  -- loop l, of n items, and those after it
  module _ (items : List Item) (n face : ℕ) (selected : Sense) (lt : l < length job.loops) (ei : items ≡ content_items (loop_at job.loops l).content) (en : n ≡ length items)
      (ef : face ≡ (loop_at job.loops l).face) (es : selected ≡ (face_at job.faces face).selected) where
    abbrev here : List Use
    here = loop_uses face h h (traversed selected items)

    abbrev later : List Use
    later = read job.faces (h + n) (drop (l + 1) job.loops)

    long : length here ≡ n
    long = length_loop face h selected items ∙ sym en

    split : (take h uses ++ here) ++ later ≡ uses_of job
    unfolding read
    split =
        append_assoc (take h uses) here later ∙ ap (λ k. take h uses ++ (here ++ read job.faces (h + k) (drop (l + 1) job.loops))) (sym long)
        ∙ (λ i.
        let us = loop_uses (ef i) h h (traversed ((es ∙ ap (λ f. (face_at job.faces f).selected) ef) i) (ei i)) in
        take h uses ++ (us ++ read job.faces (h + length us) (drop (l + 1) job.loops)))
        ∙ sym (at_drop_more (λ ls. take h uses ++ read job.faces h ls) job.loops l no_loop lt) ∙ r.left

    pub reading_room : h + n ≤ length uses
    reading_room = omega (arith, long, ap length split, length-append (take h uses ++ here) later, length-append (take h uses) here, length-take-le h uses r.room)

    pub reading_more : (part : List Use) → part ≡ here → Reading job (put_mid h (h + n - h) uses part) (h + n) (l + 1)
    reading_more part e =
        let room = r.room in
        let fits : length part ≡ h + n - h = omega (arith, ap length e, long) in
        record {
          room = omega (arith, reading_room, length_put h (h + n) uses part (omega arith) reading_room fits);
          left = ap (λ m. m ++ later) (take-put_mid h (h + n - h) uses part (h + n) (omega (arith, ap length e, long)) room ∙ ap (λ us. take h uses ++ us) e) ∙ split;
        }

  pub reading_all : length job.loops ≤ l → uses ≡ uses_of job
  unfolding read
  reading_all le =
      let e : take h uses ≡ uses_of job = sym (append-nil (take h uses)) ∙ sym (at_drop_all (λ ls. take h uses ++ read job.faces h ls) job.loops l le) ∙ r.left in
      sym (take_all h uses (omega (arith, size, ap length e, length-take-le h uses r.room))) ∙ e
