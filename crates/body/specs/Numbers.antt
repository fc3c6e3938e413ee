-- Numbers from 0 given to the members of a list, in a table that has each number plus one, and 0 for none.
use Rattle.std.specs.Prelude.{ℕ, suc, ◌+◌, ◌-◌, ◌<◌, ◌≡◌, refl, ◌⊎◌, List, [], ◌∷◌, ◌++◌, map, false, cond, length, get_or, set, replicate, eqb}
use Rattle.std.proofs.lemmas.Bool.Decides.{nat_tests}
use Rattle.std.proofs.Math.Decide.{ℕ_discrete}
use Rattle.std.proofs.Common.{arith, sym, ap, ◌∙◌, inl, inr, ⊎_elim, eq-eqb, ne_eqb}
use mathlib.Core.List.Memᴰ
use Rattle.lists.specs.Lists.{◌∈◌, keep, position, index_of}
use Rattle.lists.specs.Constants.{get_or_constant}
use Rattle.lists.specs.Tables.{set_each, length_snoc}
use Rattle.rules.specs.declared.Edge.{Edge}
use Rattle.rules.specs.declared.EdgeData.{EdgeData}
use Rattle.rules.specs.declared.Item.{Item}
use Rattle.rules.specs.declared.Sense.TheVariants.{Same}
use Rattle.rules.specs.Job.{unset}
use Rattle.rules.specs.Edges.{FaceLoop}
use Rattle.rules.specs.Body.{vertex_of, with_vertices, loops_in}
use Rattle.edges.specs.Table.{item_in}
use Rattle.body.specs.declared.numbers.Numbers.{Numbers}

-- the entry of v: its number plus one, or none
abbrev pub Entry : List ℕ → ℕ → ℕ → Type 0
Entry l v x = ((v ∈ l) × (x ≡ suc (index_of v l))) ⊎ ((¬ (v ∈ l)) × (x ≡ 0))

-- the members of the list have numbers, so many
pub record Numbering (l t : List ℕ) (count : ℕ) : Type 0 where
  pub counted : count ≡ length l
  pub entries : (v : ℕ) → Entry l v (get_or t v 0)

-- the number of v by the table; without one, how many there are
unfoldable pub number_of : List ℕ → ℕ → ℕ → ℕ
number_of t count v = cond (eqb (get_or t v 0) 0) count (get_or t v 0 - 1)

-- the same by a table and its count together
abbrev pub number_in : Numbers → ℕ → ℕ
number_in n = number_of n.table.now n.count

-- the vertex of a fan, or none, by the numbers of the fans
unfoldable pub vertex_in : (ℕ → ℕ) → ℕ → ℕ
vertex_in number v = cond (eqb v unset) unset (number v)

-- an edge between vertices, by such numbers
abbrev pub placed : (ℕ → ℕ) → EdgeData → Edge
placed number x = record { curve = x.curve; sense = x.sense; start = vertex_in number x.start; end = vertex_in number x.end }

-- what a loop over edges reads past the last
abbrev pub blank : EdgeData
blank = record { curve = 0; sense = Same; start = 0; end = 0; faces = []; active = false }

-- an item, the items of a loop, and the loops of merged face f, by the numbers of the edges
abbrev pub renumbered_by : (ℕ → ℕ) → Item → Item
renumbered_by number x = record { edge = number x.edge; sense = x.sense }

abbrev pub items_by : (ℕ → ℕ) → List ℕ → List Item
items_by number part = map (renumbered_by number) (map item_in part)

abbrev pub loops_by : (ℕ → ℕ) → List FaceLoop → ℕ → List (List Item)
loops_by number ls f = map (λ l. map (renumbered_by number) l.items) (keep (λ l. eqb l.face f) ls)

-- INDICES

-- the place of a member in a longer list, of one more at the end, and of none
index_left : (x : ℕ) (l m : List ℕ) → x ∈ l → index_of x (l ++ m) ≡ index_of x l
unfolding position
index_left x [] m i = absurd (Memᴰ.not-nil i)
index_left x (y ∷ l) m i =
    elim (ℕ_discrete x y) [
      | yes e ↦ rw (eq-eqb x y e)
      | no n ↦ rw (ne_eqb x y n) (ap suc (index_left x l m (⊎_elim (λ e. absurd (n e)) (λ q. q) (Memᴰ.cases_cons i))))
    ]

index_none : (x : ℕ) (l : List ℕ) → ¬ (x ∈ l) → index_of x l ≡ length l
unfolding position
index_none x [] out = refl
index_none x (y ∷ l) out = rw (ne_eqb x y (λ e. out (Memᴰ.head e))) (ap suc (index_none x l (λ q. out (Memᴰ.tail q))))

index_last : (x : ℕ) (l : List ℕ) → ¬ (x ∈ l) → index_of x (l ++ (x ∷ [])) ≡ length l
unfolding position
index_last x [] out = rw (eq-eqb x x refl)
index_last x (y ∷ l) out = rw (ne_eqb x y (λ e. out (Memᴰ.head e))) (ap suc (index_last x l (λ q. out (Memᴰ.tail q))))

-- NUMBERING

-- none in a table all 0
pub numbering_none : (t : List ℕ) (n : ℕ) → t ≡ replicate n 0 → Numbering [] t 0
numbering_none t n e = record {
  counted = refl;
  entries = λ v. inr (Memᴰ.not-nil, ap (λ l. get_or l v 0) e ∙ get_or_constant n 0 v);
}

module _ (l t : List ℕ) (count : ℕ) (n : Numbering l t count) where
  -- an entry of 0 is of no member, another of a member
  pub entry_out : (v : ℕ) → get_or t v 0 ≡ 0 → ¬ (v ∈ l)
  entry_out v z m = ⊎_elim (λ w. absurd (omega (arith, w.1, z))) (λ w. w.0 m) (n.entries v)

  pub entry_in : (v : ℕ) → (get_or t v 0 ≡ 0 → ⊥) → v ∈ l
  entry_in v h = ⊎_elim (λ w. w.0) (λ w. absurd (h w.1)) (n.entries v)

  -- the number is the place in the list, or its length
  number_is : (v : ℕ) → number_of t count v ≡ index_of v l
  unfolding number_of
  number_is v =
      ⊎_elim
      (λ w. rw w.1 (grind (arith, nat_tests)))
      (λ w. rw w.1 (n.counted ∙ sym (index_none v l w.0)))
      (n.entries v)

  -- so the tables give what the lists give
  pub placed_is : placed (number_of t count) ≡ with_vertices l
  unfolding vertex_in
  placed_is =
      let vertex : (v : ℕ) → vertex_in (number_of t count) v ≡ vertex_of l v = λ v. ap (cond (eqb v unset) unset) (number_is v) in
      λ i x. record { curve = x.curve; sense = x.sense; start = vertex x.start i; end = vertex x.end i }

  pub loops_are : (ls : List FaceLoop) (f : ℕ) → loops_by (number_of t count) ls f ≡ loops_in l ls f
  loops_are ls f i = map (λ x. map (λ y. record { edge = number_is y.edge i; sense = y.sense }) x.items) (keep (λ x. eqb x.face f) ls)

  -- one more
  pub numbering_more : (v : ℕ) (t' : List ℕ) → v < length t → ¬ (v ∈ l) → t' ≡ set t v (count + 1) → Numbering (l ++ (v ∷ [])) t' (count + 1)
  numbering_more v t' low out e = record {
    counted = omega (arith, length_snoc l v, n.counted);
    entries = λ w. rw e
        (set_each (λ w x. Entry (l ++ (v ∷ [])) w x) t v (count + 1) 0 low
        (inl (Memᴰ.append_right l (Memᴰ.head refl), omega (arith, index_last v l out, n.counted))) w
        (λ ne.
        ⊎_elim
        (λ q. inl (Memᴰ.append_left (v ∷ []) q.0, q.1 ∙ ap suc (sym (index_left w l (v ∷ []) q.0))))
        (λ q. inr ((λ m. ⊎_elim q.0 (λ o. ne (Memᴰ.eq_of_singleton o)) (Memᴰ.append_cases l m)), q.1))
        (n.entries w)));
  }
