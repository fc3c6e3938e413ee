-- The fields of a payload that are left to test.
use Rattle.std.specs.Prelude.{ℕ, zero, suc, Bool, ◌+◌, ◌*◌, ◌<◌, ◌≤◌, ◌≡◌, List, Option, Some, None, ◌/◌, ◌%◌, ◌&&◌, true, length, drop, eqb, ltb}
use Rattle.std.proofs.Common.{arith, sym, ap, ◌∙◌, eqb-true}
use Rattle.std.specs.Iterator.{YieldsFirst}
use Rattle.std.proofs.Math.ListN.{drop_of_length-le}
use Rattle.std.proofs.Math.Bool.{and_assoc}
use Rattle.lists.specs.Lists.{all, from, below}
use Rattle.rules.specs.Fields.{field}
use Rattle.rules.specs.Kinds.{is_sense, items_permitted}
use Rattle.job.specs.ItemLaws.{fields_two}

-- a payload of so many bytes has so many fields
pub whole : (n m : ℕ) → eqb (4 * n) (4 * m) ≡ true → n ≡ m
whole n m e = let q = eqb-true (4 * n) (4 * m) e in omega arith

-- item i, then those after it
pub items_more : (edges i : ℕ) (x : List ℕ) → 2 * i + 1 < length x
    → items_permitted edges (drop (2 * i) x) ≡ (ltb (field x (2 * i)) edges && (is_sense (field x (2 * i + 1)) && items_permitted edges (drop (2 * (i + 1)) x)))
unfolding items_permitted
items_more edges i x h = ap (items_permitted edges) (fields_two x i h)

pub items_end : (edges i : ℕ) (x : List ℕ) → length x / 2 ≤ i → length x % 2 ≡ 0 → items_permitted edges (drop (2 * i) x) ≡ true
unfolding items_permitted
items_end edges i x h k = ap (items_permitted edges) (drop_of_length-le x (omega arith))

-- item i names an edge and has a sense
abbrev pub item_permitted : ℕ → List ℕ → ℕ → Bool
item_permitted edges x i = ltb (field x (2 * i)) edges && is_sense (field x (2 * i + 1))

-- so does each of n items from item a on, the last of the payload
permit_from : (edges : ℕ) (x : List ℕ) (a n : ℕ) → 2 * (a + n) ≡ length x → all (item_permitted edges x) (from a n) ≡ items_permitted edges (drop (2 * a) x)
unfolding all from
permit_from edges x a zero e = sym (items_end edges a x (omega arith) (omega arith))
permit_from edges x a (suc n) e =
    and_assoc (ltb (field x (2 * a)) edges) (is_sense (field x (2 * a + 1))) (all (item_permitted edges x) (from (suc a) n))
    ∙ ap (λ t. ltb (field x (2 * a)) edges && (is_sense (field x (2 * a + 1)) && t)) (permit_from edges x (suc a) n (omega arith) ∙ ap (λ k. items_permitted edges (drop (2 * k) x)) (add_one a))
    ∙ sym (items_more edges a x (omega arith))
  where
    add_one : (a : ℕ) → suc a ≡ a + 1
    add_one a = omega arith

pub permit_all : (edges : ℕ) (x : List ℕ) → length x % 2 ≡ 0 → all (item_permitted edges x) (below (length x / 2)) ≡ items_permitted edges x
permit_all edges x e = permit_from edges x 0 (length x / 2) (omega arith)

-- what an iterator leaves after the first, if there is one
pub rest_left : (numbers rest : List ℕ) (first : Option ℕ) → YieldsFirst (λ l. l) numbers first rest → rest ≡ drop 1 numbers
rest_left numbers rest None h = h.1 ∙ sym (ap (drop 1) h.0)
rest_left numbers rest (Some x) h = sym (ap (drop 1) h)
