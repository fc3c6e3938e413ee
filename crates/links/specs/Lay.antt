-- Linked loops laid out again, each from its head round to its head, one loop after the other.
use Prim.Native.Nat.{ℕ, zero, suc, ◌+◌, ◌-◌, ◌≤◌, ◌<◌}
use native.Mathlib.Omega.{arith}
use Rattle.std.proofs.Math.Decide.{ℕ_discrete}
use Rattle.std.proofs.Common.{not-suc-le-zero, add-one, sym, ap, subst, ◌∙◌, append-nil, drop_of_length-le}
use Rattle.std.specs.Prelude.{◌≡◌, List, ◌++◌, length, get_or, set}
use Rattle.std.proofs.Math.Path.{refl}
use Rattle.std.proofs.lemmas.List.{length-map}
use Rattle.std.proofs.lemmas.List.Edits.{sets, sets-eq}
use Rattle.std.proofs.Math.Seq.{length-sets}
use borrow.Rule.Slice.PartMut.{put_mid, put_same}
use Rattle.fields.specs.declared.Span.{Span}
use Rattle.fields.specs.Spans.{span_at}
use Rattle.lists.specs.Stretches.{stretch, length_stretch, own_part, before_part}
use Rattle.edges.specs.Table.{loop_at, Laid}
use Rattle.links.specs.Tables.{LinkTables, follow, IsLoop, size_at, codes_at, ring_at}
use Rattle.links.specs.Chains.{length_follow}
use Rattle.lists.specs.StoreRuns.{sets_part}

-- ONE LOOP

pub lay_step : (codes nexts l m w : List ℕ) (i e p q x : ℕ) → sets l i (codes_at codes (follow nexts p (e - i))) ≡ w → i < e → x ≡ get_or codes p 0 → q ≡ get_or nexts p 0 → m ≡ set l i x
    → sets m (i + 1) (codes_at codes (follow nexts q (e - (i + 1)))) ≡ w
unfolding follow
lay_step codes nexts l m w i e p q x h b ex eq em =
    let n : ℕ = e - (i + 1) in
    let z : suc n ≡ e - i = omega arith in
    let s : i + 1 ≡ suc i = add-one i in
    (λ k. sets ((em ∙ ap (set l i) ex) k) (s k) (codes_at codes (follow nexts (eq k) n))) ∙ ap (λ k. sets l i (codes_at codes (follow nexts p k))) z ∙ h

-- ALL LOOPS

-- a run of stores over a whole list
sets_whole : (l r : List ℕ) → length r ≡ length l → sets l 0 r ≡ r
sets_whole l r h = sets-eq r l 0 (omega arith) ∙ ap (λ t. r ++ t) (drop_of_length-le l {i = 0 + length r} (omega arith)) ∙ append-nil r

-- a run of stores as a part rewritten
ring_size : (codes nexts : List ℕ) (x n : ℕ) → length (codes_at codes (follow nexts x n)) ≡ n
ring_size codes nexts x n = length-map (follow nexts x n) (λ s. get_or codes s 0) ∙ length_follow nexts x n

-- a loop's own stretch is its items, from the head on
pub lay_done : (codes nexts l₀ l : List ℕ) (head i p : ℕ) → sets l i (codes_at codes (follow nexts p (length l₀ - i))) ≡ sets l₀ 0 (codes_at codes (follow nexts head (length l₀ - 0))) → length l₀ ≤ i
    → l ≡ codes_at codes (follow nexts head (length l₀))
unfolding follow
lay_done codes nexts l₀ l head i p h b =
    let none : 0 ≡ length l₀ - i = omega arith in
    let all : length l₀ - 0 ≡ length l₀ = omega arith in
    ap (λ k. sets l i (codes_at codes (follow nexts p k))) none ∙ h ∙ ap (λ k. sets l₀ 0 (codes_at codes (follow nexts head k))) all
    ∙ sets_whole l₀ (codes_at codes (follow nexts head (length l₀))) (ring_size codes nexts head (length l₀))

-- an earlier loop ends before a later one starts
pub laid_before : (stretches : List Span) (items : List ℕ) → Laid stretches items → (j k : ℕ) → j < k → k < length stretches → (span_at stretches j).end ≤ (span_at stretches k).start
laid_before stretches items laid j zero h q = absurd (not-suc-le-zero h)
laid_before stretches items laid j (suc k) h q =
    let next = ap (λ i. (span_at stretches i).start) (add-one k) in
    elim (ℕ_discrete j k) [
      | yes p ↦ omega (arith, laid.apart k (omega arith), ap (λ i. (span_at stretches i).end) p)
      | no n ↦ omega (arith, laid_before stretches items laid j k (omega (arith, n)) (omega arith), laid.order k (omega arith), laid.apart k (omega arith))
    ]

-- the loops below k laid out in a list
unfoldable pub laid_upto : List ℕ → List ℕ → List ℕ → List Span → List ℕ → ℕ → List ℕ
laid_upto codes nexts heads stretches items zero = items
laid_upto codes nexts heads stretches items (suc k) =
    sets (laid_upto codes nexts heads stretches items k) (span_at stretches k).start (codes_at codes (follow nexts (get_or heads k 0) (size_at stretches k)))

-- every loop laid out
abbrev pub laid_out : List ℕ → List ℕ → List ℕ → List Span → List ℕ → List ℕ
laid_out codes nexts heads stretches items = laid_upto codes nexts heads stretches items (length stretches)

-- by linked tables
abbrev pub laid_by : LinkTables → List ℕ → List ℕ
laid_by t items = laid_out t.codes t.nexts t.heads t.stretches items

module _ (codes nexts heads : List ℕ) (stretches : List Span) (items₀ : List ℕ) where
  pub upto_none : items₀ ≡ laid_upto codes nexts heads stretches items₀ 0
  unfolding laid_upto
  upto_none = refl

  pub length_upto : (k : ℕ) → length (laid_upto codes nexts heads stretches items₀ k) ≡ length items₀
  unfolding laid_upto
  length_upto zero = refl
  length_upto (suc k) =
      length-sets (laid_upto codes nexts heads stretches items₀ k) (span_at stretches k).start (codes_at codes (follow nexts (get_or heads k 0) (size_at stretches k)))
      ∙ length_upto k

  module _ (laid : Laid stretches items₀) where
    part : (k : ℕ) → IsLoop stretches k
        → laid_upto codes nexts heads stretches items₀ (suc k)
        ≡ put_mid (span_at stretches k).start (size_at stretches k) (laid_upto codes nexts heads stretches items₀ k) (codes_at codes (follow nexts (get_or heads k 0) (size_at stretches k)))
    unfolding laid_upto
    part k q =
        sym (sets_part (span_at stretches k).start (span_at stretches k).end (laid_upto codes nexts heads stretches items₀ k)
        (codes_at codes (follow nexts (get_or heads k 0) (size_at stretches k))) (laid.order k q) (omega (arith, laid.inside k q, length_upto k))
        (ring_size codes nexts (get_or heads k 0) (size_at stretches k)))

    -- the loop k laid out in its own stretch
    pub upto_part : (items own : List ℕ) (k head : ℕ) → k < length stretches → items ≡ laid_upto codes nexts heads stretches items₀ k → head ≡ get_or heads k 0
        → own ≡ codes_at codes (follow nexts head (length (loop_at items (span_at stretches k))))
        → put_mid (span_at stretches k).start (size_at stretches k) items own ≡ laid_upto codes nexts heads stretches items₀ (k + 1)
    upto_part items own k head q e eh eo =
        let inside : (span_at stretches k).end ≤ length items = omega (arith, laid.inside k q, ap length e ∙ length_upto k) in
        let ring : own ≡ codes_at codes (follow nexts head (size_at stretches k)) =
        eo ∙ ap (λ n. codes_at codes (follow nexts head n)) (length_stretch items (span_at stretches k).start (span_at stretches k).end inside) in
        (λ i. put_mid (span_at stretches k).start (size_at stretches k) (e i) ((ring ∙ ap (λ h. codes_at codes (follow nexts h (size_at stretches k))) eh) i))
        ∙ sym (part k q) ∙ ap (laid_upto codes nexts heads stretches items₀) (sym (add-one k))

    -- what lies in the stretches of the loops below k
    loops_upto : (k : ℕ) → k ≤ length stretches → (j : ℕ) → j < k
        → loop_at (laid_upto codes nexts heads stretches items₀ k) (span_at stretches j) ≡ codes_at codes (follow nexts (get_or heads j 0) (size_at stretches j))
    loops_upto zero h j b = absurd (not-suc-le-zero b)
    loops_upto (suc k) h j b =
        let q : IsLoop stretches k = omega arith in
        let p : IsLoop stretches j = omega arith in
        let a : ℕ = (span_at stretches k).start in
        let e : ℕ = (span_at stretches k).end in
        let l : List ℕ = laid_upto codes nexts heads stretches items₀ k in
        let ring : List ℕ = codes_at codes (follow nexts (get_or heads k 0) (size_at stretches k)) in
        let size : length ring ≡ e - a = ring_size codes nexts (get_or heads k 0) (size_at stretches k) in
        let inside : e ≤ length l = omega (arith, laid.inside k q, length_upto k) in
        elim (ℕ_discrete j k) [
          | yes w ↦ subst (λ i. loop_at (laid_upto codes nexts heads stretches items₀ (suc k)) (span_at stretches i) ≡ codes_at codes (follow nexts (get_or heads i 0) (size_at stretches i))) (sym w)
              (ap (λ m. stretch m a e) (part k q) ∙ own_part a e l ring (laid.order k q) inside size)
          | no n ↦
              ap (λ m. loop_at m (span_at stretches j)) (part k q)
              ∙ before_part a e l ring (laid.order k q) inside size (span_at stretches j).start (span_at stretches j).end (laid.order j p)
              (laid_before stretches items₀ laid j k (omega (arith, n)) q)
              ∙ loops_upto k (omega arith) j (omega (arith, n))
        ]

    -- where each loop already lies in its stretch, nothing changes
    same_upto : ((j : ℕ) → IsLoop stretches j → codes_at codes (follow nexts (get_or heads j 0) (size_at stretches j)) ≡ loop_at items₀ (span_at stretches j)) → (k : ℕ) → k ≤ length stretches
        → laid_upto codes nexts heads stretches items₀ k ≡ items₀
    unfolding laid_upto
    same_upto same zero h = refl
    same_upto same (suc k) h =
        let q : IsLoop stretches k = omega arith in
        part k q
        ∙ (λ i. put_mid (span_at stretches k).start (size_at stretches k) (same_upto same k (omega arith) i) (same k q i))
        ∙ put_same (span_at stretches k).start (size_at stretches k) items₀

-- BY LINKED TABLES

pub length_laid : (t : LinkTables) (items : List ℕ) → length (laid_by t items) ≡ length items
length_laid t items = length_upto t.codes t.nexts t.heads t.stretches items (length t.stretches)

-- each loop lies in its stretch
pub laid_loops_lem : (t : LinkTables) (items : List ℕ) → Laid t.stretches items → (k : ℕ) → IsLoop t.stretches k → loop_at (laid_by t items) (span_at t.stretches k) ≡ ring_at t k
laid_loops_lem t items laid k q = loops_upto t.codes t.nexts t.heads t.stretches items laid (length t.stretches) (omega arith) k (omega arith)

pub laid_same : (t : LinkTables) (items : List ℕ) → Laid t.stretches items → ((k : ℕ) → IsLoop t.stretches k → ring_at t k ≡ loop_at items (span_at t.stretches k)) → laid_by t items ≡ items
laid_same t items laid same = same_upto t.codes t.nexts t.heads t.stretches items laid same (length t.stretches) (omega arith)
