-- The corners end by end: how many ends stand at each fan, and the first and the last of them.
use Rattle.std.specs.Prelude.{ℕ, suc, ◌+◌, ◌*◌, ◌<◌, ◌≤◌, ◌≡◌, refl, List, [], ◌∷◌, ◌++◌, Bool, true, false, ◌&&◌, cond, length, get_or, take, eqb}
use Rattle.std.proofs.Common.{add-one, arith, sym, ap, ◌∙◌, length-set, length-take}
use Rattle.std.proofs.Common.{take-suc, take_all, length-take-le}
use Rattle.std.proofs.lemmas.Grind.{common_steps}
use Rattle.lists.specs.Lists.{sum_of}
use Rattle.lists.specs.Tables.{get_or_snoc_last, length_snoc}
use Rattle.lists.specs.Sums.{sum_nil, sum_cons}
use Rattle.rules.specs.declared.EdgeData.{EdgeData}
use Rattle.rules.specs.Join.{one_if, ends_from, ends_at}
use Rattle.theorems.specs.Ends.{ends_one}
use Rattle.theorems.proofs.Ends.{ends_sum}
use Rattle.maximal_edges.specs.declared.Corner.{Corner}
use Rattle.maximal_edges.specs.Joined.{corner_at, one_more, count_end, corner_with, Noted, Counted, Tabled}
use Rattle.maximal_edges.specs.PairLaws.{exactly_two}

-- ENDS, EDGE BY EDGE

one_if_append : (t : Bool) (k : ℕ) (l m : List ℕ) → one_if t k (l ++ m) ≡ one_if t k l ++ m
one_if_append t k l m = grind arith

-- the ends of one edge more
ends_snoc : (i k : ℕ) (es : List EdgeData) (d : EdgeData) (v : ℕ) → k ≡ i + length es
    → ends_from i (es ++ (d ∷ [])) v ≡ ends_from i es v ++ one_if (d.active && eqb d.start v) k (one_if (d.active && eqb d.end v) k [])
unfolding ends_from
ends_snoc i k [] d v e = let z : i ≡ k = omega arith in ap (λ n. one_if (d.active && eqb d.start v) n (one_if (d.active && eqb d.end v) n [])) z
ends_snoc i k (x ∷ es) d v e =
    let s : Bool = x.active && eqb x.start v in
    let t : Bool = x.active && eqb x.end v in
    let last : List ℕ = one_if (d.active && eqb d.start v) k (one_if (d.active && eqb d.end v) k []) in
    ap (λ l. one_if s i (one_if t i l)) (ends_snoc (suc i) k es d v (omega arith)) ∙ ap (one_if s i) (one_if_append t i (ends_from (suc i) es v) last)
    ∙ one_if_append s i (one_if t i (ends_from (suc i) es v)) last

-- at most two of an edge
ends_two : (e : EdgeData) (v : ℕ) → ends_one v e ≤ 2
unfolding ends_one
ends_two e v = grind arith

sum_two : (es : List EdgeData) (v : ℕ) → sum_of (ends_one v) es ≤ 2 * length es
sum_two [] v = omega (arith, sum_nil (ends_one v))
sum_two (e ∷ es) v = omega (arith, sum_cons (ends_one v) e es, sum_two es v, ends_two e v)

-- CORNERS, END BY END

-- one end more
with_more : (l : List ℕ) (e : ℕ) → one_more e (corner_with l) ≡ corner_with (l ++ (e ∷ []))
with_more [] e = refl
with_more (x ∷ l) e = grind (arith, common_steps, length_snoc l e, get_or_snoc_last l e 0)

-- one end more, of edge e at fan p
abbrev with_end : ℕ → ℕ → ℕ → List ℕ → List ℕ
with_end p e v l = cond (eqb p v) (l ++ (e ∷ [])) l

noted_more : {corners corners' : List Corner} (p e : ℕ) (f : ℕ → List ℕ) → Noted corners f → corners' ≡ count_end p e corners → Noted corners' (λ v. with_end p e v (f v))
noted_more {corners} {corners'} p e f k m = record {
  size = omega (arith, size, k.size);
  each = λ v h. ap (λ l. corner_at l v) m ∙ grind (arith, common_steps, k.each v, k.each p, with_more (f v) e, size);
}
  where
    size : length corners' ≡ length corners
    size = ap length m ∙ length-set corners p (one_more e (corner_at corners p))

-- HOW MANY

noted_few : {corners : List Corner} (p n : ℕ) (f : ℕ → List ℕ) → Noted corners f → length (f p) ≤ n → (corner_at corners p).ends ≤ n
noted_few {corners} p n f k h = grind (arith, common_steps, k.each p)

few_before : (es : List EdgeData) (e v : ℕ) → e ≤ 2048 → length (ends_at (take e es) v) ≤ 4096
few_before es e v h = omega (arith, ends_sum 0 (take e es) v, sum_two (take e es) v, length-take e es)

-- a count is small
pub count_small : (es : List EdgeData) {corners : List Corner} (e p : ℕ) → Counted es corners e → e ≤ 2048 → (corner_at corners p).ends < 4294967295
count_small es e p k h = omega (arith, noted_few p 4096 (λ v. ends_at (take e es) v) k (few_before es e p h))

-- and after an edge's start too
pub half_small : (es : List EdgeData) {corners corners' : List Corner} {e : ℕ} (p q : ℕ) → Counted es corners e → e ≤ 2048
    → corners' ≡ count_end p e corners → (corner_at corners' q).ends < 4294967295
half_small es {e = e} p q k h m =
    omega (arith, noted_few q 4097 (λ v. with_end p e v (ends_at (take e es) v)) (noted_more p e (λ v. ends_at (take e es) v) k m) (grind (arith, common_steps, few_before es e q h)))

-- ONE EDGE MORE

module _ (es : List EdgeData) (e : ℕ) (h : e < length es) (past : EdgeData) where
  abbrev d : EdgeData
  d = get_or es e past

  ends_more : (v : ℕ) → ends_at (take (e + 1) es) v ≡ ends_at (take e es) v ++ one_if (d.active && eqb d.start v) e (one_if (d.active && eqb d.end v) e [])
  ends_more v =
      ap (λ n. ends_at (take n es) v) (add-one e) ∙ ap (λ l. ends_at l v) (take-suc es e past h)
      ∙ ends_snoc 0 e (take e es) d v (omega (arith, length-take-le e es (omega arith)))

  -- an edge that is not active
  pub counted_idle : {corners : List Corner} → Counted es corners e → d.active ≡ false → Counted es corners (e + 1)
  counted_idle k idle = record {
    size = k.size;
    each = λ v b. k.each v b ∙ ap corner_with (sym (ends_more v ∙ grind (arith, common_steps)));
  }

  -- an active edge, its start and then its end
  pub counted_active : {corners corners' corners'' : List Corner} {p q : ℕ} → Counted es corners e → d.active ≡ true → p ≡ d.start → q ≡ d.end
      → corners' ≡ count_end p e corners → corners'' ≡ count_end q e corners' → Counted es corners'' (e + 1)
  counted_active {p = p} {q} k active ep eq m₁ m₂ =
      let f : ℕ → List ℕ = λ v. ends_at (take e es) v in
      let two = noted_more q e (λ v. with_end p e v (f v)) (noted_more p e f k m₁) m₂ in record {
        size = two.size;
        each = λ v b.
            two.each v b ∙ ap corner_with (sym (ends_more v ∙ grind (arith, common_steps)));
      }

-- all edges
pub counted_all : (es : List EdgeData) {corners : List Corner} (e : ℕ) → Counted es corners e → e ≡ length es → Tabled es corners
counted_all es {corners} e k q = record {
  size = k.size;
  counts = λ v h. ap (λ (c : Corner). c.ends) (all v h);
  pairs = λ v h two.
      exactly_two (ends_at es v) two ∙ grind (arith, all v);
}
  where
    all : (v : ℕ) → v < length corners → corner_at corners v ≡ corner_with (ends_at es v)
    all v h = k.each v h ∙ ap (λ l. corner_with (ends_at l v)) (take_all e es (omega arith))
