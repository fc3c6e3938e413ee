-- The edges made use by use: the table, and the edge that each kept use is of.
use Rattle.std.specs.Prelude.{ℕ, ◌+◌, ◌<◌, ◌≤◌, min, ◌≡◌, refl, ◌≢◌, List, [], ◌∷◌, ◌++◌, map, Bool, true, false, not, cond, length, get_or, set, take, ltb}
use Rattle.std.proofs.Common.{not-suc-le-zero, add-one, take-suc-set, arith, sym, ap, ◌∙◌, ⊎_elim, ltb-true}
use Rattle.std.proofs.lemmas.Grind.{common_steps}
use Rattle.lists.specs.Lists.{from, below, keep, index_of}
use Rattle.lists.specs.Tests.{both_ways, and_both}
use Rattle.lists.specs.Runs.{length_below}
use Rattle.lists.specs.Members.{keep_length, map_append}
use Rattle.lists.specs.Tables.{set_two, length_snoc}
use Rattle.lists.specs.Prefixes.{keep_below_yes, keep_below_no}
use Rattle.lists.specs.KeepBelow.{index_below}
use Rattle.rules.specs.declared.Edge.{Edge}
use Rattle.rules.specs.declared.Use.{Use}
use Rattle.rules.specs.declared.EdgeData.{EdgeData}
use Rattle.rules.specs.Pair.{twin_of}
use Rattle.rules.specs.Merge.{is_removed}
use Rattle.rules.specs.Edges.{lower_kept, lower_uses, edge_data, edges_of}

-- each use has a twin, another use, whose twin it is; both are removed or neither
pub record Mated (ts : List ℕ) (rm : List Bool) : Type 0 where
  pub within : (h : ℕ) → h < length ts → twin_of ts h < length ts
  pub twice : (h : ℕ) → h < length ts → twin_of ts (twin_of ts h) ≡ h
  pub other : (h : ℕ) → h < length ts → twin_of ts h ≡ h → ⊥
  pub together : (h : ℕ) → h < length ts → is_removed rm (twin_of ts h) ≡ is_removed rm h

-- the lower use of a pair
abbrev pub lower_of : List ℕ → ℕ → ℕ
lower_of ts h = min h (twin_of ts h)

-- what is made of use h, the edges so far being so many: nothing, or edge x, which both uses of the pair are of
pub record OneEdge (ts : List ℕ) (rm : List Bool) (x : EdgeData) (h count : ℕ) (rows₀ : List EdgeData) (owns₀ : List ℕ) (rows : List EdgeData) (owns : List ℕ) (r : ℕ) : Type 0 where
  pub table : rows ≡ cond (lower_kept ts rm h) (set rows₀ count x) rows₀
  pub owners : owns ≡ cond (lower_kept ts rm h) (set (set owns₀ h count) (twin_of ts h) count) owns₀
  pub next : r ≡ cond (lower_kept ts rm h) (count + 1) count

-- a store that is at most b keeps an entry at most b
set_at_most : (l : List ℕ) (i v k b : ℕ) → v ≤ b → get_or l k 0 ≤ b → get_or (set l i v) k 0 ≤ b
set_at_most l i v k b p q = grind (arith, common_steps)

-- the edges of the pairs whose lower use is below i
pub record SoFar (ts : List ℕ) (rm : List Bool) (make : ℕ → EdgeData) (owns₀ : List ℕ) (rows : List EdgeData) (owns : List ℕ) (count i : ℕ) : Type 0 where
  pub within : i ≤ length ts
  pub counted : count ≡ length (keep (lower_kept ts rm) (below i))
  pub edges : take count rows ≡ map make (keep (lower_kept ts rm) (below i))
  pub owners : Mated ts rm → (h : ℕ) → h < length ts → is_removed rm h ≡ false → lower_of ts h < i → get_or owns h 0 ≡ length (keep (lower_kept ts rm) (below (lower_of ts h)))
  pub few : (k : ℕ) → get_or owns₀ k 0 ≤ 2048 → get_or owns k 0 ≤ 2048

pub so_far_none : (ts : List ℕ) (rm : List Bool) (make : ℕ → EdgeData) (owns₀ : List ℕ) (rows : List EdgeData) → SoFar ts rm make owns₀ rows owns₀ 0 0
unfolding from keep
so_far_none ts rm make owns₀ rows = record {
  within = omega arith;
  counted = refl;
  edges = refl;
  owners = λ m h b k l. absurd (not-suc-le-zero l);
  few = λ k h. h;
}

-- a kept use whose pair's lower use is i
module _ (ts : List ℕ) (rm : List Bool) (mated : Mated ts rm) where
  lower_kept_lem : (h : ℕ) → h < length ts → is_removed rm h ≡ false → lower_kept ts rm (lower_of ts h) ≡ true
  lower_kept_lem h b k = grind (arith, common_steps)

  -- the uses of a pair are its lower use and the twin of that
  pair_of : (h i : ℕ) → h < length ts → lower_of ts h ≡ i → h ≢ i → h ≢ twin_of ts i → ⊥
  pair_of h i b e n m = grind (arith, common_steps)

module _ (ts : List ℕ) (rm : List Bool) (make : ℕ → EdgeData) (few_uses : length ts ≤ 2048) (owns₀ : List ℕ) where
  so_far_below : (rows : List EdgeData) (owns : List ℕ) (count i : ℕ) → SoFar ts rm make owns₀ rows owns count i → count ≤ i
  so_far_below rows owns count i s = omega (arith, s.counted, keep_length (lower_kept ts rm) (below i), length_below i)

  -- the number of edges so far is below that of uses
  pub so_far_few : (rows : List EdgeData) (owns : List ℕ) (count i : ℕ) → SoFar ts rm make owns₀ rows owns count i → i < length ts → count < 2048
  so_far_few rows owns count i s h = omega (arith, so_far_below rows owns count i s)

  more : (rows : List EdgeData) (owns : List ℕ) (count i : ℕ) → length ts ≤ length rows → length owns ≡ length ts → SoFar ts rm make owns₀ rows owns count i → i < length ts
      → lower_kept ts rm i ≡ true
      → SoFar ts rm make owns₀ (set rows count (make i)) (set (set owns i count) (twin_of ts i) count) (count + 1) (i + 1)
  more rows owns count i roomy sizes s h k =
      let kept : List ℕ = keep (lower_kept ts rm) (below i) in
      let longer : keep (lower_kept ts rm) (below (i + 1)) ≡ kept ++ (i ∷ []) = keep_below_yes (lower_kept ts rm) i k in
      let few : count < 2048 = so_far_few rows owns count i s h in
      let test = and_both (not (is_removed rm i)) (ltb i (twin_of ts i)) k in
      let lower : i < twin_of ts i = ltb-true i (twin_of ts i) test.1 in
      record {
        within = omega arith;
        counted = omega (arith, s.counted, ap length longer, length_snoc kept i);
        edges =
            ap (λ k. take k (set rows count (make i))) (add-one count) ∙ take-suc-set rows count (make i) (omega (arith, so_far_below rows owns count i s))
            ∙ ap (λ l. l ++ (make i ∷ [])) s.edges
            ∙ sym (ap (map make) longer ∙ map_append make kept (i ∷ []));
        owners = λ m g b u l.
            set_two (λ g v. g < length ts → is_removed rm g ≡ false → lower_of ts g < i + 1 → v ≡ length (keep (lower_kept ts rm) (below (lower_of ts g)))) owns i (twin_of ts i) count count 0
            (omega arith) (omega (arith, m.within i h)) (λ e. omega arith)
            (λ _ _ _. let e : i ≡ lower_of ts i = omega arith in s.counted ∙ ap (λ k. length (keep (lower_kept ts rm) (below k))) e)
            (λ _ _ _. let e : i ≡ lower_of ts (twin_of ts i) = omega (arith, m.twice i h) in s.counted ∙ ap (λ k. length (keep (lower_kept ts rm) (below k))) e)
            g
            (λ ni nt b u l. s.owners m g b u (let other = pair_of ts rm m g i b in grind (arith, other)))
            b u l;
        few = λ j q. set_at_most (set owns i count) (twin_of ts i) count j 2048 (omega arith) (set_at_most owns i count j 2048 (omega arith) (s.few j q));
      }

  less : (rows : List EdgeData) (owns : List ℕ) (count i : ℕ) → SoFar ts rm make owns₀ rows owns count i → i < length ts → lower_kept ts rm i ≡ false
      → SoFar ts rm make owns₀ rows owns count (i + 1)
  less rows owns count i s h k =
      let same : keep (lower_kept ts rm) (below (i + 1)) ≡ keep (lower_kept ts rm) (below i) = keep_below_no (lower_kept ts rm) i k in
      record {
        within = omega arith;
        counted = s.counted ∙ sym (ap length same);
        edges = s.edges ∙ sym (ap (map make) same);
        owners = λ m g b u l. s.owners m g b u (let low = lower_kept_lem ts rm m g b u in grind (arith, low));
        few = s.few;
      }

  -- one use more
  pub so_far_step : (rows : List EdgeData) (owns : List ℕ) (rows' : List EdgeData) (owns' : List ℕ) (count i r : ℕ) → length ts ≤ length rows → length owns ≡ length ts
      → SoFar ts rm make owns₀ rows owns count i → i < length ts
      → OneEdge ts rm (make i) i count rows owns rows' owns' r → SoFar ts rm make owns₀ rows' owns' r (i + 1)
  so_far_step rows owns rows' owns' count i r roomy sizes s h o =
      rw (o.table, o.owners, o.next)
      (⊎_elim (λ k. rw k (more rows owns count i roomy sizes s h k)) (λ k. rw k (less rows owns count i s h k)) (both_ways (lower_kept ts rm i)))

-- all of them: the edges, how many, and for each kept use the number of its pair's edge
pub record Made (es : List Edge) (us : List Use) (ts : List ℕ) (rm : List Bool) (numbers ss g owns₀ : List ℕ) (rows : List EdgeData) (owns : List ℕ) (r : ℕ) : Type 0 where
  pub edges : take r rows ≡ edges_of es us ts rm numbers ss g
  pub counted : r ≡ length (lower_uses ts rm)
  pub owners : Mated ts rm → (h : ℕ) → h < length ts → is_removed rm h ≡ false → get_or owns h 0 ≡ index_of (min h (twin_of ts h)) (lower_uses ts rm)
  pub few : (k : ℕ) → get_or owns₀ k 0 ≤ 2048 → get_or owns k 0 ≤ 2048

pub made : (es : List Edge) (us : List Use) (ts : List ℕ) (rm : List Bool) (numbers ss g owns₀ : List ℕ) (rows : List EdgeData) (owns : List ℕ) (r i : ℕ)
    → SoFar ts rm (edge_data es us ts numbers ss g) owns₀ rows owns r i → length ts ≤ i → Made es us ts rm numbers ss g owns₀ rows owns r
made es us ts rm numbers ss g owns₀ rows owns r i s h =
    let e : i ≡ length ts = omega (arith, s.within) in
    let all : keep (lower_kept ts rm) (below i) ≡ lower_uses ts rm = ap (λ n. keep (lower_kept ts rm) (below n)) e in
    record {
      edges = s.edges ∙ ap (map (edge_data es us ts numbers ss g)) all;
      counted = s.counted ∙ ap length all;
      owners = λ m h b u.
          let l : lower_of ts h < length ts = omega arith in
          s.owners m h b u (omega arith) ∙ sym (index_below (lower_kept ts rm) (length ts) (lower_of ts h) l (lower_kept_lem ts rm m h b u));
      few = s.few;
    }
