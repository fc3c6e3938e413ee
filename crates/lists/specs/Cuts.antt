-- Lists put one after the other, and cut out again by the places where each starts.
use Prim.Native.Nat.{ℕ, zero, suc, ◌+◌, ◌-◌, ◌<◌, ◌≤◌}
use Rattle.std.proofs.Common.{add-one, arith, ◌∙◌}
use Rattle.std.specs.Prelude.{◌≡◌, get_or, drop}
use Rattle.std.proofs.Math.Path.{refl, sym, ap}
use mathlib.Core.List.{List, [], ◌∷◌, ◌++◌, map, flat_map, append_assoc}
use Rattle.std.proofs.Math.ListN.{length, take, length-append}
use Rattle.std.proofs.lemmas.List.{length-map, take-append-le}
use Rattle.std.proofs.Math.Seq.{take_at, drop-append-add, take-length, ext_get_or}
use Rattle.lists.specs.Lists.{from, below}
use Rattle.lists.specs.Runs.{length_table, get_or_table}
use Rattle.lists.specs.Members.{get_or_map}

-- the place where list i starts, when the lists of the members are put one after the other
unfoldable pub start_at : {A B : Type 0} → (A → List B) → List A → ℕ → ℕ
start_at f l i = length (flat_map f (take i l))

module _ {A B : Type 0} (f : A → List B) where
  pub start_none : (l : List A) → start_at f l 0 ≡ 0
  unfolding start_at flat_map
  start_none l = refl

  start_more : (x : A) (l : List A) (i : ℕ) → start_at f (x ∷ l) (suc i) ≡ length (f x) + start_at f l i
  unfolding start_at flat_map
  start_more x l i = length-append (f x) (flat_map f (take i l))

  -- after all lists
  pub start_end : (l : List A) → start_at f l (length l) ≡ length (flat_map f l)
  unfolding start_at
  start_end l = ap (λ m. length (flat_map f m)) (take-length l)

  -- one list more moves no start
  pub start_snoc : (l : List A) (x : A) (i : ℕ) → i ≤ length l → start_at f (l ++ (x ∷ [])) i ≡ start_at f l i
  unfolding start_at
  start_snoc l x i h = ap (λ m. length (flat_map f m)) (take-append-le i l (x ∷ []) h)

  start_nil : (i : ℕ) → start_at f [] i ≡ 0
  unfolding start_at flat_map
  start_nil zero = refl
  start_nil (suc i) = refl

  flat_more : (x : A) (l : List A) → length (flat_map f (x ∷ l)) ≡ length (f x) + length (flat_map f l)
  unfolding flat_map
  flat_more x l = length-append (f x) (flat_map f l)

  -- each list starts where the one before it ends
  pub start_next : (l : List A) (i : ℕ) (d : A) → i < length l → start_at f l (suc i) ≡ start_at f l i + length (f (get_or l i d))
  start_next [] i d h = absurd (omega arith)
  start_next (x ∷ l) zero d h = omega (arith, start_more x l 0, start_none l, start_none (x ∷ l))
  start_next (x ∷ l) (suc i) d h = omega (arith, start_next l i d (omega arith), start_more x l i, start_more x l (suc i))

  -- and none starts past the end of all
  pub start_within : (l : List A) (i : ℕ) → start_at f l i ≤ length (flat_map f l)
  start_within l zero = omega (arith, start_none l)
  start_within [] (suc i) = omega (arith, start_nil (suc i))
  start_within (x ∷ l) (suc i) = omega (arith, start_within l i, start_more x l i, flat_more x l)

  -- list i stands between its start and the next one's
  pub cut_at : (l : List A) (rest : List B) (i : ℕ) (d : A) → i < length l
      → take (start_at f l (suc i) - start_at f l i) (drop (start_at f l i) (flat_map f l ++ rest)) ≡ f (get_or l i d)
  unfolding flat_map
  cut_at [] rest i d h = absurd (omega arith)
  cut_at (x ∷ l) rest zero d h =
      let e : start_at f (x ∷ l) 1 - start_at f (x ∷ l) 0 ≡ length (f x) = omega (arith, start_more x l 0, start_none l, start_none (x ∷ l)) in
      (λ t. take (e t) (drop (start_none (x ∷ l) t) ((f x ++ flat_map f l) ++ rest)))
      ∙ ap (take (length (f x))) (append_assoc (f x) (flat_map f l) rest) ∙ take_at (f x) (flat_map f l ++ rest) (length (f x)) refl
  cut_at (x ∷ l) rest (suc i) d h =
      let e : start_at f (x ∷ l) (suc (suc i)) - start_at f (x ∷ l) (suc i) ≡ start_at f l (suc i) - start_at f l i = omega (arith, start_more x l i, start_more x l (suc i)) in
      (λ t. take (e t) (drop (start_more x l i t) (append_assoc (f x) (flat_map f l) rest t)))
      ∙ ap (take (start_at f l (suc i) - start_at f l i)) (drop-append-add (f x) (flat_map f l ++ rest) (start_at f l i))
      ∙ cut_at l rest i d (omega arith)

  -- cut by places that are the starts, a list gives the members' lists
  pub cuts : (l : List A) (w rest : List B) (a e : ℕ → ℕ) → w ≡ flat_map f l ++ rest → ((i : ℕ) → i < length l → a i ≡ start_at f l i) → ((i : ℕ) → i < length l → e i ≡ start_at f l (i + 1))
      → map (λ i. take (e i - a i) (drop (a i) w)) (below (length l)) ≡ map f l
  unfolding from
  cuts [] w rest a e q p r = refl
  cuts (x ∷ l) w rest a e q p r =
      ext_get_or [] (map (λ i. take (e i - a i) (drop (a i) w)) (below (length (x ∷ l)))) (map f (x ∷ l))
      (length_table (λ i. take (e i - a i) (drop (a i) w)) (length (x ∷ l)) ∙ sym (length-map (x ∷ l) f))
      (λ i h.
      let k : i < length (x ∷ l) = omega (arith, length_table (λ i. take (e i - a i) (drop (a i) w)) (length (x ∷ l))) in
      get_or_table (λ i. take (e i - a i) (drop (a i) w)) (length (x ∷ l)) i [] k
      ∙ (λ t. take ((r i k ∙ ap (start_at f (x ∷ l)) (add-one i)) t - p i k t) (drop (p i k t) (q t)))
      ∙ cut_at (x ∷ l) rest i x k ∙ sym (get_or_map f (x ∷ l) i [] x k))
