-- Items cut one after the other from the front of some bytes.
use Prim.Native.Nat.{ℕ, zero, suc, ◌+◌, ◌*◌, ◌-◌, ◌^◌, ◌<◌, ◌≤◌}
use Rattle.std.proofs.Common.{not-suc-le-zero, le_refl, arith, ◌∙◌, drop_at}
use Rattle.std.specs.Prelude.{◌≡◌}
use Rattle.std.proofs.Math.Path.{refl, sym, ap}
use mathlib.Core.List.Memᴰ
use mathlib.Core.List.{List, [], ◌∷◌, ◌++◌, flat_map, append_assoc, append-nil}
use Rattle.std.proofs.Math.ListN.{length, drop, length-drop, length-append}
use Rattle.std.proofs.lemmas.List.Edits.{sets}
use Rattle.lists.specs.Lists.{◌∈◌}
use Rattle.fields.specs.Wrote.{Wrote, wrote_none, wrote_more}

-- the items at the front, by what stands there and how many bytes it takes, at most so many
unfoldable pub cut_from : {A : Type 0} → (List ℕ → A) → (List ℕ → ℕ) → ℕ → List ℕ → List A
cut_from item size zero rest = []
cut_from item size (suc most) [] = []
cut_from item size (suc most) (b ∷ bs) = item (b ∷ bs) ∷ cut_from item size most (drop (size (b ∷ bs)) (b ∷ bs))

-- all items; each takes a byte at least
abbrev pub cut_all : {A : Type 0} → (List ℕ → A) → (List ℕ → ℕ) → List ℕ → List A
cut_all item size bytes = cut_from item size (length bytes) bytes

module _ {A : Type 0} (item : List ℕ → A) (size : List ℕ → ℕ) (some : (rest : List ℕ) → 1 ≤ size rest) where
  -- any bound from the length on gives the same items
  enough : (n m : ℕ) (rest : List ℕ) → length rest ≤ n → length rest ≤ m → cut_from item size n rest ≡ cut_from item size m rest
  unfolding cut_from
  enough zero zero rest h k = refl
  enough zero (suc m) [] h k = refl
  enough zero (suc m) (b ∷ bs) h k = absurd (not-suc-le-zero h)
  enough (suc n) zero [] h k = refl
  enough (suc n) zero (b ∷ bs) h k = absurd (not-suc-le-zero k)
  enough (suc n) (suc m) [] h k = refl
  enough (suc n) (suc m) (b ∷ bs) h k =
      ap {B = List A} (λ r. item (b ∷ bs) ∷ r)
      (enough n m (drop (size (b ∷ bs)) (b ∷ bs))
      (omega (arith, length-drop (size (b ∷ bs)) (b ∷ bs), some (b ∷ bs)))
      (omega (arith, length-drop (size (b ∷ bs)) (b ∷ bs), some (b ∷ bs))))

  -- the item at the front, then those after it
  pub cut_more : (rest : List ℕ) → 0 < length rest → cut_all item size rest ≡ item rest ∷ cut_all item size (drop (size rest) rest)
  unfolding cut_from
  cut_more [] h = absurd (not-suc-le-zero h)
  cut_more (b ∷ bs) h =
      ap {B = List A} (λ r. item (b ∷ bs) ∷ r)
      (enough (length bs) _ (drop (size (b ∷ bs)) (b ∷ bs))
      (omega (arith, length-drop (size (b ∷ bs)) (b ∷ bs), some (b ∷ bs)))
      (le_refl _))

  cut_none : (rest : List ℕ) → length rest ≤ 0 → cut_all item size rest ≡ []
  unfolding cut_from
  cut_none [] h = refl
  cut_none (b ∷ bs) h = absurd (not-suc-le-zero h)

  -- items that were put one after the other are found again
  pub cut_put : (bytes : A → List ℕ) (xs : List A) → ((x : A) → x ∈ xs → (more : List ℕ) → (item (bytes x ++ more) ≡ x) × (size (bytes x ++ more) ≡ length (bytes x)))
      → cut_all item size (flat_map bytes xs) ≡ xs
  unfolding flat_map
  cut_put bytes [] back = cut_none [] (omega arith)
  cut_put bytes (x ∷ xs) back =
      let more : List ℕ = flat_map bytes xs in
      let b = back x (Memᴰ.head refl) more in
      let s : size (bytes x ++ more) ≡ length (bytes x) = b.1 in
      cut_more (bytes x ++ more) (omega (arith, length-append (bytes x) more, s, some (bytes x ++ more)))
      ∙ (λ i. b.0 i ∷ cut_all item size (drop (s i) (bytes x ++ more)))
      ∙ ap {B = List A} (λ l. x ∷ cut_all item size l) (drop_at (bytes x) more (length (bytes x)) refl)
      ∙ ap {B = List A} (λ l. x ∷ l) (cut_put bytes xs (λ y m. back y (Memᴰ.tail m)))

-- A TEXT FOR EACH ITEM

module _ {A : Type 0} (item : List ℕ → A) (size : List ℕ → ℕ) (text : A → List ℕ) (before : List ℕ) (at : ℕ) (bytes : List ℕ) where
  -- the items before the rest are written, those of the rest are left; no item has more than six characters for each byte, and the
  -- last one may claim more bytes than there are
  pub record Going (rest after : List ℕ) (p : ℕ) : Type 0 where
    pub done : List ℕ
    pub wrote : Wrote before at done after p
    pub whole : flat_map text (cut_all item size bytes) ≡ done ++ flat_map text (cut_all item size rest)
    pub few : 0 < length rest → p + 6 * length rest ≤ at + 6 * length bytes
    pub most : p ≤ at + 6 * length bytes + 6 * 2 ^ 36

  pub going_start : Going bytes before at
  going_start = record { done = []; wrote = wrote_none before at; whole = refl; few = λ h. le_refl _; most = omega arith }

  pub going_step : ((rest : List ℕ) → 1 ≤ size rest) → ((rest : List ℕ) → length (text (item rest)) ≤ 6 * size rest) → (rest next mid after : List ℕ) (p q n : ℕ) → Going rest mid p
      → 0 < length rest → n ≡ size rest → n ≤ 2 ^ 36 → next ≡ drop n rest → Wrote mid p (text (item rest)) after q → Going next after q
  unfolding flat_map
  going_step some short rest next mid after p q n G lt en small e w =
      let here : List ℕ = text (item rest) in
      let left : length next ≡ length rest - n = ap length e ∙ length-drop n rest in
      let on : cut_all item size rest ≡ item rest ∷ cut_all item size next =
      cut_more item size some rest lt ∙ ap {B = List A} (λ l. item rest ∷ cut_all item size l) (ap (λ k. drop k rest) (sym en) ∙ sym e) in
      record {
        done = G.done ++ here;
        wrote = wrote_more before mid after G.done here at p q G.wrote w;
        whole = G.whole ∙ ap (λ l. G.done ++ flat_map text l) on ∙ sym (append_assoc G.done here (flat_map text (cut_all item size next)));
        few = λ h. omega (arith, G.few lt, short rest, w.1, left, en, h);
        most = omega (arith, G.few lt, short rest, w.1, en, small);
      }

  pub going_end : (rest after : List ℕ) (p : ℕ) → Going rest after p → length rest ≤ 0 → Wrote before at (flat_map text (cut_all item size bytes)) after p
  unfolding flat_map cut_from
  going_end [] after p G h =
      let all : flat_map text (cut_all item size bytes) ≡ G.done = G.whole ∙ append-nil G.done in
      (G.wrote.0 ∙ ap (sets before at) (sym all), G.wrote.1 ∙ ap (λ l. at + length l) (sym all))
  going_end (b ∷ bs) after p G h = absurd (not-suc-le-zero h)
