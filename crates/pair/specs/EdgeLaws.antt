-- Pairing of one edge by how many uses it has.
use Rattle.std.specs.Prelude.{ℕ, ◌%◌, ◌<◌, ◌≡◌, List, [], ◌∷◌, length, eqb}
use Rattle.std.proofs.lemmas.List.{length-reverse}
use Rattle.std.proofs.Common.{◌≢◌, arith, refl, sym, ap, ◌∙◌}
use mathlib.Core.List.Memᴰ
use mathlib.Core.List.{reverse as backwards, reverse-reverse}
use Rattle.rules.specs.declared.Use.{Use}
use Rattle.rules.specs.declared.Profile.{Profile}
use Rattle.rules.specs.Outcome.{Ok, need}
use Rattle.rules.specs.Job.{Answer}
use Rattle.rules.specs.Pair.{on_edge, uses_of_edge, pair_two, pair_even, pair_uses, pair_edge}
use Rattle.lists.specs.Lists.{◌∈◌}
use Rattle.lists.specs.Members.{positions_in}
use Rattle.rules.specs.Read.{no_use}
use Rattle.rules.specs.declared.Fault.TheVariants.{OddUses}

-- one use, or more than two
uses_other : (profile : Profile) (answers : List Answer) (us : List Use) (e : ℕ) (ts hs : List ℕ) → length hs ≢ 0 → length hs ≢ 2
    → pair_uses profile answers us e hs ts ≡ need (eqb (length hs % 2) 0) OddUses e (pair_even profile answers us e hs ts)
unfolding pair_uses need
uses_other profile answers us e ts [] n m = absurd (n refl)
uses_other profile answers us e ts (a ∷ []) n m = refl
uses_other profile answers us e ts (a ∷ b ∷ []) n m = absurd (m refl)
uses_other profile answers us e ts (a ∷ b ∷ c ∷ hs) n m = refl

-- a use of an edge is one of the uses
use_below : (us : List Use) (e h : ℕ) → h ∈ uses_of_edge us e → h < length us
use_below us e h m = let q = positions_in (on_edge e) 0 us no_use h m in omega (arith, q.1)

-- as the chain of the edge gives them, the last first
module _ (profile : Profile) (answers : List Answer) (us : List Use) (e : ℕ) (ts chain : List ℕ) (on : chain ≡ backwards (uses_of_edge us e)) where
  turned : (l : List ℕ) → chain ≡ l → uses_of_edge us e ≡ backwards l
  turned l q = sym (reverse-reverse (uses_of_edge us e)) ∙ ap backwards (sym on ∙ q)

  pub pair_none : chain ≡ [] → pair_edge profile answers us e ts ≡ Ok ts
  unfolding pair_uses
  pair_none q = ap (λ hs. pair_uses profile answers us e hs ts) (turned [] q)

  pub pair_both : (a b : ℕ) → chain ≡ b ∷ a ∷ [] → pair_edge profile answers us e ts ≡ pair_two us e a b ts
  unfolding pair_uses
  pair_both a b q = ap (λ hs. pair_uses profile answers us e hs ts) (turned (b ∷ a ∷ []) q)

  pub both_below : (a b : ℕ) → chain ≡ b ∷ a ∷ [] → (a < length us) × (b < length us)
  both_below a b q =
      let all : uses_of_edge us e ≡ a ∷ b ∷ [] = turned (b ∷ a ∷ []) q in
      (use_below us e a (rw all (Memᴰ.head refl)), use_below us e b (rw all (Memᴰ.tail (Memᴰ.head refl))))

  pub pair_other : length chain ≢ 0 → length chain ≢ 2
      → need (eqb (length (uses_of_edge us e) % 2) 0) OddUses e (pair_even profile answers us e (uses_of_edge us e) ts) ≡ pair_edge profile answers us e ts
  pair_other n m =
      let l : length chain ≡ length (uses_of_edge us e) = ap length on ∙ length-reverse (uses_of_edge us e) in
      sym (uses_other profile answers us e ts (uses_of_edge us e) (λ q. n (l ∙ q)) (λ q. m (l ∙ q)))

pub ruleset by_count = (pair_none, pair_both, both_below)
