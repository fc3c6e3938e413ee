-- Uses that pair up have at most half as many edges.
use Rattle.std.specs.Prelude.{ℕ, ◌*◌, ◌<◌, ◌≤◌, ◌≡◌, refl, List, [], ◌∷◌, ◌++◌, map, Bool, not, length, ltb}
use Rattle.std.proofs.Common.{arith, sym, ap, subst, ◌∙◌, ⊎_elim, length-append, ltb-true}
use mathlib.Core.List.Memᴰ
use Rattle.std.proofs.lemmas.List.{length-map}
use Rattle.lists.specs.Lists.{below, ◌∈◌, Nodup}
use Rattle.lists.specs.Tests.{and_both}
use Rattle.lists.specs.Membership.{nodup_append}
use Rattle.lists.specs.Runs.{below_in, below_nodup, pigeon_below}
use Rattle.lists.specs.Members.{keep_in, keep_nodup, map_in}
use Rattle.rules.specs.Pair.{twin_of}
use Rattle.rules.specs.Merge.{is_removed}
use Rattle.rules.specs.Edges.{lower_kept, lower_uses}
use Rattle.edges.specs.Made.{Mated}

-- what is one-to-one on a list without repeats gives none
map_nodup : (f : ℕ → ℕ) (l : List ℕ) → Nodup l → ((x y : ℕ) → x ∈ l → y ∈ l → f x ≡ f y → x ≡ y) → Nodup (map f l)
map_nodup f [] nd one = tt
map_nodup f (x ∷ l) nd one = (
  λ m. let r = map_in f l (f x) m in nd.0 (Memᴰ.cast (one x r.0 (Memᴰ.head refl) (Memᴰ.tail r.1) r.2) r.1),
  map_nodup f l nd.1 (λ y z p q. one y z (Memᴰ.tail p) (Memᴰ.tail q)),
)

module _ (ts : List ℕ) (rm : List Bool) (M : Mated ts rm) where
  -- a lower use, and that it is below its twin
  lower_is : (h : ℕ) → h ∈ lower_uses ts rm → (h < length ts) × (h < twin_of ts h)
  lower_is h m =
      let r = keep_in (lower_kept ts rm) (below (length ts)) h m in
      (below_in (length ts) h r.0, ltb-true h (twin_of ts h) (and_both (not (is_removed rm h)) (ltb h (twin_of ts h)) r.1).1)

  lowers_once : Nodup (lower_uses ts rm)
  lowers_once = keep_nodup (lower_kept ts rm) (below (length ts)) (below_nodup (length ts))

  one_twin : (x y : ℕ) → x ∈ lower_uses ts rm → y ∈ lower_uses ts rm → twin_of ts x ≡ twin_of ts y → x ≡ y
  one_twin x y p q e = sym (M.twice x (lower_is x p).0) ∙ ap (twin_of ts) e ∙ M.twice y (lower_is y q).0

  -- no lower use is a twin of one
  apart : (x : ℕ) → x ∈ lower_uses ts rm → x ∈ map (twin_of ts) (lower_uses ts rm) → ⊥
  apart x p q =
      let r = map_in (twin_of ts) (lower_uses ts rm) x q in
      let a = lower_is x p in
      let b = lower_is r.0 r.1 in
      let back : twin_of ts x ≡ r.0 = ap (twin_of ts) r.2 ∙ M.twice r.0 b.0 in
      omega (arith, a.1, b.1, back, r.2)

  pub half_of_uses : 2 * length (lower_uses ts rm) ≤ length ts
  half_of_uses =
      let both : List ℕ = lower_uses ts rm ++ map (twin_of ts) (lower_uses ts rm) in
      let few = pigeon_below (length ts) both
      (nodup_append (lower_uses ts rm) (map (twin_of ts) (lower_uses ts rm)) lowers_once (map_nodup (twin_of ts) (lower_uses ts rm) lowers_once one_twin) apart)
      (λ x m.
      ⊎_elim
      (λ p. (lower_is x p).0)
      (λ q. let r = map_in (twin_of ts) (lower_uses ts rm) x q in subst (λ y. y < length ts) (sym r.2) (M.within r.0 (lower_is r.0 r.1).0))
      (Memᴰ.append_cases (lower_uses ts rm) m)) in
      omega (arith, few, length-append (lower_uses ts rm) (map (twin_of ts) (lower_uses ts rm)), length-map (lower_uses ts rm) (twin_of ts))
