-- Laws of the lowest place: nothing touches, or a lowest one does; the edges up to the first that touches.
use Rattle.std.specs.Prelude.{ℕ, ◌≤◌, ◌<◌, ◌≡◌, refl, Bool, true, false, List, [], ◌∷◌, length, ltb}
use Rattle.std.proofs.Common.{arith, sym, ap, ◌∙◌, ⊎_elim, true≢false, ltb-true, ltb-false}
use mathlib.Core.List.Memᴰ
use Rattle.std.proofs.Math.ListN.{get_or-eq_default}
use Rattle.lists.specs.Lists.{below, ◌∈◌, keep}
use Rattle.lists.specs.Tests.{both_ways}
use Rattle.lists.specs.Runs.{in_below, below_in}
use Rattle.lists.specs.Members.{in_keep, keep_in}
use Rattle.lists.specs.Counts.{keep_nothing}
use Rattle.lists.specs.Leasts.{least_is}
use Rattle.rules.specs.declared.Fault.{Fault}
use Rattle.rules.specs.Outcome.{Ok, refuse, Outcome}
use Rattle.rules.specs.Groups.{Lowest}
use Rattle.rules.proofs.GroupLaws.{label_below}
use Rattle.rules.specs.Contact.{clear}
use Rattle.contact.specs.Clear.{LowLabels}

-- the labels of at most 256 faces, each that of a lowest face, are below 256
pub lowest_low : {g : List ℕ} → Lowest g → length g ≤ 256 → LowLabels g
lowest_low {g} low le f =
    ⊎_elim
    (λ t. omega (arith, label_below low f (ltb-true f (length g) t)))
    (λ t. omega (arith, get_or-eq_default g 0 {n = f} (ltb-false f (length g) t)))
    (both_ways (ltb f (length g)))

pub clear_none : (fault : Fault) (l : List ℕ) → ((y : ℕ) → y ∈ l → ⊥) → ◌≡◌ {A = Outcome (Unit {0})} (Ok tt) (clear fault l)
clear_none fault [] none = refl
clear_none fault (x ∷ l) none = absurd (none x (Memᴰ.head refl))

-- a place that no other is less than
pub clear_least : (fault : Fault) (l : List ℕ) (place : ℕ) → place ∈ l → ((y : ℕ) → y ∈ l → place ≤ y) → refuse fault place ≡ clear fault l
clear_least fault [] place m low = absurd (Memᴰ.not-nil m)
clear_least fault (x ∷ l) place m low = ap (refuse fault) (sym (least_is x l x place m low))

-- none of the numbers below e passes
abbrev pub NoneBelow : (ℕ → Bool) → ℕ → Type 0
NoneBelow p e = (j : ℕ) → j < e → p j ≡ false

-- none passes so far: the first that passes, none at all
module _ (p : ℕ → Bool) (e : ℕ) (none : NoneBelow p e) where
  pub none_stop : (fault : Fault) (n : ℕ) → e < n → p e ≡ true → refuse fault e ≡ clear fault (keep p (below n))
  none_stop fault n lt t =
      clear_least fault (keep p (below n)) e (in_keep p (in_below n e lt) t)
      (λ y m. ⊎_elim (λ u. absurd (true≢false (sym (keep_in p (below n) y m).1 ∙ none y (ltb-true y e u)))) (λ u. ltb-false y e u) (both_ways (ltb y e)))

  pub none_done : (fault : Fault) (n : ℕ) → n ≤ e → ◌≡◌ {A = Outcome (Unit {0})} (Ok tt) (clear fault (keep p (below n)))
  none_done fault n le = ap (clear fault) (sym (keep_nothing p (below n) (λ x m. none x (omega (arith, below_in n x m)))))
