-- A group gone through by its chain.
use Rattle.std.specs.Prelude.{◌≡◌, List, ℕ, zero, suc, ◌-◌, ◌≤◌, ◌<◌, length, get_or, eqb, refl}
use Rattle.std.proofs.Common.{arith, sym, ap, ◌∙◌, subst}
use Rattle.lists.specs.Lists.{◌∈◌, below, keep}
use Rattle.lists.specs.Membership.{get_or_in}
use Rattle.lists.specs.Members.{keep_length}
use Rattle.lists.specs.Runs.{length_below}
use Rattle.rules.specs.Groups.{label_of, members_of, lowest_members, Lowest}
use Rattle.rules.proofs.GroupLaws.{lowest_members_in}
use Rattle.members.specs.Chain.{members_from, rest_of, members_other, Leads, Chaining}

-- groups by lowest member, and each number's next of its group
pub record Chained (groups next : List ℕ) : Type 0 where
  pub few : length groups ≤ 256
  pub lowest : Lowest groups
  pub size : length next ≡ length groups
  pub nexts : (k : ℕ) → k < length groups → Leads groups next k

pub chained_all : (groups first next : List ℕ) (i : ℕ) → length groups ≤ 256 → Lowest groups → Chaining groups first next i → i ≤ 0 → Chained groups next
chained_all groups first next i few lowest C all = record { few = few; lowest = lowest; size = C.size; nexts = λ k. C.nexts k (omega (arith, all)) }

-- the lowest member of a group
pub record Leading (groups : List ℕ) (m : ℕ) : Type 0 where
  pub inside : m < length groups
  pub own : label_of groups m ≡ m

-- a merged face's label leads its group
pub leading_at : (groups members : List ℕ) (f m : ℕ) → members ≡ lowest_members groups → f < length members → m ≡ get_or members f 0 → Leading groups m
leading_at groups members f m own h e =
    let r = lowest_members_in groups m (subst (λ l. m ∈ l) own (subst (λ x. x ∈ members) (sym e) (get_or_in members f 0 h))) in
    record { inside = r.0; own = r.1 }

-- from the lowest member on there are all, and no more than the numbers
pub members_all : {groups next : List ℕ} (g : List ℕ) (m : ℕ) → Chained groups next → groups ≡ g → Leading g m → (rest_of groups m ≡ members_of g m) × (length (members_of g m) ≤ 256)
unfolding members_from
members_all {groups = groups} g m C e L =
    let z : length g - 0 ≡ length g = omega arith in (
      rw e (ap (λ l. members_from g l m) L.own ∙ passed m (omega (arith, L.inside)) ∙ ap (λ n. keep (λ k. eqb (label_of g k) m) (below n)) z),
      omega (arith, C.few, ap length e, keep_length (λ k. eqb (label_of g k) m) (below (length g)), length_below (length g)),
    )
  where
    passed : (d : ℕ) → d ≤ m → members_from g m d ≡ members_from g m 0
    passed zero h = refl
    passed (suc d) h =
        let low : d < length groups = omega (arith, L.inside, ap length e) in
        let low' : d < length g = omega (arith, L.inside) in
        sym (members_other g m d low' (λ o. absurd (omega (arith, o, C.lowest.low d low, ap (λ l. label_of l d) e)))) ∙ passed d (omega arith)
