-- Groups of the numbers below n as a list of labels: a number's label is the lowest member of its group.
use Rattle.std.specs.Prelude.{ℕ, ◌+◌, min, max, List, map, Bool, not, cond, length, get_or, eqb, ◌≡◌, ◌≤◌, ◌<◌}
use Rattle.lists.specs.Lists.{below, keep, index_of}

-- each number alone in its group
abbrev pub alone : ℕ → List ℕ
alone n = below n

-- Merging: the lowest member stands for a group
abbrev pub label_of : List ℕ → ℕ → ℕ
label_of g i = get_or g i 0

-- a label after the group with label `from` went to that with label `to`
unfoldable pub moved : ℕ → ℕ → ℕ → ℕ
moved from to label = cond (eqb label from) to label

-- the groups of a and b become one
unfoldable pub joined : List ℕ → ℕ → ℕ → List ℕ
joined g a b = map (moved (max (label_of g a) (label_of g b)) (min (label_of g a) (label_of g b))) g

-- document 02, Six: joining two groups also answers whether they were separate before
abbrev pub separate : List ℕ → ℕ → ℕ → Bool
separate g a b = not (eqb (label_of g a) (label_of g b))

-- groups, and how many joins there were of two that were separate
pub record Grouping : Type 0 where
  pub groups : List ℕ
  pub joins : ℕ

-- the groups of a and b become one, and a join counts where they were separate
unfoldable pub join_groups : Grouping → ℕ → ℕ → Grouping
join_groups s a b = record { groups = joined s.groups a b; joins = s.joins + cond (separate s.groups a b) 1 0 }

-- the members of the group with a label, ascending
abbrev pub members_of : List ℕ → ℕ → List ℕ
members_of g label = keep (λ i. eqb (label_of g i) label) (below (length g))

-- a number is the lowest member of its group
abbrev pub is_lowest : List ℕ → ℕ → Bool
is_lowest g i = eqb (label_of g i) i

-- the lowest members, ascending
abbrev pub lowest_members : List ℕ → List ℕ
lowest_members g = keep (is_lowest g) (below (length g))

-- the groups numbered by ascending lowest member: each number's group
unfoldable pub group_numbers : List ℕ → List ℕ
group_numbers g = map (λ label. index_of label (lowest_members g)) g

-- no label lies above its number, and a label is its own label
pub record Lowest (g : List ℕ) : Type 0 where
  pub low : (i : ℕ) → i < length g → label_of g i ≤ i
  pub stands : (i : ℕ) → i < length g → label_of g (label_of g i) ≡ label_of g i
