-- Groups as a table of parents: which labels it stands for, also past its end, where a number reads as 0.
use Rattle.std.specs.Prelude.{ℕ, ◌≤◌, ◌<◌, ◌≡◌, List, ◌++◌, Bool, length, get_or, replicate}
use Rattle.rules.specs.Groups.{label_of, joined, separate}

-- no parent lies above its number
pub record Ordered (parents : List ℕ) : Type 0 where
  pub low : (i : ℕ) → get_or parents i 0 ≤ i

-- the labels are constant from a number to its parent, and a number that is its own parent is its own label
pub record Stands (parents ls : List ℕ) : Type 0 where
  pub size : length ls ≡ length parents
  pub ordered : Ordered parents
  pub up : (i : ℕ) → label_of ls (get_or parents i 0) ≡ label_of ls i
  pub top : (i : ℕ) → get_or parents i 0 ≡ i → label_of ls i ≡ i

-- a root was looked for: the table stands for the same labels, and the root is the label
pub record Rooted (before after : List ℕ) (start r : ℕ) : Type 0 where
  pub ordered : Ordered after
  pub size : length after ≡ length before
  pub small : r < 4294967296
  pub stands : (ls : List ℕ) → Stands before ls → (r ≡ label_of ls start) × Stands after ls

-- the groups of two numbers were joined
pub record JoinedIn (before after : List ℕ) (a b : ℕ) : Type 0 where
  pub ordered : Ordered after
  pub size : length after ≡ length before
  pub stands : (ls : List ℕ) → Stands before ls → Stands after (joined ls a b)

-- the answer of a join: the groups of the two numbers were separate
abbrev pub SeparateIn : List ℕ → ℕ → ℕ → Bool → Type 0
SeparateIn before a b r = (ls : List ℕ) → Stands before ls → r ≡ separate ls a b

-- labels in a table that is k numbers longer
abbrev pub padded : ℕ → List ℕ → List ℕ
padded k g = g ++ replicate k 0
