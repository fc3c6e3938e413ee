-- What is known of a loaded job between the stages.
use Rattle.std.specs.Prelude.{ℕ, ◌≤◌, ◌≡◌, List, Bool, length}
use Rattle.lists.specs.Lists.{keep, sum_of}
use Rattle.rules.specs.declared.Use.{Use}
use Rattle.rules.specs.declared.KeptVertexLoop.{KeptVertexLoop}
use Rattle.rules.specs.Outcome.{Ok}
use Rattle.rules.specs.Job.{Job}
use Rattle.rules.specs.Read.{uses_of}
use Rattle.rules.specs.Pair.{pair}
use Rattle.rules.specs.declared.Rules.{Rules}
use Rattle.rules.specs.Merge.{merged_groups, removed_uses, Merged}
use Rattle.rules.specs.VertexLoops.{vertex_loops}
use Rattle.rules.specs.Walk.{successors, passed_counts}
use Rattle.rules.specs.Sew.{Walked, walks_of}
use Rattle.loaded.specs.Opened.{Loads}
use Rattle.merge_faces.specs.FaceTables.{FaceTables, TablesOf}

-- its uses are read and paired
pub record Paired (rules : Rules) (j : Job) (us : List Use) (ts : List ℕ) : Type 0 where
  pub loads : Loads j
  pub uses : us ≡ uses_of j
  pub pairs : pair rules.profile j.answers us (length j.edges) ≡ Ok ts

-- its faces are merged
pub record Grouped (rules : Rules) (j : Job) (us : List Use) (ts : List ℕ) (m : FaceTables) : Type 0 where
  pub paired : Paired rules j us ts
  pub merges : merged_groups rules.table j.answers j.faces us ts ≡ Ok (record { groups = m.groups; joins = m.joins })
  pub tables : TablesOf us ts (length j.faces) m

-- what merging gave, as the definitions have it
abbrev pub merged_in : FaceTables → List Bool → Merged
merged_in m rm = record { boundaries = m.boundaries; groups = m.groups; joins = m.joins; removed = rm }

-- the walks, as the definitions have them
abbrev pub walked_in : List Use → List ℕ → FaceTables → List Bool → List KeptVertexLoop → Walked
walked_in us ts m rm kept = walks_of us ts (merged_in m rm) kept

-- the same, with the uses removed that these groups remove
abbrev pub merged_by : List Use → List ℕ → FaceTables → Merged
merged_by us ts m = merged_in m (removed_uses us ts m.groups)

-- its vertex loops are kept
pub record Kept (rules : Rules) (j : Job) (us : List Use) (ts : List ℕ) (m : FaceTables) (kept : List KeptVertexLoop) : Type 0 where
  pub grouped : Grouped rules j us ts m
  pub vertices : vertex_loops j.answers j.points m.numbers j.loops ≡ Ok kept
  pub few : length kept ≤ length j.loops

-- and its walks are known by their successors; how many uses are removed, and how many were passed over in total
pub record Settled (rules : Rules) (j : Job) (us : List Use) (ts : List ℕ) (m : FaceTables) (kept : List KeptVertexLoop) (rm : List Bool) (ss : List ℕ) (count total : ℕ) : Type 0 where
  pub keeps : Kept rules j us ts m kept
  pub removed : rm ≡ removed_uses us ts m.groups
  pub follows : ss ≡ successors us ts rm
  pub gone : count ≡ length (keep (λ gone. gone) rm)
  pub passed : total ≡ sum_of (λ k. k) (passed_counts us ts rm)

-- a job with its merged faces, by these rules
pub record Merging : Type 0 where
  pub rules : Rules
  pub job : Job
  pub uses : List Use
  pub twins : List ℕ
  pub merged : Merged

-- a job with its walks, by these rules
pub record Walking : Type 0 where
  pub rules : Rules
  pub job : Job
  pub walked : Walked
