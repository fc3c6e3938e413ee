-- What follows from what is known: sizes within the limits, labels that are lowest members, and the walks of the definitions.
use Rattle.std.specs.Prelude.{ℕ, ◌<◌, ◌≤◌, ◌≡◌, refl, List, Bool, length}
use Rattle.std.proofs.Common.{arith, sym, ap, subst, ◌∙◌}
use Rattle.rules.specs.declared.Use.{Use}
use Rattle.rules.specs.declared.KeptVertexLoop.{KeptVertexLoop}
use Rattle.rules.specs.Outcome.{Ok}
use Rattle.rules.proofs.OutcomeLaws.{bind_on}
use Rattle.rules.specs.Job.{Job}
use Rattle.rules.specs.Read.{face_of_use}
use Rattle.lists.specs.Lists.{below, keep, sum_of}
use Rattle.lists.specs.Runs.{length_below}
use Rattle.lists.specs.Members.{keep_length}
use Rattle.rules.specs.Groups.{Lowest, is_lowest, lowest_members}
use Rattle.rules.specs.declared.Rules.{Rules}
use Rattle.rules.specs.Pair.{pair}
use Rattle.rules.specs.Merge.{merge_faces, merged_faces, removed_uses}
use Rattle.rules.specs.VertexLoops.{vertex_loops}
use Rattle.rules.specs.Walk.{circuits}
use Rattle.rules.specs.Sew.{walks_of}
use Rattle.theorems.specs.Sound.{Sound}
use Rattle.theorems.specs.Linked.{Twins, Linked}
use Rattle.theorems.proofs.Loading.{loaded_limits, loaded_sound, faces_few}
use Rattle.theorems.proofs.Reading.{use_face_below}
use Rattle.theorems.proofs.Pairing.{pairs_fully}
use Rattle.rules.proofs.SizeLaws.{boundaries_length}
use Rattle.theorems.proofs.Connected.{boundaries_lowest}
use Rattle.theorems.proofs.Merging.{merged_length, merged_lowest}
use Rattle.theorems.specs.Circuits.{Permuted}
use Rattle.theorems.proofs.Circuits.{linked_permuted}
use Rattle.theorems.specs.Demand3.{Settled as SettledRules}
use Rattle.theorems.specs.Ground.{Ground}
use Rattle.theorems.proofs.Ground.{ground}
use Rattle.loaded.specs.Opened.{Loads}
use Rattle.merge_faces.specs.FaceTables.{FaceTables}
use Rattle.progress.specs.Known.{Paired, Grouped, merged_in, walked_in, Settled, Walking}

-- LOADED

module _ {j : Job} (l : Loads j) where
  pub loads_sound : Sound j
  loads_sound = loaded_sound l.bytes j l.loads

  pub loads_loops : length j.loops ≤ 1024
  loads_loops = let c = loaded_limits l.bytes j l.loads in omega (arith, c.1.loops, c.2.loops)

  pub loads_edges : length j.edges ≤ 1024
  loads_edges = let c = loaded_limits l.bytes j l.loads in omega (arith, c.1.edges, c.2.edges)

  loads_faces : length j.faces ≤ 256
  loads_faces = faces_few l.bytes j l.loads

-- PAIRED

module _ {rules : Rules} {j : Job} {us : List Use} {ts : List ℕ} (P : Paired rules j us ts) where
  pub paired_few : length us ≤ 2048
  paired_few = omega (arith, (loads_sound P.loads).few, ap length P.uses)

  pub paired_twins : Twins us ts
  paired_twins = pairs_fully rules.profile j.answers us ts (length j.edges) (omega (arith, paired_few)) P.pairs

  face_below : (h : ℕ) → h < length us → face_of_use us h < length j.faces
  face_below = subst (λ (u : List Use). (h : ℕ) → h < length u → face_of_use u h < length j.faces) (sym P.uses) (use_face_below j (loads_sound P.loads))

-- MERGED

module _ {rules : Rules} {j : Job} {us : List Use} {ts : List ℕ} {m : FaceTables} (G : Grouped rules j us ts m) where
  pub grouped_lowest : Lowest m.groups
  grouped_lowest = merged_lowest rules.table j.answers j.faces us ts _ G.merges (face_below G.paired) (paired_twins G.paired).below

  bounded_lowest : Lowest m.boundaries
  bounded_lowest = subst Lowest (sym G.tables.boundaries) (boundaries_lowest us ts (length j.faces) (face_below G.paired) (paired_twins G.paired).below)

  groups_length : length m.groups ≡ length j.faces
  groups_length = merged_length rules.table j.answers j.faces us ts _ G.merges

  pub labels_length : length m.boundaries ≡ length j.faces
  labels_length = ap length G.tables.boundaries ∙ boundaries_length us ts (length j.faces)

  -- with the uses removed, this is merging
  grouped_merges : (rm : List Bool) → rm ≡ removed_uses us ts m.groups → merge_faces rules.table j.answers j.faces us ts ≡ Ok (merged_in m rm)
  unfolding merge_faces
  grouped_merges rm e = bind_on _ G.merges ∙ (λ i. Ok (record { boundaries = sym G.tables.boundaries i; groups = m.groups; joins = m.joins; removed = sym e i }))

-- SETTLED

module _ {rules : Rules} {j : Job} {us : List Use} {ts : List ℕ} {m : FaceTables} {kept : List KeptVertexLoop} {rm : List Bool} {ss : List ℕ} {count total : ℕ}
    (S : Settled rules j us ts m kept rm ss count total) where
  abbrev G : Grouped rules j us ts m
  G = S.keeps.grouped

  settled_rules : SettledRules rules j (walked_in us ts m rm kept)
  unfolding walks_of
  settled_rules = record {
    pairs = sym (ap (λ u. pair rules.profile j.answers u (length j.edges)) G.paired.uses) ∙ G.paired.pairs;
    surfaces = sym (ap (λ u. merge_faces rules.table j.answers j.faces u ts) G.paired.uses) ∙ grouped_merges G rm S.removed;
    vertices = ap (λ n. vertex_loops j.answers j.points n j.loops) (sym G.tables.numbers) ∙ S.keeps.vertices;
    walks = ap (λ u. walks_of u ts (merged_in m rm) kept) G.paired.uses;
  }

  -- what they give to the stages after them
  settled_ground : Ground j (walked_in us ts m rm kept)
  settled_ground = ground rules G.paired.loads.bytes j (walked_in us ts m rm kept) G.paired.loads.loads settled_rules

  pub settled_linked : Linked us ts rm m.groups
  unfolding walks_of
  settled_linked = settled_ground.linked

  pub settled_permuted : Permuted (length us) rm ss
  settled_permuted = subst (Permuted (length us) rm) (sym S.follows) (linked_permuted settled_linked)

  -- there are as many successors as uses
  pub settled_steps : Permuted (length ss) rm ss
  settled_steps = rw settled_permuted.size settled_permuted

  pub settled_few : length ss ≤ 2048
  settled_few = omega (arith, settled_permuted.size, paired_few G.paired)

-- A JOB WITH ITS WALKS, AND THE TABLES THAT HOLD IT

-- what the tables have of the walks of the definitions, and what is known of these
pub record Seen (v : Walking) (set : Rules) (j : Job) (us : List Use) (ts : List ℕ) (m : FaceTables) (ks : List KeptVertexLoop) (rm : List Bool) (ss : List ℕ) (count total : ℕ) : Type 0 where
  pub rules : set ≡ v.rules
  pub job : j ≡ v.job
  pub uses : us ≡ v.walked.uses
  pub twins : ts ≡ v.walked.twins
  pub boundaries : m.boundaries ≡ v.walked.merge.boundaries
  pub groups : m.groups ≡ v.walked.merge.groups
  pub joins : m.joins ≡ v.walked.merge.joins
  pub numbers : m.numbers ≡ merged_faces v.walked.merge
  pub members : m.members ≡ lowest_members v.walked.merge.groups
  pub kept : ks ≡ v.walked.vertex_loops
  pub removed : rm ≡ v.walked.merge.removed
  pub succ : ss ≡ v.walked.successors
  pub circuits : circuits rm ss ≡ v.walked.circuits
  pub gone : count ≡ length (keep (λ gone. gone) v.walked.merge.removed)
  pub passed : total ≡ sum_of (λ k. k) v.walked.passed
  pub few_kept : length ks ≤ 1024
  pub lowest_boundaries : Lowest v.walked.merge.boundaries
  pub lowest_groups : Lowest v.walked.merge.groups
  pub faces : length v.walked.merge.boundaries ≤ 256
  pub few_members : length (lowest_members v.walked.merge.groups) ≤ 256
  pub ground : Ground v.job v.walked
  pub loads : Loads v.job

module _ {rules : Rules} {j : Job} {us : List Use} {ts : List ℕ} {m : FaceTables} {ks : List KeptVertexLoop} {rm : List Bool} {ss : List ℕ} {count total : ℕ}
    (S : Settled rules j us ts m ks rm ss count total) where
  pub seen : {v : Walking} → record { rules = rules; job = j; walked = walked_in us ts m rm ks } ≡ v → Seen v rules j us ts m ks rm ss count total
  unfolding walks_of
  seen {v} e = subst (λ x. Seen x rules j us ts m ks rm ss count total) e (record {
    rules = refl;
    job = refl;
    uses = refl;
    twins = refl;
    boundaries = refl;
    groups = refl;
    joins = refl;
    numbers = S.keeps.grouped.tables.numbers;
    members = S.keeps.grouped.tables.members;
    kept = refl;
    removed = refl;
    succ = S.follows;
    circuits = ap (circuits rm) S.follows;
    gone = S.gone;
    passed = S.passed;
    few_kept = omega (arith, S.keeps.few, loads_loops S.keeps.grouped.paired.loads);
    lowest_boundaries = bounded_lowest S.keeps.grouped;
    lowest_groups = grouped_lowest S.keeps.grouped;
    faces = omega (arith, labels_length S.keeps.grouped, loads_faces S.keeps.grouped.paired.loads);
    few_members = omega (
      arith,
      keep_length (is_lowest m.groups) (below (length m.groups)),
      length_below (length m.groups),
      groups_length S.keeps.grouped,
      loads_faces S.keeps.grouped.paired.loads,
    );
    ground = settled_ground S;
    loads = S.keeps.grouped.paired.loads;
  })
