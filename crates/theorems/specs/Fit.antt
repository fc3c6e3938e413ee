-- Loading, one record: what holds after each record taken.
use Rattle.std.specs.Prelude.{ℕ, ◌≤◌, true, false, List}
use Rattle.std.proofs.Math.Path.{◌≡◌}
use Rattle.std.proofs.Math.ListN.{length}
use Rattle.lists.specs.Lists.{◌∈◌}
use Rattle.rules.specs.declared.Kind.{Kind}
use Rattle.rules.specs.declared.Counts.{Counts}
use Rattle.rules.specs.Job.{Loop, Job}
use Rattle.rules.specs.Kinds.{right_position, limit_passed, fields_permitted}
use Rattle.rules.specs.Load.{selected_before, right_joints}
use Rattle.theorems.specs.Sound.{Counted, Limited, Sound}

-- the counts and the limits hold, the job is sound, loops come in part 4 and after a face
pub record Fit (c : Counts) (j : Job) : Type 0 where
  pub counted : Counted c j
  pub limited : Limited c
  pub sound : Sound j
  pub late : (l : Loop) → l ∈ j.loops → 4 ≤ c.part
  pub faced : c.part ≡ 4 → 1 ≤ length j.faces

-- what a record of kind k with fields x must have to be taken
pub record Taken (k : Kind) (x : List ℕ) (c : Counts) (j : Job) : Type 0 where
  pub position : right_position k c.part ≡ true
  pub limit : limit_passed k c (length x) ≡ false
  pub permitted : fields_permitted k c x ≡ true
  pub new : selected_before k j.faces x ≡ false
  pub joints : right_joints k j.points j.edges x ≡ true
