-- The Body record that the bytes of a body begin with, and what a body with faces was built of.
use Rattle.std.specs.Prelude.{ℕ, ◌≤◌, ◌≡◌}
use mathlib.Core.List.{List}
use Rattle.rules.specs.Outcome.{Ok}
use Rattle.rules.specs.Fields.{le16}
use Rattle.rules.specs.Job.{Job}
use Rattle.rules.specs.declared.Rules.{Rules}
use Rattle.rules.specs.Shells.{Shell, Nested, nested}
use Rattle.rules.specs.Body.{Totals, Body, body_kind}
use Rattle.rules.specs.Sew.{Joined, through_joining, shells_of, body_of}
use Rattle.theorems.specs.Demand3.{body_field}

-- FIELDS READ BACK

-- totals that are at most 2,048
pub record Small (t : Totals) : Type 0 where
  pub uses : t.uses ≤ 2048
  pub removed : t.removed ≤ 2048
  pub passed : t.passed ≤ 2048
  pub joins : t.joins ≤ 2048
  pub rings : t.rings ≤ 2048
  pub face_joins : t.face_joins ≤ 2048

-- the bytes begin with the Body record of totals
pub record Begins (bytes : List ℕ) (t : Totals) : Type 0 where
  pub kind : le16 bytes 4 ≡ 21
  pub solid : body_field bytes 0 ≡ body_kind t.solid
  pub uses : body_field bytes 1 ≡ t.uses
  pub removed : body_field bytes 2 ≡ t.removed
  pub passed : body_field bytes 3 ≡ t.passed
  pub joins : body_field bytes 4 ≡ t.joins
  pub rings : body_field bytes 5 ≡ t.rings
  pub face_joins : body_field bytes 6 ≡ t.face_joins

-- THE BODY OF AN ACCEPTED JOB

-- what the body of a job with faces is made of
pub record Solid (rules : Rules) (j : Job) (b : Body) : Type 0 where
  pub joined : Joined
  pub oriented : List Shell
  pub nests : List Nested
  pub joining : through_joining rules j ≡ Ok joined
  pub shells : shells_of j joined.fan.walk ≡ Ok oriented
  pub nesting : nested j.answers oriented ≡ Ok nests
  pub body : b ≡ body_of j joined nests
