-- Request Two of document 02, the print-shop profile: "Shops with resin printers accept only boundaries where each edge has two uses and each
-- point one fan." What its sewing promises of every job is `PrintPromises` at the end.
use Rattle.std.specs.Prelude.{ℕ, ◌%◌, ◌<◌, ◌≤◌, ◌≡◌, ◌⊎◌, ◌↔◌, Bool, true, false, List, [], ◌∷◌, length, eqb}
use Rattle.lists.specs.Lists.{◌∈◌}
use Rattle.rules.specs.declared.Fault.{Fault}
use Rattle.rules.specs.declared.Fault.TheVariants.{SamePredecessor, NoTwin, Unanswered, AnswerUndecided, NormalsVanish, NotRound}
use Rattle.rules.specs.declared.Fault.TheVariants.{PairsInBoundary, FansInBoundary, FansInLump, PairsInLump, ManyUses, ManyFans}
use Rattle.rules.specs.declared.Refusal.{Refusal}
use Rattle.rules.specs.declared.Table.{Table}
use Rattle.rules.specs.declared.Use.{Use}
use Rattle.rules.specs.Outcome.{Outcome, Ok, Err, refuse}
use Rattle.rules.specs.Sense.{same_sense}
use Rattle.rules.specs.Job.{Job}
use Rattle.rules.specs.Load.{loaded}
use Rattle.rules.specs.Read.{uses_of, use_at}
use Rattle.rules.specs.Pair.{uses_of_edge}
use Rattle.rules.specs.Rules.{with_table, ordinary, print_shop}
use Rattle.rules.specs.Fans.{fan_point}
use Rattle.rules.specs.Sew.{Walked, walked, Fanned, fans_of, sewn}
use Rattle.theorems.specs.Promises.{Promises}

-- THE SAME ENDING, OR 41, OR 42

-- every job ends as in ordinary sewing, or with 41, or with 42: the first outcome is the second, or one of the two refusals of the profile
abbrev pub SameBut : {A : Type 0} → Outcome A → Outcome A → Type 0
SameBut print plain = (print ≡ plain) ⊎ (((e : ℕ) × (print ≡ refuse ManyUses e)) ⊎ ((p : ℕ) × (print ≡ refuse ManyFans p)))

-- NEITHER FAULT

-- how many uses an edge has
abbrev pub uses_at : Job → ℕ → ℕ
uses_at j e = length (uses_of_edge (uses_of j) e)

-- each point has one fan at most
abbrev pub OneFan : Fanned → Type 0
OneFan f = (a b : ℕ) → a ∈ f.names → b ∈ f.names → fan_point f.starts a ≡ fan_point f.starts b → a ≡ b

-- a job with neither fault: where it loads, no edge has more than two uses; where its walks are known, each point has one fan at most
pub record FaultFree (job : List ℕ) : Type 0 where
  pub uses : (j : Job) → loaded job ≡ Ok j → (e : ℕ) → e < length j.edges → uses_at j e ≤ 2
  pub fans : (j : Job) (w : Walked) → loaded job ≡ Ok j → walked ordinary j ≡ Ok w → OneFan (fans_of j w)

-- an edge has two uses, or none
abbrev pub TwoOrNone : Job → ℕ → Type 0
TwoOrNone j e = (uses_at j e ≡ 0) ⊎ (uses_at j e ≡ 2)

-- "each edge has two uses and each point one fan": an edge may have no use, and a point no fan
pub record Clean (j : Job) (w : Walked) : Type 0 where
  pub uses : (e : ℕ) → e < length j.edges → TwoOrNone j e
  pub fans : OneFan (fans_of j w)

-- 41 AND 42

-- some uses pair: there are none, or two in different senses
abbrev pub Pairs : List Use → List ℕ → Type 0
Pairs us [] = Unit {0}
Pairs us (a ∷ []) = ⊥
Pairs us (a ∷ b ∷ []) = same_sense (use_at us a).sense (use_at us b).sense ≡ false
Pairs us (a ∷ b ∷ c ∷ more) = ⊥

-- "41, edge with more than two uses, tested right after 11 for that edge, place the edge": their number is even, and the uses of each lower edge pair
pub record ManyUsesAt (j : Job) (e : ℕ) : Type 0 where
  pub edge : e < length j.edges
  pub many : 2 < uses_at j e
  pub even : uses_at j e % 2 ≡ 0
  pub lower : (k : ℕ) → k < e → Pairs (uses_of j) (uses_of_edge (uses_of j) k)

-- more than one fan stands at point p
pub record TwoFansAt (f : Fanned) (p : ℕ) : Type 0 where
  pub one : ℕ
  pub other : ℕ
  pub fans : (one ∈ f.names) × (other ∈ f.names)
  pub different : one ≡ other → ⊥
  pub here : (fan_point f.starts one ≡ p) × (fan_point f.starts other ≡ p)

-- "42, a point with more than one fan, by ascending point, tested right after 30, place the point": the walks are known, and each edge has
-- two uses or none
pub record ManyFansAt (j : Job) (p : ℕ) : Type 0 where
  pub walk : Walked
  pub walks : walked ordinary j ≡ Ok walk
  pub two : (e : ℕ) → e < length j.edges → TwoOrNone j e
  pub many : TwoFansAt (fans_of j walk) p
  pub lower : (q : ℕ) → q < p → TwoFansAt (fans_of j walk) q → ⊥

-- a refusal is neither of the two
abbrev pub AnotherFault : Refusal → Type 0
AnotherFault r = (r.fault ≡ ManyUses → ⊥) × (r.fault ≡ ManyFans → ⊥)

-- WHAT CANNOT ARISE

-- "so 31 cannot arise in this profile", nor can 30, 32 and 33; an edge with more than two uses puts no radial question (kind 7), so that 12, 13,
-- and 20 to 23 of kind 7 cannot either (22 has kind 8 in all sewing, and 23 is of radial lists alone)
abbrev pub never_of : Fault → ℕ → Bool
never_of SamePredecessor place = true
never_of NoTwin place = true
never_of NotRound place = true
never_of PairsInBoundary place = true
never_of FansInBoundary place = true
never_of FansInLump place = true
never_of PairsInLump place = true
never_of Unanswered place = eqb place 7
never_of AnswerUndecided place = eqb place 7
never_of NormalsVanish place = eqb place 7
never_of other place = false

abbrev pub cannot_arise : Refusal → Bool
cannot_arise r = never_of r.fault r.place

-- WHAT IS PROMISED

-- what print-shop sewing promises of a job, whatever the room in the output
pub record PrintPromises (job : List ℕ) : Type 0 where
  -- what sewing promises for any rules, demand 3 among it
  pub promises : Promises print_shop job
  -- every job ends as in ordinary sewing, or with 41, or with 42
  pub ends : (room : ℕ) → SameBut (sewn print_shop job room) (sewn ordinary job room)
  -- "For an accepted job it writes the ordinary body"
  pub body : (room : ℕ) (bytes : List ℕ) → sewn print_shop job room ≡ Ok bytes → sewn ordinary job room ≡ Ok bytes
  -- "a job with neither fault ends as it does in ordinary sewing"
  pub free : FaultFree job → (room : ℕ) → sewn print_shop job room ≡ sewn ordinary job room
  -- they "accept only boundaries where each edge has two uses and each point one fan": the walks of an accepted job are known, and are so
  pub clean : (room : ℕ) (bytes : List ℕ) → sewn print_shop job room ≡ Ok bytes → (j : Job) → loaded job ≡ Ok j
      → (w : Walked) × (walked ordinary j ≡ Ok w) × Clean j w
  -- a job that loads is refused with 41 at an edge exactly where the edge has more than two uses, an even number, and the uses of each lower edge pair
  pub many_uses : (j : Job) → loaded job ≡ Ok j → (room e : ℕ) → (sewn print_shop job room ≡ refuse ManyUses e) ↔ ManyUsesAt j e
  -- and with 42 at a point exactly where its walks are known, each edge has two uses or none, and that is the lowest point with more than one fan
  pub many_fans : (j : Job) → loaded job ≡ Ok j → (room p : ℕ) → (sewn print_shop job room ≡ refuse ManyFans p) ↔ ManyFansAt j p
  -- some refusals of ordinary sewing cannot arise
  pub never : (room : ℕ) (r : Refusal) → sewn print_shop job room ≡ Err r → cannot_arise r ≡ false
  -- 41 and 42 arise only in this profile: with no joining table does sewing give them
  pub only : (t : Table) (room : ℕ) (r : Refusal) → sewn (with_table t) job room ≡ Err r → AnotherFault r
