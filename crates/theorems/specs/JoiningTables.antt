-- Request Eleven of document 02: which joining tables can be supplied, what a table changes of merging and what it does not, and what sewing
-- and the walk stage promise of a job with one.
use Rattle.std.specs.Prelude.{ℕ, ◌<◌, ◌≡◌, ◌⊎◌, ◌↔◌, Bool, true, false, List, [], ◌∷◌, cond, length, eqb}
use Rattle.rules.specs.declared.Face.{Face}
use Rattle.rules.specs.declared.Use.{Use}
use Rattle.rules.specs.declared.Table.{Table}
use Rattle.rules.specs.declared.SurfaceAnswer.{SurfaceAnswer}
use Rattle.rules.specs.declared.Refusal.{Refusal}
use Rattle.rules.specs.declared.Fault.TheVariants.{WrongTable}
use Rattle.rules.specs.Outcome.{Outcome, Ok, Err}
use Rattle.rules.specs.Job.{Answer, Job}
use Rattle.rules.specs.Load.{loaded}
use Rattle.rules.specs.Read.{uses_of}
use Rattle.rules.specs.Groups.{label_of, Grouping}
use Rattle.rules.specs.Pair.{pair}
use Rattle.rules.specs.Rules.{full_table, with_table, ordinary, permitted, byte_at, table_of}
use Rattle.rules.specs.Merge.{joins_faces, merged_groups}
use Rattle.rules.specs.Sew.{Walked}
use Rattle.theorems.specs.Demand3.{Settled, WalksHold}
use Rattle.theorems.specs.Promises.{Promises}

-- THE TABLES

-- a 1 stands only where document 01's merging rule joins: answer 1 joins only with equal senses, answer 2 only with different ones
pub record Permitted (t : Table) : Type 0 where
  pub agreeing : t.agreeing.different ≡ false
  pub opposed : t.opposed.equal ≡ false

-- each entry is 0 or 1
abbrev pub entry_byte : Bool → ℕ
entry_byte joins = cond joins 1 0

-- four bytes, rows by answer, columns equal then different
abbrev pub table_bytes : Table → List ℕ
table_bytes t =
    entry_byte t.agreeing.equal ∷ entry_byte t.agreeing.different ∷
    entry_byte t.opposed.equal ∷ entry_byte t.opposed.different ∷ []

-- a table that is taken is permitted, and was supplied by its own bytes
pub record Taken (bytes : List ℕ) (t : Table) : Type 0 where
  pub permitted : Permitted t
  pub supplied : bytes ≡ table_bytes t

-- the full table as bytes
abbrev pub full_bytes : List ℕ
full_bytes = 1 ∷ 0 ∷ 0 ∷ 1 ∷ []

-- there are exactly four: the full one, those that join by one answer alone, and the one that joins nothing
abbrev pub four_tables : List (List ℕ)
four_tables = full_bytes ∷ (1 ∷ 0 ∷ 0 ∷ 0 ∷ []) ∷ (0 ∷ 0 ∷ 0 ∷ 1 ∷ []) ∷ (0 ∷ 0 ∷ 0 ∷ 0 ∷ []) ∷ []

-- byte i is 0, or it is 1 and the full table has a 1 there
abbrev pub right_entry : List ℕ → ℕ → Bool
right_entry bytes i = permitted (eqb (byte_at full_bytes i) 1) (byte_at bytes i)

-- the first faulty byte of four
pub record FirstFault (bytes : List ℕ) (i : ℕ) : Type 0 where
  pub below : i < 4
  pub faulty : right_entry bytes i ≡ false
  pub first : (k : ℕ) → k < i → right_entry bytes k ≡ true

-- 48: length is tested first, and other length has place 4; else the place is the first faulty byte
pub record Faulty (bytes : List ℕ) (r : Refusal) : Type 0 where
  pub fault : r.fault ≡ WrongTable
  pub place : ((length bytes ≡ 4 → ⊥) × (r.place ≡ 4)) ⊎ ((length bytes ≡ 4) × FirstFault bytes r.place)

-- WHAT A TABLE CHANGES

-- whatever joins under a table joins under the full one too
abbrev pub JoinsLess : Table → Type 0
JoinsLess t = (equal : Bool) (v : SurfaceAnswer) → joins_faces t equal v ≡ Ok true → joins_faces full_table equal v ≡ Ok true

-- so any two faces of a job that are merged under it are merged under the full table
abbrev pub MergesLess : Table → Type 0
MergesLess t =
    (job : List ℕ) (j : Job) (ts : List ℕ) → loaded job ≡ Ok j → pair ordinary.profile j.answers (uses_of j) (length j.edges) ≡ Ok ts
    → (s full : Grouping) → merged_groups t j.answers j.faces (uses_of j) ts ≡ Ok s → merged_groups full_table j.answers j.faces (uses_of j) ts ≡ Ok full
    → (i k : ℕ) → i < length j.faces → k < length j.faces → label_of s.groups i ≡ label_of s.groups k → label_of full.groups i ≡ label_of full.groups k

-- two outcomes are refused in the same cases and with the same refusal
abbrev pub RefusedAlike : {A B : Type 0} → Outcome A → Outcome B → Type 0
RefusedAlike o p = (r : Refusal) → (o ≡ Err r) ↔ (p ≡ Err r)

-- a table that joins less still puts every surface question in the same order: one is refused under it exactly where one is under the full table
abbrev pub AsksAlike : Table → Type 0
AsksAlike t =
    (answers : List Answer) (fs : List Face) (us : List Use) (ts : List ℕ)
    → RefusedAlike (merged_groups t answers fs us ts) (merged_groups full_table answers fs us ts)

-- WHAT IS PROMISED

-- sewing with a table: of the table that is taken, what sewing promises, demand 3 among it
abbrev pub PromisesWith : List ℕ → List ℕ → Type 0
PromisesWith table job = (t : Table) → table_of table ≡ Ok t → Promises (with_table t) job

-- the walk stage with a table: of the table that is taken, what demand 3 says of the walks of a job
abbrev pub WalksWith : List ℕ → List ℕ → Type 0
WalksWith table job = (t : Table) → table_of table ≡ Ok t → (j : Job) (w : Walked) → loaded job ≡ Ok j → Settled (with_table t) j w → WalksHold w
