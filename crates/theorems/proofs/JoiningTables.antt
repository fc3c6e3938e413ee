-- The joining tables that can be supplied, what they change, and what is promised with them: the statements are of `specs/JoiningTables.antt`.
use Rattle.std.specs.Prelude.{ℕ, zero, suc, ◌<◌, ◌≡◌, refl, ◌⊎◌, Bool, true, false, ◌||◌, ◌&&◌, cond, List, [], ◌∷◌, length, eqb}
use Rattle.std.proofs.Common.{arith, sym, ap, ◌∙◌, subst, inl, inr, ⊎_elim, eqb-true}
use Rattle.std.proofs.lemmas.Bool.{false≢true, eqb-false}
use mathlib.Core.List.Memᴰ
use Rattle.lists.specs.Lists.{◌∈◌, below}
use Rattle.lists.specs.Tests.{both_ways}
use Rattle.rules.specs.declared.Face.{Face}
use Rattle.rules.specs.declared.Use.{Use}
use Rattle.rules.specs.declared.Table.{Table}
use Rattle.rules.specs.declared.SurfaceAnswer.{SurfaceAnswer}
use Rattle.rules.specs.declared.SurfaceAnswer.TheVariants.{Different, Agreeing, Opposed, Vanishing, Undecided}
use Rattle.rules.specs.declared.Fault.{Fault}
use Rattle.rules.specs.declared.Fault.TheVariants.{AnswerUndecided, NormalsVanish, WrongTable}
use Rattle.rules.specs.declared.Refusal.{Refusal}
use Rattle.rules.specs.Outcome.{Outcome, Ok, Err, ◌>>=◌, need, throughout}
use Rattle.rules.proofs.OutcomeLaws.{refuse_ok, ok_one, need_ok, bind_ok, bind_on, bind_stop}
use Rattle.rules.specs.Job.{Answer}
use Rattle.rules.specs.Questions.{surface_answer, ask}
use Rattle.rules.specs.Read.{face_of_use, uses_of}
use Rattle.rules.specs.Groups.{label_of, Grouping}
use Rattle.rules.specs.Pair.{twin_of}
use Rattle.rules.specs.Rules.{full_table, with_table, ordinary, permitted, byte_at, table_in, table_of}
use Rattle.rules.specs.Merge.{other_face, joins_faces, equal_senses, surface_step, unasked, merge_step, ungrouped}
use Rattle.rules.specs.Sew.{sewn, sewn_with_table}
use Rattle.rules.specs.Stage.{walk_stage, walk_stage_with_table}
use Rattle.theorems.specs.Linked.{Twins}
use Rattle.theorems.specs.Sound.{Sound}
use Rattle.theorems.specs.Connected.{pair}
use Rattle.theorems.specs.Merging.{surface_joins}
use Rattle.theorems.proofs.Reading.{use_face_below}
use Rattle.theorems.proofs.Loading.{loaded_sound}
use Rattle.theorems.proofs.Pairing.{pairs_fully}
use Rattle.theorems.proofs.Connected.{value_equivalence}
use Rattle.theorems.proofs.Merging.{merged_within, merged_connected}
use Rattle.theorems.proofs.Ground.{ground}
use Rattle.theorems.proofs.Promised.{promises}
use Rattle.theorems.specs.JoiningTables.{Permitted, entry_byte, table_bytes, Taken, full_bytes, four_tables, right_entry, FirstFault, Faulty}
use Rattle.theorems.specs.JoiningTables.{JoinsLess, MergesLess, RefusedAlike, AsksAlike, PromisesWith, WalksWith}

-- ENTRIES

-- a permitted entry that is not 1 is 0
left : (joins zero one : Bool) → (zero || (joins && one)) ≡ true → one ≡ false → zero ≡ true
left joins true one p z = refl
left true false one p z = sym z ∙ p
left false false one p z = p

-- a permitted entry is the byte of what it says
entry_is : (joins : Bool) (b : ℕ) → permitted joins b ≡ true → b ≡ entry_byte (eqb b 1)
entry_is joins b h =
    ⊎_elim
    (λ z. eqb-true b 1 z ∙ ap entry_byte (sym z))
    (λ z. eqb-true b 0 (left joins (eqb b 0) (eqb b 1) h z) ∙ ap entry_byte (sym z))
    (both_ways (eqb b 1))

-- where document 01 does not join it is 0
entry_none : (b : ℕ) → permitted false b ≡ true → eqb b 1 ≡ false
entry_none b h = ap (λ n. eqb n 1) (eqb-true b 0 (only (eqb b 0) h))
  where
    only : (z : Bool) → (z || (false && eqb b 1)) ≡ true → z ≡ true
    only true p = refl
    only false p = p

-- TABLES

-- a refusal has one number and one place
one_refusal : {A : Type 0} {q r : Refusal} → ◌≡◌ {A = Outcome A} (Err q) (Err r) → q ≡ r
one_refusal e = cc

-- a table of four bytes is those bytes
four : (bytes : List ℕ) → length bytes ≡ 4 → bytes ≡ byte_at bytes 0 ∷ byte_at bytes 1 ∷ byte_at bytes 2 ∷ byte_at bytes 3 ∷ []
four [] e = absurd (omega arith)
four (a ∷ []) e = absurd (omega arith)
four (a ∷ b ∷ []) e = absurd (omega arith)
four (a ∷ b ∷ c ∷ []) e = absurd (omega arith)
four (a ∷ b ∷ c ∷ d ∷ []) e = refl
four (a ∷ b ∷ c ∷ d ∷ x ∷ more) e = absurd (omega arith)

-- a table that is taken is permitted, and was supplied by its own bytes
pub taken : (bytes : List ℕ) (t : Table) → table_of bytes ≡ Ok t → Taken bytes t
unfolding table_of
taken bytes t e =
    let size = need_ok (eqb (length bytes) 4) WrongTable 4 _ t e in
    let a = need_ok (permitted true (byte_at bytes 0)) WrongTable 0 _ t size.1 in
    let b = need_ok (permitted false (byte_at bytes 1)) WrongTable 1 _ t a.1 in
    let c = need_ok (permitted false (byte_at bytes 2)) WrongTable 2 _ t b.1 in
    let d = need_ok (permitted true (byte_at bytes 3)) WrongTable 3 _ t c.1 in
    let same : table_in bytes ≡ t = ok_one d.1 in
    record {
      permitted = record {
        agreeing = ap (λ (x : Table). x.agreeing.different) (sym same) ∙ entry_none (byte_at bytes 1) b.0;
        opposed = ap (λ (x : Table). x.opposed.equal) (sym same) ∙ entry_none (byte_at bytes 2) c.0;
      };
      supplied =
          four bytes (eqb-true (length bytes) 4 size.0)
          ∙ (λ i.
          entry_is true (byte_at bytes 0) a.0 i ∷ entry_is false (byte_at bytes 1) b.0 i
          ∷ entry_is false (byte_at bytes 2) c.0 i ∷ entry_is true (byte_at bytes 3) d.0 i ∷ [])
          ∙ ap table_bytes same;
    }

-- every permitted table is taken
pub supplied : (t : Table) → Permitted t → table_of (table_bytes t) ≡ Ok t
unfolding table_of need
supplied t p = go t.agreeing.equal t.agreeing.different t.opposed.equal t.opposed.different p.agreeing p.opposed
  where
    go : (a b c d : Bool) → b ≡ false → c ≡ false
        → table_of (entry_byte a ∷ entry_byte b ∷ entry_byte c ∷ entry_byte d ∷ [])
        ≡ Ok (record { agreeing = record { equal = a; different = b }; opposed = record { equal = c; different = d } })
    go true false false true e f = refl
    go true false false false e f = refl
    go false false false true e f = refl
    go false false false false e f = refl
    go a true c d e f = absurd (false≢true (sym e))
    go a false true d e f = absurd (false≢true (sym f))

-- a table that is taken is one of the four
pub one_of_four : (bytes : List ℕ) (t : Table) → table_of bytes ≡ Ok t → bytes ∈ four_tables
one_of_four bytes t e =
    let T : Taken bytes t = taken bytes t e in
    subst (λ b. b ∈ four_tables) (sym T.supplied)
    (go t.agreeing.equal t.agreeing.different t.opposed.equal t.opposed.different T.permitted.agreeing T.permitted.opposed)
  where
    go : (a b c d : Bool) → b ≡ false → c ≡ false → (entry_byte a ∷ entry_byte b ∷ entry_byte c ∷ entry_byte d ∷ []) ∈ four_tables
    go true false false true e f = Memᴰ.head refl
    go true false false false e f = Memᴰ.tail (Memᴰ.head refl)
    go false false false true e f = Memᴰ.tail (Memᴰ.tail (Memᴰ.head refl))
    go false false false false e f = Memᴰ.tail (Memᴰ.tail (Memᴰ.tail (Memᴰ.head refl)))
    go a true c d e f = absurd (false≢true (sym e))
    go a false true d e f = absurd (false≢true (sym f))

-- and each of the four is taken
pub four_taken : (bytes : List ℕ) → bytes ∈ four_tables → (t : Table) × (table_of bytes ≡ Ok t)
unfolding table_of need
four_taken bytes m =
    ⊎_elim (λ e. (_, ap table_of e)) (λ n.
    ⊎_elim (λ e. (_, ap table_of e)) (λ p.
    ⊎_elim (λ e. (_, ap table_of e)) (λ q.
    ⊎_elim (λ e. (_, ap table_of e)) (λ r. absurd (Memᴰ.not-nil r))
    (Memᴰ.cases_cons q)) (Memᴰ.cases_cons p)) (Memᴰ.cases_cons n)) (Memᴰ.cases_cons m)

-- a test that fails, or what follows it
need_err : {A : Type 0} (t : Bool) (n : Fault) (p : ℕ) (rest : Outcome A) (r : Refusal) → need t n p rest ≡ Err r
    → ((t ≡ false) × (record { fault = n; place = p } ≡ r)) ⊎ ((t ≡ true) × (rest ≡ Err r))
unfolding need
need_err true n p rest r e = inr (refl, e)
need_err false n p rest r e = inl (refl, one_refusal e)

-- each of the first bytes is right
one_right : (P : ℕ → Type 0) → P 0 → (k : ℕ) → k < 1 → P k
one_right P a k lt = let e : 0 ≡ k = omega arith in subst P e a

two_right : (P : ℕ → Type 0) → P 0 → P 1 → (k : ℕ) → k < 2 → P k
two_right P a b zero lt = a
two_right P a b (suc k) lt = one_right (λ n. P (suc n)) b k (omega arith)

three_right : (P : ℕ → Type 0) → P 0 → P 1 → P 2 → (k : ℕ) → k < 3 → P k
three_right P a b c zero lt = a
three_right P a b c (suc k) lt = two_right (λ n. P (suc n)) b c k (omega arith)

-- a table of four bytes that is refused with its first faulty byte as place
first_fault : (bytes : List ℕ) (r : Refusal) (i : ℕ) → length bytes ≡ 4 → FirstFault bytes i → record { fault = WrongTable; place = i } ≡ r → Faulty bytes r
first_fault bytes r i size f e = subst (Faulty bytes) e (record { fault = refl; place = inr (size, f) })

-- a table that is refused is refused for its length, or with its first faulty byte
pub table_refused : (bytes : List ℕ) (r : Refusal) → table_of bytes ≡ Err r → Faulty bytes r
unfolding table_of
table_refused bytes r e =
    ⊎_elim
    (λ x. subst (Faulty bytes) x.1 (record { fault = refl; place = inl (eqb-false (length bytes) 4 x.0, refl) })) (λ x.
    let size : length bytes ≡ 4 = eqb-true (length bytes) 4 x.0 in
    let right : ℕ → Type 0 = λ k. right_entry bytes k ≡ true in
    ⊎_elim
    (λ a. first_fault bytes r 0 size (record { below = omega arith; faulty = a.0; first = λ k lt. absurd (omega (arith, lt)) }) a.1) (λ a.
    ⊎_elim
    (λ b. first_fault bytes r 1 size (record { below = omega arith; faulty = b.0; first = one_right right a.0 }) b.1) (λ b.
    ⊎_elim
    (λ c. first_fault bytes r 2 size (record { below = omega arith; faulty = c.0; first = two_right right a.0 b.0 }) c.1) (λ c.
    ⊎_elim
    (λ d. first_fault bytes r 3 size (record { below = omega arith; faulty = d.0; first = three_right right a.0 b.0 c.0 }) d.1)
    (λ d. absurd (refuse_ok (sym d.1)))
    (need_err (permitted true (byte_at bytes 3)) WrongTable 3 _ r c.1))
    (need_err (permitted false (byte_at bytes 2)) WrongTable 2 _ r b.1))
    (need_err (permitted false (byte_at bytes 1)) WrongTable 1 _ r a.1))
    (need_err (permitted true (byte_at bytes 0)) WrongTable 0 _ r x.1))
    (need_err (eqb (length bytes) 4) WrongTable 4 _ r e)

-- WHAT A TABLE CHANGES

-- a permitted table joins nothing that document 01's merging rule does not
pub permitted_less : (t : Table) → Permitted t → JoinsLess t
unfolding joins_faces
permitted_less t p equal Different e = e
permitted_less t p true Agreeing e = refl
permitted_less t p false Agreeing e = absurd (false≢true (sym p.agreeing ∙ ok_one e))
permitted_less t p true Opposed e = absurd (false≢true (sym p.opposed ∙ ok_one e))
permitted_less t p false Opposed e = refl
permitted_less t p equal Vanishing e = absurd (refuse_ok e)
permitted_less t p equal Undecided e = absurd (refuse_ok e)

-- and only such a table is permitted
pub less_permitted : (t : Table) → JoinsLess t → Permitted t
unfolding joins_faces
less_permitted t h = record {
  agreeing = ⊎_elim (λ z. absurd (false≢true (ok_one (h false Agreeing (ap Ok z))))) (λ z. z) (both_ways t.agreeing.different);
  opposed = ⊎_elim (λ z. absurd (false≢true (ok_one (h true Opposed (ap Ok z))))) (λ z. z) (both_ways t.opposed.equal);
}

-- faces are merged by pairs that join, and whatever joins under the table joins under the full one
pub merges_less : (t : Table) → JoinsLess t → MergesLess t
merges_less t less job j ts l p s full e f i k hi hk =
    let us : List Use = uses_of j in
    let S : Sound j = loaded_sound job j l in
    let face = use_face_below j S in
    let T : Twins us ts = pairs_fully ordinary.profile j.answers us ts (length j.edges) (omega (arith, S.few)) p in
    merged_within t j.answers j.faces us ts s e face T.below (value_equivalence (label_of full.groups))
    (λ h lt u y.
    let q = bind_ok (ask j.answers 8 (h ∷ [])) _ true y in
    let z : surface_joins full_table j.answers j.faces us ts h ≡ Ok true = bind_on _ q.1 ∙ less (equal_senses j.faces us ts h) (surface_answer q.0) q.2 in
    (merged_connected full_table j.answers j.faces us ts full f face T.below (face_of_use us h) (other_face us ts h) (face h lt) (face (twin_of ts h) (T.below h lt))).1
    (pair (h, lt, u, z, refl, refl)))
    i k hi hk

-- REFUSALS

-- two values are refused alike: never
values_alike : {A B : Type 0} (a : A) (b : B) → RefusedAlike (Ok a) (Ok b)
values_alike a b r = (λ e. absurd (refuse_ok (sym e)), λ e. absurd (refuse_ok (sym e)))

-- and a refusal is refused as itself
refusals_alike : {A B : Type 0} (q : Refusal) → RefusedAlike {A = A} {B = B} (Err q) (Err q)
refusals_alike q r = (λ e. ap Err (one_refusal e), λ e. ap Err (one_refusal e))

-- steps that are refused alike, after one outcome
alike_after : {A B C : Type 0} (o : Outcome A) (f : A → Outcome B) (g : A → Outcome C) → ((a : A) → RefusedAlike (f a) (g a)) → RefusedAlike (o >>= f) (o >>= g)
alike_after (Ok a) f g h = h a
alike_after (Err q) f g h = refusals_alike q

-- steps that are refused alike whatever they begin with, after two outcomes that are
alike_then : {A B C D : Type 0} (o : Outcome A) (p : Outcome B) (f : A → Outcome C) (g : B → Outcome D)
    → RefusedAlike o p → ((a : A) (b : B) → RefusedAlike (f a) (g b)) → RefusedAlike (o >>= f) (p >>= g)
alike_then (Ok a) (Ok b) f g same h = h a b
alike_then (Ok a) (Err q) f g same h = absurd (refuse_ok (sym ((same q).1 refl)))
alike_then (Err q) (Ok b) f g same h = absurd (refuse_ok (sym ((same q).0 refl)))
alike_then {C = C} {D = D} (Err q) (Err x) f g same h = subst (λ y. RefusedAlike {A = C} {B = D} (Err q) (Err y)) (sym (one_refusal ((same q).0 refl))) (refusals_alike q)

-- and so for each member of a list, in order
through_alike : {A S : Type 0} (step other : A → S → Outcome S) → ((x : A) (s t : S) → RefusedAlike (step x s) (other x t))
    → (xs : List A) (s t : S) → RefusedAlike (throughout step xs s) (throughout other xs t)
unfolding throughout
through_alike step other same [] s t = values_alike s t
through_alike step other same (x ∷ xs) s t =
    alike_then (step x s) (other x t) (throughout step xs) (throughout other xs) (same x s t) (through_alike step other same xs)

-- whether a surface answer is refused, and how, the table does not say
joins_alike : (t u : Table) (equal : Bool) (v : SurfaceAnswer) → RefusedAlike (joins_faces t equal v) (joins_faces u equal v)
unfolding joins_faces
joins_alike t u equal Different = values_alike false false
joins_alike t u equal Agreeing = values_alike (cond equal t.agreeing.equal t.agreeing.different) (cond equal u.agreeing.equal u.agreeing.different)
joins_alike t u equal Opposed = values_alike (cond equal t.opposed.equal t.opposed.different) (cond equal u.opposed.equal u.opposed.different)
joins_alike t u equal Vanishing = refusals_alike (record { fault = NormalsVanish; place = 8 })
joins_alike t u equal Undecided = refusals_alike (record { fault = AnswerUndecided; place = 8 })

-- a choice by a test that no table changes
cond_alike : {A : Type 0} (c : Bool) (o p x y : Outcome A) → RefusedAlike o p → RefusedAlike x y → RefusedAlike (cond c o x) (cond c p y)
cond_alike true o p x y a b = a
cond_alike false o p x y a b = b

-- the question of a use, whatever the groups so far
step_alike : (t u : Table) (answers : List Answer) (fs : List Face) (us : List Use) (ts : List ℕ) (h : ℕ) (g k : Grouping)
    → RefusedAlike (merge_step t answers fs us ts h g) (merge_step u answers fs us ts h k)
unfolding merge_step surface_step
step_alike t u answers fs us ts h g k =
    cond_alike (unasked us ts h) (Ok g) (Ok k) (surface_step t answers fs us ts h g) (surface_step u answers fs us ts h k) (values_alike g k)
    (alike_after (ask answers 8 (h ∷ [])) _ _ (λ v.
    alike_then (joins_faces t (equal_senses fs us ts h) (surface_answer v)) (joins_faces u (equal_senses fs us ts h) (surface_answer v)) _ _
    (joins_alike t u (equal_senses fs us ts h) (surface_answer v)) (λ a b. values_alike _ _)))

-- groups differ from table to table, but refusals do not depend on groups
pub asks_alike : (t : Table) → AsksAlike t
asks_alike t answers fs us ts =
    through_alike (merge_step t answers fs us ts) (merge_step full_table answers fs us ts) (step_alike t full_table answers fs us ts)
    (below (length us)) (ungrouped (length fs)) (ungrouped (length fs))

-- THE OPERATIONS

-- with a table that is taken, sewing is by its rules; a table that is refused is refused before all else
pub sewn_taken : (table job : List ℕ) (room : ℕ) (t : Table) → table_of table ≡ Ok t → sewn_with_table table job room ≡ sewn (with_table t) job room
unfolding sewn_with_table
sewn_taken table job room t e = bind_on _ e

pub sewn_refused : (table job : List ℕ) (room : ℕ) (r : Refusal) → table_of table ≡ Err r → sewn_with_table table job room ≡ Err r
unfolding sewn_with_table
sewn_refused table job room r e = bind_stop _ e

-- and so is the walk stage
pub walks_taken : (table job : List ℕ) (room : ℕ) (t : Table) → table_of table ≡ Ok t → walk_stage_with_table table job room ≡ walk_stage (with_table t) job room
unfolding walk_stage_with_table
walks_taken table job room t e = bind_on _ e

pub walks_refused : (table job : List ℕ) (room : ℕ) (r : Refusal) → table_of table ≡ Err r → walk_stage_with_table table job room ≡ Err r
unfolding walk_stage_with_table
walks_refused table job room r e = bind_stop _ e

-- the full table gives ordinary sewing and the ordinary walk stage
pub full_sews : (job : List ℕ) (room : ℕ) → sewn_with_table full_bytes job room ≡ sewn ordinary job room
unfolding sewn_with_table table_of need
full_sews job room = refl

pub full_walks : (job : List ℕ) (room : ℕ) → walk_stage_with_table full_bytes job room ≡ walk_stage ordinary job room
unfolding walk_stage_with_table table_of need
full_walks job room = refl

-- WHAT IS PROMISED

pub promises_with : (table job : List ℕ) → PromisesWith table job
promises_with table job t e = promises (with_table t) job

pub walks_with : (table job : List ℕ) → WalksWith table job
walks_with table job t e j w l s = (ground (with_table t) job j w l s).walks
