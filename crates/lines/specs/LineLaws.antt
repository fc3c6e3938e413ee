-- Laws of a record's line, a stage's row, and an answer's text, put together from their parts.
use Rattle.std.specs.Prelude.{ℕ, zero, suc, ◌+◌, ◌*◌, ◌-◌, ◌/◌, ◌<◌, ◌≤◌, ◌≡◌, refl, cond, length, get_or, take, drop, eqb, ltb}
use Rattle.std.proofs.Common.{◌⊎◌, ⊎_elim, arith, sym, ap, ◌∙◌, length-append, length-take, ltb-false}
use mathlib.Core.List.{List, [], ◌∷◌, ◌++◌, flat_map}
use Rattle.std.proofs.Math.ListN.{get_or-eq_default}
use Rattle.lists.specs.Tests.{both_ways, cond_true, cond_false}
use Rattle.lists.specs.Members.{flat_map_append}
use Rattle.rules.specs.declared.Refusal.{Refusal}
use Rattle.rules.specs.declared.Stage.{Stage}
use Rattle.rules.specs.declared.Stage.TheVariants.{Edges, Joining}
use Rattle.rules.specs.Outcome.{Outcome, Ok, Err, fault_number}
use Rattle.rules.specs.Fields.{le16, le32, fields_in}
use Rattle.rules.proofs.FieldLaws.{length_fields}
use Rattle.rules.specs.Frame.{Record}
use Rattle.rules.specs.Listing.{decimal, word_of, field_text, fields_text, line_of, refused_word, refusal_line, listing_of}
use Rattle.fields.specs.Wrote.{Wrote, wrote_as, wrote_more}
use Rattle.rules.specs.Rows.{row_text}
use Rattle.lines.specs.Text.{parted_text, plain_of, record_at, record_size, records_in, recorded, row_length, row_at, row_size, rows_in, joining_rows, stage_rows, stage_text}
use Rattle.lines.specs.Writing.{decimal_short, parted_all, parted_short}

-- NAMES

-- the names of the records from kind 21 on
abbrev names : List (List ℕ)
names =
    (98 ∷ 111 ∷ 100 ∷ 121 ∷ [])
    ∷ (118 ∷ 101 ∷ 114 ∷ 116 ∷ 101 ∷ 120 ∷ [])
    ∷ (101 ∷ 100 ∷ 103 ∷ 101 ∷ [])
    ∷ (102 ∷ 97 ∷ 99 ∷ 101 ∷ [])
    ∷ (108 ∷ 111 ∷ 111 ∷ 112 ∷ [])
    ∷ (118 ∷ 101 ∷ 114 ∷ 116 ∷ 101 ∷ 120 ∷ 45 ∷ 108 ∷ 111 ∷ 111 ∷ 112 ∷ [])
    ∷ (108 ∷ 117 ∷ 109 ∷ 112 ∷ [])
    ∷ (115 ∷ 104 ∷ 101 ∷ 108 ∷ 108 ∷ [])
    ∷ (109 ∷ 101 ∷ 109 ∷ 98 ∷ 101 ∷ 114 ∷ 115 ∷ [])
    ∷ []

name_at : (kind : ℕ) → word_of kind ≡ get_or names (kind - 21) []
unfolding word_of
name_at kind = refl

pub name_first : (kind : ℕ) → kind ≤ 21 → word_of 21 ≡ word_of kind
name_first kind h = let e : zero ≡ kind - 21 = omega arith in name_at 21 ∙ ap (λ i. get_or names i []) e ∙ sym (name_at kind)

-- past a number that it is not
pub past : (m kind : ℕ) → m < kind → (kind ≡ suc m → ⊥) → suc m < kind
past m kind h k = omega (arith, h, k)

past_all : (kind : ℕ) → 29 < kind → [] ≡ word_of kind
past_all kind h = sym (name_at kind ∙ get_or-eq_default names [] {n = kind - 21} (omega arith))

pub name_none : (kind : ℕ) → 21 < kind → (kind ≡ 22 → ⊥) → (kind ≡ 23 → ⊥) → (kind ≡ 24 → ⊥) → (kind ≡ 25 → ⊥) → (kind ≡ 26 → ⊥) → (kind ≡ 27 → ⊥) → (kind ≡ 28 → ⊥) → (kind ≡ 29 → ⊥)
    → [] ≡ word_of kind
name_none kind h k₂ k₃ k₄ k₅ k₆ k₇ k₈ k₉ =
    past_all kind (past 28 kind (past 27 kind (past 26 kind (past 25 kind (past 24 kind (past 23 kind (past 22 kind (past 21 kind h k₂) k₃) k₄) k₅) k₆) k₇) k₈) k₉)

short_at : (i : ℕ) → length (get_or names i []) ≤ 11
short_at zero = omega arith
short_at (suc zero) = omega arith
short_at (suc (suc zero)) = omega arith
short_at (suc (suc (suc zero))) = omega arith
short_at (suc (suc (suc (suc zero)))) = omega arith
short_at (suc (suc (suc (suc (suc zero))))) = omega arith
short_at (suc (suc (suc (suc (suc (suc zero)))))) = omega arith
short_at (suc (suc (suc (suc (suc (suc (suc zero))))))) = omega arith
short_at (suc (suc (suc (suc (suc (suc (suc (suc zero)))))))) = omega arith
short_at (suc (suc (suc (suc (suc (suc (suc (suc (suc i))))))))) = omega arith

pub name_short : (kind : ℕ) → length (word_of kind) ≤ 11
name_short kind = omega (arith, ap length (name_at kind), short_at (kind - 21))

-- THE LINE OF A RECORD

fields_split : (r : Record) (k : ℕ) → k ≡ plain_of r.kind (length r.fields) → fields_text r ≡ parted_text k r.fields
unfolding fields_text plain_of
fields_split r k e =
    let n : ℕ = length r.fields in
    let edge : List ℕ = parted_text 2 r.fields in
    let other : List ℕ = flat_map field_text r.fields in
    let two : ℕ = cond (ltb 2 n) 2 n in
    let whole : (j : ℕ) → j ≡ n → other ≡ parted_text j r.fields = λ j q. sym (parted_all j r.fields (omega (arith, q))) in
    ⊎_elim
    (λ t.
    ⊎_elim
    (λ u. cond_true (eqb r.kind 23) edge other t ∙ ap (λ j. parted_text j r.fields) (sym (e ∙ cond_true (eqb r.kind 23) two n t ∙ cond_true (ltb 2 n) 2 n u)))
    (λ u.
    cond_true (eqb r.kind 23) edge other t ∙ parted_all 2 r.fields (omega (arith, ltb-false 2 n u)) ∙ whole k (e ∙ cond_true (eqb r.kind 23) two n t ∙ cond_false (ltb 2 n) 2 n u))
    (both_ways (ltb 2 n)))
    (λ t. cond_false (eqb r.kind 23) edge other t ∙ whole k (e ∙ cond_false (eqb r.kind 23) two n t))
    (both_ways (eqb r.kind 23))

record_is : (rest fields : List ℕ) (kind n : ℕ) → kind ≡ le16 rest 4 → n ≡ le32 rest 0 / 4 → fields ≡ drop 6 rest → record { kind = kind; fields = fields_in n fields } ≡ record_at rest
unfolding record_at
record_is rest fields kind n ek en ef = λ i. record { kind = ek i; fields = fields_in (en i) (ef i) }

pub line_wrote : (rest fields before a b after : List ℕ) (at p q t kind n k : ℕ) → kind ≡ le16 rest 4 → n ≡ le32 rest 0 / 4 → k ≡ plain_of kind n → fields ≡ drop 6 rest
    → Wrote before at (word_of kind) a p → Wrote a p (parted_text k (fields_in n fields)) b q → Wrote b q (10 ∷ []) after t
    → Wrote before at (line_of (record_at rest)) after t
line_wrote rest fields before a b after at p q t kind n k ek en e ef w u z =
    let fs : List ℕ = fields_in n fields in
    let r : Record = record { kind = kind; fields = fs } in
    let f : List ℕ = parted_text k fs in
    let split : fields_text r ≡ f = fields_split r k (e ∙ ap (plain_of kind) (sym (length_fields n fields))) in
    wrote_as before after (word_of kind ++ (f ++ (10 ∷ []))) (line_of (record_at rest)) at t
    (ap (λ l. word_of kind ++ (l ++ (10 ∷ []))) (sym split) ∙ ap line_of (record_is rest fields kind n ek en ef))
    (wrote_more before a after (word_of kind) (f ++ (10 ∷ [])) at p t w (wrote_more a b after f (10 ∷ []) p q t u z))

-- each record takes a byte at least, and its line at most six times its bytes
pub record_some : (rest : List ℕ) → 1 ≤ record_size rest
unfolding record_size
record_some rest = omega arith

pub line_short : (rest : List ℕ) → length (line_of (record_at rest)) ≤ 6 * record_size rest
unfolding record_size record_at
line_short rest =
    let n : ℕ = le32 rest 0 / 4 in
    let s : List ℕ = drop 6 rest in
    let r : Record = record { kind = le16 rest 4; fields = fields_in n s } in
    let k : ℕ = plain_of r.kind (length r.fields) in
    let m : length (fields_text r) ≡ length (parted_text k r.fields) = ap length (fields_split r k refl) in
    let x : length (line_of r) ≡ length (word_of r.kind) + length (fields_text r ++ (10 ∷ [])) = length-append (word_of r.kind) (fields_text r ++ (10 ∷ [])) in
    let y : length (fields_text r ++ (10 ∷ [])) ≡ length (fields_text r) + 1 = length-append (fields_text r) (10 ∷ []) in
    let a = parted_short k n s in
    let b = name_short r.kind in
    omega (arith, m, x, y, a, b)

-- as the code reads how many bytes it takes
pub record_next : (rest : List ℕ) (v : ℕ) → v ≡ le32 rest 0 → 6 + v ≡ record_size rest
unfolding record_size
record_next rest v e = ap (λ w. 6 + w) e

-- THE LINE OF A REFUSAL

pub refusal_wrote : (before a b d after : List ℕ) (p q r t number place : ℕ) → Wrote before 0 refused_word a p
    → Wrote a p (field_text number) b q → Wrote b q (field_text place) d r → Wrote d r (10 ∷ []) after t
    → Wrote before 0 (refusal_line number place) after t
refusal_wrote before a b d after p q r t number place w u v z =
    wrote_more before a after refused_word (field_text number ++ (field_text place ++ (10 ∷ []))) 0 p t w
    (wrote_more a b after (field_text number) (field_text place ++ (10 ∷ [])) p q t u (wrote_more b d after (field_text place) (10 ∷ []) q r t v z))

-- THE LISTING OF AN ANSWER

-- what is written is no longer than the output
pub part_small : (out bytes : List ℕ) (n most : ℕ) (e : Outcome ℕ) → e ≡ Ok n → bytes ≡ take n out → length out < most → length bytes < most
part_small out bytes n most e ee eb lt = omega (arith, ap length eb, length-take n out)

pub listed_body : (out bytes before after : List ℕ) (q n : ℕ) (e : Outcome ℕ) → e ≡ Ok n → bytes ≡ take n out → Wrote before 0 (flat_map line_of (records_in bytes)) after q
    → Wrote before 0 (listing_of (recorded out e)) after q
listed_body out bytes before after q n e ee eb w =
    wrote_as before after (flat_map line_of (records_in bytes)) (listing_of (recorded out e)) 0 q
    (ap (λ l. flat_map line_of (records_in l)) eb ∙ ap (λ x. listing_of (recorded out x)) (sym ee)) w

-- the line of a refusal, by its number
refusal_is : (n : ℕ) (r : Refusal) → n ≡ fault_number r.fault → refusal_line n r.place ≡ listing_of (Err r)
refusal_is n r e = ap (λ m. refusal_line m r.place) e

pub listed_refusal : (out before after : List ℕ) (q n : ℕ) (r : Refusal) (e : Outcome ℕ) → e ≡ Err r → n ≡ fault_number r.fault → Wrote before 0 (refusal_line n r.place) after q
    → Wrote before 0 (listing_of (recorded out e)) after q
listed_refusal out before after q n r e ee en w =
    wrote_as before after (refusal_line n r.place) (listing_of (recorded out e)) 0 q (refusal_is n r en ∙ ap (λ x. listing_of (recorded out x)) (sym ee)) w

-- THE ROWS OF A STAGE

pub row_wrote : (row others before a b after : List ℕ) (at p q t v n m : ℕ) → v ≡ le32 row 0 → n ≡ suc m → others ≡ drop 4 row → Wrote before at (decimal v) a p
    → Wrote a p (parted_text m (fields_in m others)) b q → Wrote b q (10 ∷ []) after t → Wrote before at (row_text (fields_in n row)) after t
unfolding row_text fields_in
row_wrote row others before a b after at p q t v n m ev en eo w u z =
    let fs : List ℕ = fields_in m others in
    let plain : parted_text m fs ≡ flat_map field_text fs = parted_all m fs (omega (arith, length_fields m others)) in
    let is : v ∷ fs ≡ fields_in n row = (λ i. ev i ∷ fields_in m (eo i)) ∙ ap (λ k. fields_in k row) (sym en) in
    wrote_as before after (decimal v ++ (parted_text m fs ++ (10 ∷ []))) (row_text (fields_in n row)) at t
    (ap (λ l. decimal v ++ (l ++ (10 ∷ []))) plain ∙ ap row_text is)
    (wrote_more before a after (decimal v) (parted_text m fs ++ (10 ∷ [])) at p t w (wrote_more a b after (parted_text m fs) (10 ∷ []) p q t u z))

fields_text_short : (fs : List ℕ) → length (flat_map field_text fs) ≤ 21 * length fs
unfolding flat_map
fields_text_short [] = omega arith
fields_text_short (f ∷ fs) = omega (arith, length-append (field_text f) (flat_map field_text fs), decimal_short f, fields_text_short fs)

row_text_short : (fs : List ℕ) → length (row_text fs) ≤ 21 * length fs + 1
unfolding row_text
row_text_short [] = omega arith
row_text_short (f ∷ fs) =
    omega (arith, length-append (decimal f) (flat_map field_text fs ++ (10 ∷ [])), length-append (flat_map field_text fs) (10 ∷ []), decimal_short f, fields_text_short fs)

-- each row takes a byte at least, and its text at most six times its bytes
pub row_some : (fixed counted : ℕ) → 0 < fixed → (rest : List ℕ) → 1 ≤ row_size fixed counted rest
unfolding row_length
row_some fixed counted h rest = omega arith

pub row_short : (fixed counted : ℕ) → 0 < fixed → (rest : List ℕ) → length (row_text (row_at fixed counted rest)) ≤ 6 * row_size fixed counted rest
row_short fixed counted h rest =
    omega (arith, row_text_short (row_at fixed counted rest), length_fields (row_length fixed counted rest) rest, row_some fixed counted h rest)

-- as the code reads the row's length
pub row_is : (rest : List ℕ) (fixed counted v : ℕ) → v ≡ le32 rest 4 → fixed + counted * v ≡ row_length fixed counted rest
unfolding row_length
row_is rest fixed counted v e = ap (λ w. fixed + counted * w) e

pub counted_small : (counted v : ℕ) → counted ≤ 2 → v < 4294967296 → counted * v < 8589934592
counted_small zero v h lt = omega arith
counted_small (suc zero) v h lt = omega arith
counted_small (suc (suc zero)) v h lt = omega arith
counted_small (suc (suc (suc c))) v h lt = absurd (omega arith)

pub joining_wrote : (bytes counts rest edges loops before a b after : List ℕ) (p q t v : ℕ) → counts ≡ take 12 bytes → rest ≡ drop 12 bytes → v ≡ le32 bytes 8
    → edges ≡ take (28 * v) rest → loops ≡ drop (28 * v) rest → Wrote before 0 (flat_map row_text (rows_in 3 0 counts)) a p → Wrote a p (flat_map row_text (rows_in 7 0 edges)) b q
    → Wrote b q (flat_map row_text (rows_in 2 2 loops)) after t → Wrote before 0 (flat_map row_text (joining_rows bytes)) after t
unfolding joining_rows
joining_wrote bytes counts rest edges loops before a b after p q t v ec er ev ee el w u z =
    let x : List ℕ = flat_map row_text (rows_in 3 0 counts) in
    let y : List ℕ = flat_map row_text (rows_in 7 0 edges) in
    let l : List ℕ = flat_map row_text (rows_in 2 2 loops) in
    wrote_as before after ((x ++ y) ++ l) (flat_map row_text (joining_rows bytes)) 0 t
    (ap (λ r. r ++ l) (sym (flat_map_append row_text (rows_in 3 0 counts) (rows_in 7 0 edges))) ∙ sym (flat_map_append row_text (rows_in 3 0 counts ++ rows_in 7 0 edges) (rows_in 2 2 loops))
    ∙ (λ i. flat_map row_text (rows_in 3 0 (ec i) ++ rows_in 7 0 (ee i) ++ rows_in 2 2 (el i)))
    ∙ (λ i. flat_map row_text (rows_in 3 0 (take 12 bytes) ++ rows_in 7 0 (take (28 * ev i) (er i)) ++ rows_in 2 2 (drop (28 * ev i) (er i)))))
    (wrote_more before b after (x ++ y) l 0 q t (wrote_more before a b x y 0 p q w u) z)

-- a stage's rows
pub stage_edges : (stage : Stage) (bytes : List ℕ) → (stage ≡ Edges) ⊎ (stage ≡ Joining) → joining_rows bytes ≡ stage_rows stage bytes
unfolding stage_rows
stage_edges stage bytes h = ⊎_elim (λ e. ap (λ s. stage_rows s bytes) (sym e)) (λ e. ap (λ s. stage_rows s bytes) (sym e)) h

pub staged_rows_lem : (out bytes before after : List ℕ) (stage : Stage) (q n : ℕ) (e : Outcome ℕ) → e ≡ Ok n → bytes ≡ take n out → Wrote before 0 (flat_map row_text (stage_rows stage bytes)) after q
    → Wrote before 0 (stage_text stage out e) after q
staged_rows_lem out bytes before after stage q n e ee eb w =
    wrote_as before after (flat_map row_text (stage_rows stage bytes)) (stage_text stage out e) 0 q
    (ap (λ l. flat_map row_text (stage_rows stage l)) eb ∙ ap (stage_text stage out) (sym ee)) w

pub staged_refusal : (out before after : List ℕ) (stage : Stage) (q n : ℕ) (r : Refusal) (e : Outcome ℕ) → e ≡ Err r → n ≡ fault_number r.fault → Wrote before 0 (refusal_line n r.place) after q
    → Wrote before 0 (stage_text stage out e) after q
staged_refusal out before after stage q n r e ee en w =
    wrote_as before after (refusal_line n r.place) (stage_text stage out e) 0 q (refusal_is n r en ∙ ap (stage_text stage out) (sym ee)) w
