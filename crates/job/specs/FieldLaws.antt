-- The fields of a record as they stand in the bytes.
use Rattle.std.specs.Prelude.{ℕ, zero, suc, ◌+◌, ◌*◌, ◌-◌, ◌/◌, ◌<◌, ◌≤◌, ◌≡◌, refl, List, [], ◌∷◌, get_or, take, drop}
use Rattle.std.proofs.Common.{not-suc-le-zero, sub-one, arith, sym, ap, ◌∙◌, drop-drop}
use Rattle.rules.specs.Sense.{sense_of}
use Rattle.rules.specs.Fields.{le32, field, fields_in}
use Rattle.rules.specs.Load.{face_of}
use Rattle.rules.proofs.FieldLaws.{fields_first, field_in}
use Rattle.job.specs.Lists.{fields_at, face_in}

-- the first fields, and those after them
pub take_fields : (m n : ℕ) (s : List ℕ) → m ≤ n → take m (fields_in n s) ≡ fields_in m s
unfolding fields_in
take_fields zero n s h = refl
take_fields (suc m) zero s h = absurd (omega arith)
take_fields (suc m) (suc n) s h = ap {B = List ℕ} (λ l. le32 s 0 ∷ l) (take_fields m n (drop 4 s) (omega arith))

pub drop_fields : (m n : ℕ) (s : List ℕ) → drop m (fields_in n s) ≡ fields_in (n - m) (drop (4 * m) s)
unfolding fields_in
drop_fields zero n s = let e : n ≡ n - 0 = omega arith in ap (λ k. fields_in k s) e
drop_fields (suc m) zero s = let e : 0 ≡ 0 - suc m = omega arith in ap (λ k. fields_in k (drop (4 * suc m) s)) e
drop_fields (suc m) (suc n) s =
    let e : n - m ≡ suc n - suc m = omega arith in
    let d : 4 + 4 * m ≡ 4 * suc m = omega arith in
    drop_fields m n (drop 4 s) ∙ ap (fields_in (n - m)) (drop-drop (4 * m) 4 s) ∙ (λ i. fields_in (e i) (drop (d i) s))

-- one field, then the others
pub fields_more : (n : ℕ) (s : List ℕ) (p : ℕ) → 0 < n → fields_in n (drop p s) ≡ le32 s p ∷ fields_in (n - 1) (drop (p + 4) s)
fields_more zero s p h = absurd (not-suc-le-zero h)
fields_more (suc n) s p h = rw sub-one (fields_first n s p)

pub fields_none : (n : ℕ) (s : List ℕ) → n ≤ 0 → fields_in n s ≡ []
unfolding fields_in
fields_none zero s h = refl
fields_none (suc n) s h = absurd (not-suc-le-zero h)

-- field i of the record at a byte
pub field_at : (bytes : List ℕ) (at i : ℕ) → i < le32 bytes at / 4 → get_or (fields_at bytes at) i 0 ≡ le32 bytes (at + 6 + 4 * i)
unfolding fields_at
field_at bytes at i h = field_in (le32 bytes at / 4) bytes (at + 6) i h

-- the face whose record stands at a byte, by its fields
pub face_is : (bytes : List ℕ) (at : ℕ) → le32 bytes at / 4 ≡ 5 → face_in bytes at ≡ face_of (fields_at bytes at)
unfolding face_in
face_is bytes at five =
    let f : (i p : ℕ) → i < 5 → at + 6 + 4 * i ≡ p → le32 bytes p ≡ field (fields_at bytes at) i =
    λ i p h e. ap (le32 bytes) (sym e) ∙ sym (field_at bytes at i (omega (arith, five, h))) in
    let f0 = f 0 (at + 6) (omega arith) (omega arith) in
    let f1 = f 1 (at + 10) (omega arith) (omega arith) in
    let f2 = f 2 (at + 14) (omega arith) (omega arith) in
    let f3 = f 3 (at + 18) (omega arith) (omega arith) in
    let f4 = f 4 (at + 22) (omega arith) (omega arith) in
    λ i. record { surface = f0 i; own = sense_of (f1 i); selected = sense_of (f2 i); body = f3 i; source = f4 i }
