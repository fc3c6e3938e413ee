-- The programs' pages have room: a field has at most eleven characters, a record's line at most three a byte.
use Rattle.std.specs.Prelude.{ℕ, zero, suc, ◌+◌, ◌*◌, ◌/◌, ◌%◌, ◌<◌, ◌≤◌, ◌≡◌, refl, Bool, true, false, length, take, drop, eqb, ltb, leb}
use Rattle.std.proofs.Common.{arith, ap, ⊎_elim, length-append, lt-ltb, leb-true}
use mathlib.Core.List.Memᴰ
use mathlib.Core.List.{List, [], ◌∷◌, ◌++◌, flat_map}
use Rattle.lists.specs.Lists.{◌∈◌}
use Rattle.lists.specs.Tests.{both_ways, cond_true, cond_false}
use Rattle.rules.specs.declared.Refusal.{Refusal}
use Rattle.rules.specs.Outcome.{Outcome, Ok, ◌>>=◌, need, Err, fault_number}
use Rattle.rules.specs.Frame.{Record, framed, framed_all}
use Rattle.rules.specs.Job.{Job, unset}
use Rattle.rules.specs.Load.{loaded}
use Rattle.rules.specs.declared.Rules.{Rules}
use Rattle.rules.specs.Body.{Body, body_records}
use Rattle.rules.specs.Sew.{rebuild, fitting}
use Rattle.rules.specs.Listing.{digits_before, decimal, word_of, field_text, vertex_text, fields_text, line_of, refused_word, listing_of, sewn_records}
use Rattle.theorems.specs.Narrow.{Below}
use Rattle.rules.specs.Rows.{row_text}
use Rattle.lines.specs.Writing.{decimal_short}
use Rattle.lines.specs.LineLaws.{name_short}
use Rattle.lines.specs.Exact.{Fits, AllFit, framed_length}
use Rattle.rules.specs.declared.Fault.TheVariants.{NoRoom}

-- powers of ten
unfoldable tens : ℕ → ℕ
tens zero = 1
tens (suc k) = 10 * tens k

few_digits : (k most n : ℕ) (text : List ℕ) → n < tens (suc k) → length (digits_before most n text) ≤ suc k + length text
unfolding digits_before tens
few_digits k zero n text h = omega arith
few_digits zero (suc most) n text h =
    let here : List ℕ = (48 + n % 10) ∷ text in
    omega (arith, ap length (cond_true (ltb n 10) here (digits_before most (n / 10) here) (lt-ltb n 10 (omega arith))))
few_digits (suc k) (suc most) n text h =
    let here : List ℕ = (48 + n % 10) ∷ text in
    let more : List ℕ = digits_before most (n / 10) here in
    ⊎_elim
    (λ e. omega (arith, ap length (cond_true (ltb n 10) here more e)))
    (λ e. omega (arith, ap length (cond_false (ltb n 10) here more e), few_digits k most (n / 10) here (tenth n (tens (suc k)) h)))
    (both_ways (ltb n 10))
  where
    tenth : (n t : ℕ) → n < 10 * t → n / 10 < t
    tenth n t h = omega arith

ten_digits : (v : ℕ) → v < 4294967296 → length (decimal v) ≤ 10
unfolding tens
ten_digits v h = few_digits 9 20 v [] (omega arith)

pub field_eleven : (v : ℕ) → v < 4294967296 → length (field_text v) ≤ 11
field_eleven v h = omega (arith, ten_digits v h)

vertex_eleven : (v : ℕ) → v < 4294967296 → length (vertex_text v) ≤ 11
vertex_eleven v h =
    ⊎_elim
    (λ e. omega (arith, ap length (cond_true (eqb v unset) (32 ∷ 45 ∷ []) (field_text v) e)))
    (λ e. omega (arith, ap length (cond_false (eqb v unset) (32 ∷ 45 ∷ []) (field_text v) e), ten_digits v h))
    (both_ways (eqb v unset))

all_eleven : (text : ℕ → List ℕ) → ((v : ℕ) → v < 4294967296 → length (text v) ≤ 11) → (fs : List ℕ) → Below 4294967296 fs → length (flat_map text fs) ≤ 11 * length fs
unfolding flat_map
all_eleven text short [] h = omega arith
all_eleven text short (f ∷ fs) h =
    omega (arith, length-append (text f) (flat_map text fs), short f (h f (Memᴰ.head refl)), all_eleven text short fs (λ v m. h v (Memᴰ.tail m)))

-- THE ROWS OF A STAGE

-- a row has at most eleven characters a field, with the blank or the line's end after it
pub row_eleven : (row : List ℕ) → Below 4294967296 row → 0 < length row → length (row_text row) ≤ 11 * length row
unfolding row_text
row_eleven [] h lt = absurd (omega arith)
row_eleven (f ∷ fs) h lt =
    omega (
      arith,
      length-append (decimal f) (flat_map field_text fs ++ (10 ∷ [])),
      length-append (flat_map field_text fs) (10 ∷ []),
      ten_digits f (h f (Memᴰ.head refl)),
      all_eleven field_text field_eleven fs (λ v m. h v (Memᴰ.tail m)),
    )

-- THE LINES OF A BODY

edge_eleven : (fs : List ℕ) → Below 4294967296 fs → length (flat_map field_text (take 2 fs) ++ flat_map vertex_text (drop 2 fs)) ≤ 11 * length fs
unfolding flat_map
edge_eleven [] h = omega arith
edge_eleven (a ∷ []) h = omega (arith, length-append (field_text a ++ []) [], length-append (field_text a) [], ten_digits a (h a (Memᴰ.head refl)))
edge_eleven (a ∷ b ∷ fs) h =
    let x : List ℕ = field_text a ++ (field_text b ++ []) in
    omega (
      arith,
      length-append x (flat_map vertex_text fs),
      length-append (field_text a) (field_text b ++ []),
      length-append (field_text b) [],
      ten_digits a (h a (Memᴰ.head refl)),
      ten_digits b (h b (Memᴰ.tail (Memᴰ.head refl))),
      all_eleven vertex_text vertex_eleven fs (λ v m. h v (Memᴰ.tail (Memᴰ.tail m))),
    )

fields_eleven : (r : Record) → Below 4294967296 r.fields → length (fields_text r) ≤ 11 * length r.fields
unfolding fields_text
fields_eleven r h =
    let edge : List ℕ = flat_map field_text (take 2 r.fields) ++ flat_map vertex_text (drop 2 r.fields) in
    let other : List ℕ = flat_map field_text r.fields in
    ⊎_elim
    (λ e. omega (arith, ap length (cond_true (eqb r.kind 23) edge other e), edge_eleven r.fields h))
    (λ e. omega (arith, ap length (cond_false (eqb r.kind 23) edge other e), all_eleven field_text field_eleven r.fields h))
    (both_ways (eqb r.kind 23))

line_three : (r : Record) → Fits r → length (line_of r) ≤ 3 * length (framed r)
line_three r F =
    omega (arith, framed_length r, length-append (word_of r.kind) (fields_text r ++ (10 ∷ [])), length-append (fields_text r) (10 ∷ []), name_short r.kind, fields_eleven r F.fields)

lines_three : (rs : List Record) → ((r : Record) → r ∈ rs → Fits r) → length (flat_map line_of rs) ≤ 3 * length (framed_all rs)
unfolding flat_map
lines_three [] each = omega arith
lines_three (r ∷ rs) each =
    omega (arith, length-append (line_of r) (flat_map line_of rs), length-append (framed r) (framed_all rs), line_three r (each r (Memᴰ.head refl)), lines_three rs (λ s m. each s (Memᴰ.tail m)))

-- the records of an outcome take no more than so many bytes
abbrev pub Within : ℕ → Outcome (List Record) → Type 0
Within room (Ok rs) = length (framed_all rs) ≤ room
Within room (Err refusal) = Unit {0}

within_fit : (rs : List Record) (room n : ℕ) (t : Bool) → (t ≡ true → length (framed_all rs) ≤ room) → Within room (need t NoRoom n (Ok (framed_all rs)) >>= λ _. Ok rs)
unfolding need
within_fit rs room n true h = h refl
within_fit rs room n false h = tt

pub sewn_within : (rules : Rules) (job : List ℕ) (room : ℕ) → Within room (sewn_records rules job room)
unfolding sewn_records
sewn_within rules job room = from_job (loaded job)
  where
    from_body : (o : Outcome Body) → Within room (o >>= λ b. fitting room (framed_all (body_records b)) >>= λ _. Ok (body_records b))
    from_body (Ok b) =
        within_fit (body_records b) room (length (framed_all (body_records b))) (leb (length (framed_all (body_records b))) room) (leb-true (length (framed_all (body_records b))) room)
    from_body (Err r) = tt

    from_job : (o : Outcome Job) → Within room (o >>= λ j. rebuild rules j >>= λ b. fitting room (framed_all (body_records b)) >>= λ _. Ok (body_records b))
    from_job (Ok j) = from_body (rebuild rules j)
    from_job (Err r) = tt

pub refusal_short : (r : Refusal) → length (listing_of (Err r)) ≤ 50
refusal_short r =
    let number = fault_number r.fault in
    let place = r.place in
    let a : List ℕ = field_text place ++ (10 ∷ []) in
    omega (arith, length-append refused_word (field_text number ++ a), length-append (field_text number) a, length-append (field_text place) (10 ∷ []), decimal_short number, decimal_short place)

pub listed_small : (o : Outcome (List Record)) → AllFit o → Within 65536 o → length (listing_of o) ≤ 196608
listed_small (Ok rs) h w = omega (arith, lines_three rs h)
listed_small (Err r) h w = omega (arith, refusal_short r)
