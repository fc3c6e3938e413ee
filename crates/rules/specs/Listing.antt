-- The listing: a line per record, or the refusal, as text in ASCII.
use Rattle.std.specs.Prelude.{ℕ, zero, suc, ◌+◌, ◌-◌, ◌/◌, ◌%◌, cond, get_or, drop, take, eqb, ltb}
use mathlib.Core.List.{List, [], ◌∷◌, ◌++◌, flat_map}
use Rattle.rules.specs.Outcome.{Outcome, Ok, ◌>>=◌, Err, fault_number}
use Rattle.rules.specs.Frame.{Record, framed_all}
use Rattle.rules.specs.Job.{unset}
use Rattle.rules.specs.Load.{loaded}
use Rattle.rules.specs.declared.Rules.{Rules}
use Rattle.rules.specs.Rules.{with_table, table_of}
use Rattle.rules.specs.Body.{body_records}
use Rattle.rules.specs.Sew.{rebuild, fitting}

-- the decimal digits of a number, at most so many, before some text
unfoldable pub digits_before : ℕ → ℕ → List ℕ → List ℕ
digits_before zero n text = text
digits_before (suc most) n text =
    let here = (48 + n % 10) ∷ text in
    let more = digits_before most (n / 10) here in
    cond (ltb n 10) here more

-- Listing: a number in decimal
abbrev pub decimal : ℕ → List ℕ
decimal n = digits_before 20 n []

-- Listing: a record's name in lower case: body, vertex, edge, face, loop, vertex-loop, lump, shell; document 02, Seven: members
unfoldable pub word_of : ℕ → List ℕ
word_of kind =
    get_or
    ((98 ∷ 111 ∷ 100 ∷ 121 ∷ [])
    ∷ (118 ∷ 101 ∷ 114 ∷ 116 ∷ 101 ∷ 120 ∷ [])
    ∷ (101 ∷ 100 ∷ 103 ∷ 101 ∷ [])
    ∷ (102 ∷ 97 ∷ 99 ∷ 101 ∷ [])
    ∷ (108 ∷ 111 ∷ 111 ∷ 112 ∷ [])
    ∷ (118 ∷ 101 ∷ 114 ∷ 116 ∷ 101 ∷ 120 ∷ 45 ∷ 108 ∷ 111 ∷ 111 ∷ 112 ∷ [])
    ∷ (108 ∷ 117 ∷ 109 ∷ 112 ∷ [])
    ∷ (115 ∷ 104 ∷ 101 ∷ 108 ∷ 108 ∷ [])
    ∷ (109 ∷ 101 ∷ 109 ∷ 98 ∷ 101 ∷ 114 ∷ 115 ∷ [])
    ∷ [])
    (kind - 21)
    []

-- the word of a refusal: refused
abbrev pub refused_word : List ℕ
refused_word = 114 ∷ 101 ∷ 102 ∷ 117 ∷ 115 ∷ 101 ∷ 100 ∷ []

-- Listing: a field after a blank
abbrev pub field_text : ℕ → List ℕ
field_text n = 32 ∷ decimal n

-- Listing: `-` for no vertex
abbrev pub vertex_text : ℕ → List ℕ
vertex_text v = cond (eqb v unset) (32 ∷ 45 ∷ []) (field_text v)

-- the fields of a record; the last two of an edge are vertices
unfoldable pub fields_text : Record → List ℕ
fields_text r =
    cond (eqb r.kind 23)
    (flat_map field_text (take 2 r.fields) ++ flat_map vertex_text (drop 2 r.fields))
    (flat_map field_text r.fields)

-- Listing: a line per record
abbrev pub line_of : Record → List ℕ
line_of r = word_of r.kind ++ (fields_text r ++ (10 ∷ []))

-- Listing: `refused` with number and place
abbrev pub refusal_line : ℕ → ℕ → List ℕ
refusal_line number place = refused_word ++ (field_text number ++ (field_text place ++ (10 ∷ [])))

-- Listing: the lines of the records, or that of the refusal
abbrev pub listing_of : Outcome (List Record) → List ℕ
listing_of (Ok rs) = flat_map line_of rs
listing_of (Err refusal) = refusal_line (fault_number refusal.fault) refusal.place

-- the records of a job's body where they fit an output of so many bytes
unfoldable pub sewn_records : Rules → List ℕ → ℕ → Outcome (List Record)
sewn_records rules job room = loaded job >>= λ j. rebuild rules j >>= λ b.
    fitting room (framed_all (body_records b)) >>= λ _.
    Ok (body_records b)

-- Listing: a program lends 65,536 bytes for the body
abbrev pub listing : Rules → List ℕ → List ℕ
listing rules job = listing_of (sewn_records rules job 65536)

-- the same with a joining table
unfoldable pub records_with_table : List ℕ → List ℕ → ℕ → Outcome (List Record)
records_with_table table job room = table_of table >>= λ t. sewn_records (with_table t) job room

-- Listing, of a job sewn with a joining table
abbrev pub listing_with_table : List ℕ → List ℕ → List ℕ
listing_with_table table job = listing_of (records_with_table table job 65536)
