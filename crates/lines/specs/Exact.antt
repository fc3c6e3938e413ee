-- Records and rows are read back from the bytes they were written as, so that an answer's text is document 01's listing.
use Rattle.std.specs.Prelude.{ℕ, zero, ◌+◌, ◌*◌, ◌/◌, ◌<◌, ◌≤◌, ◌≡◌, refl, Bool, true, false, length, get_or, take, drop, leb}
use Rattle.std.proofs.Common.{not-suc-le-zero, le_of_suc-le-suc, arith, sym, ap, subst, ◌∙◌, ⊎_elim, length-append, take_at, drop_at}
use mathlib.Core.List.Memᴰ
use mathlib.Core.List.{List, [], ◌∷◌, ◌++◌, flat_map, map, append_assoc}
use Rattle.std.proofs.lemmas.List.Edits.{sets-eq}
use Rattle.lists.specs.Lists.{◌∈◌}
use Rattle.lists.specs.Members.{flat_map_append}
use Rattle.rules.specs.Outcome.{Outcome, Ok, ◌>>=◌, need, Err}
use Rattle.rules.specs.Fields.{le16, le32, fields_in, bytes16, bytes32, field_bytes}
use Rattle.rules.proofs.FieldLaws.{le32_here}
use Rattle.rules.specs.Frame.{Record, framed, framed_all}
use Rattle.rules.specs.Job.{Job}
use Rattle.rules.specs.Load.{loaded}
use Rattle.rules.specs.declared.Rules.{Rules}
use Rattle.rules.specs.Body.{Body, body_records}
use Rattle.rules.specs.Sew.{rebuild, fitting, sewn, Ends}
use Rattle.rules.specs.Listing.{listing_of, sewn_records, listing}
use Rattle.fields.specs.Tabled.{length_bytes32, length_field_bytes}
use Rattle.fields.specs.Wrote.{Wrote}
use Rattle.theorems.proofs.Reporting.{field_back}
use Rattle.theorems.specs.Narrow.{Below}
use Rattle.theorems.specs.Shapes.{Shaped, AllShaped}
use Rattle.lines.specs.Cut.{cut_put}
use Rattle.lines.specs.Text.{record_at, record_size, records_in, recorded, row_length, row_at, row_size, rows_in}
use Rattle.lines.specs.LineLaws.{record_some, row_some}
use Rattle.rules.specs.declared.Fault.TheVariants.{NoRoom}

-- FIELDS

pub fields_back : (fs more : List ℕ) → Below 4294967296 fs → fields_in (length fs) (field_bytes fs ++ more) ≡ fs
unfolding fields_in flat_map
fields_back [] more h = refl
fields_back (v ∷ fs) more h =
    let rest : List ℕ = field_bytes fs ++ more in
    let e : (bytes32 v ++ field_bytes fs) ++ more ≡ bytes32 v ++ rest = append_assoc (bytes32 v) (field_bytes fs) more in
    ap {B = List ℕ} (λ l. le32 l 0 ∷ fields_in (length fs) (drop 4 l)) e
    ∙ (λ i. field_back v rest (h v (Memᴰ.head refl)) i ∷ fields_in (length fs) (drop_at (bytes32 v) rest 4 (length_bytes32 v) i))
    ∙ ap {B = List ℕ} (λ l. v ∷ l) (fields_back fs more (λ w m. h w (Memᴰ.tail m)))

-- RECORDS

-- a record whose kind, length and fields fit their bytes
pub record Fits (r : Record) : Type 0 where
  pub kind : r.kind < 65536
  pub size : 4 * length r.fields < 4294967296
  pub fields : Below 4294967296 r.fields

framed_is : (r : Record) (more : List ℕ) → framed r ++ more ≡ bytes32 (4 * length r.fields) ++ (bytes16 r.kind ++ (field_bytes r.fields ++ more))
unfolding framed
framed_is r more =
    append_assoc (bytes32 (4 * length r.fields) ++ bytes16 r.kind) (field_bytes r.fields) more ∙ append_assoc (bytes32 (4 * length r.fields)) (bytes16 r.kind) (field_bytes r.fields ++ more)

kind_back : (s k : ℕ) (more : List ℕ) → k < 65536 → le16 (bytes32 s ++ (bytes16 k ++ more)) 4 ≡ k
unfolding le16 bytes32
kind_back s k more h = omega arith

pub framed_length : (r : Record) → length (framed r) ≡ 6 + 4 * length r.fields
unfolding framed
framed_length r =
    let a : List ℕ = bytes32 (4 * length r.fields) in
    let b : List ℕ = bytes16 r.kind in
    omega (arith, length-append (a ++ b) (field_bytes r.fields), length-append a b, length_bytes32 (4 * length r.fields), length_field_bytes r.fields)

record_back : (r : Record) → Fits r → (more : List ℕ) → (record_at (framed r ++ more) ≡ r) × (record_size (framed r ++ more) ≡ length (framed r))
unfolding record_at record_size
record_back r F more =
    let n : ℕ = length r.fields in
    let rest : List ℕ = field_bytes r.fields ++ more in
    let tail : List ℕ = bytes16 r.kind ++ rest in
    let f = framed_is r more in
    let size : le32 (framed r ++ more) 0 ≡ 4 * n = ap (λ l. le32 l 0) f ∙ field_back (4 * n) tail F.size in
    let kind : le16 (framed r ++ more) 4 ≡ r.kind = ap (λ l. le16 l 4) f ∙ kind_back (4 * n) r.kind rest F.kind in
    let fields : fields_in (le32 (framed r ++ more) 0 / 4) (drop 6 (framed r ++ more)) ≡ r.fields =
    (λ i. fields_in (size i / 4) (drop 6 (f i))) ∙ ap (λ m. fields_in m (drop 6 (bytes32 (4 * n) ++ tail))) (quarter n)
    ∙ ap (fields_in n) (drop_head (4 * n) r.kind rest) ∙ fields_back r.fields more F.fields in
    ((λ i. record { kind = kind i; fields = fields i }), omega (arith, size, framed_length r))
  where
    quarter : (n : ℕ) → 4 * n / 4 ≡ n
    quarter n = omega arith

    drop_head : (s k : ℕ) (rest : List ℕ) → drop 6 (bytes32 s ++ (bytes16 k ++ rest)) ≡ rest
    drop_head s k rest =
        ap (λ l. drop 6 l) (sym (append_assoc (bytes32 s) (bytes16 k) rest))
        ∙ drop_at (bytes32 s ++ bytes16 k) rest 6 (length-append (bytes32 s) (bytes16 k) ∙ ap (λ m. m + 2) (length_bytes32 s))

-- the records of a body are read back from its bytes
pub records_back : (rs : List Record) → ((r : Record) → r ∈ rs → Fits r) → records_in (framed_all rs) ≡ rs
records_back rs each = cut_put record_at record_size record_some framed rs (λ r m. record_back r (each r m))

-- THE LISTING

-- the bytes of an outcome's records
abbrev pub framed_of : Outcome (List Record) → Outcome (List ℕ)
framed_of (Ok rs) = Ok (framed_all rs)
framed_of (Err refusal) = Err refusal

from_fit : (rs : List Record) (t : Bool) (n : ℕ) → need t NoRoom n (Ok (framed_all rs)) ≡ framed_of (need t NoRoom n (Ok (framed_all rs)) >>= λ _. Ok rs)
unfolding need
from_fit rs true n = refl
from_fit rs false n = refl

-- sewing's outcome is that of its records
pub sewn_records_lem : (rules : Rules) (job : List ℕ) (room : ℕ) → sewn rules job room ≡ framed_of (sewn_records rules job room)
unfolding sewn sewn_records
sewn_records_lem rules job room = from_job (loaded job)
  where
    from_body : (o : Outcome Body) → (o >>= λ b. fitting room (framed_all (body_records b))) ≡ framed_of (o >>= λ b. fitting room (framed_all (body_records b)) >>= λ _. Ok (body_records b))
    from_body (Ok b) = from_fit (body_records b) (leb (length (framed_all (body_records b))) room) (length (framed_all (body_records b)))
    from_body (Err r) = refl

    from_job : (o : Outcome Job) → (o >>= λ j. rebuild rules j >>= λ b. fitting room (framed_all (body_records b)))
        ≡ framed_of (o >>= λ j. rebuild rules j >>= λ b. fitting room (framed_all (body_records b)) >>= λ _. Ok (body_records b))
    from_job (Ok j) = from_body (rebuild rules j)
    from_job (Err r) = refl

-- an outcome of records that fit
abbrev pub AllFit : Outcome (List Record) → Type 0
AllFit (Ok rs) = (r : Record) → r ∈ rs → Fits r
AllFit (Err refusal) = Unit {0}

pub recorded_is : (o : Outcome (List Record)) (before after : List ℕ) (e : Outcome ℕ) → AllFit o → Ends (framed_of o) before after e → recorded after e ≡ o
recorded_is (Ok rs) before after e h E =
    ap (recorded after) E.0 ∙ ap (λ l. Ok (records_in (take (length (framed_all rs)) l))) E.1
    ∙ ap {B = Outcome (List Record)} (λ l. Ok (records_in l)) (take_at (framed_all rs) (drop (length (framed_all rs)) before) (length (framed_all rs)) refl)
    ∙ ap {B = Outcome (List Record)} Ok (records_back rs h)
recorded_is (Err r) before after e h E = ap (recorded after) E.0

-- what is listed of sewing's answer is the text of the job's records
pub room_listing : (rules : Rules) (job before after : List ℕ) (e : Outcome ℕ) → AllFit (sewn_records rules job (length before)) → Ends (sewn rules job (length before)) before after e
    → listing_of (recorded after e) ≡ listing_of (sewn_records rules job (length before))
room_listing rules job before after e h E =
    ap listing_of (recorded_is (sewn_records rules job (length before)) before after e h (subst (λ o. Ends o before after e) (sewn_records_lem rules job (length before)) E))

-- with 65,536 bytes, it is the listing of document 01
pub listing_is : (rules : Rules) (job before after : List ℕ) (e : Outcome ℕ) → AllFit (sewn_records rules job 65536) → length before ≡ 65536 → Ends (sewn rules job (length before)) before after e
    → listing_of (recorded after e) ≡ listing rules job
listing_is rules job before after e h n E =
    room_listing rules job before after e (subst (λ k. AllFit (sewn_records rules job k)) (sym n) h) E ∙ ap (λ k. listing_of (sewn_records rules job k)) n

-- ROWS

second_back : (row more : List ℕ) → Below 4294967296 row → 1 < length row → le32 (field_bytes row ++ more) 4 ≡ get_or row 1 0
unfolding flat_map
second_back [] more h lt = absurd (not-suc-le-zero lt)
second_back (a ∷ []) more h lt = absurd (not-suc-le-zero (le_of_suc-le-suc lt))
second_back (a ∷ b ∷ row) more h lt =
    let rest : List ℕ = field_bytes row ++ more in
    let e : field_bytes (a ∷ b ∷ row) ++ more ≡ bytes32 a ++ (bytes32 b ++ rest) =
    append_assoc (bytes32 a) (bytes32 b ++ field_bytes row) more ∙ ap (λ l. bytes32 a ++ l) (append_assoc (bytes32 b) (field_bytes row) more) in
    ap (λ l. le32 l 4) e ∙ sym (le32_here 4 (bytes32 a ++ (bytes32 b ++ rest))) ∙ ap (λ l. le32 l 0) (drop_at (bytes32 a) (bytes32 b ++ rest) 4 (length_bytes32 a))
    ∙ field_back b rest (h b (Memᴰ.tail (Memᴰ.head refl)))

row_length_lem : (fixed counted : ℕ) (row more : List ℕ) → Shaped fixed counted row → row_length fixed counted (field_bytes row ++ more) ≡ length row
unfolding row_length
row_length_lem fixed counted row more S =
    let x : ℕ = le32 (field_bytes row ++ more) 4 in
    let none : (y : ℕ) → counted ≡ 0 → counted * y ≡ 0 = (λ y e. let z : zero * y ≡ zero = omega arith in ap (λ c. c * y) e ∙ z) in
    ⊎_elim
    (λ e. ap (λ k. fixed + k) (none x e ∙ sym (none (get_or row 1 0) e)) ∙ sym S.shape)
    (λ lt. ap (λ v. fixed + counted * v) (second_back row more S.fields lt) ∙ sym S.shape)
    S.second

-- the rows of a stage are read back from their bytes
pub rows_back : (fixed counted : ℕ) (rows : List (List ℕ)) → 0 < fixed → AllShaped fixed counted rows → rows_in fixed counted (flat_map field_bytes rows) ≡ rows
rows_back fixed counted rows h each =
    cut_put (row_at fixed counted) (row_size fixed counted) (row_some fixed counted h) field_bytes rows
    (λ row m more.
    let n = row_length_lem fixed counted row more (each row m) in
    (ap (λ k. fields_in k (field_bytes row ++ more)) n ∙ fields_back row more (each row m).fields, ap (λ k. 4 * k) n ∙ sym (length_field_bytes row)))

-- the bytes of a stage, as document 01 puts its fields one after the other
pub bytes_by_rows : {A : Type 0} (f : A → List ℕ) (xs : List A) → field_bytes (flat_map f xs) ≡ flat_map field_bytes (map f xs)
unfolding flat_map
bytes_by_rows f [] = refl
bytes_by_rows f (x ∷ xs) = flat_map_append bytes32 (f x) (flat_map f xs) ∙ ap (λ l. field_bytes (f x) ++ l) (bytes_by_rows f xs)

-- WHAT IS SHOWN

-- a text that the page has room for is shown whole
shown_whole : (before after text : List ℕ) (q : ℕ) → Wrote before 0 text after q → length text ≤ length before → take q after ≡ text
shown_whole before after text q w le =
    let e : q ≡ length text = omega (arith, w.1) in
    ap (λ n. take n after) e ∙ ap (take (length text)) (w.0 ∙ sets-eq text before 0 (omega arith)) ∙ take_at text (drop (0 + length text) before) (length text) refl

-- a page on which a text was put: the place after the text, which is at most the bound, and the whole text where the page has room
pub record Printed (text page printed : List ℕ) (bound r : ℕ) : Type 0 where
  pub wrote : Wrote page 0 text printed r
  pub few : r ≤ bound
  pub whole : r ≤ length page → take r printed ≡ text

-- a text that has no more characters than the bound is put so
pub prints : (text page printed : List ℕ) (bound r : ℕ) → Wrote page 0 text printed r → length text ≤ bound → Printed text page printed bound r
prints text page printed bound r w le = record {
  wrote = w;
  few = omega (arith, w.1, le);
  whole = λ room. shown_whole page printed text r w (omega (arith, w.1, room));
}
