-- Laws of text written byte by byte: a text, the digits of a number, a field, fields one after the other.
use Prim.Native.Nat.{ℕ, zero, suc, ◌+◌, ◌*◌, ◌-◌, ◌/◌, ◌%◌, ◌<◌, ◌≤◌}
use Rattle.std.proofs.Common.{not-suc-le-zero, add-one, subst, ◌∙◌, ⊎_elim, length-append, length-set, length-drop}
use Rattle.std.proofs.Common.{drop_of_length-le, take-suc, take_all, length-take-le, drop_at, drop-drop, lt-ltb, le-ltb}
use native.Mathlib.Omega.{arith}
use Rattle.std.specs.Prelude.{◌≡◌, cond, length, get_or, set, take, eqb, ltb}
use Rattle.std.proofs.Math.Path.{sym, ap}
use mathlib.Core.List.{List, [], ◌∷◌, ◌++◌, flat_map, append-nil, append_assoc}
use Rattle.std.proofs.Math.ListN.{drop}
use Rattle.std.proofs.lemmas.List.Edits.{sets}
use Rattle.std.proofs.lemmas.List.{set_split, take-append-le, drop-append-le, length-take}
use Rattle.lists.specs.Tests.{both_ways, cond_true, cond_false}
use Rattle.lists.specs.Members.{flat_map_append}
use Rattle.rules.specs.Job.{unset}
use Rattle.rules.specs.Fields.{le32, fields_in}
use Rattle.rules.proofs.FieldLaws.{le32_here, length_fields}
use Rattle.rules.specs.Listing.{digits_before, decimal, field_text, vertex_text}
use Rattle.fields.specs.Wrote.{Wrote, wrote_as, wrote_more, sets_append}
use Rattle.lines.specs.Text.{parted_text}

-- ONE BYTE MORE

pub text_more : (before mid after text : List ℕ) (at i : ℕ) → mid ≡ sets before at (take i text) → i < length text
    → after ≡ set mid (at + i) (get_or text i 0) → after ≡ sets before at (take (i + 1) text)
text_more before mid after text at i m lt e =
    let n : length (take i text) ≡ i = length-take-le i text (omega arith) in
    e ∙ (λ t. set (m t) (at + sym n t) (get_or text i 0)) ∙ sets_append before at (take i text) (get_or text i 0 ∷ [])
    ∙ ap (sets before at) (sym (take-suc text i 0 lt) ∙ ap (λ k. take k text) (sym (add-one i)))

-- THE DIGITS OF A NUMBER

-- a digit in front of those that are there
digit_here : (digits : List ℕ) (i d : ℕ) → i < length digits → drop i (set digits i d) ≡ d ∷ drop (suc i) digits
digit_here digits i d lt = ap (drop i) (set_split digits i d lt) ∙ drop_at (take i digits) (d ∷ drop (suc i) digits) i (length-take-le i digits (omega arith))

-- the digits from a place on, with those of the rest still to come, make the number
abbrev pub Spelled : ℕ → List ℕ → ℕ → ℕ → Type 0
Spelled v digits i rest = (length digits ≡ 20) × (i ≤ 20) × (digits_before i rest (drop i digits) ≡ decimal v)

pub spelled_start : (v : ℕ) (digits : List ℕ) → length digits ≡ 20 → Spelled v digits 20 v
spelled_start v digits e = (e, omega arith, ap (digits_before 20 v) (drop_of_length-le digits {i = 20} (omega arith)))

spelled_next : (v : ℕ) (digits : List ℕ) (i rest : ℕ) → Spelled v digits (suc i) rest
    → cond (ltb rest 10) (drop i (set digits i (48 + rest % 10))) (digits_before i (rest / 10) (drop i (set digits i (48 + rest % 10)))) ≡ decimal v
unfolding digits_before
spelled_next v digits i rest S =
    let here : drop i (set digits i (48 + rest % 10)) ≡ (48 + rest % 10) ∷ drop (suc i) digits = digit_here digits i (48 + rest % 10) (omega (arith, S.0, S.1)) in
    ap (λ l. cond (ltb rest 10) l (digits_before i (rest / 10) l)) here ∙ S.2

pub spelled_last : (v : ℕ) (digits : List ℕ) (i k rest : ℕ) → i ≡ suc k → rest < 10 → Spelled v digits i rest → drop k (set digits k (48 + rest % 10)) ≡ decimal v
spelled_last v digits i k rest e lt S =
    sym (cond_true (ltb rest 10) (drop k (set digits k (48 + rest % 10))) (digits_before k (rest / 10) (drop k (set digits k (48 + rest % 10)))) (lt-ltb rest 10 lt))
    ∙ spelled_next v digits k rest (subst (λ n. Spelled v digits n rest) e S)

pub spelled_on : (v : ℕ) (digits : List ℕ) (i k rest : ℕ) → i ≡ suc k → 10 ≤ rest → Spelled v digits i rest → Spelled v (set digits k (48 + rest % 10)) k (rest / 10)
spelled_on v digits i k rest e le S = (
  length-set digits k (48 + rest % 10) ∙ S.0,
  omega (arith, S.1),
  sym (cond_false (ltb rest 10) (drop k (set digits k (48 + rest % 10))) (digits_before k (rest / 10) (drop k (set digits k (48 + rest % 10)))) (le-ltb rest 10 le))
      ∙ spelled_next v digits k rest (subst (λ n. Spelled v digits n rest) e S),
)

pub spelled_end : (v : ℕ) (digits : List ℕ) (i rest : ℕ) → i ≤ 0 → Spelled v digits i rest → drop 0 digits ≡ decimal v
unfolding digits_before
spelled_end v digits zero rest h S = S.2
spelled_end v digits (suc i) rest h S = absurd (not-suc-le-zero h)

-- the digits as a part that starts at the first
pub number_wrote : (before after digits : List ℕ) (at q r v : ℕ) → length digits ≡ 20 → drop r digits ≡ decimal v
    → Wrote before at (take (20 - r) (drop r digits)) after q → Wrote before at (decimal v) after q
number_wrote before after digits at q r v n e w =
    wrote_as before after (take (20 - r) (drop r digits)) (decimal v) at q (take_all (20 - r) (drop r digits) (omega (arith, length-drop r digits, n)) ∙ e) w

-- a number has at most twenty digits
few_digits : (most n : ℕ) (text : List ℕ) → length (digits_before most n text) ≤ most + length text
unfolding digits_before
few_digits zero n text = omega arith
few_digits (suc most) n text =
    let here : List ℕ = (48 + n % 10) ∷ text in
    let more : List ℕ = digits_before most (n / 10) here in
    let k : length more ≤ most + suc (length text) = few_digits most (n / 10) here in
    ⊎_elim
    (λ e. omega (arith, ap length (cond_true (ltb n 10) here more e)))
    (λ e. omega (arith, ap length (cond_false (ltb n 10) here more e), k))
    (both_ways (ltb n 10))

pub decimal_short : (v : ℕ) → length (decimal v) ≤ 20
decimal_short v = few_digits 20 v []

-- A FIELD

pub number_short : (v : ℕ) → length (field_text v) ≤ 21
number_short v = omega (arith, decimal_short v)

pub vertex_short : (v : ℕ) → length (vertex_text v) ≤ 21
vertex_short v =
    ⊎_elim
    (λ e. omega (arith, ap length (cond_true (eqb v unset) (32 ∷ 45 ∷ []) (field_text v) e)))
    (λ e. omega (arith, ap length (cond_false (eqb v unset) (32 ∷ 45 ∷ []) (field_text v) e), decimal_short v))
    (both_ways (eqb v unset))

-- FIELDS ONE AFTER THE OTHER

pub fields_append : (m n : ℕ) (s : List ℕ) → fields_in (m + n) s ≡ fields_in m s ++ fields_in n (drop (4 * m) s)
unfolding fields_in
fields_append zero n s = let e : zero + n ≡ n = omega arith in ap (λ k. fields_in k s) e
fields_append (suc m) n s =
    let e : suc m + n ≡ suc (m + n) = omega arith in
    let f : 4 + 4 * m ≡ 4 * suc m = omega arith in
    ap (λ k. fields_in k s) e
    ∙ ap {B = List ℕ} (λ l. le32 s 0 ∷ l) (fields_append m n (drop 4 s) ∙ ap (λ l. fields_in m (drop 4 s) ++ fields_in n l) (drop-drop (4 * m) 4 s ∙ ap (λ k. drop k s) f))

-- one field more
fields_more : (i : ℕ) (s : List ℕ) → fields_in (i + 1) s ≡ fields_in i s ++ (le32 s (4 * i) ∷ [])
unfolding fields_in
fields_more i s = fields_append i 1 s ∙ ap (λ v. fields_in i s ++ (v ∷ [])) (le32_here (4 * i) s)

-- where all are plain
pub parted_all : (plain : ℕ) (fs : List ℕ) → length fs ≤ plain → parted_text plain fs ≡ flat_map field_text fs
unfolding flat_map
parted_all plain fs h =
    (λ i. flat_map field_text (take_all plain fs h i) ++ flat_map vertex_text (drop_of_length-le fs {i = plain} h i)) ∙ append-nil (flat_map field_text fs)

each_short : (text : ℕ → List ℕ) → ((v : ℕ) → length (text v) ≤ 21) → (fs : List ℕ) → length (flat_map text fs) ≤ 21 * length fs
unfolding flat_map
each_short text short [] = omega arith
each_short text short (f ∷ fs) = omega (arith, length-append (text f) (flat_map text fs), short f, each_short text short fs)

pub parted_short : (plain n : ℕ) (s : List ℕ) → length (parted_text plain (fields_in n s)) ≤ 21 * n
parted_short plain n s =
    let fs : List ℕ = fields_in n s in
    omega (
      arith,
      length-append (flat_map field_text (take plain fs)) (flat_map vertex_text (drop plain fs)),
      each_short field_text number_short (take plain fs),
      each_short vertex_text vertex_short (drop plain fs),
      length-take plain fs,
      length-drop plain fs,
      length_fields n s,
    )

pub parted_none : (plain : ℕ) (s : List ℕ) → parted_text plain (fields_in 0 s) ≡ []
unfolding flat_map fields_in
parted_none plain s = parted_all plain [] (omega arith)

-- one field more: a plain one, or a vertex
parted_plain : (plain i : ℕ) (s : List ℕ) → i < plain → parted_text plain (fields_in (i + 1) s) ≡ parted_text plain (fields_in i s) ++ field_text (le32 s (4 * i))
unfolding flat_map
parted_plain plain i s lt =
    let fs : List ℕ = fields_in i s in
    let v : ℕ = le32 s (4 * i) in
    let n : length (fields_in (i + 1) s) ≡ i + 1 = length_fields (i + 1) s in
    parted_all plain (fields_in (i + 1) s) (omega (arith, n, lt)) ∙ ap (flat_map field_text) (fields_more i s) ∙ flat_map_append field_text fs (v ∷ [])
    ∙ (λ t. sym (parted_all plain fs (omega (arith, length_fields i s, lt))) t ++ append-nil (field_text v) t)

parted_vertex : (plain i : ℕ) (s : List ℕ) → plain ≤ i → parted_text plain (fields_in (i + 1) s) ≡ parted_text plain (fields_in i s) ++ vertex_text (le32 s (4 * i))
unfolding flat_map
parted_vertex plain i s le =
    let fs : List ℕ = fields_in i s in
    let v : ℕ = le32 s (4 * i) in
    let h : plain ≤ length fs = omega (arith, length_fields i s, le) in
    ap (parted_text plain) (fields_more i s)
    ∙ (λ t. flat_map field_text (take-append-le plain fs (v ∷ []) h t) ++ flat_map vertex_text (drop-append-le plain fs (v ∷ []) h t))
    ∙ ap (λ l. flat_map field_text (take plain fs) ++ l) (flat_map_append vertex_text (drop plain fs) (v ∷ []) ∙ ap (λ l. flat_map vertex_text (drop plain fs) ++ l) (append-nil (vertex_text v)))
    ∙ sym (append_assoc (flat_map field_text (take plain fs)) (flat_map vertex_text (drop plain fs)) (vertex_text v))

-- the text of the fields so far, then that of one more
pub plain_wrote : (before mid new after s : List ℕ) (at p r q plain i v : ℕ) → Wrote before at (parted_text plain (fields_in i s)) mid p → i < plain → v ≡ le32 s (4 * i)
    → Wrote mid p (field_text v) new r → after ≡ new → q ≡ r → Wrote before at (parted_text plain (fields_in (i + 1) s)) after q
plain_wrote before mid new after s at p r q plain i v f lt ev w ea eq =
    let text : List ℕ = parted_text plain (fields_in i s) in
    wrote_as before after (text ++ field_text v) (parted_text plain (fields_in (i + 1) s)) at q
    (ap (λ u. text ++ field_text u) ev ∙ sym (parted_plain plain i s lt))
    (wrote_more before mid after text (field_text v) at p q f (ea ∙ w.0, eq ∙ w.1))

pub vertex_wrote : (before mid new after s : List ℕ) (at p r q plain i v : ℕ) → Wrote before at (parted_text plain (fields_in i s)) mid p → plain ≤ i → v ≡ le32 s (4 * i)
    → Wrote mid p (vertex_text v) new r → after ≡ new → q ≡ r → Wrote before at (parted_text plain (fields_in (i + 1) s)) after q
vertex_wrote before mid new after s at p r q plain i v f le ev w ea eq =
    let text : List ℕ = parted_text plain (fields_in i s) in
    wrote_as before after (text ++ vertex_text v) (parted_text plain (fields_in (i + 1) s)) at q
    (ap (λ u. text ++ vertex_text u) ev ∙ sym (parted_vertex plain i s le))
    (wrote_more before mid after text (vertex_text v) at p q f (ea ∙ w.0, eq ∙ w.1))
