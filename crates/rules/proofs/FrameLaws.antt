-- Laws of frames: the records from a place on without the bound, and what a record that is whole takes and holds.
use Rattle.std.specs.Prelude.{ℕ, zero, suc, ◌+◌, ◌*◌, ◌/◌, ◌<◌, ◌≤◌, ◌≡◌, refl, List, [], ◌∷◌, Bool, true, false, cond}
use Rattle.std.specs.Prelude.{length, drop, leb}
use Rattle.std.proofs.Common.{not-suc-le-zero, le_refl, arith, sym, ap, ◌∙◌, subst, ⊎_elim, length-drop}
use Rattle.std.proofs.Common.{drop_of_length-le, drop-drop, leb-true, le-leb}
use mathlib.Core.List.Memᴰ
use Rattle.std.proofs.lemmas.Bool.{lt-leb}
use Rattle.lists.specs.Lists.{◌∈◌}
use Rattle.lists.specs.Tests.{and_both}
use Rattle.rules.specs.Fields.{le16, le32, fields_in}
use Rattle.rules.specs.Frame.{Frame, whole_record, frame_at, taking, frames_from, frames_of}
use Rattle.rules.proofs.FieldLaws.{le16_drop, le32_here, length_fields}

-- a record takes a byte at least
taking_some : (b : ℕ) (bs : List ℕ) → 1 ≤ taking (b ∷ bs)
unfolding taking
taking_some b bs = go (whole_record (b ∷ bs))
  where
    go : (t : Bool) → 1 ≤ cond t (6 + le32 (b ∷ bs) 0) (length (b ∷ bs))
    go true = omega arith
    go false = omega arith

-- any bound from the length on gives the same records
enough : (n m at : ℕ) (rest : List ℕ) → length rest ≤ n → length rest ≤ m → frames_from n at rest ≡ frames_from m at rest
unfolding frames_from
enough zero zero at rest h k = refl
enough zero (suc m) at [] h k = refl
enough zero (suc m) at (b ∷ bs) h k = absurd (not-suc-le-zero h)
enough (suc n) zero at [] h k = refl
enough (suc n) zero at (b ∷ bs) h k = absurd (not-suc-le-zero k)
enough (suc n) (suc m) at [] h k = refl
enough (suc n) (suc m) at (b ∷ bs) h k =
    ap {B = List Frame} (λ r. frame_at at (b ∷ bs) ∷ r)
    (enough n m (at + taking (b ∷ bs)) (drop (taking (b ∷ bs)) (b ∷ bs))
    (omega (arith, length-drop (taking (b ∷ bs)) (b ∷ bs), taking_some b bs))
    (omega (arith, length-drop (taking (b ∷ bs)) (b ∷ bs), taking_some b bs)))

frames_more : (at : ℕ) (rest : List ℕ) → 0 < length rest → frames_of at rest ≡ frame_at at rest ∷ frames_of (at + taking rest) (drop (taking rest) rest)
unfolding frames_from
frames_more at [] h = absurd (not-suc-le-zero h)
frames_more at (b ∷ bs) h =
    ap {B = List Frame} (λ r. frame_at at (b ∷ bs) ∷ r)
    (enough (length bs) _ (at + taking (b ∷ bs)) (drop (taking (b ∷ bs)) (b ∷ bs))
    (omega (arith, length-drop (taking (b ∷ bs)) (b ∷ bs), taking_some b bs))
    (le_refl _))

-- the record at a place, then those from its end on
pub frames_step : (job : List ℕ) (at : ℕ) → at < length job
    → frames_of at (drop at job) ≡ frame_at at (drop at job) ∷ frames_of (at + taking (drop at job)) (drop (at + taking (drop at job)) job)
frames_step job at h = frames_more at (drop at job) (omega (arith, length-drop at job)) ∙ simp drop-drop

-- at the end no record is left
pub frames_end : (job : List ℕ) (at : ℕ) → length job ≤ at → frames_of at (drop at job) ≡ []
unfolding frames_from
frames_end job at h = rw (drop_of_length-le job h)

-- THE RECORD AT A PLACE

-- a record is whole where its header is there and its payload's length fits what is left
pub whole_is : (job : List ℕ) (at : ℕ) → at + 6 ≤ length job → at + 6 + le32 job at ≤ length job → whole_record (drop at job) ≡ true
unfolding whole_record
whole_is job at h k =
    let n = length-drop at job in
    let z = le32_here at job in
    rw (le-leb 6 (length (drop at job)) (omega arith), le-leb (6 + le32 (drop at job) 0) (length (drop at job)) (omega arith))

-- and is not where the header is cut, or the payload
pub head_cut : (job : List ℕ) (at : ℕ) → length job < at + 6 → whole_record (drop at job) ≡ false
unfolding whole_record
head_cut job at h = let n = length-drop at job in rw (lt-leb 6 (length (drop at job)) (omega arith))

pub payload_cut : (job : List ℕ) (at : ℕ) → at + 6 ≤ length job → length job < at + 6 + le32 job at → whole_record (drop at job) ≡ false
unfolding whole_record
payload_cut job at h k =
    let n = length-drop at job in
    let z = le32_here at job in
    rw (le-leb 6 (length (drop at job)) (omega arith), lt-leb (6 + le32 (drop at job) 0) (length (drop at job)) (omega arith))

-- a record that is whole, by the bytes of the job
pub frame_is : (job : List ℕ) (at : ℕ) → whole_record (drop at job) ≡ true
    → frame_at at (drop at job)
    ≡ record { at = at; whole = true; kind = le16 job (at + 4); size = le32 job at; fields = fields_in (le32 job at / 4) (drop (at + 6) job) }
unfolding frame_at
frame_is job at h =
    let z = le32_here at job in
    rw (h, le16_drop at job 4, z, drop-drop)

pub taking_is : (job : List ℕ) (at : ℕ) → whole_record (drop at job) ≡ true → taking (drop at job) ≡ 6 + le32 job at
unfolding taking
taking_is job at h =
    let z = le32_here at job in
    rw (h, z)

-- and it ends within the job
pub whole_within : (job : List ℕ) (at : ℕ) → whole_record (drop at job) ≡ true → at + 6 + le32 job at ≤ length job
unfolding whole_record
whole_within job at e =
    let q = and_both (leb 6 (length (drop at job))) (leb (6 + le32 (drop at job) 0) (length (drop at job))) e in
    let h = leb-true (6 + le32 (drop at job) 0) (length (drop at job)) q.1 in
    let n = length-drop at job in
    let z = le32_here at job in
    omega arith

-- ALL RECORDS

whole_length : (rest : List ℕ) → whole_record rest ≡ true → 6 + le32 rest 0 ≤ length rest
unfolding whole_record
whole_length rest e = leb-true (6 + le32 rest 0) (length rest) (and_both (leb 6 (length rest)) (leb (6 + le32 rest 0) (length rest)) e).1

-- the record at the front
front_inside : (at : ℕ) (rest : List ℕ) → (frame_at at rest).whole ≡ true → (frame_at at rest).at + 6 + 4 * length (frame_at at rest).fields ≤ at + length rest
unfolding frame_at
front_inside at rest w =
    let h = whole_length rest w in
    let n : length (fields_in (cond (whole_record rest) (le32 rest 0 / 4) 0) (drop 6 rest)) ≡ le32 rest 0 / 4 =
    length_fields (cond (whole_record rest) (le32 rest 0 / 4) 0) (drop 6 rest) ∙ ap (λ t. cond t (le32 rest 0 / 4) 0) w in
    omega arith

-- a record takes no more than there is
taking_within : (rest : List ℕ) → taking rest ≤ length rest
unfolding taking
taking_within rest = go (whole_record rest) refl
  where
    go : (t : Bool) → whole_record rest ≡ t → cond t (6 + le32 rest 0) (length rest) ≤ length rest
    go true e = whole_length rest e
    go false e = le_refl (length rest)

-- the records of some bytes that are whole end within them
pub frames_inside : (most at : ℕ) (rest : List ℕ) (f : Frame) → f ∈ frames_from most at rest → f.whole ≡ true → f.at + 6 + 4 * length f.fields ≤ at + length rest
unfolding frames_from
frames_inside zero at rest f m w = absurd (Memᴰ.not-nil m)
frames_inside (suc most) at [] f m w = absurd (Memᴰ.not-nil m)
frames_inside (suc most) at (b ∷ bs) f m w =
    let rest : List ℕ = b ∷ bs in
    ⊎_elim
    (λ e. subst (λ g. g.at + 6 + 4 * length g.fields ≤ at + length rest) (sym e) (front_inside at rest (sym (ap (λ g. g.whole) e) ∙ w)))
    (λ q.
    let h = frames_inside most (at + taking rest) (drop (taking rest) rest) f q w in
    let k = taking_within rest in
    omega (arith, length-drop (taking rest) rest))
    (Memᴰ.cases_cons m)
