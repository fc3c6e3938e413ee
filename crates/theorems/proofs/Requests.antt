-- A loop request that is not refused shows at least one byte.
use Rattle.std.specs.Prelude.{ℕ, zero, suc, ◌+◌, ◌*◌, ◌/◌, ◌%◌, ◌≤◌, ◌<◌, ◌≡◌, true, cond, List, [], ◌∷◌, length}
use Rattle.std.specs.Prelude.{get_or, drop, eqb, ltb}
use Rattle.std.proofs.Common.{arith, sym, ap, ◌∙◌, subst, ⊎_elim, ltb-true, eqb-true}
use Rattle.std.proofs.lemmas.Bool.{false≢true}
use mathlib.Core.List.Memᴰ
use Rattle.lists.specs.Lists.{◌∈◌}
use Rattle.lists.specs.Tests.{and_both}
use Rattle.lists.specs.Membership.{get_or_in}
use Rattle.rules.specs.declared.Fault.TheVariants.{FieldNotPermitted}
use Rattle.rules.specs.declared.Kind.{Kind}
use Rattle.rules.specs.declared.Kind.TheVariants.{Unknown, Head, Vertex, EdgeRecord, FaceRecord, LoopRecord, VertexLoop}
use Rattle.rules.specs.declared.Kind.TheVariants.{Radial, Surface, Points, Curves, Singular, Orientation, Inside}
use Rattle.rules.specs.Outcome.{Ok}
use Rattle.rules.proofs.OutcomeLaws.{ok_one, bind_ok, need_ok}
use Rattle.rules.specs.Fields.{le32}
use Rattle.rules.proofs.FieldLaws.{length_fields}
use Rattle.rules.specs.Frame.{Frame, whole_record, frame_at, taking, frames_from, frames}
use Rattle.rules.specs.Job.{Stretch, Job}
use Rattle.rules.specs.Kinds.{kind_of, number_of, is_loop, right_length}
use Rattle.rules.specs.Load.{Loading, extended, load_record, loading, loaded, no_stretch, requested}
use Rattle.theorems.proofs.Loading.{also_has, record_taken, loading_keeps}

-- a whole record has a field for each four bytes
frames_sized : (most at : ℕ) (rest : List ℕ) (f : Frame) → f ∈ frames_from most at rest → f.whole ≡ true → length f.fields ≡ f.size / 4
unfolding frames_from frame_at
frames_sized zero at rest f m w = absurd (Memᴰ.not-nil m)
frames_sized (suc most) at [] f m w = absurd (Memᴰ.not-nil m)
frames_sized (suc most) at (y ∷ ys) f m w =
    let rest : List ℕ = y ∷ ys in
    let later = frames_sized most (at + taking rest) (drop (taking rest) rest) f in
    ⊎_elim
    (λ (e : f ≡ frame_at at rest).
    let t : whole_record rest ≡ true = ap (λ (g : Frame). g.whole) (sym e) ∙ w in
    ap (λ (g : Frame). length g.fields) e ∙ length_fields (cond (whole_record rest) (le32 rest 0 / 4) 0) (drop 6 rest)
    ∙ ap (λ b. cond b (le32 rest 0 / 4) 0) t ∙ ap (λ (g : Frame). g.size / 4) (sym e))
    (λ i. later i w)
    (Memᴰ.cases_cons m)

-- a loop's payload has at least one field
loop_size : (k : Kind) (size : ℕ) → is_loop k ≡ true → right_length k size ≡ true → 4 ≤ size
unfolding right_length number_of
loop_size Unknown size l r = absurd (false≢true l)
loop_size Head size l r = absurd (false≢true l)
loop_size Vertex size l r = absurd (false≢true l)
loop_size EdgeRecord size l r = absurd (false≢true l)
loop_size FaceRecord size l r = absurd (false≢true l)
loop_size LoopRecord size l r =
    let a = and_both (ltb 0 size) (eqb (size % 8) 0) r in
    omega (arith, ltb-true 0 size a.0, eqb-true (size % 8) 0 a.1)
loop_size VertexLoop size l r = omega (arith, eqb-true size (4 * 1) r)
loop_size Radial size l r = absurd (false≢true l)
loop_size Surface size l r = absurd (false≢true l)
loop_size Points size l r = absurd (false≢true l)
loop_size Curves size l r = absurd (false≢true l)
loop_size Singular size l r = absurd (false≢true l)
loop_size Orientation size l r = absurd (false≢true l)
loop_size Inside size l r = absurd (false≢true l)

-- no loop's payload loaded so far is empty
Some : Loading → Type 0
Some s = (t : Stretch) → t ∈ s.job.stretches → 0 < t.size

-- a record of the job keeps that
some_kept : (bytes : List ℕ) (f : Frame) (s t : Loading) → f ∈ frames bytes → Some s → load_record f s ≡ Ok t → Some t
unfolding Some extended
some_kept bytes f s t m S e =
    let r = record_taken f s t e in
    let n = frames_sized (length bytes) 0 bytes f m r.whole in
    subst (λ (u : Loading). (t : Stretch) → t ∈ u.job.stretches → 0 < t.size) (sym r.after)
    (also_has (λ (t : Stretch). 0 < t.size) (is_loop (kind_of f.kind)) s.job.stretches (record { start = f.at + 6; size = 4 * length f.fields }) S
    (λ l. let h = loop_size (kind_of f.kind) f.size l r.sized in omega arith))

-- each loop's payload of a loaded job is not empty
pub stretches_some : (bytes : List ℕ) (s : Loading) → loading bytes ≡ Ok s → (t : Stretch) → t ∈ s.job.stretches → 0 < t.size
unfolding Some
stretches_some bytes s = loading_keeps bytes Some s (some_kept bytes) (λ t m. absurd (Memᴰ.not-nil m))

-- a requested stretch is not empty
pub request_some : (job : List ℕ) (n : ℕ) (s : Stretch) → requested job n ≡ Ok s → 0 < s.size
unfolding requested
request_some job n s e =
    let l = bind_ok (loaded job) _ s e in
    let q = bind_ok (loading job) _ l.0 l.1 in
    let j : Job = l.0 in
    let r = need_ok (ltb n (length j.stretches)) FieldNotPermitted n (Ok (get_or j.stretches n no_stretch)) s l.2 in
    let m : get_or j.stretches n no_stretch ∈ j.stretches = get_or_in j.stretches n no_stretch (ltb-true n (length j.stretches) r.0) in
    let all = subst (λ (x : Job). (t : Stretch) → t ∈ x.stretches → 0 < t.size) (ok_one q.2) (stretches_some job q.0 q.1) in
    subst (λ (t : Stretch). 0 < t.size) (ok_one r.1) (all (get_or j.stretches n no_stretch) m)
