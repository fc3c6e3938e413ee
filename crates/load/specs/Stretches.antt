-- The loop request: the stretch of a loop, by the index, and that it lies within the job.
use Rattle.std.specs.Prelude.{ℕ, ◌+◌, ◌*◌, ◌<◌, ◌≤◌, ◌≡◌, List, length, get_or, ltb}
use native.Mathlib.Omega.{arith}
use Rattle.std.proofs.Math.Path.{sym, ap}
use Rattle.std.proofs.Common.{◌∙◌, subst, lt-ltb, le-ltb}
use mathlib.Core.List.Memᴰ
use Rattle.lists.specs.Lists.{◌∈◌}
use Rattle.lists.specs.Membership.{get_or_in}
use Rattle.lists.specs.Runs.{length_table, get_or_table}
use Rattle.rules.specs.declared.Counts.{Counts}
use Rattle.rules.specs.Fields.{le32}
use Rattle.rules.specs.declared.Refusal.{Refusal}
use Rattle.rules.specs.Outcome.{Outcome, Ok, Err, refuse, need}
use Rattle.rules.proofs.OutcomeLaws.{need_on, need_stop}
use Rattle.rules.specs.Frame.{Frame, frames}
use Rattle.rules.proofs.FrameLaws.{frames_inside}
use Rattle.rules.specs.Job.{Stretch}
use Rattle.rules.specs.Kinds.{kind_of, is_loop}
use Rattle.rules.specs.Load.{Loading, extended, load_record, loading, no_stretch, requested}
use Rattle.theorems.proofs.Loading.{also_has, record_taken, loading_keeps, loading_counted}
use Rattle.theorems.proofs.Requests.{request_some}
use Rattle.job.specs.Lists.{loop_byte, stretch_in, stretches_in, job_in}
use Rattle.load.specs.Judged.{state_in}
use Rattle.rules.specs.declared.Fault.TheVariants.{FieldNotPermitted}

-- a part that begins at the stretch's first byte, by the addresses of the job's first byte and of the part's, and is not empty
abbrev pub Placed : ℕ × ℕ → Outcome Stretch → ℕ × ℕ → Type 0
Placed job (Ok s) part = (part ≡ (job.0, job.1 + s.start)) × (0 < s.size)
Placed job (Err refusal) part = part ≡ job

-- WITHIN THE JOB

-- each loop's payload lies within the bytes
Inside : List ℕ → Loading → Type 0
Inside bytes s = (t : Stretch) → t ∈ s.job.stretches → t.start + t.size ≤ length bytes

-- a record of the job keeps that
inside_kept : (bytes : List ℕ) (f : Frame) (s t : Loading) → f ∈ frames bytes → Inside bytes s → load_record f s ≡ Ok t → Inside bytes t
unfolding Inside extended
inside_kept bytes f s t m I e =
    let r = record_taken f s t e in
    let h = frames_inside (length bytes) 0 bytes f m r.whole in
    subst (Inside bytes) (sym r.after)
    (also_has (λ (t : Stretch). t.start + t.size ≤ length bytes) (is_loop (kind_of f.kind)) s.job.stretches (record { start = f.at + 6; size = 4 * length f.fields }) I (λ _. omega arith))

-- each loop's payload of a loaded job lies within its bytes
pub stretches_inside : (bytes : List ℕ) (s : Loading) → loading bytes ≡ Ok s → (t : Stretch) → t ∈ s.job.stretches → t.start + t.size ≤ length bytes
unfolding Inside
stretches_inside bytes s = loading_keeps bytes (Inside bytes) s (inside_kept bytes) (λ t m. absurd (Memᴰ.not-nil m))

-- THE REQUEST

-- after a refusal of load
pub request_refused : (bytes : List ℕ) (n : ℕ) (r : Refusal) → loading bytes ≡ Err r → requested bytes n ≡ Err r
unfolding requested
request_refused bytes n r e = rw e

-- of a job that is loaded
module _ (bytes ix : List ℕ) (c : Counts) (n : ℕ) (e : loading bytes ≡ Ok (state_in bytes ix c)) where
  asked : requested bytes n ≡ need (ltb n (length (stretches_in bytes ix c))) FieldNotPermitted n (Ok (get_or (stretches_in bytes ix c) n no_stretch))
  unfolding requested job_in
  asked = rw e

  count : length (stretches_in bytes ix c) ≡ c.loops
  unfolding stretches_in
  count = length_table (stretch_in bytes ix) c.loops

  -- a number too high
  pub request_high : c.loops ≤ n → requested bytes n ≡ refuse FieldNotPermitted n
  request_high h = asked ∙ need_stop FieldNotPermitted n _ (le-ltb n (length (stretches_in bytes ix c)) (omega (arith, count)))

  -- the loop is in the index
  pub request_low : n < c.loops → n < 1024
  request_low h = let L = (loading_counted bytes (state_in bytes ix c) e).1.loops in omega arith

  entry : n < c.loops → get_or (stretches_in bytes ix c) n no_stretch ≡ stretch_in bytes ix n
  unfolding stretches_in
  entry h = get_or_table (stretch_in bytes ix) c.loops n no_stretch h

  -- its stretch, of a byte at least, and within the job
  pub request_at : n < c.loops → requested bytes n ≡ Ok (record { start = loop_byte ix n + 6; size = le32 bytes (loop_byte ix n) })
  unfolding stretch_in
  request_at h = asked ∙ need_on FieldNotPermitted n _ (lt-ltb n (length (stretches_in bytes ix c)) (omega (arith, count))) ∙ ap Ok (entry h)

  pub request_within : n < c.loops → (0 < le32 bytes (loop_byte ix n)) × (loop_byte ix n + 6 + le32 bytes (loop_byte ix n) ≤ length bytes)
  unfolding job_in stretch_in
  request_within h =
      let m = get_or_in (stretches_in bytes ix c) n no_stretch (omega (arith, count)) in (
        request_some bytes n _ (request_at h),
        stretches_inside bytes (state_in bytes ix c) e (stretch_in bytes ix n) (subst (λ t. t ∈ stretches_in bytes ix c) (entry h) m),
      )
