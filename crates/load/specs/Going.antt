-- Loading record by record: what holds where the next record begins, and that the whole is what follows from there.
use Rattle.std.specs.Prelude.{ℕ, ◌+◌, ◌*◌, ◌/◌, ◌<◌, ◌≤◌, ◌≡◌, List, true, false, length, drop}
use Rattle.std.proofs.Common.{arith, sym, ap, ◌∙◌, subst}
use Rattle.rules.specs.declared.Kind.{Kind}
use Rattle.rules.specs.declared.Kind.TheVariants.{FaceRecord}
use Rattle.rules.specs.declared.Counts.{Counts}
use Rattle.rules.specs.Fields.{le16, le32}
use Rattle.rules.specs.declared.Fault.TheVariants.{CutShort}
use Rattle.rules.specs.Outcome.{Ok, refuse, need}
use Rattle.rules.specs.Frame.{whole_record, frame_at, taking}
use Rattle.rules.proofs.FrameLaws.{frame_is, taking_is, whole_within}
use Rattle.rules.specs.Kinds.{kind_of, is_loop, is_answer, right_length}
use Rattle.rules.specs.Load.{counted, extended, load_record}
use Rattle.theorems.specs.Sound.{Limited}
use Rattle.job.specs.Lists.{fields_at, job_in}
use Rattle.answers.specs.Index.{Indexed}
use Rattle.selected.specs.declared.Sources.{Sources}
use Rattle.selected.specs.Sources.{Sourced}
use Rattle.records.specs.Limits.{whole_fields, limited_kept, loop_part, answer_room}
use Rattle.load.specs.Placed.{Placed, placed_kept}
use Rattle.load.specs.Kept.{kept_index}
use Rattle.load.specs.After.{fields_count, job_kept, indexed_kept}
use Rattle.load.specs.SourcesKept.{kept_sources, face_room, sourced_kept}
use Rattle.load.specs.Judged.{state_in, record_at, taken_at, Passed, passed}

-- what holds of index and counts where the next record begins
pub record Going (bytes ix : List ℕ) (s : Sources) (c : Counts) (at : ℕ) : Type 0 where
  pub small : length bytes ≤ 65536
  pub within : at ≤ length bytes
  pub placed : Placed c at
  pub limited : Limited c
  pub indexed : Indexed bytes ix c
  pub sourced : Sourced bytes ix s c

-- the next record: where it begins, and what holds there
pub record OnTo (bytes ix : List ℕ) (s : Sources) (at : ℕ) (c : Counts) (next : ℕ) : Type 0 where
  pub begins : next ≡ at + taking (drop at bytes)
  pub further : at < next
  pub going : Going bytes ix s c next

-- ONE RECORD

-- a record that is cut
pub step_cut : (bytes ix : List ℕ) (c : Counts) (at : ℕ) → whole_record (drop at bytes) ≡ false → load_record (frame_at at (drop at bytes)) (state_in bytes ix c) ≡ refuse CutShort at
unfolding load_record need frame_at
step_cut bytes ix c at w = rw w

-- the record at a byte, where it is whole
pub frame_here : (bytes ix : List ℕ) (c : Counts) (at : ℕ) → whole_record (drop at bytes) ≡ true
    → load_record (frame_at at (drop at bytes)) (state_in bytes ix c) ≡ load_record (record_at bytes at) (state_in bytes ix c)
unfolding fields_at
frame_here bytes ix c at w = ap (λ f. load_record f (state_in bytes ix c)) (frame_is bytes at w)

-- a whole record that is taken
module _ {bytes ix : List ℕ} {s : Sources} {c : Counts} {at : ℕ} {k : Kind} {size : ℕ} (G : Going bytes ix s c at) (kind : k ≡ kind_of (le16 bytes (at + 4))) (long : size ≡ le32 bytes at)
    (T : load_record (record_at bytes at) (state_in bytes ix c) ≡ Ok (taken_at k bytes ix c at))
  where
    P : Passed bytes ix c at k
    P = passed kind long T

    -- what entering it in the index and among the faces asks
    pub faces_some : is_loop k ≡ true → 0 < c.faces
    faces_some t = G.placed.faced (loop_part k c.part t P.position)

    pub faces_room : k ≡ FaceRecord → c.faces < 256
    faces_room e = face_room k c (length (fields_at bytes at)) P.limit e

    pub answers_room : is_answer k ≡ true → c.answers < 2048
    answers_room t = answer_room k c (length (fields_at bytes at)) t P.limit

    -- the counts after it, the index, and the faces
    abbrev d : Counts
    d = counted k (size / 4) c

    abbrev iy : List ℕ
    iy = kept_index k bytes ix c at

    abbrev t : Sources
    t = kept_sources k bytes s c at

    counts : counted k (length (fields_at bytes at)) c ≡ d
    counts = ap (λ n. counted k n c) (fields_count bytes at ∙ ap (λ m. m / 4) (sym long))

    -- it is as the definitions have it
    pub step_taken : whole_record (drop at bytes) ≡ true → Ok (state_in bytes iy d) ≡ load_record (frame_at at (drop at bytes)) (state_in bytes ix c)
    step_taken w =
        let job : job_in bytes iy d ≡ extended k at (fields_at bytes at) (job_in bytes ix c) =
        ap (job_in bytes iy) (sym counts) ∙ job_kept bytes ix c at G.placed G.limited G.indexed k (sym kind) P.right P.position P.limit in
        (λ i. Ok (record { counts = sym counts i; job = job i })) ∙ sym T ∙ sym (frame_here bytes ix c at w)

    -- and the next one begins where it ends
    pub step_on : whole_record (drop at bytes) ≡ true → OnTo bytes iy t at d (at + 6 + size)
    step_on w =
        let n = length (fields_at bytes at) in
        let fields : size ≡ 4 * n = long ∙ whole_fields k (le32 bytes at) P.right ∙ ap (λ m. 4 * m) (sym (fields_count bytes at)) in
        let there : at + 6 + 4 * n ≡ at + 6 + size = ap (λ m. at + 6 + m) (sym fields) in
        let fits : right_length k (4 * n) ≡ true = ap (right_length k) (sym fields ∙ long) ∙ P.right in
        record {
          begins = omega (arith, taking_is bytes at w, long);
          further = omega arith;
          going = record {
            small = G.small;
            within = omega (arith, whole_within bytes at w, long);
            placed = subst (λ e. Placed e (at + 6 + size)) counts (subst (Placed (counted k n c)) there (placed_kept n c at G.placed k fits P.position));
            limited = subst Limited counts (limited_kept c G.limited k n P.limit);
            indexed = subst (Indexed bytes iy) counts (indexed_kept bytes ix c at G.placed G.limited G.indexed k (sym kind) P.right P.limit P.new);
            sourced = subst (Sourced bytes iy t) counts
                (sourced_kept bytes ix c at G.placed G.limited G.indexed s G.sourced k (sym kind) P.right P.position P.limit);
          };
        }
