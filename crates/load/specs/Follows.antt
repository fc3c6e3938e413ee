-- All records: the whole of loading is what follows from where the next record begins.
use Rattle.std.specs.Prelude.{ℕ, ◌+◌, ◌<◌, ◌≤◌, ◌≡◌, refl, List, [], ◌∷◌, Bool, true, false, ◌&&◌, not, length, drop, replicate}
use Rattle.std.proofs.Common.{arith, sym, ap, ◌∙◌, subst, le-leb, lt-ltb, le-ltb}
use Rattle.std.proofs.lemmas.Bool.{lt-leb}
use Rattle.lists.specs.Lists.{from}
use Rattle.rules.specs.declared.Kind.{Kind}
use Rattle.rules.specs.declared.Kind.TheVariants.{Unknown, Head, Vertex, EdgeRecord, FaceRecord, LoopRecord, VertexLoop, Radial, Surface, Points, Curves, Singular, Orientation, Inside}
use Rattle.rules.specs.declared.Counts.{Counts}
use Rattle.rules.specs.Fields.{le32}
use Rattle.rules.specs.declared.Fault.{Fault}
use Rattle.rules.specs.declared.Refusal.{Refusal}
use Rattle.rules.specs.Outcome.{Outcome, Ok, Err, refuse, ◌>>=◌, need, throughout}
use Rattle.rules.proofs.OutcomeLaws.{need_on, need_stop, through_none, through_on, through_stop}
use Rattle.rules.specs.Frame.{Frame, frame_at, frames_of, taking}
use Rattle.rules.proofs.FrameLaws.{frames_step, frames_end}
use Rattle.rules.specs.Kinds.{kind_of, number_of, right_length, right_position, limit_passed, fields_permitted}
use Rattle.rules.specs.Load.{Loading, counted, extended, selected_before, right_joints, answered_before, load_record, no_counts, nothing_loaded, loading}
use Rattle.theorems.specs.Sound.{Limited}
use Rattle.job.specs.Lists.{points_in, edges_in, faces_in, loops_in, stretches_in, answers_in, job_in}
use Rattle.answers.specs.Index.{Indexed}
use Rattle.answers.specs.IndexLaws.{indexed_none}
use Rattle.selected.specs.declared.Sources.{Sources}
use Rattle.selected.specs.Sources.{no_sources, Sourced}
use Rattle.selected.specs.SourceLaws.{sourced_none}
use Rattle.load.specs.Placed.{Placed, placed_none}
use Rattle.load.specs.Judged.{state_in}
use Rattle.load.specs.Going.{Going}
use Rattle.rules.specs.declared.Fault.TheVariants.{TooLong, CutShort, Misplaced, FieldNotPermitted, LimitPassed, LoopJoints, AnsweredTwice, SelectedTwice}

-- the whole of loading is what the records from a byte on make of what is loaded
abbrev pub Follows : List ℕ → List ℕ → Counts → ℕ → Type 0
Follows bytes ix c at = loading bytes ≡ throughout load_record (frames_of at (drop at bytes)) (state_in bytes ix c)

-- THE FIRST RECORD

-- the tests of a record of a kind
load_as : Kind → Frame → Loading → Outcome Loading
load_as k f s =
    need f.whole CutShort f.at
    (need (right_length k f.size && right_position k s.counts.part) Misplaced f.at
    (need (not (limit_passed k s.counts (length f.fields))) LimitPassed f.at
    (need (fields_permitted k s.counts f.fields) FieldNotPermitted f.at
    (need (not (selected_before k s.job.faces f.fields)) SelectedTwice f.at
    (need (right_joints k s.job.points s.job.edges f.fields) LoopJoints f.at
    (need (not (answered_before k s.job.answers f.fields)) AnsweredTwice f.at
    (Ok (record { counts = counted k (length f.fields) s.counts; job = extended k f.at f.fields s.job }))))))))

-- nothing is loaded, and Head's field is v
abbrev begun : ℕ → Loading
begun v = record { counts = no_counts; job = record { proven = v; points = []; edges = []; faces = []; loops = []; stretches = []; answers = [] } }

-- a record out of its place is refused whatever follows
out_of_place : (t : Bool) (n : Fault) (p : ℕ) (a b : Outcome Loading) → need (t && false) n p a ≡ need (t && false) n p b
unfolding need
out_of_place true n p a b = refl
out_of_place false n p a b = refl

-- before the first record Head's field makes no difference: Head sets it, and no other record is taken
first_as : (k : Kind) (f : Frame) (v : ℕ) → load_as k f nothing_loaded ≡ load_as k f (begun v)
unfolding load_as extended number_of right_position
first_as Unknown f v = ap (need f.whole CutShort f.at) (out_of_place (right_length Unknown f.size) Misplaced f.at _ _)
first_as Head f v = refl
first_as Vertex f v = ap (need f.whole CutShort f.at) (out_of_place (right_length Vertex f.size) Misplaced f.at _ _)
first_as EdgeRecord f v = ap (need f.whole CutShort f.at) (out_of_place (right_length EdgeRecord f.size) Misplaced f.at _ _)
first_as FaceRecord f v = ap (need f.whole CutShort f.at) (out_of_place (right_length FaceRecord f.size) Misplaced f.at _ _)
first_as LoopRecord f v = ap (need f.whole CutShort f.at) (out_of_place (right_length LoopRecord f.size) Misplaced f.at _ _)
first_as VertexLoop f v = ap (need f.whole CutShort f.at) (out_of_place (right_length VertexLoop f.size) Misplaced f.at _ _)
first_as Radial f v = ap (need f.whole CutShort f.at) (out_of_place (right_length Radial f.size) Misplaced f.at _ _)
first_as Surface f v = ap (need f.whole CutShort f.at) (out_of_place (right_length Surface f.size) Misplaced f.at _ _)
first_as Points f v = ap (need f.whole CutShort f.at) (out_of_place (right_length Points f.size) Misplaced f.at _ _)
first_as Curves f v = ap (need f.whole CutShort f.at) (out_of_place (right_length Curves f.size) Misplaced f.at _ _)
first_as Singular f v = ap (need f.whole CutShort f.at) (out_of_place (right_length Singular f.size) Misplaced f.at _ _)
first_as Orientation f v = ap (need f.whole CutShort f.at) (out_of_place (right_length Orientation f.size) Misplaced f.at _ _)
first_as Inside f v = ap (need f.whole CutShort f.at) (out_of_place (right_length Inside f.size) Misplaced f.at _ _)

first_record : (bytes ix : List ℕ) (f : Frame) → load_record f nothing_loaded ≡ load_record f (state_in bytes ix no_counts)
unfolding load_record load_as job_in points_in edges_in faces_in loops_in stretches_in answers_in from
first_record bytes ix f = first_as (kind_of f.kind) f (le32 bytes 6)

through_first : {A S : Type 0} (step : A → S → Outcome S) (x : A) (xs : List A) (s t : S) → step x s ≡ step x t → throughout step (x ∷ xs) s ≡ throughout step (x ∷ xs) t
unfolding throughout
through_first step x xs s t e = ap (λ o. o >>= throughout step xs) e

-- ALL RECORDS

-- a job too long, and an empty one
pub load_long : (bytes : List ℕ) → 65536 < length bytes → loading bytes ≡ refuse TooLong 65536
unfolding loading
load_long bytes h = need_stop TooLong 65536 _ (lt-leb (length bytes) 65536 h)

pub load_empty : (bytes : List ℕ) → length bytes ≡ 0 → loading bytes ≡ refuse Misplaced 0
unfolding loading
load_empty bytes e = need_on TooLong 65536 _ (le-leb (length bytes) 65536 (omega arith)) ∙ need_stop Misplaced 0 _ (le-ltb 0 (length bytes) (omega arith))

-- the first byte
pub follows_start : (bytes ix : List ℕ) (c : Counts) → c ≡ no_counts → length bytes ≤ 65536 → 0 < length bytes → Follows bytes ix c 0
unfolding loading
follows_start bytes ix c e h some =
    need_on TooLong 65536 _ (le-leb (length bytes) 65536 h) ∙ need_on Misplaced 0 _ (lt-ltb 0 (length bytes) some)
    ∙ ap (λ fs. throughout load_record fs nothing_loaded) (frames_step bytes 0 some)
    ∙ through_first load_record (frame_at 0 bytes) _ nothing_loaded (state_in bytes ix no_counts) (first_record bytes ix (frame_at 0 bytes))
    ∙ sym (ap (λ fs. throughout load_record fs (state_in bytes ix no_counts)) (frames_step bytes 0 some))
    ∙ ap (λ d. throughout load_record (frames_of 0 (drop 0 bytes)) (state_in bytes ix d)) (sym e)

pub going_start : (bytes ix : List ℕ) (s : Sources) (c : Counts) → ix ≡ replicate 7424 0 → s ≡ no_sources → c ≡ no_counts → length bytes ≤ 65536 → Going bytes ix s c 0
going_start bytes ix s c blank bare e h = record {
  small = h;
  within = omega arith;
  placed = subst (λ d. Placed d 0) (sym e) placed_none;
  limited = subst Limited (sym e) (record { vertices = omega arith; edges = omega arith; faces = omega arith; loops = omega arith; uses = omega arith; answers = omega arith });
  indexed = subst (λ l. Indexed bytes l c) (sym blank) (indexed_none bytes c (ap (λ d. d.answers) e));
  sourced = subst (λ t. Sourced bytes ix t c) (sym bare) (sourced_none bytes ix c (ap (λ d. d.faces) e));
}

module _ (bytes ix : List ℕ) (c : Counts) (at : ℕ) (F : Follows bytes ix c at) where
  -- a record that is taken, one that is refused, and the end
  pub follows_on : (iy : List ℕ) (d : Counts) (next : ℕ) → at < length bytes → load_record (frame_at at (drop at bytes)) (state_in bytes ix c) ≡ Ok (state_in bytes iy d)
      → next ≡ at + taking (drop at bytes) → Follows bytes iy d next
  follows_on iy d next h e q =
      F ∙ ap (λ fs. throughout load_record fs (state_in bytes ix c)) (frames_step bytes at h)
      ∙ through_on load_record (frame_at at (drop at bytes)) _ (state_in bytes ix c) (state_in bytes iy d) e
      ∙ ap (λ p. throughout load_record (frames_of p (drop p bytes)) (state_in bytes iy d)) (sym q)

  pub follows_refused : (r : Refusal) → at < length bytes → load_record (frame_at at (drop at bytes)) (state_in bytes ix c) ≡ Err r → loading bytes ≡ Err r
  follows_refused r h e =
      F ∙ ap (λ fs. throughout load_record fs (state_in bytes ix c)) (frames_step bytes at h)
      ∙ through_stop load_record (frame_at at (drop at bytes)) _ (state_in bytes ix c) r e

  pub follows_done : length bytes ≤ at → loading bytes ≡ Ok (state_in bytes ix c)
  follows_done h = F ∙ ap (λ fs. throughout load_record fs (state_in bytes ix c)) (frames_end bytes at h) ∙ through_none load_record (state_in bytes ix c)
