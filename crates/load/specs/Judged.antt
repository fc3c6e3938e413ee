-- The tests of a whole record, by its kind and length as the code reads them.
use Rattle.std.specs.Prelude.{ℕ, ◌+◌, ◌/◌, ◌<◌, ◌≡◌, List, Bool, true, false, ◌&&◌, not, length, drop}
use Rattle.std.proofs.Common.{arith, ◌∙◌, eqb-true}
use Rattle.std.proofs.Math.Path.{sym, ap}
use Rattle.std.proofs.lemmas.Bool.{not-true}
use Rattle.lists.specs.Lists.{some}
use Rattle.lists.specs.Tests.{and_both}
use Rattle.rules.specs.declared.Kind.{Kind}
use Rattle.rules.specs.declared.Kind.TheVariants.{FaceRecord}
use Rattle.rules.specs.declared.Counts.{Counts}
use Rattle.rules.specs.declared.Face.{Face}
use Rattle.rules.specs.Fields.{le16, le32, fields_in}
use Rattle.rules.specs.Outcome.{Outcome, Ok, need}
use Rattle.rules.proofs.OutcomeLaws.{need_ok}
use Rattle.rules.specs.Frame.{Frame}
use Rattle.rules.specs.Kinds.{kind_of, number_of, right_length, right_position, limit_passed, fields_permitted}
use Rattle.rules.specs.Load.{Loading, counted, extended, same_source, selected_before, right_joints, answered_before, load_record}
use Rattle.theorems.specs.Sound.{Limited}
use Rattle.job.specs.Lists.{points_in, edges_in, fields_at, face_in, faces_in, answers_in, job_in}
use Rattle.job.specs.FieldLaws.{face_is}
use Rattle.answers.specs.Index.{Indexed}
use Rattle.job.specs.Apart.{other_kind}
use Rattle.job.specs.declared.RawJob.{RawJob}
use Rattle.load.specs.declared.Header.{Header}
use Rattle.load.specs.After.{fields_count}
use Rattle.rules.specs.declared.Fault.TheVariants.{Misplaced, FieldNotPermitted, LimitPassed, LoopJoints, AnsweredTwice, SelectedTwice}

-- what is loaded, as bytes, index and counts have it
abbrev pub state_in : List ℕ → List ℕ → Counts → Loading
state_in bytes ix c = record { counts = c; job = job_in bytes ix c }

abbrev pub state : RawJob → Loading
state raw = state_in raw.bytes.now raw.index.now raw.counts

-- the whole record at a byte
abbrev pub record_at : List ℕ → ℕ → Frame
record_at bytes at = record { at = at; whole = true; kind = le16 bytes (at + 4); size = le32 bytes at; fields = fields_at bytes at }

-- a whole record, its header as read
pub record Here (bytes ix : List ℕ) (c : Counts) (h : Header) : Type 0 where
  pub limited : Limited c
  pub indexed : Indexed bytes ix c
  pub low : h.at < 4294967296
  pub kind : h.kind ≡ kind_of (le16 bytes (h.at + 4))
  pub long : h.size ≡ le32 bytes h.at
  pub small : h.size < 4294967296

-- what is loaded where the record at a byte is taken
abbrev pub taken_at : Kind → List ℕ → List ℕ → Counts → ℕ → Loading
taken_at k bytes ix c at = record { counts = counted k (length (fields_at bytes at)) c; job = extended k at (fields_at bytes at) (job_in bytes ix c) }

abbrev pub taken : Header → RawJob → Loading
taken h raw = taken_at h.kind raw.bytes.now raw.index.now raw.counts h.at

-- the tests of a whole record by its kind and length as read; it is taken where all hold
abbrev pub tests : Kind → ℕ → List ℕ → List ℕ → Counts → ℕ → Outcome Loading
tests k size bytes ix c at =
    need (right_length k size && right_position k c.part) Misplaced at
    (need (not (limit_passed k c (size / 4))) LimitPassed at
    (need (fields_permitted k c (fields_in (size / 4) (drop (at + 6) bytes))) FieldNotPermitted at
    (need (not (selected_before k (faces_in bytes ix c) (fields_at bytes at))) SelectedTwice at
    (need (right_joints k (points_in bytes c) (edges_in bytes c) (fields_in (size / 4) (drop (at + 6) bytes))) LoopJoints at
    (need (not (answered_before k (answers_in bytes ix c) (fields_at bytes at))) AnsweredTwice at
    (Ok (taken_at k bytes ix c at)))))))

-- they are the definition's
tested : (bytes ix : List ℕ) (c : Counts) (at : ℕ) (k : Kind) (size : ℕ) → k ≡ kind_of (le16 bytes (at + 4)) → size ≡ le32 bytes at
    → load_record (record_at bytes at) (state_in bytes ix c) ≡ tests k size bytes ix c at
unfolding load_record need fields_at job_in
tested bytes ix c at k size kind long = rw (kind, long, fields_count)

pub judged : {bytes ix : List ℕ} {c : Counts} {h : Header} → Here bytes ix c h → load_record (record_at bytes h.at) (state_in bytes ix c) ≡ tests h.kind h.size bytes ix c h.at
judged {bytes} {ix} {c} {h} H = tested bytes ix c h.at h.kind h.size H.kind H.long

-- the tests that a record has passed
pub record Passed (bytes ix : List ℕ) (c : Counts) (at : ℕ) (k : Kind) : Type 0 where
  pub right : right_length k (le32 bytes at) ≡ true
  pub position : right_position k c.part ≡ true
  pub limit : limit_passed k c (length (fields_at bytes at)) ≡ false
  pub new : answered_before k (answers_in bytes ix c) (fields_at bytes at) ≡ false

pub passed : {bytes ix : List ℕ} {c : Counts} {at : ℕ} {k : Kind} {size : ℕ} {s : Loading} → k ≡ kind_of (le16 bytes (at + 4)) → size ≡ le32 bytes at
    → load_record (record_at bytes at) (state_in bytes ix c) ≡ Ok s → Passed bytes ix c at k
passed {bytes} {ix} {c} {at} {k} {size} {s} kind long e =
    let placed = need_ok _ _ _ _ s (sym (tested bytes ix c at k size kind long) ∙ e) in
    let limit = need_ok _ _ _ _ s placed.1 in
    let permitted = need_ok _ _ _ _ s limit.1 in
    let fresh = need_ok _ _ _ _ s permitted.1 in
    let joints = need_ok _ _ _ _ s fresh.1 in
    let new = need_ok _ _ _ _ s joints.1 in
    let right = and_both _ _ placed.0 in
    record {
      right = ap (right_length k) (sym long) ∙ right.0;
      position = right.1;
      limit = ap (limit_passed k c) (fields_count bytes at ∙ ap (λ m. m / 4) (sym long)) ∙ not-true _ limit.0;
      new = not-true _ new.0;
    }

-- the face of a record that selects one, and of one that selects none
pub selected_as : (bytes : List ℕ) (fs : List Face) (h : Header) (r : Bool) → h.size ≡ le32 bytes h.at → right_length h.kind h.size ≡ true → h.kind ≡ FaceRecord
    → r ≡ some (same_source (face_in bytes h.at)) fs → r ≡ selected_before h.kind fs (fields_at bytes h.at)
unfolding selected_before number_of right_length
selected_as bytes fs h r long l e q =
    let five : h.size ≡ 20 = eqb-true h.size 20 (ap (λ j. right_length j h.size) (sym e) ∙ l) in
    let fields : le32 bytes h.at / 4 ≡ 5 = omega (arith, five, long) in
    q ∙ ap (λ f. some (same_source f) fs) (face_is bytes h.at fields) ∙ ap (λ j. selected_before j fs (fields_at bytes h.at)) (sym e)

pub no_face_lem : (k : Kind) (fs : List Face) (x : List ℕ) → (k ≡ FaceRecord → ⊥) → false ≡ selected_before k fs x
unfolding selected_before number_of
no_face_lem k fs x h = rw (other_kind k FaceRecord h)
