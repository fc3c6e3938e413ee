-- Loading: refusals 1 to 7 and 45 in their order, the job that the bytes hold, and the loop request.
use Rattle.std.specs.Prelude.{ℕ, ◌+◌, ◌*◌, ◌-◌, ◌/◌, List, [], ◌∷◌, ◌++◌, Bool, true, false, ◌&&◌, ◌||◌, not, cond, length, get_or, take, drop, eqb, ltb, leb, is_some}
use Rattle.lists.specs.Lists.{Neighbours, neighbours, all, some}
use Rattle.rules.specs.declared.Kind.{Kind}
use Rattle.rules.specs.declared.Counts.{Counts}
use Rattle.rules.specs.declared.Edge.{Edge}
use Rattle.rules.specs.declared.Face.{Face}
use Rattle.rules.specs.declared.Item.{Item}
use Rattle.rules.specs.Outcome.{Outcome, Ok, ◌>>=◌, need, throughout, Err}
use Rattle.rules.specs.Sense.{sense_of}
use Rattle.rules.specs.Fields.{field}
use Rattle.rules.specs.Frame.{Frame, frames}
use Rattle.rules.specs.Job.{of_items, at_vertex, Loop, Stretch, Answer, Job, of_ring, start_point, end_point, items_of}
use Rattle.rules.specs.Questions.{find}
use Rattle.rules.specs.Kinds.{kind_of, number_of, is_loop, is_answer, right_length, part_of, right_position, limit_passed, fields_permitted, question_length, question_of}
use Rattle.rules.specs.declared.Fault.TheVariants.{TooLong, CutShort, Misplaced, FieldNotPermitted, LimitPassed, LoopJoints, AnsweredTwice, SelectedTwice}

-- JOINTS

-- document 02, Three: the vertices where a use ends and where its successor starts have equal point numbers; neither is of a ring
unfoldable pub joint : List ℕ → List Edge → Neighbours Item → Bool
joint points es p = not (of_ring es p.here) && (not (of_ring es p.next) && eqb (end_point points es p.here) (start_point points es p.next))

-- a ring's use, alone in its loop
unfoldable pub lone_ring : List Edge → List Item → Bool
lone_ring es [] = false
lone_ring es (x ∷ []) = of_ring es x
lone_ring es (x ∷ y ∷ ys) = false

-- Job records, joints: a ring's use is alone; otherwise each use with its successor, the last leading to the first, is a joint
unfoldable pub jointed : List ℕ → List Edge → List Item → Bool
jointed points es xs = lone_ring es xs || all (joint points es) (neighbours xs)

-- ONE RECORD

-- what is loaded so far
pub record Loading : Type 0 where
  pub counts : Counts
  pub job : Job

-- so many more where a test holds
abbrev pub more_if : Bool → ℕ → ℕ → ℕ
more_if true more n = n + more
more_if false more n = n

-- Job records, things are numbered from 0: the counts after a record of a kind with n fields
unfoldable pub counted : Kind → ℕ → Counts → Counts
counted k n c = record {
  part = part_of k;
  vertices = more_if (eqb (number_of k) 2) 1 c.vertices;
  edges = more_if (eqb (number_of k) 3) 1 c.edges;
  faces = more_if (eqb (number_of k) 4) 1 c.faces;
  loops = more_if (is_loop k) 1 c.loops;
  uses = more_if (eqb (number_of k) 5) (n / 2) c.uses;
  answers = more_if (is_answer k) 1 c.answers;
}

-- one more at the end where a test holds
abbrev pub also_if : {A : Type 0} → Bool → List A → A → List A
also_if true xs x = xs ++ (x ∷ [])
also_if false xs x = xs

-- Job records, kind 3: curve, sense, start, end vertex
abbrev pub edge_of : List ℕ → Edge
edge_of x = record { curve = field x 0; sense = sense_of (field x 1); start = field x 2; end = field x 3 }

-- Job records, kind 4: surface, own sense, selected sense; document 02, Seven: body and source face, which may be anything
abbrev pub face_of : List ℕ → Face
face_of x = record { surface = field x 0; own = sense_of (field x 1); selected = sense_of (field x 2); body = field x 3; source = field x 4 }

-- Job records, kinds 5 and 6: a loop of the latest face
abbrev pub loop_of : Kind → ℕ → List ℕ → Loop
loop_of k face x = record { face = face; content = cond (eqb (number_of k) 5) (of_items (items_of x)) (at_vertex (field x 0)) }

-- Job records, kinds 7 to 13: the question, and the value after it
abbrev pub answer_of : Kind → List ℕ → Answer
answer_of k x = record { kind = number_of k; question = question_of k x; value = drop (question_length k) x }

-- the job with one record more, of a kind, whose first byte stands at a position
unfoldable pub extended : Kind → ℕ → List ℕ → Job → Job
extended k at x j = record {
  proven = cond (eqb (number_of k) 1) (field x 0) j.proven;
  points = also_if (eqb (number_of k) 2) j.points (field x 0);
  edges = also_if (eqb (number_of k) 3) j.edges (edge_of x);
  faces = also_if (eqb (number_of k) 4) j.faces (face_of x);
  loops = also_if (is_loop k) j.loops (loop_of k (length j.faces - 1) x);
  stretches = also_if (is_loop k) j.stretches (record { start = at + 6; size = 4 * length x });
  answers = also_if (is_answer k) j.answers (answer_of k x);
}

-- Endings, 6: a loop's joints hold
unfoldable pub right_joints : Kind → List ℕ → List Edge → List ℕ → Bool
right_joints k points es x = not (eqb (number_of k) 5) || jointed points es (items_of x)

-- document 02, Eight: two selected faces are the same face of the same body
abbrev pub same_source : Face → Face → Bool
same_source f g = eqb f.body g.body && eqb f.source g.source

-- document 02, Eight, 45: the same body and source face stand in a kind 4 record before
unfoldable pub selected_before : Kind → List Face → List ℕ → Bool
selected_before k faces x = eqb (number_of k) 4 && some (same_source (face_of x)) faces

-- Endings, 7: the question is answered before
unfoldable pub answered_before : Kind → List Answer → List ℕ → Bool
answered_before k answers x = is_answer k && is_some (find answers (number_of k) (question_of k x))

-- Endings, load, each record in this order: 2, 3, 5, 4, document 02's 45, 6, 7 at the record's first byte; else it is taken
unfoldable pub load_record : Frame → Loading → Outcome Loading
load_record f s =
    let k = kind_of f.kind in
    let c = s.counts in
    let j = s.job in
    let x = f.fields in
    need f.whole CutShort f.at
    (need (right_length k f.size && right_position k c.part) Misplaced f.at
    (need (not (limit_passed k c (length x))) LimitPassed f.at
    (need (fields_permitted k c x) FieldNotPermitted f.at
    (need (not (selected_before k j.faces x)) SelectedTwice f.at
    (need (right_joints k j.points j.edges x) LoopJoints f.at
    (need (not (answered_before k j.answers x)) AnsweredTwice f.at
    (Ok (record { counts = counted k (length x) c; job = extended k f.at x j }))))))))

-- ALL RECORDS

abbrev pub no_counts : Counts
no_counts = record { part = 0; vertices = 0; edges = 0; faces = 0; loops = 0; uses = 0; answers = 0 }

abbrev pub no_job : Job
no_job = record { proven = 0; points = []; edges = []; faces = []; loops = []; stretches = []; answers = [] }

-- before the first record
abbrev pub nothing_loaded : Loading
nothing_loaded = record { counts = no_counts; job = no_job }

-- Endings, load: 1 looks at the length alone, an empty job has no Head, then record after record
unfoldable pub loading : List ℕ → Outcome Loading
loading job =
    let records = throughout load_record (frames job) nothing_loaded in
    need (leb (length job) 65536) TooLong 65536
    (need (ltb 0 (length job)) Misplaced 0
    records)

-- Job records: the job that the bytes hold
abbrev pub loaded : List ℕ → Outcome Job
loaded job = loading job >>= λ s. Ok s.job

-- THE LOOP REQUEST

abbrev pub no_stretch : Stretch
no_stretch = record { start = 0; size = 0 }

-- Job records, loop request: loop n among kinds 5 and 6; after load refusals, a number too high gives 4 with that number
unfoldable pub requested : List ℕ → ℕ → Outcome Stretch
requested job n = loaded job >>= λ j. need (ltb n (length j.stretches)) FieldNotPermitted n (Ok (get_or j.stretches n no_stretch))

-- Job records, loop request: the stretch of the job's own bytes; a refused request shows an empty one
abbrev pub shown : List ℕ → Outcome Stretch → List ℕ
shown job (Ok s) = take s.size (drop s.start job)
shown job (Err refusal) = []
