-- Loading: the facts of every loaded job.
use Rattle.std.specs.Prelude.{ℕ, ◌≤◌, ◌≡◌, refl, Bool, true, false, ◌&&◌, List, length, ltb}
use Rattle.std.proofs.Common.{not-suc-le-zero, arith, sym, ◌∙◌, subst, ⊎_elim, ltb-true, ltb-false}
use mathlib.Core.List.Memᴰ
use Rattle.std.proofs.lemmas.Bool.{not-true}
use Rattle.lists.specs.Lists.{◌∈◌}
use Rattle.lists.specs.Tests.{both_ways, and_both}
use Rattle.lists.specs.OneMore.{snoc_members}
use Rattle.lists.specs.Sums.{sum_nil}
use Rattle.rules.specs.declared.Counts.{Counts}
use Rattle.rules.specs.Outcome.{Ok}
use Rattle.rules.proofs.OutcomeLaws.{ok_one, bind_ok, need_ok, through_keeps}
use Rattle.rules.specs.Frame.{Frame, frames}
use Rattle.rules.specs.Job.{Job}
use Rattle.rules.specs.Kinds.{kind_of, right_length, right_position}
use Rattle.rules.specs.Load.{Loading, also_if, load_record, nothing_loaded, loading, loaded}
use Rattle.rules.specs.Read.{uses_of}
use Rattle.theorems.specs.Sound.{Counted, Limited, Sound}
use Rattle.theorems.specs.Selected.{FacesDistinct}
use Rattle.theorems.specs.Reading.{items_in}
use Rattle.theorems.proofs.Reading.{uses_length, use_face_below}
use Rattle.theorems.specs.Fit.{Fit}
use Rattle.theorems.proofs.Fit.{fit_kept}
use Rattle.theorems.specs.Loading.{RecordTaken}

-- what holds of each member, and of one more where that is added, holds of each member then
pub also_has : {A : Type 0} (P : A → Type 0) (b : Bool) (xs : List A) (y : A) → ((x : A) → x ∈ xs → P x) → (b ≡ true → P y) → (x : A) → x ∈ also_if b xs y → P x
also_has P true xs y each last = snoc_members P xs y each (last refl)
also_has P false xs y each last = each

-- what is loaded so far is fit
FitLoading : Loading → Type 0
FitLoading s = Fit s.counts s.job

-- a record that loading takes
pub record_taken : (f : Frame) (s t : Loading) → load_record f s ≡ Ok t → RecordTaken f s t
unfolding load_record
record_taken f s t e =
    let whole = need_ok f.whole _ _ _ t e in
    let framed = need_ok (right_length (kind_of f.kind) f.size && right_position (kind_of f.kind) s.counts.part) _ _ _ t whole.1 in
    let limit = need_ok _ _ _ _ t framed.1 in
    let permitted = need_ok _ _ _ _ t limit.1 in
    let fresh = need_ok _ _ _ _ t permitted.1 in
    let joints = need_ok _ _ _ _ t fresh.1 in
    let new = need_ok _ _ _ _ t joints.1 in
    let right = and_both (right_length (kind_of f.kind) f.size) _ framed.0 in
    record {
      whole = whole.0;
      sized = right.0;
      taken = record { position = right.1; limit = not-true _ limit.0; permitted = permitted.0; new = not-true _ fresh.0; joints = joints.0 };
      after = sym (ok_one new.1);
    }

-- what each record of a job that loading takes keeps holds when all are taken
pub loading_keeps : (job : List ℕ) (P : Loading → Type 0) (s : Loading) → ((f : Frame) (u v : Loading) → f ∈ frames job → P u → load_record f u ≡ Ok v → P v) → P nothing_loaded
    → loading job ≡ Ok s → P s
unfolding loading
loading_keeps job P s keeps none e =
    let small = need_ok _ _ _ _ s e in
    let some = need_ok _ _ _ _ s small.1 in
    through_keeps load_record P (frames job) nothing_loaded s keeps none some.1

fit_nothing : FitLoading nothing_loaded
unfolding FitLoading
fit_nothing = record {
  counted = record { vertices = refl; edges = refl; faces = refl; loops = refl; stretches = refl; uses = sym (uses_length nothing_loaded.job ∙ sum_nil items_in); answers = refl };
  limited = record { vertices = omega arith; edges = omega arith; faces = omega arith; loops = omega arith; uses = omega arith; answers = omega arith };
  sound = record {
    ends = λ e h. absurd (not-suc-le-zero h);
    face = λ l m. absurd (Memᴰ.not-nil m);
    items = λ l m. absurd (Memᴰ.not-nil m);
    joints = λ l xs m. absurd (Memᴰ.not-nil m);
    vertex = λ l v m. absurd (Memᴰ.not-nil m);
    few = omega (arith, uses_length nothing_loaded.job, sum_nil items_in);
    distinct = λ i k h. absurd (not-suc-le-zero h);
  };
  late = λ l m. absurd (Memᴰ.not-nil m);
  faced = λ (e : ◌≡◌ {A = ℕ} 0 4). absurd (omega arith);
}

-- what is loaded when a job's records are all taken is fit
pub loading_fit : (job : List ℕ) (s : Loading) → loading job ≡ Ok s → Fit s.counts s.job
unfolding FitLoading
loading_fit job s =
    loading_keeps job FitLoading s
    (λ f u v m F q. let r = record_taken f u v q in subst FitLoading (sym r.after) (fit_kept (kind_of f.kind) f.at f.fields u.counts u.job F r.taken))
    fit_nothing

-- the counts of a loaded job are the lengths of its lists, within the limits
pub loading_counted : (job : List ℕ) (s : Loading) → loading job ≡ Ok s → Counted s.counts s.job × Limited s.counts
loading_counted job s e = let F = loading_fit job s e in (F.counted, F.limited)

-- a loaded job is within the limits
pub loaded_limits : (job : List ℕ) (j : Job) → loaded job ≡ Ok j → (c : Counts) × Counted c j × Limited c
loaded_limits job j e =
    let r = bind_ok (loading job) _ j e in
    let F = loading_counted job r.0 r.1 in
    (r.0.counts, subst (Counted r.0.counts) (ok_one r.2) F.0, F.1)

-- it has at most 256 faces
pub faces_few : (job : List ℕ) (j : Job) → loaded job ≡ Ok j → length j.faces ≤ 256
faces_few job j e = let c = loaded_limits job j e in omega (arith, c.1.faces, c.2.faces)

-- a loaded job is sound
pub loaded_sound : (job : List ℕ) (j : Job) → loaded job ≡ Ok j → Sound j
loaded_sound job j e =
    let r = bind_ok (loading job) _ j e in
    subst Sound (ok_one r.2) (loading_fit job r.0 r.1).sound

-- and selects no face twice
pub faces_distinct : (job : List ℕ) → FacesDistinct job
faces_distinct job j e = (loaded_sound job j e).distinct

-- without faces there is no use
pub no_face_no_use : (job : List ℕ) (j : Job) → loaded job ≡ Ok j → length j.faces ≡ 0 → length (uses_of j) ≡ 0
no_face_no_use job j e none =
    ⊎_elim (λ t. absurd (omega (arith, use_face_below j (loaded_sound job j e) 0 (ltb-true 0 (length (uses_of j)) t))))
    (λ t. omega (arith, ltb-false 0 (length (uses_of j)) t))
    (both_ways (ltb 0 (length (uses_of j))))
