-- What the stages can be refused with, but for pairing and the contact tests: nothing that the print-shop profile adds or rules out.
use Rattle.std.specs.Prelude.{ℕ, zero, suc, ◌≡◌, refl, Bool, true, false, ◌&&◌, not, cond, List, [], ◌∷◌, length, get_or, eqb, ltb, leb, Option, Some, None}
use Rattle.std.proofs.Common.{sym, ap, ◌∙◌, subst, true≢false}
use borrow.Author.Tests.{not-true}
use mathlib.Core.List.Memᴰ
use Rattle.lists.specs.Lists.{below, ◌∈◌, has, same}
use Rattle.lists.specs.Tests.{and_both}
use Rattle.lists.specs.Membership.{in_has}
use Rattle.rules.specs.declared.EdgeData.{EdgeData}
use Rattle.rules.specs.declared.Face.{Face}
use Rattle.rules.specs.declared.Fault.{Fault}
use Rattle.rules.specs.declared.Fault.TheVariants.{TooLong, CutShort, Misplaced, FieldNotPermitted, LimitPassed, LoopJoints, AnsweredTwice, SelectedTwice, NoRoom}
use Rattle.rules.specs.declared.KeptVertexLoop.{KeptVertexLoop}
use Rattle.rules.specs.declared.Refusal.{Refusal}
use Rattle.rules.specs.declared.SurfaceAnswer.{SurfaceAnswer}
use Rattle.rules.specs.declared.SurfaceAnswer.TheVariants.{Different, Agreeing, Opposed, Vanishing}
use Rattle.rules.specs.declared.SurfaceAnswer.TheVariants.{Undecided as SurfaceUndecided}
use Rattle.rules.specs.declared.Table.{Table}
use Rattle.rules.specs.declared.Use.{Use}
use Rattle.rules.specs.declared.Verdict.{Verdict}
use Rattle.rules.specs.declared.Verdict.TheVariants.{No, Yes, Undecided}
use Rattle.rules.specs.Outcome.{Outcome, Ok, Err, ◌>>=◌, fault_number, need, throughout, for_each}
use Rattle.rules.specs.Frame.{Frame, frames}
use Rattle.rules.specs.Job.{Answer, Content, of_items, at_vertex, Loop, point_at}
use Rattle.rules.specs.Kinds.{kind_of, right_length, right_position, limit_passed, fields_permitted}
use Rattle.rules.specs.Questions.{find, surface_answer, verdict, unordered, on_record, ask, decided, ask_yes, ask_same}
use Rattle.rules.specs.Load.{Loading, right_joints, selected_before, answered_before, load_record, nothing_loaded, loading, loaded}
use Rattle.rules.specs.Groups.{Grouping}
use Rattle.rules.specs.Merge.{joins_faces, equal_senses, surface_step, unasked, merge_step, ungrouped, merge_faces}
use Rattle.rules.specs.VertexLoops.{already_there, keep_unless_there, content_step, vertex_loop_step, vertex_loops}
use Rattle.rules.specs.Fans.{fan_point}
use Rattle.rules.specs.Join.{Joining, edge_data_at, ends_at, ring_at, join_at, singular, only_if, not_singular, may_join, Tried, unchanged, changed, changed_if, at_corner, or_else, sweep}
use Rattle.rules.specs.Join.{after_sweep, maximal_edges}
use Rattle.rules.specs.Shells.{Shell, lowest_face, orient_shell, shells, shell_inside, Taken, none, shell, innermost, enclosing_shell, or_refuse, outers, nest, nested}
use Rattle.rules.specs.Sew.{fitting}
use Rattle.theorems.specs.PrintShop.{AnotherFault, cannot_arise}

-- OUTCOMES

-- a value, or a refusal of which P holds
abbrev pub Within : {A : Type 0} → (Refusal → Type 0) → Outcome A → Type 0
Within P (Ok a) = Unit {0}
Within P (Err r) = P r

module _ (P : Refusal → Type 0) where
  pub within_bind : {A B : Type 0} (o : Outcome A) (f : A → Outcome B) → Within P o → ((a : A) → o ≡ Ok a → Within P (f a)) → Within P (o >>= f)
  within_bind (Ok a) f h k = k a refl
  within_bind (Err r) f h k = h

  pub within_need : {A : Type 0} (t : Bool) (n : Fault) (p : ℕ) (rest : Outcome A) → P (record { fault = n; place = p }) → Within P rest → Within P (need t n p rest)
  unfolding need
  within_need true n p rest h k = k
  within_need false n p rest h k = h

  pub within_cond : {A : Type 0} (t : Bool) (a b : Outcome A) → Within P a → Within P b → Within P (cond t a b)
  within_cond true a b h k = h
  within_cond false a b h k = k

  pub within_through : {A S : Type 0} (step : A → S → Outcome S) (xs : List A) (s : S) → ((x : A) (u : S) → Within P (step x u)) → Within P (throughout step xs s)
  unfolding throughout
  within_through step [] s h = tt
  within_through step (x ∷ xs) s h = within_bind (step x s) (throughout step xs) (h x s) (λ u e. within_through step xs u h)

  within_each : {A B : Type 0} (f : A → Outcome B) (xs : List A) → ((x : A) → Within P (f x)) → Within P (for_each f xs)
  unfolding for_each
  within_each f [] h = tt
  within_each f (x ∷ xs) h = within_bind (f x) _ (h x) (λ y e. within_bind (for_each f xs) _ (within_each f xs h) (λ ys d. tt))

-- what holds of fewer refusals holds of more
pub within_more : {A : Type 0} (P Q : Refusal → Type 0) → ((r : Refusal) → P r → Q r) → (o : Outcome A) → Within P o → Within Q o
within_more P Q h (Ok a) k = tt
within_more P Q h (Err r) k = h r k

-- a value is no refusal, and a refusal is what holds of it
pub within_value : {A : Type 0} (P : Refusal → Type 0) {o : Outcome A} {a : A} → o ≡ Ok a → Within P o
within_value P e = subst (Within P) (sym e) tt

pub within_refusal : {A : Type 0} (P : Refusal → Type 0) {o : Outcome A} {r : Refusal} → o ≡ Err r → Within P o → P r
within_refusal P e h = subst (Within P) e h

-- PLAIN REFUSALS

-- neither 41 nor 42
abbrev pub neither : Refusal → Bool
neither r = not (has (fault_number r.fault) (41 ∷ 42 ∷ []))

abbrev pub Neither : Refusal → Type 0
Neither r = neither r ≡ true

-- nor what cannot arise
abbrev pub plain : Refusal → Bool
plain r = not (cannot_arise r) && neither r

abbrev pub Plain : Refusal → Type 0
Plain r = plain r ≡ true

pub plain_neither : (r : Refusal) → Plain r → Neither r
plain_neither r p = (and_both (not (cannot_arise r)) (neither r) p).1

-- the two numbers are those of the two faults
pub neither_fault : (r : Refusal) → Neither r → AnotherFault r
unfolding fault_number
neither_fault r n =
    let out : has (fault_number r.fault) (41 ∷ 42 ∷ []) ≡ false = not-true (has (fault_number r.fault) (41 ∷ 42 ∷ [])) n in
    let none : fault_number r.fault ∈ (41 ∷ 42 ∷ []) → ⊥ = (λ m. true≢false (sym (in_has m) ∙ out)) in
    (λ e. none (Memᴰ.head (ap fault_number e)), λ e. none (Memᴰ.tail (Memᴰ.head (ap fault_number e))))

-- LOADING

record_plain : (f : Frame) (s : Loading) → Within Plain (load_record f s)
unfolding load_record fault_number has
record_plain f s =
    within_need Plain f.whole CutShort f.at _ refl
    (within_need Plain (right_length (kind_of f.kind) f.size && right_position (kind_of f.kind) s.counts.part) Misplaced f.at _ refl
    (within_need Plain (not (limit_passed (kind_of f.kind) s.counts (length f.fields))) LimitPassed f.at _ refl
    (within_need Plain (fields_permitted (kind_of f.kind) s.counts f.fields) FieldNotPermitted f.at _ refl
    (within_need Plain (not (selected_before (kind_of f.kind) s.job.faces f.fields)) SelectedTwice f.at _ refl
    (within_need Plain (right_joints (kind_of f.kind) s.job.points s.job.edges f.fields) LoopJoints f.at _ refl
    (within_need Plain (not (answered_before (kind_of f.kind) s.job.answers f.fields)) AnsweredTwice f.at _ refl tt))))))

pub loaded_plain : (job : List ℕ) → Within Plain (loaded job)
unfolding loading fault_number has
loaded_plain job =
    within_bind Plain (loading job) _
    (within_need Plain (leb (length job) 65536) TooLong 65536 _ refl
    (within_need Plain (ltb 0 (length job)) Misplaced 0 _ refl
    (within_through Plain load_record (frames job) nothing_loaded record_plain)))
    (λ s e. tt)

-- QUESTIONS

module _ (answers : List Answer) where
  -- questions of kinds other than 7
  module _ (kind : ℕ) (other : eqb kind 7 ≡ false) where
    on_record_plain : (o : Option (List ℕ)) → Within Plain (on_record kind o)
    unfolding on_record fault_number has
    on_record_plain None = ap (λ b. not b && true) other
    on_record_plain (Some v) = tt

    ask_plain : (question : List ℕ) → Within Plain (ask answers kind question)
    ask_plain question = on_record_plain (find answers kind question)

    decided_plain : (v : Verdict) → Within Plain (decided kind v)
    unfolding decided fault_number has
    decided_plain No = tt
    decided_plain Yes = tt
    decided_plain Undecided = ap (λ b. not b && true) other

    yes_plain : (question : List ℕ) → Within Plain (ask_yes answers kind question)
    yes_plain question = within_bind Plain (ask answers kind question) _ (ask_plain question) (λ v e. decided_plain (verdict v))

    same_plain : (a b : ℕ) → Within Plain (ask_same answers kind a b)
    unfolding ask_same
    same_plain a b = within_cond Plain (eqb a b) (Ok true) (ask_yes answers kind (unordered a b)) tt (yes_plain (unordered a b))

  -- MERGING

  joins_plain : (t : Table) (equal : Bool) (v : SurfaceAnswer) → Within Plain (joins_faces t equal v)
  unfolding joins_faces fault_number has
  joins_plain t equal Different = tt
  joins_plain t equal Agreeing = tt
  joins_plain t equal Opposed = tt
  joins_plain t equal Vanishing = refl
  joins_plain t equal SurfaceUndecided = refl

  surface_plain : (t : Table) (fs : List Face) (us : List Use) (ts : List ℕ) (h : ℕ) (g : Grouping) → Within Plain (surface_step t answers fs us ts h g)
  unfolding surface_step
  surface_plain t fs us ts h g =
      within_bind Plain (ask answers 8 (h ∷ [])) _ (ask_plain 8 refl (h ∷ []))
      (λ v e. within_bind Plain (joins_faces t (equal_senses fs us ts h) (surface_answer v)) _ (joins_plain t (equal_senses fs us ts h) (surface_answer v)) (λ yes d. tt))

  merge_plain : (t : Table) (fs : List Face) (us : List Use) (ts : List ℕ) (h : ℕ) (g : Grouping) → Within Plain (merge_step t answers fs us ts h g)
  unfolding merge_step
  merge_plain t fs us ts h g = within_cond Plain (unasked us ts h) (Ok g) (surface_step t answers fs us ts h g) tt (surface_plain t fs us ts h g)

  pub merged_plain : (t : Table) (fs : List Face) (us : List Use) (ts : List ℕ) → Within Plain (merge_faces t answers fs us ts)
  unfolding merge_faces
  merged_plain t fs us ts =
      within_bind Plain (throughout (merge_step t answers fs us ts) (below (length us)) (ungrouped (length fs))) _
      (within_through Plain (merge_step t answers fs us ts) (below (length us)) (ungrouped (length fs)) (merge_plain t fs us ts))
      (λ g e. tt)

  -- VERTEX LOOPS

  there_plain : (face point : ℕ) (ks : List KeptVertexLoop) → Within Plain (already_there answers face point ks)
  unfolding already_there
  there_plain face point [] = tt
  there_plain face point (k ∷ ks) =
      within_bind Plain (cond (eqb k.face face) (ask_same answers 9 point k.point) (Ok false)) _
      (within_cond Plain (eqb k.face face) (ask_same answers 9 point k.point) (Ok false) (same_plain 9 refl point k.point) tt)
      (λ yes e. within_cond Plain yes (Ok true) (already_there answers face point ks) tt (there_plain face point ks))

  kept_plain : (face point : ℕ) (ks : List KeptVertexLoop) → Within Plain (keep_unless_there answers face point ks)
  unfolding keep_unless_there
  kept_plain face point ks = within_bind Plain (already_there answers face point ks) _ (there_plain face point ks) (λ yes e. tt)

  pub vertex_loops_plain : (points numbers : List ℕ) (loops : List Loop) → Within Plain (vertex_loops answers points numbers loops)
  vertex_loops_plain points numbers loops =
      within_through Plain (vertex_loop_step answers points numbers) loops [] (λ l ks. content (get_or numbers l.face 0) l.content ks)
    where
      content : (face : ℕ) (c : Content) (ks : List KeptVertexLoop) → Within Plain (content_step answers points face c ks)
      content face (of_items xs) ks = tt
      content face (at_vertex v) ks = kept_plain face (point_at points v) ks

  -- JOINING

  smooth_plain : (e : EdgeData) (point : ℕ) → Within Plain (not_singular answers e point)
  smooth_plain e point = within_bind Plain (singular answers e point) _ (yes_plain 11 refl _) (λ yes d. tt)

  only_plain : (t : Bool) (o : Outcome Bool) → Within Plain o → Within Plain (only_if t o)
  only_plain true o h = h
  only_plain false o h = tt

  join_plain : (a b : EdgeData) (point : ℕ) → Within Plain (may_join answers a b point)
  unfolding may_join
  join_plain a b point =
      within_bind Plain (only_if (same a.faces b.faces) (ask_same answers 10 a.curve b.curve)) _
      (only_plain (same a.faces b.faces) (ask_same answers 10 a.curve b.curve) (same_plain 10 refl a.curve b.curve))
      (λ yes e. only_plain yes (not_singular answers a point) (smooth_plain a point))

  changed_plain : (question : Outcome Bool) (s : Joining) → Within Plain question → Within Plain (changed_if question s)
  changed_plain question s h = within_bind Plain question _ h (λ yes e. tt)

  corner_plain : (point : ℕ) (s : Joining) (v : ℕ) (es : List ℕ) → Within Plain (at_corner answers point s v es)
  unfolding at_corner
  corner_plain point s v [] = tt
  corner_plain point s v (a ∷ []) = tt
  corner_plain point s v (a ∷ b ∷ []) =
      within_cond Plain (eqb a b) (changed_if (not_singular answers (edge_data_at s.edges a) point) (ring_at s a))
      (changed_if (may_join answers (edge_data_at s.edges a) (edge_data_at s.edges b) point) (join_at s v a b))
      (changed_plain (not_singular answers (edge_data_at s.edges a) point) (ring_at s a) (smooth_plain (edge_data_at s.edges a) point))
      (changed_plain (may_join answers (edge_data_at s.edges a) (edge_data_at s.edges b) point) (join_at s v a b)
      (join_plain (edge_data_at s.edges a) (edge_data_at s.edges b) point))
  corner_plain point s v (a ∷ b ∷ c ∷ more) = tt

  else_plain : (t : Tried) (o : Outcome Tried) → Within Plain o → Within Plain (or_else t o)
  else_plain unchanged o h = h
  else_plain (changed s) o h = tt

  sweep_plain : (starts : List ℕ) (s : Joining) (names : List ℕ) → Within Plain (sweep answers starts s names)
  unfolding sweep
  sweep_plain starts s [] = tt
  sweep_plain starts s (v ∷ vs) =
      within_bind Plain (at_corner answers (fan_point starts v) s v (ends_at s.edges v)) _ (corner_plain (fan_point starts v) s v (ends_at s.edges v))
      (λ t e. else_plain t (sweep answers starts s vs) (sweep_plain starts s vs))

  after_plain : (t : Tried) (s : Joining) (again : Joining → Outcome Joining) → ((u : Joining) → Within Plain (again u)) → Within Plain (after_sweep t s again)
  after_plain unchanged s again h = tt
  after_plain (changed next) s again h = h next

  pub maximal_plain : (starts names : List ℕ) (most : ℕ) (s : Joining) → Within Plain (maximal_edges answers starts names most s)
  unfolding maximal_edges
  maximal_plain starts names zero s = tt
  maximal_plain starts names (suc most) s =
      within_bind Plain (sweep answers starts s names) _ (sweep_plain starts s names)
      (λ t e. after_plain t s (maximal_edges answers starts names most) (maximal_plain starts names most))

  -- SHELLS

  orient_plain : (proven : ℕ) (faces : List ℕ) → Within Plain (orient_shell answers proven faces)
  unfolding orient_shell
  orient_plain proven faces =
      within_bind Plain (cond (eqb proven 1) (Ok true) (ask_yes answers 12 (lowest_face faces ∷ []))) _
      (within_cond Plain (eqb proven 1) (Ok true) (ask_yes answers 12 (lowest_face faces ∷ [])) tt (yes_plain 12 refl (lowest_face faces ∷ [])))
      (λ yes e. tt)

  pub shells_plain : (proven : ℕ) (all : List (List ℕ)) → Within Plain (shells answers proven all)
  shells_plain proven all = within_each Plain (orient_shell answers proven) all (orient_plain proven)

  inside_plain : (probe container : ℕ) → Within Plain (shell_inside answers probe container)
  inside_plain probe container = yes_plain 13 refl (probe ∷ container ∷ [])

  innermost_plain : (taken : Taken) (later : ℕ) → Within Plain (innermost answers taken later)
  innermost_plain none later = tt
  innermost_plain (shell now) later = within_bind Plain (shell_inside answers later now) _ (inside_plain later now) (λ yes e. tt)

  enclosing_plain : (void : ℕ) (os : List ℕ) (taken : Taken) → Within Plain (enclosing_shell answers void os taken)
  unfolding enclosing_shell
  enclosing_plain void [] taken = tt
  enclosing_plain void (o ∷ os) taken =
      within_bind Plain (shell_inside answers void o) _ (inside_plain void o)
      (λ contains e. within_bind Plain (cond contains (innermost answers taken o) (Ok taken)) _
      (within_cond Plain contains (innermost answers taken o) (Ok taken) (innermost_plain taken o) tt)
      (λ t d. enclosing_plain void os t))

  refuse_plain : (taken : Taken) (void : ℕ) → Within Plain (or_refuse taken void)
  unfolding fault_number has
  refuse_plain none void = refl
  refuse_plain (shell o) void = tt

  nest_plain : (os : List ℕ) (s : Shell) → Within Plain (nest answers os s)
  unfolding nest
  nest_plain os s =
      within_bind Plain (cond s.outer (Ok (lowest_face s.faces)) (enclosing_shell answers (lowest_face s.faces) os none >>= λ taken. or_refuse taken (lowest_face s.faces))) _
      (within_cond Plain s.outer (Ok (lowest_face s.faces)) (enclosing_shell answers (lowest_face s.faces) os none >>= λ taken. or_refuse taken (lowest_face s.faces)) tt
      (within_bind Plain (enclosing_shell answers (lowest_face s.faces) os none) _ (enclosing_plain (lowest_face s.faces) os none)
      (λ taken e. refuse_plain taken (lowest_face s.faces))))
      (λ o e. tt)

  pub nested_plain : (ss : List Shell) → Within Plain (nested answers ss)
  nested_plain ss = within_each Plain (nest answers (outers ss)) ss (nest_plain (outers ss))

-- THE OUTPUT

pub fitting_plain : (room : ℕ) (bytes : List ℕ) → Within Plain (fitting room bytes)
unfolding fault_number has
fitting_plain room bytes = within_need Plain (leb (length bytes) room) NoRoom (length bytes) (Ok bytes) refl tt
