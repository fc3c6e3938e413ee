-- Demand 3 for every job, whatever the rules that sewing runs by.
use Rattle.std.specs.Prelude.{ℕ, ◌+◌, ◌<◌, ◌≤◌, ◌≡◌, refl, true, false, ◌&&◌, not, List, length, eqb}
use Rattle.std.proofs.Common.{arith, sym, ap, ◌∙◌, subst, subst₂, ⊎_elim, eqb-true}
use Rattle.lists.specs.Lists.{below, ◌∈◌, Nodup, keep}
use Rattle.lists.specs.Runs.{length_below, pigeon_below}
use Rattle.lists.specs.Members.{keep_length}
use Rattle.lists.specs.Counts.{keep_places}
use Rattle.rules.specs.Outcome.{Ok}
use Rattle.rules.specs.Frame.{framed_all}
use Rattle.rules.specs.Job.{unset, Job}
use Rattle.rules.specs.Load.{loaded}
use Rattle.rules.specs.declared.Rules.{Rules}
use Rattle.rules.specs.Merge.{is_removed}
use Rattle.rules.specs.Join.{Joining, maximal_edges}
use Rattle.rules.specs.Shells.{Nested}
use Rattle.rules.specs.Body.{Body, empty_body, body_kind, body_records}
use Rattle.rules.specs.Sew.{Walked, Fanned, fans_of, unjoined, Joined, through_joining, totals_of, body_of, sewn}
use Rattle.theorems.specs.Demand3.{holds_kept, reached, passed_sum, WalksHold, Change, Run, rings_of, joins_of, Reports}
use Rattle.theorems.specs.Demand3.{Settled, JoiningHolds, Demand3}
use Rattle.theorems.proofs.Loading.{no_face_no_use, faces_few}
use Rattle.theorems.proofs.ChangeRuns.{runs_to_end, run_few, run_counts}
use Rattle.theorems.proofs.Balance.{run_balance}
use Rattle.theorems.proofs.RingCounts.{run_rings}
use Rattle.theorems.specs.LoopRuns.{SoundLoops}
use Rattle.theorems.proofs.LoopRuns.{run_places}
use Rattle.theorems.specs.Ground.{Ground}
use Rattle.theorems.proofs.Ground.{ground, settled_walked, settled_uses}
use Rattle.theorems.specs.Fanning.{FansHold}
use Rattle.theorems.proofs.Fanning.{fans_hold}
use Rattle.theorems.specs.Edging.{EdgesHold}
use Rattle.theorems.proofs.Edging.{edges_hold}
use Rattle.theorems.proofs.Starting.{starts_at_fans, starts_sound}
use Rattle.theorems.specs.Reporting.{Small, Begins}
use Rattle.theorems.proofs.Reporting.{read_back, sewn_body, rebuild_cases, first_record, body_totals}
use Rattle.theorems.proofs.Reporting.{through_joined, none_joined, passed_total}

-- the sum of the passed counts is at most the number of uses
passed_few : (w : Walked) → WalksHold w → passed_sum w ≤ length w.uses
unfolding reached
passed_few w W =
    let a = W.passed.counted in
    omega (arith, a, keep_length (λ h. is_removed w.merge.removed h && holds_kept w h) (below (length w.uses)), length_below (length w.uses))

-- the start of joining counts nothing
pub no_counts_lem : (j : Job) (f : Fanned) → ((unjoined j f).joins ≡ 0) × ((unjoined j f).rings ≡ 0)
unfolding unjoined
no_counts_lem j f = (refl, refl)

-- fans keep the walks they are made of
fan_walk : (j : Job) (w : Walked) (s : Joining) → totals_of (fans_of j w).walk s ≡ totals_of w s
unfolding fans_of
fan_walk j w s = refl

-- what a body's first record tells, whatever its totals
begins_body : (b : Body) → Small b.totals → Begins (framed_all (body_records b)) b.totals
begins_body b S =
    let r = first_record b in
    subst (λ rs. Begins (framed_all rs) b.totals) (sym r.1) (read_back b.totals r.0 S)

-- what the Empty body's tells
pub empty_begins : (bytes : List ℕ) → bytes ≡ framed_all (body_records empty_body) → Begins bytes empty_body.totals
empty_begins bytes e =
    subst (λ b. Begins b empty_body.totals) (sym e)
    (begins_body empty_body (record { uses = omega arith; removed = omega arith; passed = omega arith; joins = omega arith; rings = omega arith; face_joins = omega arith }))

module _ (rules : Rules) (job : List ℕ) (j : Job) (w : Walked) (l : loaded job ≡ Ok j) (s : Settled rules j w) where
  abbrev G : Ground j w
  G = ground rules job j w l s

  abbrev F : FansHold j w
  F = fans_hold j w G

  abbrev fan : Fanned
  fan = fans_of j w

  abbrev start : Joining
  start = unjoined j (fans_of j w)

  fan_facts : Nodup fan.names × ((v : ℕ) → v ∈ fan.names → v < length w.uses)
  unfolding fans_of
  fan_facts = (F.nodup, λ v m. (F.ended v m).0)

  names_few : length fan.names ≤ length w.uses
  names_few = pigeon_below (length w.uses) fan.names fan_facts.0 fan_facts.1

  names_below : (v : ℕ) → v ∈ fan.names → v < unset
  names_below v m = omega (arith, fan_facts.1 v m, G.few)

  -- the run of joining, with the numbers that bound the Body record's fields
  record Ran (ending : Joining) : Type 0 where
    pub changes : List Change
    pub run : Run j.answers fan start changes ending
    pub joins : ending.joins ≡ joins_of changes
    pub rings : ending.rings ≡ rings_of changes
    pub few : joins_of changes + rings_of changes ≤ length w.uses

  ran : (ending : Joining) → maximal_edges j.answers fan.starts fan.names (length fan.names) start ≡ Ok ending → Ran ending
  ran ending e =
      let r = runs_to_end j.answers fan start ending fan_facts.0 names_below e in
      let c = no_counts_lem j fan in
      let k = run_counts j.answers fan start ending r.0 r.1 in
      let n = run_few j.answers fan start ending r.0 fan_facts.0 names_below r.1 in
      record {
        changes = r.0;
        run = r.1;
        joins = omega (arith, k.0, c.0);
        rings = omega (arith, k.1, c.1);
        few = omega (arith, n, names_few);
      }

  -- what holds of joining, but for the body's report
  holds : (bytes : List ℕ) (ending : Joining) → through_joining rules j ≡ Ok (record { fan = fans_of j w; joining = ending })
      → (R : Ran ending) → Reports j w R.changes bytes → JoiningHolds rules j w bytes
  holds bytes ending e R reports =
      let E : EdgesHold j w = edges_hold j w G F in
      record {
        changes = R.changes;
        ending = ending;
        joined = e;
        run = R.run;
        balance = run_balance j.answers fan start ending R.changes fan_facts.0 names_below R.run;
        rings = run_rings j.answers fan start ending R.changes names_below (starts_at_fans j w G F E) R.run;
        places = (run_places j.answers fan start ending R.changes (starts_sound j w G F E) R.run).0;
        reports = reports;
      }

  -- the loops are sound where joining ends
  pub joining_sound : (ending : Joining) → maximal_edges j.answers fan.starts fan.names (length fan.names) start ≡ Ok ending → SoundLoops ending
  joining_sound ending e =
      let R : Ran ending = ran ending e in
      (run_places j.answers fan start ending R.changes (starts_sound j w G F (edges_hold j w G F)) R.run).1

  -- the number of removed uses, counted by the list or by the uses
  removed_count : length (keep (λ gone. gone) w.merge.removed) ≡ length (keep (is_removed w.merge.removed) (below (length w.uses)))
  removed_count =
      keep_places (λ gone. gone) w.merge.removed false
      ∙ ap (λ n. length (keep (is_removed w.merge.removed) (below n))) G.linked.size

  removed_few : length (keep (is_removed w.merge.removed) (below (length w.uses))) ≤ length w.uses
  removed_few = omega (arith, keep_length (is_removed w.merge.removed) (below (length w.uses)), length_below (length w.uses))

  -- a job without faces
  empty_holds : (bytes : List ℕ) → eqb (length j.faces) 0 ≡ true → bytes ≡ framed_all (body_records empty_body) → JoiningHolds rules j w bytes
  empty_holds bytes f e =
      let none : length w.uses ≡ 0 = ap length (sym (settled_uses rules j w s)) ∙ no_face_no_use job j l (eqb-true (length j.faces) 0 f) in
      let q = none_joined rules j w none (settled_walked rules j w s) in
      let R : Ran start = ran start q.1 in
      let B : Begins bytes empty_body.totals = empty_begins bytes e in
      holds bytes start q.0 R
      (record {
        kind = B.kind;
        solid = B.solid ∙ sym (ap (λ b. body_kind (not b)) f);
        uses = B.uses ∙ sym none;
        removed = omega (arith, B.removed, removed_few, none);
        passed = omega (arith, B.passed, passed_few w G.walks, none);
        joins = omega (arith, B.joins, R.few, none);
        rings = omega (arith, B.rings, R.few, none);
      })

  -- the totals are small
  pub totals_small : (ending : Joining) → maximal_edges j.answers fan.starts fan.names (length fan.names) start ≡ Ok ending → Small (totals_of w ending)
  totals_small ending e =
      let R : Ran ending = ran ending e in
      let passed = passed_total rules j w G.linked.size s in
      record {
        uses = G.few;
        removed = omega (arith, removed_count, removed_few, G.few);
        passed = omega (arith, passed, passed_few w G.walks, G.few);
        joins = omega (arith, R.joins, R.few, G.few);
        rings = omega (arith, R.rings, R.few, G.few);
        face_joins = omega (arith, G.fewer, faces_few job j l);
      }

  -- the bytes of a body begin with the totals of its walks and its joining
  pub solid_begins : (bytes : List ℕ) (x : Joined) (ns : List Nested) → through_joining rules j ≡ Ok x → bytes ≡ framed_all (body_records (body_of j x ns))
      → Begins bytes (totals_of w x.joining)
  solid_begins bytes x ns q e =
      let r = through_joined rules j w x (settled_walked rules j w s) q in
      let same : x.joining ≡ r.0 = ap (λ (y : Joined). y.joining) r.1 in
      let T : (body_of j x ns).totals ≡ totals_of w x.joining =
      body_totals j x ns ∙ ap (λ (y : Joined). totals_of y.fan.walk x.joining) r.1 ∙ fan_walk j w x.joining in
      subst₂ Begins (sym e) T (begins_body (body_of j x ns) (subst Small (ap (totals_of w) (sym same) ∙ sym T) (totals_small r.0 r.2)))

  -- a job with faces
  solid_holds : (bytes : List ℕ) (x : Joined) (ns : List Nested) → eqb (length j.faces) 0 ≡ false → through_joining rules j ≡ Ok x
      → bytes ≡ framed_all (body_records (body_of j x ns)) → JoiningHolds rules j w bytes
  solid_holds bytes x ns f q e =
      let r = through_joined rules j w x (settled_walked rules j w s) q in
      let ending : Joining = r.0 in
      let R : Ran ending = ran ending r.2 in
      let passed = passed_total rules j w G.linked.size s in
      let B : Begins bytes (totals_of w ending) = subst (λ (y : Joined). Begins bytes (totals_of w y.joining)) r.1 (solid_begins bytes x ns q e) in
      holds bytes ending (q ∙ ap Ok r.1) R
      (record {
        kind = B.kind;
        solid = B.solid ∙ sym (ap (λ b. body_kind (not b)) f);
        uses = B.uses;
        removed = B.removed ∙ removed_count;
        passed = B.passed ∙ passed;
        joins = B.joins ∙ R.joins;
        rings = B.rings ∙ R.rings;
      })

  accepted_holds : (room : ℕ) (bytes : List ℕ) → sewn rules job room ≡ Ok bytes → JoiningHolds rules j w bytes
  accepted_holds room bytes e =
      let a = sewn_body rules job room bytes j l e in
      ⊎_elim
      (λ r. empty_holds bytes r.0 (a.2 ∙ ap (λ b. framed_all (body_records b)) r.1))
      (λ r. solid_holds bytes r.1.joined r.1.nests r.0 r.1.joining (a.2 ∙ ap (λ b. framed_all (body_records b)) r.1.body))
      (rebuild_cases rules j a.0 a.1)

-- demand 3, for all rules and every job
pub demand3 : (rules : Rules) (job : List ℕ) → Demand3 rules job
demand3 rules job j w l s = ((ground rules job j w l s).walks, accepted_holds rules job j w l s)
