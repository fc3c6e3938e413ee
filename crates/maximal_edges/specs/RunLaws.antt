-- The run of sweeps: after each change the rest of the run is the run from there, and its budget suffices.
use Prim.Native.Nat.{ℕ, zero, suc, ◌+◌, ◌*◌, ◌-◌, ◌<◌, ◌≤◌}
use Rattle.std.specs.Result.{IsErrAnd}
use Rattle.std.proofs.Common.{add-one, arith, sym, ap, subst, ◌∙◌, length-take-le}
use Rattle.std.specs.Prelude.{◌≡◌, List, length, get_or, set, take, Option, Some, None}
use Rattle.std.proofs.Math.Path.{refl}
use Rattle.lists.specs.Lists.{◌∈◌, Nodup, keep}
use Rattle.lists.specs.Members.{keep_length}
use Rattle.fields.specs.declared.Span.{Span}
use Rattle.rules.specs.declared.EdgeData.{EdgeData}
use Rattle.rules.specs.declared.Refusal.{Refusal}
use Rattle.rules.specs.Outcome.{Outcome, Ok, Err, ◌>>=◌}
use Rattle.rules.proofs.OutcomeLaws.{bind_on, bind_stop, hands_on}
use Rattle.rules.specs.Job.{Answer}
use Rattle.rules.specs.Join.{Joining, edge_data_at, active_edges, two_ends, ring_of, replaced_all, joined_edge, join_edges, join_at, ring_at}
use Rattle.rules.specs.Join.{unchanged, changed, sweep, after_sweep, maximal_edges}
use Rattle.edges.specs.Table.{face_loops_in, Laid}
use Rattle.links.specs.Tables.{LinkTables}
use Rattle.links.specs.JoinLinks.{Joinable, Joined}
use Rattle.links.specs.Lay.{laid_by, length_laid}
use Rattle.links.specs.Replace.{joined_replaced}
use Rattle.theorems.proofs.Ends.{one_edge, two_edges}
use Rattle.maximal_edges.specs.declared.Joins.{Joins}
use Rattle.maximal_edges.specs.declared.Change.{Change}
use Rattle.maximal_edges.specs.declared.Change.TheVariants.{Ring, Join}
use Rattle.maximal_edges.specs.declared.Corner.{Corner}
use Rattle.maximal_edges.specs.declared.Resume.{Resume}
use Rattle.maximal_edges.specs.Joined.{state_in, whole_run, Ran, no_corner, Tabled, corners_joined, far_at, change_of, tried_by}
use Rattle.maximal_edges.specs.Joined.{Real, Ranked, StillBut, after_ring, after_join, Swept, JoinedAt}
use Rattle.maximal_edges.specs.Hung.{Hung, hung_ring, hung_joinable, hung_join}
use Rattle.maximal_edges.specs.StillLaws.{but_ring, but_join}
use Rattle.maximal_edges.specs.ChangeLaws.{Changed, changed_ring, changed_join, active_few, active_ring, active_join}

-- ONE SWEEP OF THE DEFINITION

module _ (answers : List Answer) (starts names : List ℕ) where
  -- it changes nothing
  run_still : (most : ℕ) (s : Joining) → sweep answers starts s names ≡ Ok unchanged → maximal_edges answers starts names most s ≡ Ok s
  unfolding maximal_edges
  run_still zero s e = refl
  run_still (suc most) s e = bind_on (λ t. after_sweep t s (maximal_edges answers starts names most)) e

  -- it makes a change
  run_changed : (most : ℕ) (s t : Joining) → sweep answers starts s names ≡ Ok (changed t) → maximal_edges answers starts names (suc most) s ≡ maximal_edges answers starts names most t
  unfolding maximal_edges
  run_changed most s t e = bind_on (λ t. after_sweep t s (maximal_edges answers starts names most)) e

  -- it is refused
  run_stopped : (most : ℕ) (s : Joining) (r : Refusal) → sweep answers starts s names ≡ Err r → maximal_edges answers starts names (suc most) s ≡ Err r
  unfolding maximal_edges
  run_stopped most s r e = bind_stop (λ t. after_sweep t s (maximal_edges answers starts names most)) e

-- THE STATE IN THE TABLES

state_edges : (rows : List EdgeData) (n : ℕ) (items : List ℕ) (stretches : List Span) (faces : List ℕ) (joins rings : ℕ)
    → (state_in rows n items stretches faces joins rings).edges ≡ take n rows
unfolding state_in
state_edges rows n items stretches faces joins rings = refl

state_ring : (rows rows' : List EdgeData) (n : ℕ) (items : List ℕ) (stretches : List Span) (faces : List ℕ) (joins rings a : ℕ)
    → take n rows' ≡ set (take n rows) a (ring_of (edge_data_at (take n rows) a))
    → ring_at (state_in rows n items stretches faces joins rings) a ≡ state_in rows' n items stretches faces joins (rings + 1)
unfolding state_in ring_at
state_ring rows rows' n items stretches faces joins rings a e =
    grind arith

state_join : (rows rows' : List EdgeData) (n : ℕ) (t t' : LinkTables) (items faces : List ℕ) (joins rings v a b : ℕ) → n ≤ length rows
    → take (n + 1) rows' ≡ join_edges v a b (take n rows)
    → Joined (take n rows) v a b t t' → Laid t.stretches items → length faces ≤ length t.stretches
    → join_at (state_in rows n (laid_by t items) t.stretches faces joins rings) v a b ≡ state_in rows' (n + 1) (laid_by t' items) t'.stretches faces (joins + 1) rings
unfolding state_in join_at
state_join rows rows' n t t' items faces joins rings v a b fits e j laid few =
    let count : length (take n rows) ≡ n = length-take-le n rows fits in
    let r = joined_replaced (take n rows) v a b n t t' items (sym count) j laid in
    λ i. record {
      edges = sym e i;
      loops = (ap (λ k. replaced_all (take n rows) v a b k (face_loops_in (laid_by t items) t.stretches faces)) count ∙ sym (r.loops faces few)) i;
      joins = sym (add-one joins) i;
      rings = rings;
    }

-- THE RUN

-- the tables before a sweep, in a run that began with the first ones: for the faces of its loops it gives what the rules make of the tables as they are now
pub record Going (answers : List Answer) (starts names : List ℕ) (rows₀ : List EdgeData) (n₀ : ℕ) (items : List ℕ) (stretches₀ : List Span)
    (rows : List EdgeData) (n : ℕ) (t : LinkTables) (corners : List Corner) (joins rings : ℕ) (from : Resume) : Type 0 where
  pub nodup : Nodup names
  pub fans : (x : ℕ) → x ∈ names → x < 2048
  pub size : n + length (active_edges (take n rows)) ≤ length rows
  pub sizes : length t.stretches ≡ length stretches₀
  pub few : n ≤ 2047
  pub room : n + length (active_edges (take n rows)) ≤ 2048
  pub laid : Laid t.stretches items
  pub hung : Hung (take n rows) t
  pub tabled : Tabled (take n rows) corners
  pub known : StillBut answers starts names (take n rows) from
  pub budget : length (keep (two_ends (take n rows)) names) + (joins + rings) ≤ length names
  pub run : (faces : List ℕ) → length faces ≤ length stretches₀ → whole_run answers starts names rows₀ n₀ items stretches₀ faces
      ≡ maximal_edges answers starts names (length names - (joins + rings)) (state_in rows n (laid_by t items) t.stretches faces joins rings)

-- where it starts
pub going_start : (answers : List Answer) (starts : List ℕ) {names : List ℕ} {rows : List EdgeData} {n : ℕ} {items : List ℕ} {t : LinkTables} {stretches : List Span}
    {corners : List Corner} (from : Resume)
    → (from.low ≡ 0) × ((from.high ≡ 0) × (from.top ≡ 0)) → Nodup names → ((x : ℕ) → x ∈ names → x < length corners) → 2 * n ≤ length rows → n ≤ 1024
    → Laid stretches items → Hung (take n rows) t → laid_by t items ≡ items → t.stretches ≡ stretches → Tabled (take n rows) corners
    → Going answers starts names rows n items stretches rows n t corners 0 0 from
going_start answers starts {names} {rows} {n} {items} from first nodup inside size few laid hung linked own tabled =
    let count : length (take n rows) ≡ n = length-take-le n rows (omega arith) in
    let e : length names ≡ length names - (0 + 0) = omega arith in record {
      nodup = nodup;
      fans = λ x m. omega (arith, inside x m, tabled.size);
      size = omega (arith, active_few (take n rows));
      sizes = ap length own;
      few = omega arith;
      room = omega (arith, active_few (take n rows));
      laid = subst (λ s. Laid s items) (sym own) laid;
      hung = hung;
      tabled = tabled;
      known = record { low_high = omega arith; high_top = omega arith; others = λ k h. absurd (omega arith) };
      budget = omega (arith, keep_length (two_ends (take n rows)) names);
      run = λ faces h i. maximal_edges answers starts names (e i) (state_in rows n (sym linked i) (sym own i) faces 0 0);
    }

module _ {answers : List Answer} {starts names : List ℕ} {rows₀ : List EdgeData} {n₀ : ℕ} {items : List ℕ} {stretches₀ : List Span} {rows : List EdgeData} {n : ℕ}
    {t : LinkTables} {corners : List Corner} {joins rings : ℕ} {from : Resume}
    (g : Going answers starts names rows₀ n₀ items stretches₀ rows n t corners joins rings from)
    {r : Outcome (Option Change)} (k : Swept answers starts names (take n rows) from r) where
  abbrev es : List EdgeData
  es = take n rows

  abbrev whole : List ℕ → Outcome Joining
  whole faces = whole_run answers starts names rows₀ n₀ items stretches₀ faces

  abbrev state : List ℕ → Joining
  state faces = state_in rows n (laid_by t items) t.stretches faces joins rings

  count : length es ≡ n
  count = length-take-le n rows (omega (arith, g.size))

  swept : (faces : List ℕ) → sweep answers starts (state faces) names ≡ (r >>= λ c. Ok (tried_by (state faces) c))
  swept faces = sym (k.same (state faces) (state_edges rows n (laid_by t items) t.stretches faces joins rings))

  -- the sweep changes nothing: the run is over, and this is what the stage leaves
  pub ran_done : {items' : List ℕ} {stretches' : List Span} → items' ≡ laid_by t items → stretches' ≡ t.stretches → r ≡ Ok None
      → Ran answers starts names rows₀ n₀ items stretches₀ rows items' stretches' (Ok (record { edges = n; joins = joins; rings = rings }))
  ran_done same same' e =
      subst (λ w. w) (λ i. Ran answers starts names rows₀ n₀ items stretches₀ rows (sym same i) (sym same' i) (Ok (record { edges = n; joins = joins; rings = rings })))
      (record {
        run = λ faces h. sym (g.run faces h ∙ run_still answers starts names (length names - (joins + rings)) (state faces) (swept faces ∙ rw e));
        fitting = record {
          laid = record { order = g.laid.order; inside = λ j q. omega (arith, g.laid.inside j q, length_laid t items); apart = g.laid.apart };
          few = g.few;
          changes = omega (arith, g.budget);
          room = omega (arith, g.size);
        };
      })

  -- the sweep is refused, and so is the run
  pub ran_refused : (items' : List ℕ) (stretches' : List Span) (q : Outcome Joins) {e : Refusal} → r ≡ Err e → IsErrAnd q (λ x. x ≡ e)
      → Ran answers starts names rows₀ n₀ items stretches₀ rows items' stretches' q
  ran_refused items' stretches' q {e = refusal} e h =
      let d : length names - (joins + rings) ≡ suc (length names - (joins + rings) - 1) = omega (arith, g.budget, k.some refusal e) in
      subst (Ran answers starts names rows₀ n₀ items stretches₀ rows items' stretches') (sym (hands_on q h))
      (record {
        run = λ faces few.
            sym (g.run faces few ∙ ap (λ m. maximal_edges answers starts names m (state faces)) d
            ∙ run_stopped answers starts names (length names - (joins + rings) - 1) (state faces) refusal (swept faces ∙ rw e));
        fitting = tt;
      })

  -- after a change one less is left
  onward : {change : Change} → r ≡ Ok (Some change) → (t : List ℕ → Joining) (joins' rings' twos : ℕ)
      → ((faces : List ℕ) → length faces ≤ length stretches₀ → change_of (state faces) change ≡ t faces)
      → length (keep (two_ends es) names) ≡ suc twos → joins' + rings' ≡ suc (joins + rings) → (faces : List ℕ) → length faces ≤ length stretches₀
      → whole faces ≡ maximal_edges answers starts names (length names - (joins' + rings')) (t faces)
  onward was t joins' rings' twos made fall count faces h =
      let d : length names - (joins + rings) ≡ suc (length names - (joins' + rings')) = omega (arith, g.budget) in
      g.run faces h ∙ ap (λ m. maximal_edges answers starts names m (state faces)) d
      ∙ run_changed answers starts names (length names - (joins' + rings')) (state faces) (t faces)
      (swept faces ∙ ap (λ (o : Outcome (Option Change)). o >>= λ c. Ok (tried_by (state faces) c)) was ∙ ap (λ s. Ok (changed s)) (made faces h))

  module _ {v a : ℕ} (was : r ≡ Ok (Some (Ring v a))) where
    abbrev ring : Real es names (Ring v a)
    ring = k.real (Ring v a) was

    -- the edge exists
    pub ring_inside : a < n
    ring_inside = omega (arith, (one_edge es v a ring.1).inside, count)

    module _ (rows' : List EdgeData) (edges : take n rows' ≡ set es a (ring_of (edge_data_at es a))) where
      ring_changed : Changed names es (take n rows') corners (set corners v no_corner)
      ring_changed = subst (λ l. Changed names es l corners (set corners v no_corner)) (sym edges) (changed_ring names g.nodup g.fans es v ring.0 corners a ring.1)

      -- fewer fans with two ends
      pub ring_less : length (keep (two_ends (take n rows')) names) < length (keep (two_ends es) names)
      ring_less = omega (arith, ring_changed.twos)

      -- the tables after a ring
      pub going_ring : {corners' : List Corner} (ranks : List ℕ) {from' : Resume} → Ranked names ranks → length rows' ≡ length rows → corners' ≡ set corners v no_corner
          → from' ≡ after_ring from (get_or ranks v 0) → Going answers starts names rows₀ n₀ items stretches₀ rows' n t corners' joins (rings + 1) from'
      going_ring ranks ranked size corner ef = record {
        nodup = g.nodup;
        fans = g.fans;
        size = omega (arith, g.size, ap (λ l. length (active_edges l)) edges, active_ring es v a ring.1);
        sizes = g.sizes;
        few = g.few;
        room = omega (arith, g.room, ap (λ l. length (active_edges l)) edges, active_ring es v a ring.1);
        laid = g.laid;
        hung = hung_ring es v a g.hung ring.1 edges;
        tabled = subst (Tabled (take n rows')) (sym corner) (ring_changed.tables g.tabled);
        known = subst (λ l. l) (λ i. StillBut answers starts names (sym edges i) (sym ef i))
            (but_ring answers starts names g.fans es from v ring.0 (k.past (Ring v a) was) ranks ranked a ring.1);
        budget = omega (arith, g.budget, ring_changed.twos);
        run = onward was (λ faces. state_in rows' n (laid_by t items) t.stretches faces joins (rings + 1)) joins (rings + 1) (length (keep (two_ends (take n rows')) names))
            (λ faces h. state_ring rows rows' n (laid_by t items) t.stretches faces joins rings a edges) ring_changed.twos (omega arith);
      }

  module _ {v a b : ℕ} (was : r ≡ Ok (Some (Join v a b))) where
    abbrev join : Real es names (Join v a b)
    join = k.real (Join v a b) was

    -- both edges exist, the first is the lower, they can be joined, and there is room for one more
    pub join_inside : (n < length rows) × (n < 2047) × (a < b) × (b < n) × Joinable es v a b n t
    join_inside =
        let few : n < 2047 = omega (arith, g.room, (active_join es v a b join.1 join.2).1) in (
          omega (arith, g.size, (active_join es v a b join.1 join.2).1),
          few,
          join.2,
          omega (arith, (two_edges es v a b join.1 join.2).inside, count),
          hung_joinable es v a b g.hung join.1 join.2 n (sym count) (omega arith),
        )

    module _ {rows' : List EdgeData} {t' : LinkTables} {corners' : List Corner} {new : EdgeData} (j : JoinedAt n v a b rows t corners rows' t' corners' new) where
      abbrev after : List Corner
      after = corners_joined v (far_at rows n v a) (far_at rows n v b) a b n corners

      join_changed : Changed names es (take (n + 1) rows') corners after
      join_changed =
          subst (λ l. Changed names es l corners after) (sym j.edges) (changed_join names g.nodup g.fans es v join.0 corners n count a b join.1 join.2)

      pub join_less : length (keep (two_ends (take (n + 1) rows')) names) < length (keep (two_ends es) names)
      join_less = omega (arith, join_changed.twos)

      -- the tables after a join
      pub going_join : (ranks : List ℕ) {from' : Resume} → Ranked names ranks → length rows' ≡ length rows
          → from' ≡ after_join from (get_or ranks v 0) (get_or ranks new.start 0) (get_or ranks new.end 0)
          → Going answers starts names rows₀ n₀ items stretches₀ rows' (n + 1) t' corners' (joins + 1) rings from'
      unfolding joined_edge
      going_join ranks ranked size ef = record {
        nodup = g.nodup;
        fans = g.fans;
        size = omega (arith, g.size, ap (λ l. length (active_edges l)) j.edges, (active_join es v a b join.1 join.2).0);
        sizes = j.loops.count ∙ g.sizes;
        few = omega (arith, join_inside.1);
        room = omega (arith, g.room, ap (λ l. length (active_edges l)) j.edges, (active_join es v a b join.1 join.2).0);
        laid = j.loops.laid items g.laid;
        hung = hung_join es v a b g.hung join.1 join.2 j.loops j.edges;
        tabled = subst (Tabled (take (n + 1) rows')) (sym j.table) (join_changed.tables g.tabled);
        known = subst (λ l. l) (λ i. StillBut answers starts names (sym j.edges i) (sym ef i))
            (but_join answers starts names g.fans es from v join.0 (k.past (Join v a b) was) ranks ranked a b _ _ join.1 join.2
            (ap (λ (d : EdgeData). get_or ranks d.start 0) j.made)
            (ap (λ (d : EdgeData). get_or ranks d.end 0) j.made));
        budget = omega (arith, g.budget, join_changed.twos);
        run = onward was (λ faces. state_in rows' (n + 1) (laid_by t' items) t'.stretches faces (joins + 1) rings) (joins + 1) rings (length (keep (two_ends (take (n + 1) rows')) names))
            (λ faces h. state_join rows rows' n t t' items faces joins rings v a b (omega (arith, g.size)) j.edges j.loops g.laid (omega (arith, g.sizes)))
            join_changed.twos (omega arith);
      }
