-- Edges and loops made of the walks.
use Rattle.std.specs.Prelude.{ℕ, ◌*◌, ◌≤◌, ◌≡◌, refl, List, map, Bool, length, get_or, take, IfOk}
use Rattle.std.proofs.Common.{arith, sym, ap, subst, ◌∙◌, length-take, length-take-le}
use Rattle.std.proofs.Math.Path.{subst₂}
use Rattle.std.proofs.lemmas.List.{length-map}
use Rattle.std.proofs.lemmas.Result.{IfOk-at_ok}
use Rattle.std.proofs.lemmas.Simd.{map-map}
use Rattle.lists.specs.Lists.{below, ◌∈◌}
use Rattle.lists.specs.Members.{map_in}
use Rattle.lists.specs.Tables.{table_is}
use Rattle.rules.specs.declared.Use.{Use}
use Rattle.rules.specs.declared.EdgeData.{EdgeData}
use Rattle.rules.specs.declared.KeptVertexLoop.{KeptVertexLoop}
use Rattle.rules.specs.declared.Rules.{Rules}
use Rattle.rules.specs.Job.{Job}
use Rattle.rules.specs.Walk.{circuit_uses, circuits, loops_of}
use Rattle.rules.specs.Edges.{edges_of, FaceLoop, face_loops}
use Rattle.rules.specs.Outcome.{Outcome, Ok, ◌>>=◌}
use Rattle.rules.proofs.OutcomeLaws.{bind_on}
use Rattle.rules.specs.Join.{Joining, maximal_edges}
use Rattle.rules.specs.Sew.{fans_of, unjoined}
use Rattle.theorems.specs.Linked.{EndsAreFans, LoopsSound, Twins}
use Rattle.theorems.specs.Successors.{Kept}
use Rattle.theorems.specs.Circuits.{Permuted}
use Rattle.theorems.proofs.Circuits.{circuits_parting, closed_kept}
use Rattle.theorems.proofs.Edging.{edges_hold}
use Rattle.theorems.proofs.RingCounts.{joining_fans}
use Rattle.theorems.proofs.Starting.{ends_are_fans, starts_sound}
use Rattle.fields.specs.declared.Span.{Span}
use Rattle.fields.specs.Spans.{no_span, span_at}
use Rattle.merge_faces.specs.FaceTables.{FaceTables}
use Rattle.edges.specs.Table.{item_in, item_code, loop_at, loop_face, face_loops_in, Laid, Tabled}
use Rattle.edges.specs.Made.{Mated, Made}
use Rattle.edges.specs.LoopLaws.{face_loops_lem}
use Rattle.links.specs.Spread.{laid_loop, laid_loops}
use Rattle.maximal_edges.specs.Joined.{state_in, Fitting}
use Rattle.maximal_edges.specs.declared.Joins.{Joins}
use Rattle.walk.specs.Walks.{loops_in, Following}
use Rattle.progress.specs.Known.{Settled}
use Rattle.progress.specs.KnownLaws.{paired_twins, settled_linked, settled_permuted, settled_steps}
use Rattle.rebuild.specs.Fanning.{Fanning}
use Rattle.rebuild.specs.Lined.{Roomy, Lined}
use Rattle.rebuild.specs.Halves.{half_of_uses}
use Rattle.rebuild.proofs.FansLaws.{FansSeen, fanned_names, fanned_hold, names_low}

-- the loops of some stretches, one by one
spans_each : (f : Span → List ℕ) (s : List Span) → map (λ k. f (span_at s k)) (below (length s)) ≡ map f s
spans_each f s = sym (ap (map f) (table_is (span_at s) s (length s) no_span refl (λ i h. refl)) ∙ map-map f (span_at s) (below (length s)))

-- with a face for each loop, the loops of the definitions are those laid out
laid_faces : (items : List ℕ) (stretches : List Span) (faces : List ℕ) → length faces ≡ length stretches
    → map (λ (l : FaceLoop). l.items) (face_loops_in items stretches faces) ≡ laid_loops items stretches
unfolding face_loops_in
laid_faces items stretches faces e =
    map-map (λ (l : FaceLoop). l.items) (λ k. record { face = get_or faces k 0; items = map item_in (loop_at items (span_at stretches k)) }) (below (length faces))
    ∙ ap (λ n. map (laid_loop items stretches) (below n)) e

-- the uses of the loops are kept
loop_kept_lem : (n : ℕ) (rm : List Bool) (ss : List ℕ) → Permuted n rm ss → (l : List ℕ) → l ∈ loops_of (circuits rm ss) → (h : ℕ) → h ∈ l → Kept n rm h
loop_kept_lem n rm ss P l m h i =
    let r = map_in circuit_uses (circuits rm ss) l m in
    closed_kept P r.0 h ((circuits_parting P).closed r.0 r.1) (subst (λ x. h ∈ x) r.2 i)

module _ {v : Fanning} {rules : Rules} {j : Job} {us : List Use} {ts : List ℕ} {m : FaceTables} {kept : List KeptVertexLoop} {rm : List Bool} {ss : List ℕ}
    {gone total : ℕ} {fans names starts : List ℕ}
    (S : Settled rules j us ts m kept rm ss gone total) (F : FansSeen v rules j us ts m kept rm ss gone total fans names starts) where
  twins : Twins us ts
  twins = paired_twins S.keeps.grouped.paired

  pub settled_mated : Mated ts rm
  settled_mated =
      let T = twins in
      let removed_twin = (settled_linked S).removed_twin in
      record { within = λ h b. grind arith; twice = λ h b. grind arith; other = λ h b. grind arith; together = λ h b. grind arith }

  -- the uses made items: with the edges and the merged face of each loop these are the edges and loops before any change
  module _ (rows₀ : List EdgeData) (owns₀ items₀ : List ℕ) (stretches₀ : List Span) (faces₀ : List ℕ) (R : Roomy (length v.fan.walk.uses) rows₀ owns₀ items₀ stretches₀ faces₀)
      (ways : List ℕ) (stretches : List Span) (faces : List ℕ) (rows : List EdgeData) (owns items : List ℕ) (loops edges : ℕ)
      (el : loops_in ways (take loops stretches) ≡ loops_of (circuits rm ss)) (few : loops ≤ length ss) (W : Following ways (take loops stretches))
      (ef : take loops faces ≡ map (loop_face us m.numbers ways (take loops stretches)) (below loops))
      (M : Made j.edges us ts rm m.numbers ss fans owns₀ rows owns edges) (ei : items ≡ map (item_code us owns) ways)
      (sr : length rows ≡ length rows₀) (sw : length ways ≡ length items₀) (st : length stretches ≡ length stretches₀) (sf : length faces ≡ length faces₀) where
    cut : length (take loops stretches) ≡ loops
    cut = length-take-le loops stretches (omega (arith, st, R.stretches_size, F.size))

    cut_faces : length (take loops faces) ≡ loops
    cut_faces = length-take-le loops faces (omega (arith, sf, R.faces_size, F.size))

    half : 2 * edges ≤ length us
    half = omega (arith, M.counted, half_of_uses ts rm settled_mated, twins.size)

    loops_are : face_loops_in items (take loops stretches) (take loops faces) ≡ face_loops us ts rm m.numbers (loops_of (circuits rm ss))
    loops_are =
        (λ i. face_loops_in (ei i) (take loops stretches) (ef i))
        ∙ face_loops_lem us ts rm m.numbers owns ways (take loops stretches) loops (loops_of (circuits rm ss))
        (ap (λ n. map (λ k. loop_at ways (span_at (take loops stretches) k)) (below n)) (sym cut) ∙ spans_each (loop_at ways) (take loops stretches) ∙ el)
        (λ l i h p. let k = loop_kept_lem (length ss) rm ss (settled_steps S) l i h p in M.owners settled_mated h (omega (arith, k.0, twins.size, (settled_permuted S).size)) k.1)

    drawn : state_in rows edges items (take loops stretches) (take loops faces) 0 0 ≡ unjoined v.job v.fan
    unfolding state_in unjoined
    drawn =
        let w = F.walks in
        λ i. record {
          edges = (M.edges ∙ (λ k. edges_of (w.job k).edges (w.uses k) (w.twins k) (w.removed k) (w.numbers k) (w.succ k) (F.fans k))) i;
          loops = (loops_are ∙ (λ k. face_loops (w.uses k) (w.twins k) (w.removed k) (w.numbers k) (loops_of (w.circuits k)))) i;
          joins = 0;
          rings = 0;
        }

    -- what holds of the edges and loops before any change
    first : unjoined v.job v.fan ≡ unjoined v.job (fans_of v.job v.fan.walk)
    first = ap (unjoined v.job) F.fan

    ended : EndsAreFans (take edges rows) v.fan.names
    unfolding state_in unjoined fans_of
    ended = subst₂ EndsAreFans (sym (ap (λ (s : Joining). s.edges) (drawn ∙ first))) (sym (fanned_names F))
        (ends_are_fans v.job v.fan.walk F.walks.ground (fanned_hold F) (edges_hold v.job v.fan.walk F.walks.ground (fanned_hold F)))

    laid : Laid (take loops stretches) items
    laid = record {
      order = λ k q. omega (arith, W.rise k q);
      inside = λ k q. omega (arith, W.within k q, ap length ei, length-map ways (item_code us owns));
      apart = λ k q. omega (arith, W.follow k q);
    }

    pub lined : Lined v rows edges items (take loops stretches) (take loops faces)
    unfolding state_in
    lined = record {
      drawn = drawn;
      tables = record {
        laid = laid;
        loops = omega (arith, cut, cut_faces);
        edges_few = omega (arith, length-take edges rows, half, ap length F.walks.uses, F.walks.ground.few);
        items_few = omega (arith, ap length ei, length-map ways (item_code us owns), sw, R.items_size, F.walks.ground.few);
        faces_few = omega (arith, cut_faces, few, F.size, F.walks.ground.few);
      };
      ended = ended;
      room = omega (arith, half, sr, R.rows_size, ap length F.walks.uses);
      few = omega (arith, half, ap length F.walks.uses, F.walks.ground.few);
      sound = record {
        sound = subst (LoopsSound (take edges rows)) (laid_faces items (take loops stretches) (take loops faces) (cut_faces ∙ sym cut))
            (subst (λ (s : Joining). LoopsSound s.edges (map (λ (l : FaceLoop). l.items) s.loops)) (sym (drawn ∙ first))
            (starts_sound v.job v.fan.walk F.walks.ground (fanned_hold F) (edges_hold v.job v.fan.walk F.walks.ground (fanned_hold F))));
        edges_few = omega (arith, half, ap length F.walks.uses, F.walks.ground.few);
        items_few = omega (arith, ap length ei, length-map ways (item_code us owns), sw, R.items_size, F.walks.ground.few);
        stretches_few = omega (arith, cut, few, F.size, F.walks.ground.few);
      };
    }

-- joined, the tables are still such
pub joined_tables : (names : List ℕ) (rows rows' : List EdgeData) {items items' : List ℕ} {stretches stretches' : List Span} {faces : List ℕ} (n : ℕ) {q : Outcome Joins} {k : Joins}
    → Tabled (take n rows) items stretches faces → length items' ≡ length items → length stretches' ≡ length stretches
    → IfOk q (λ k. Fitting names rows' items' stretches' k) → q ≡ Ok k → Tabled (take k.edges rows') items' stretches' faces
joined_tables names rows rows' {items' = items'} {stretches' = stretches'} n {k = k} T ei es fit d =
    let fits = IfOk-at_ok (λ k. Fitting names rows' items' stretches' k) d fit in
    record {
      laid = fits.laid;
      loops = omega (arith, T.loops, es);
      edges_few = omega (arith, length-take k.edges rows', fits.few);
      items_few = omega (arith, T.items_few, ei);
      faces_few = T.faces_few;
    }

-- and each edge still has no ends or two fans
pub joined_ended : {v : Fanning} {rules : Rules} {j : Job} {us : List Use} {ts : List ℕ} {m : FaceTables} {kept : List KeptVertexLoop} {rm : List Bool} {ss : List ℕ} {gone total : ℕ}
    {fans names starts : List ℕ} (F : FansSeen v rules j us ts m kept rm ss gone total fans names starts) (rows rows' : List EdgeData) (n : ℕ) (items items' : List ℕ)
    (stretches stretches' : List Span) (faces : List ℕ) {q : Outcome Joins} {k : Joins}
    → (q >>= λ k. Ok (state_in rows' k.edges items' stretches' faces k.joins k.rings)) ≡ maximal_edges j.answers starts names (length names) (state_in rows n items stretches faces 0 0)
    → q ≡ Ok k → EndsAreFans (take n rows) v.fan.names → EndsAreFans (take k.edges rows') v.fan.names
unfolding state_in
joined_ended {j = j} {names = names} {starts = starts} F rows rows' n items items' stretches stretches' faces {k = k} e d E =
    let run = sym e ∙ bind_on (λ k. Ok (state_in rows' k.edges items' stretches' faces k.joins k.rings)) d in
    subst (EndsAreFans (take k.edges rows')) F.names
    (joining_fans j.answers starts names (λ n i. omega (arith, names_low F n i)) (length names)
    (state_in rows n items stretches faces 0 0) (state_in rows' k.edges items' stretches' faces k.joins k.rings) run
    (subst (EndsAreFans (take n rows)) (sym F.names) E))
