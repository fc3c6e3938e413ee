-- Laws of the loops in tables: one more loop at the end, and what the tables give when all uses have been looked at.
use Rattle.std.specs.Prelude.{ℕ, zero, suc, ◌+◌, ◌-◌, ◌<◌, ◌≤◌, ◌≡◌, refl, Bool, true, false, ◌||◌, take, drop, set, replicate, eqb}
use Rattle.std.proofs.lemmas.List.{take_more_set}
use Rattle.lists.specs.TableMore.{table_more}
use Rattle.std.proofs.Common.{add-one, sym, subst, ◌∙◌, ⊎_elim, length-set, length-append, take-append-drop, length-take-le, take_at, get_or-set_same, get_or-set_other}
use native.Mathlib.Omega.{arith}
use Rattle.std.proofs.Math.Path.{ap}
use mathlib.Core.List.Memᴰ
use mathlib.Core.List.{List, [], ◌∷◌, ◌++◌, map, map-map, flat_map, foldl, append-nil, append_assoc}
use Rattle.std.proofs.Math.ListN.{length, get_or, length-replicate}
use Rattle.std.proofs.lemmas.List.Edits.{sets-eq}
use Rattle.std.proofs.Math.Seq.{length-sets}
use Rattle.lists.specs.Lists.{from, below, ◌∈◌, has, some}
use Rattle.lists.specs.Tests.{both_ways, or_second, none_or, or_assoc, or_comm, equal_or_not}
use Rattle.lists.specs.Runs.{below_snoc, pigeon_below, length_table, get_or_table}
use Rattle.lists.specs.Members.{flat_map_append, flat_map_in, foldl_append}
use Rattle.lists.specs.Membership.{get_or_in}
use Rattle.lists.specs.Orbits.{length_orbit}
use Rattle.lists.specs.Tables.{length_snoc}
use Rattle.lists.specs.Appended.{some_snoc}
use Rattle.lists.specs.Prefixes.{below_split}
use Rattle.lists.specs.Cuts.{start_at, start_none, start_end, start_snoc, start_next, start_within, cuts}
use Rattle.rules.specs.Merge.{is_removed}
use Rattle.rules.specs.Walk.{Circuit, closes, never_closes, successor, circuit, circuit_uses, visited, loop_step, circuits, loops_of}
use Rattle.theorems.specs.Circuits.{Permuted, Closed}
use Rattle.theorems.proofs.Circuits.{circuits_parting, closed_kept, step_skips, step_starts, uses_snoc}
use Rattle.fields.specs.declared.Span.{Span}
use Rattle.fields.specs.Spans.{no_span, span_at}
use Rattle.walk.specs.Walks.{Closes, marked, unvisited, Round, loop_in, loops_in, Following, started, span_of, Held, Walking}

-- MARKS

length_marked : (v : List Bool) (hs : List ℕ) → length (marked v hs) ≡ length v
unfolding marked
length_marked v [] = refl
length_marked v (x ∷ hs) = length_marked (set v x true) hs ∙ length-set v x true

one_mark : (v : List Bool) (x y : ℕ) → x < length v → get_or (set v x true) y false ≡ (get_or v y false || eqb y x)
one_mark v x y lt =
    ⊎_elim
    (λ w. ap (λ k. get_or (set v x true) k false) w.0 ∙ get_or-set_same v x true false lt ∙ sym (or_second (get_or v y false) (eqb y x) w.1))
    (λ w. get_or-set_other v x y true false w.0 ∙ sym (or_none_right (get_or v y false) (eqb y x) w.1))
    (equal_or_not y x)
  where
    or_none_right : (a b : Bool) → b ≡ false → (a || b) ≡ a
    or_none_right true b e = refl
    or_none_right false b e = e

-- a flag is set where it was, or where a use of the loop is
marked_is : (v : List Bool) (hs : List ℕ) → ((x : ℕ) → x ∈ hs → x < length v) → (y : ℕ) → get_or (marked v hs) y false ≡ (get_or v y false || has y hs)
unfolding marked has
marked_is v [] within y = sym (or_comm (get_or v y false) false)
marked_is v (x ∷ hs) within y =
    marked_is (set v x true) hs (λ z m. let r = within z (Memᴰ.tail m) in subst (λ k. z < k) (sym (length-set v x true)) r) y
    ∙ ap (λ b. b || has y hs) (one_mark v x y (within x (Memᴰ.head refl))) ∙ or_assoc (get_or v y false) (eqb y x) (has y hs)

-- no flag is set at first
blank : (n x : ℕ) → get_or (replicate n false) x false ≡ false
blank zero x = refl
blank (suc n) zero = refl
blank (suc n) (suc x) = blank n x

-- ONE LOOP MORE

module _ (n : ℕ) (cs : List Circuit) (seen : List Bool) (ways : List ℕ) (stretches : List Span) (count at : ℕ) (H : Held n cs seen ways stretches count at) where
  held_more : (c : Circuit) (seen' : List Bool) (ways' : List ℕ) (end : ℕ) → Round (circuit_uses c) seen ways at seen' ways' end → count < n → end ≤ n → ((x : ℕ) → x ∈ circuit_uses c → x < n)
      → Held n (cs ++ (c ∷ [])) seen' ways' (set stretches count (record { start = at; end = end })) (count + 1) end
  held_more c seen' ways' end R few room within =
      let many : length (cs ++ (c ∷ [])) ≡ count + 1 = length_snoc cs c ∙ omega (arith, H.many) in
      let reach : end ≡ length (flat_map circuit_uses (cs ++ (c ∷ []))) =
      R.ends ∙ ap (λ a. a + length (circuit_uses c)) H.reach ∙ sym (length-append (flat_map circuit_uses cs) (circuit_uses c)) ∙ sym (ap length (uses_snoc cs c)) in
      let size : length (take at ways) ≡ at = length-take-le at ways (omega (arith, H.room, H.ways_size)) in
      let fits : at + length (circuit_uses c) ≤ length ways = omega (arith, R.ends, H.ways_size) in
      let span : Span = record { start = at; end = end } in
      let starts_at : ℕ → ℕ = start_at circuit_uses (cs ++ (c ∷ [])) in
      let last : starts_at count ≡ at = ap starts_at H.many ∙ start_snoc circuit_uses cs c (length cs) (omega arith) ∙ start_end circuit_uses cs ∙ sym H.reach in
      let ending : starts_at (count + 1) ≡ end = ap starts_at (sym many) ∙ start_end circuit_uses (cs ++ (c ∷ [])) ∙ sym reach in
      record {
        seen_size = ap length R.marks ∙ length_marked seen (circuit_uses c) ∙ H.seen_size;
        ways_size = ap length R.writes ∙ length-sets ways at (circuit_uses c) ∙ H.ways_size;
        stretches_size = length-set stretches count span ∙ H.stretches_size;
        room = room;
        many = sym many;
        reach = reach;
        front = (λ t. take (R.ends t) ((R.writes ∙ sets-eq (circuit_uses c) ways at fits) t))
            ∙ take_at (take at ways ++ circuit_uses c) (drop (at + length (circuit_uses c)) ways) (at + length (circuit_uses c))
            (length-append (take at ways) (circuit_uses c) ∙ ap (λ a. a + length (circuit_uses c)) size)
            ∙ ap (λ l. l ++ circuit_uses c) H.front ∙ sym (uses_snoc cs c);
        marks = λ x. ap (λ v. get_or v x false) R.marks ∙ marked_is seen (circuit_uses c) (λ y m. let r = within y m in omega (arith, H.seen_size)) x
            ∙ ap (λ b. b || has x (circuit_uses c)) (H.marks x) ∙ sym (some_snoc (λ d. has x (circuit_uses d)) cs c);
        spans = take_more_set stretches count span (omega (arith, H.stretches_size)) ∙ ap (λ l. l ++ (span ∷ [])) H.spans
            ∙ sym (table_more (span_of cs) (span_of (cs ++ (c ∷ []))) count span
            (λ i lt t. record { start = start_snoc circuit_uses cs c i (omega (arith, H.many)) t; end = start_snoc circuit_uses cs c (i + 1) (omega (arith, H.many)) t })
            (λ t. record { start = last t; end = ending t }));
      }

  -- the loops, cut out again
  held_loops : loops_in ways (take count stretches) ≡ loops_of cs
  held_loops =
      ap (loops_in ways) (H.spans ∙ ap (λ k. map (span_of cs) (below k)) H.many) ∙ map-map (loop_in ways) (span_of cs) (below (length cs))
      ∙ cuts circuit_uses cs ways (drop at ways) (start_at circuit_uses cs) (λ i. start_at circuit_uses cs (i + 1)) (sym (take-append-drop at ways) ∙ ap (λ l. l ++ drop at ways) H.front)
      (λ i lt. refl) (λ i lt. refl)

  held_following : ((c : Circuit) → c ∈ cs → 0 < length (circuit_uses c)) → Following ways (take count stretches)
  held_following filled =
      let spans : List Span = map (span_of cs) (below count) in
      let size : length spans ≡ count = length_table (span_of cs) count in
      let at_is : (i : ℕ) → i < length spans → span_at spans i ≡ span_of cs i = λ i lt. get_or_table (span_of cs) count i no_span (omega arith) in
      rw H.spans
      (record {
        first = λ lt. ap (λ s. s.start) (at_is 0 lt) ∙ start_none circuit_uses cs;
        follow = λ i lt. ap (λ s. s.start) (at_is (i + 1) lt) ∙ sym (ap (λ s. s.end) (at_is i (omega arith)));
        rise = λ i lt.
            let k : i < length cs = omega (arith, H.many) in
            let more = filled (get_or cs i never_closes) (get_or_in cs i never_closes k) in
            rw (at_is i lt) (omega (arith, start_next circuit_uses cs i never_closes k, ap (start_at circuit_uses cs) (add-one i)));
        within = λ i lt. rw (at_is i lt) (omega (arith, start_within circuit_uses cs (i + 1), H.reach, H.room, H.ways_size));
      })

-- THE LOOPS THAT START BELOW A USE

module _ (rm : List Bool) (ss : List ℕ) where
  started_step : (h : ℕ) → started rm ss (h + 1) ≡ loop_step rm ss (started rm ss h) h
  started_step h =
      ap (started rm ss) (add-one h) ∙ ap (foldl (loop_step rm ss) []) (below_snoc h) ∙ foldl_append (loop_step rm ss) [] (below h) (h ∷ [])

  -- loops are only added at the end
  grows : (l : List ℕ) (cs : List Circuit) → (more : List Circuit) × (foldl (loop_step rm ss) cs l ≡ cs ++ more)
  grows [] cs = ([], sym (append-nil cs))
  grows (h ∷ l) cs =
      ⊎_elim
      (λ e. let r = grows l (loop_step rm ss cs h) in (r.0, r.1 ∙ ap (λ d. d ++ r.0) (step_skips rm ss cs h e)))
      (λ e.
      let r = grows l (loop_step rm ss cs h) in
      let new : Circuit = circuit ss (length ss) h h in
      ((new ∷ []) ++ r.0, r.1 ∙ ap (λ d. d ++ r.0) (step_starts rm ss cs h e) ∙ append_assoc cs (new ∷ []) r.0))
      (both_ways (is_removed rm h || visited h cs))

  all_start : (h : ℕ) → h ≤ length ss → (more : List Circuit) × (circuits rm ss ≡ started rm ss h ++ more)
  all_start h le =
      let r = grows (from h (length ss - h)) (started rm ss h) in
      (r.0, ap (foldl (loop_step rm ss) []) (below_split h (length ss) le) ∙ foldl_append (loop_step rm ss) [] (below h) (from h (length ss - h)) ∙ r.1)

  module _ (S : Permuted (length ss) rm ss) where
    -- the uses of the loops so far are not more than there are uses
    started_room : (h : ℕ) → h ≤ length ss → length (flat_map circuit_uses (started rm ss h)) ≤ length ss
    started_room h le =
        let P = circuits_parting S in
        let r = all_start h le in
        let all : List ℕ = flat_map circuit_uses (circuits rm ss) in
        let low : (x : ℕ) → x ∈ all → x < length ss = λ x m. let q = flat_map_in circuit_uses (circuits rm ss) x m in (closed_kept S q.0 x (P.closed q.0 q.1) q.2).0 in
        let most = pigeon_below (length ss) all P.once low in
        let parts : all ≡ flat_map circuit_uses (started rm ss h) ++ flat_map circuit_uses r.0 =
        ap (flat_map circuit_uses) r.1 ∙ flat_map_append circuit_uses (started rm ss h) r.0 in
        omega (arith, ap length parts, length-append (flat_map circuit_uses (started rm ss h)) (flat_map circuit_uses r.0))

    -- a loop that starts closes
    starts_closed : (h : ℕ) → h < length ss → (is_removed rm h || visited h (started rm ss h)) ≡ false → Closed (length ss) rm ss (circuit ss (length ss) h h)
    starts_closed h lt e =
        let r = all_start (h + 1) (omega arith) in
        let new : Circuit = circuit ss (length ss) h h in
        (circuits_parting S).closed new
        (subst (λ cs. new ∈ cs) (sym (r.1 ∙ ap (λ cs. cs ++ r.0) (started_step h ∙ step_starts rm ss (started rm ss h) h e)))
        (Memᴰ.append_left r.0 (Memᴰ.append_right (started rm ss h) (Memᴰ.head refl))))

    module _ (h : ℕ) (seen : List Bool) (ways : List ℕ) (stretches : List Span) (count at : ℕ) (lt : h < length ss) (W : Walking rm ss h seen ways stretches count at) where
      -- a removed use starts none, nor does one that stands in a loop
      pub walking_skips : (is_removed rm h || get_or seen h false) ≡ true → Walking rm ss (h + 1) seen ways stretches count at
      walking_skips e =
          let skips : started rm ss (h + 1) ≡ started rm ss h = started_step h ∙ step_skips rm ss (started rm ss h) h (ap (λ b. is_removed rm h || b) (sym (W.1.marks h)) ∙ e) in
          rw skips (omega (arith, W.0), W.1)

      module _ (kept : is_removed rm h ≡ false) (fresh : get_or seen h false ≡ false) where
        starting : (is_removed rm h || visited h (started rm ss h)) ≡ false
        starting = none_or (is_removed rm h) (visited h (started rm ss h)) kept (sym (W.1.marks h) ∙ fresh)

        pub walking_closes : Closes (circuit ss (length ss) h h)
        walking_closes = let C = starts_closed h lt starting in C.runs ∙ ap closes (sym (ap circuit_uses C.runs))

        opened : started rm ss (h + 1) ≡ started rm ss h ++ (circuit ss (length ss) h h ∷ [])
        opened = started_step h ∙ step_starts rm ss (started rm ss h) h starting

        module _ (seen' : List Bool) (ways' : List ℕ) (end : ℕ) (R : Round (circuit_uses (circuit ss (length ss) h h)) seen ways at seen' ways' end) where
          -- there is room for its uses
          pub walking_room : end ≤ length ss
          walking_room =
              let before : List ℕ = flat_map circuit_uses (started rm ss h) in
              let new : Circuit = circuit ss (length ss) h h in
              let parts : flat_map circuit_uses (started rm ss (h + 1)) ≡ before ++ circuit_uses new = ap (flat_map circuit_uses) opened ∙ uses_snoc (started rm ss h) new in
              omega (arith, started_room (h + 1) (omega arith), ap length parts, length-append before (circuit_uses new), R.ends, W.1.reach)

          -- a kept use that is in none starts one
          pub walking_starts : (stretches' : List Span) → stretches' ≡ set stretches count (record { start = at; end = end }) → Walking rm ss (h + 1) seen' ways' stretches' (count + 1) end
          walking_starts stretches' es =
              let C = starts_closed h lt starting in
              let new : Circuit = circuit ss (length ss) h h in
              rw (opened, es) (
                omega (arith, W.0),
                held_more (length ss) (started rm ss h) seen ways stretches count at W.1 new seen' ways' end R (omega (arith, W.0)) walking_room
                    (λ x m. (closed_kept S new x C m).0),
              )

    -- no loop at first
    pub walking_start : (seen : List Bool) (ways : List ℕ) (stretches : List Span) → seen ≡ unvisited (length ss) → length ways ≡ length ss → length stretches ≡ length ss
        → Walking rm ss 0 seen ways stretches 0 0
    unfolding unvisited from some flat_map
    walking_start seen ways stretches es ew et = (
      omega arith,
      record {
        seen_size = ap length es ∙ length-replicate (length ss) false;
        ways_size = ew;
        stretches_size = et;
        room = omega arith;
        many = refl;
        reach = refl;
        front = refl;
        marks = λ x. ap (λ v. get_or v x false) es ∙ blank (length ss) x;
        spans = refl;
      },
    )

    -- a loop has a use
    filled : (c : Circuit) → c ∈ circuits rm ss → 0 < length (circuit_uses c)
    filled c m = let C = (circuits_parting S).closed c m in omega (arith, ap (λ d. length (circuit_uses d)) C.runs, length_orbit (successor ss) (suc C.more) C.start)

    -- all loops at the end
    pub walking_end : (h : ℕ) (seen : List Bool) (ways : List ℕ) (stretches : List Span) (count at : ℕ) → length ss ≤ h → h ≤ length ss → Walking rm ss h seen ways stretches count at
        → (loops_in ways (take count stretches) ≡ loops_of (circuits rm ss)) × (count ≤ length ss) × Following ways (take count stretches)
    walking_end h seen ways stretches count at le ge W =
        let e : h ≡ length ss = omega arith in (
          held_loops (length ss) (started rm ss h) seen ways stretches count at W.1 ∙ ap (λ k. loops_of (started rm ss k)) e,
          omega (arith, W.0),
          held_following (length ss) (started rm ss h) seen ways stretches count at W.1 (λ c m. filled c (subst (λ k. c ∈ started rm ss k) e m)),
        )

-- the first flags of a table in which none is set
take_blank : (m n : ℕ) → n ≤ m → take n (replicate m false) ≡ replicate n false
take_blank m zero le = refl
take_blank zero (suc n) le = absurd (omega arith)
take_blank (suc m) (suc n) le = ap {B = List Bool} (λ l. false ∷ l) (take_blank m n (omega arith))

pub blank_visited : (n : ℕ) → n ≤ 2048 → take n (replicate 2048 false) ≡ unvisited n
unfolding unvisited
blank_visited n le = take_blank 2048 n le
