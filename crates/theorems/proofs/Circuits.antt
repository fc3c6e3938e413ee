-- Loops of walks, over a list of successors that permute the kept uses: each loop closes, and the loops part the kept uses.
use Rattle.std.specs.Prelude.{ℕ, zero, suc, ◌<◌, ◌≡◌, Bool, true, false, ◌||◌, length}
use Rattle.std.proofs.Common.{arith, sym, ap, ◌∙◌, subst, true≢false, eq-eqb, ne_eqb}
use Rattle.std.proofs.Math.Logic.{⊎_elim}
use mathlib.Core.List.Memᴰ
use mathlib.Core.List.{List, [], ◌∷◌, ◌++◌, flat_map, foldl, append-nil}
use Rattle.lists.specs.Lists.{below, ◌∈◌, Nodup, has, times, sum_of, iterate, orbit}
use Rattle.lists.specs.Tests.{both_ways, or_cases, or_none, cond_true, cond_false}
use Rattle.lists.specs.Membership.{has_in, in_has, nodup_append, times_once}
use Rattle.lists.specs.Members.{in_some, some_in, in_flat_map, flat_map_in, flat_map_append, foldl_keeps}
use Rattle.lists.specs.Runs.{in_below, below_in}
use Rattle.lists.specs.Sums.{sum_map, times_flat_map}
use Rattle.lists.specs.Orbits.{in_orbit, orbit_in, iterate_stays, orbit_stays, orbit_nodup, period, cycle_reach}
use Rattle.lists.specs.Gaps.{iterate_constant}
use Rattle.rules.specs.declared.Use.{Use}
use Rattle.rules.specs.Merge.{is_removed}
use Rattle.rules.specs.Walk.{successors, successor, Circuit, closes, led_by, circuit, circuit_uses, visited, loop_step}
use Rattle.rules.specs.Walk.{circuits, loops_of}
use Rattle.theorems.specs.Linked.{Linked}
use Rattle.theorems.specs.Successors.{Kept}
use Rattle.theorems.proofs.Successors.{length_successors, successor_perm}
use Rattle.theorems.specs.Circuits.{Closed, Parting, Permuted}

-- a circuit is the orbit of its start, if that comes back to it within the looks, and not earlier
circuit_closes : (ss : List ℕ) (start most h k : ℕ) → k < most → ((i : ℕ) → i < k → ¬ (iterate (successor ss) (suc i) h ≡ start))
    → iterate (successor ss) (suc k) h ≡ start → circuit ss most start h ≡ closes (orbit (successor ss) (suc k) h)
unfolding circuit iterate orbit
circuit_closes ss start zero h k lt none e = absurd (omega arith)
circuit_closes ss start (suc most) h zero lt none e = rw (eq-eqb (successor ss h) start e)
circuit_closes ss start (suc most) h (suc k) lt none e =
    rw (ne_eqb (successor ss h) start (none 0 (omega arith)))
    (ap (led_by h) (circuit_closes ss start most (successor ss h) k (omega arith) (λ i q. none (suc i) (omega arith)) e))

-- visited, as membership
visited_in : (h : ℕ) (cs : List Circuit) → visited h cs ≡ true → h ∈ flat_map circuit_uses cs
visited_in h cs e = let r = some_in (λ c. has h (circuit_uses c)) cs e in in_flat_map circuit_uses r.1 (has_in h (circuit_uses r.0) r.2)

in_visited : (h : ℕ) (cs : List Circuit) → h ∈ flat_map circuit_uses cs → visited h cs ≡ true
in_visited h cs m = let r = flat_map_in circuit_uses cs h m in in_some (λ c. has h (circuit_uses c)) r.1 (in_has r.2)

pub step_skips : (rm : List Bool) (ss : List ℕ) (cs : List Circuit) (h : ℕ) → (is_removed rm h || visited h cs) ≡ true → loop_step rm ss cs h ≡ cs
unfolding loop_step
step_skips rm ss cs h e = cond_true (is_removed rm h || visited h cs) cs (cs ++ (circuit ss (length ss) h h ∷ [])) e

pub step_starts : (rm : List Bool) (ss : List ℕ) (cs : List Circuit) (h : ℕ) → (is_removed rm h || visited h cs) ≡ false
    → loop_step rm ss cs h ≡ cs ++ (circuit ss (length ss) h h ∷ [])
unfolding loop_step
step_starts rm ss cs h e = cond_false (is_removed rm h || visited h cs) cs (cs ++ (circuit ss (length ss) h h ∷ [])) e

-- what one more loop adds
pub uses_snoc : (cs : List Circuit) (c : Circuit) → flat_map circuit_uses (cs ++ (c ∷ [])) ≡ flat_map circuit_uses cs ++ circuit_uses c
unfolding flat_map
uses_snoc cs c = flat_map_append circuit_uses cs (c ∷ []) ∙ ap (λ l. flat_map circuit_uses cs ++ l) (append-nil (circuit_uses c))

-- the successors of linked uses are such
pub linked_permuted : {us : List Use} {ts : List ℕ} {rm : List Bool} {groups : List ℕ} → Linked us ts rm groups → Permuted (length us) rm (successors us ts rm)
linked_permuted {us} {ts} {rm} L = record { size = length_successors us ts rm; perm = successor_perm L }

module _ {n : ℕ} {rm : List Bool} {ss : List ℕ} (S : Permuted n rm ss) where
  -- the circuit that starts at a kept use
  circuit_of : (h : ℕ) → Kept n rm h
      → (k : ℕ) × (circuit ss (length ss) h h ≡ closes (orbit (successor ss) (suc k) h)) × (iterate (successor ss) (suc k) h ≡ h) × Nodup (orbit (successor ss) (suc k) h)
  circuit_of h d =
      let p = period S.perm h d in (
        p.0,
        circuit_closes ss h (length ss) h p.0 (omega (arith, p.1, S.size)) p.3 p.2,
        p.2,
        orbit_nodup S.perm (suc p.0) h d (λ i q. p.3 i (omega arith)),
      )

  -- the uses of a closed circuit are kept
  pub closed_kept : (c : Circuit) (x : ℕ) → Closed n rm ss c → x ∈ circuit_uses c → Kept n rm x
  closed_kept c x C m = orbit_stays S.perm (suc C.more) C.start x C.kept (subst (λ l. x ∈ l) (ap circuit_uses C.runs) m)

  -- what leads into a closed circuit stands in it
  closed_back : (c : Circuit) (k x : ℕ) → Closed n rm ss c → Kept n rm x → iterate (successor ss) k x ∈ circuit_uses c → x ∈ circuit_uses c
  closed_back c k x C d m =
      subst (λ l. x ∈ l) (sym (ap circuit_uses C.runs))
      (cycle_reach S.perm C.more C.start k x C.kept d C.back (subst (λ l. iterate (successor ss) k x ∈ l) (ap circuit_uses C.runs) m))

  starts_parting : (cs : List Circuit) (h : ℕ) → Kept n rm h → visited h cs ≡ false → Parting n rm ss cs → Parting n rm ss (cs ++ (circuit ss (length ss) h h ∷ []))
  starts_parting cs h d out G =
      let new = circuit_of h d in
      let run : List ℕ = orbit (successor ss) (suc new.0) h in
      -- a use of the new circuit in an earlier one would put its start there
      let apart : (x : ℕ) → x ∈ flat_map circuit_uses cs → x ∈ run → ⊥ = (λ x m q.
      let r = flat_map_in circuit_uses cs x m in
      let i = orbit_in (successor ss) (suc new.0) h x q in
      let seen : h ∈ circuit_uses r.0 = closed_back r.0 i.0 h (G.closed r.0 r.1) d (Memᴰ.cast (sym i.2) r.2) in
      true≢false (sym (in_visited h cs (in_flat_map circuit_uses r.1 seen)) ∙ out)) in
      record {
        once = rw (uses_snoc cs (circuit ss (length ss) h h), new.1) (nodup_append (flat_map circuit_uses cs) run G.once new.3 apart);
        closed = λ c m. ⊎_elim (G.closed c)
            (λ q. record { start = h; more = new.0; kept = d; runs = Memᴰ.eq_of_singleton q ∙ new.1; back = new.2 })
            (Memᴰ.append_cases cs m);
      }

  step_parting : (cs : List Circuit) (h : ℕ) → h < n → Parting n rm ss cs → Parting n rm ss (loop_step rm ss cs h)
  step_parting cs h lt G =
      ⊎_elim (λ e. subst (Parting n rm ss) (sym (step_skips rm ss cs h e)) G)
      (λ e. let r = or_none (is_removed rm h) (visited h cs) e in subst (Parting n rm ss) (sym (step_starts rm ss cs h e)) (starts_parting cs h (lt, r.0) r.1 G))
      (both_ways (is_removed rm h || visited h cs))

  -- what stands in a loop stays there; a kept use stands in one after its own step
  step_keeps : (cs : List Circuit) (h x : ℕ) → x ∈ flat_map circuit_uses cs → x ∈ flat_map circuit_uses (loop_step rm ss cs h)
  step_keeps cs h x m =
      ⊎_elim (λ e. rw (step_skips rm ss cs h e) m)
      (λ e. rw (step_starts rm ss cs h e, uses_snoc cs (circuit ss (length ss) h h)) (Memᴰ.append_left (circuit_uses (circuit ss (length ss) h h)) m))
      (both_ways (is_removed rm h || visited h cs))

  step_covers : (cs : List Circuit) (h : ℕ) → Kept n rm h → h ∈ flat_map circuit_uses (loop_step rm ss cs h)
  unfolding iterate
  step_covers cs h d =
      ⊎_elim
      (λ e. rw (step_skips rm ss cs h e) (visited_in h cs (⊎_elim (λ t. absurd (true≢false (sym t ∙ d.1))) (λ t. t) (or_cases (is_removed rm h) (visited h cs) e))))
      (λ e. rw (step_starts rm ss cs h e, uses_snoc cs (circuit ss (length ss) h h))
      (Memᴰ.append_right (flat_map circuit_uses cs) (rw (circuit_of h d).1 (in_orbit (successor ss) (suc (circuit_of h d).0) 0 h (omega arith)))))
      (both_ways (is_removed rm h || visited h cs))

  covers : (l : List ℕ) (cs : List Circuit) (x : ℕ) → Kept n rm x → x ∈ l → x ∈ flat_map circuit_uses (foldl (loop_step rm ss) cs l)
  covers [] cs x d m = absurd (Memᴰ.not-nil m)
  covers (h ∷ l) cs x d m =
      ⊎_elim
      (λ e. foldl_keeps (loop_step rm ss) (λ s. x ∈ flat_map circuit_uses s) l (loop_step rm ss cs h)
      (subst (λ y. x ∈ flat_map circuit_uses (loop_step rm ss cs y)) e (step_covers cs x d)) (λ s y _ q. step_keeps s y x q))
      (covers l (loop_step rm ss cs h) x d)
      (Memᴰ.cases_cons m)

  -- the loops close, and no use stands twice in them
  pub circuits_parting : Parting n rm ss (circuits rm ss)
  unfolding flat_map
  circuits_parting =
      foldl_keeps (loop_step rm ss) (Parting n rm ss) (below (length ss)) [] (record { once = tt; closed = λ c m. absurd (Memᴰ.not-nil m) })
      (λ cs h m G. step_parting cs h (let lt = below_in (length ss) h m in omega (arith, S.size)) G)

  -- each kept use stands in them
  pub circuits_cover : (h : ℕ) → Kept n rm h → h ∈ flat_map circuit_uses (circuits rm ss)
  circuits_cover h d = covers (below (length ss)) [] h d (in_below (length ss) h (let lt = d.0 in omega (arith, S.size)))

  -- each kept use stands once over all loops
  pub circuits_once : (h : ℕ) → Kept n rm h → sum_of (times h) (loops_of (circuits rm ss)) ≡ 1
  circuits_once h d =
      sum_map (times h) circuit_uses (circuits rm ss) ∙ sym (times_flat_map h circuit_uses (circuits rm ss))
      ∙ times_once h (flat_map circuit_uses (circuits rm ss)) circuits_parting.once (circuits_cover h d)

  -- a value that successors keep is one for all uses of a loop
  pub circuits_constant : (g : ℕ → ℕ) → ((h : ℕ) → Kept n rm h → g (successor ss h) ≡ g h) → (c : Circuit) → c ∈ circuits rm ss → (h k : ℕ) → h ∈ circuit_uses c → k ∈ circuit_uses c → g h ≡ g k
  circuits_constant g same c m h k p q =
      let C = circuits_parting.closed c m in
      first C h p ∙ sym (first C k q)
    where
      first : (C : Closed n rm ss c) (x : ℕ) → x ∈ circuit_uses c → g x ≡ g C.start
      first C x i =
          let r = orbit_in (successor ss) (suc C.more) C.start x (subst (λ l. x ∈ l) (ap circuit_uses C.runs) i) in
          ap g r.2 ∙ iterate_constant (successor ss) g r.0 C.start (λ j _. same (iterate (successor ss) j C.start) (iterate_stays S.perm j C.start C.kept))
