-- The print-shop profile: where it refuses with 41 and 42, and what it cannot be refused with.
use Rattle.std.specs.Prelude.{ℕ, zero, suc, ◌+◌, ◌%◌, ◌<◌, ◌≤◌, ◌≡◌, ◌↔◌, refl, Bool, true, false, not, cond, List, [], ◌∷◌, length, set, replicate, eqb, ltb}
use Rattle.std.proofs.Common.{arith, sym, ap, ◌∙◌, subst, ⊎_elim, eqb-true, eq-eqb, ne_eqb, zero-le, length-set, ltb-true, ltb-false}
use Rattle.std.proofs.lemmas.Bool.{le-ltb}
use borrow.Author.Tests.{not-true}
use Rattle.std.proofs.lemmas.List.{length-replicate}
use mathlib.Core.List.Memᴰ
use Rattle.lists.specs.Lists.{from, below, ◌∈◌, has, least, positions, index_of}
use Rattle.lists.specs.Tests.{both_ways, and_both}
use Rattle.lists.specs.Runs.{below_in}
use Rattle.lists.specs.Membership.{has_in, in_get_or}
use Rattle.lists.specs.Members.{positions_in, in_positions}
use Rattle.lists.specs.Tables.{set_each}
use Rattle.lists.specs.Counts.{keep_nothing}
use Rattle.lists.specs.Leasts.{least_in, least_low, least_is}
use Rattle.rules.specs.declared.Fault.{Fault}
use Rattle.rules.specs.declared.Fault.TheVariants.{EqualSenses, OddUses, NoTwin, ManyUses, ManyFans, PairsInBoundary, FansInBoundary, FansInLump, PairsInLump}
use Rattle.rules.specs.declared.Profile.TheVariants.{PrintShop}
use Rattle.rules.specs.declared.Refusal.{Refusal}
use Rattle.rules.specs.declared.Use.{Use}
use Rattle.rules.specs.Outcome.{Outcome, Ok, Err, refuse, ◌>>=◌, fault_number, need, throughout}
use Rattle.rules.proofs.OutcomeLaws.{refuse_ok, ok_one, need_on, need_ok, bind_ok, bind_on, bind_stop, through_on, through_stop}
use Rattle.rules.specs.Sense.{same_sense}
use Rattle.rules.specs.Job.{unset, Answer, Job}
use Rattle.rules.specs.Load.{loaded}
use Rattle.rules.specs.Read.{uses_of, use_at, no_use}
use Rattle.rules.specs.Pair.{on_edge, uses_of_edge, twin_of, twinned, pair_two, pair_uses, pair_edge, complete, pair}
use Rattle.rules.specs.Rules.{full_table, ordinary, print_shop}
use Rattle.rules.specs.Merge.{merge_faces, merged_faces}
use Rattle.rules.specs.VertexLoops.{vertex_loops}
use Rattle.rules.specs.Contact.{edge_touches, contact_points, clear, edges_clear, points_clear, shared_points}
use Rattle.rules.specs.Join.{maximal_edges}
use Rattle.rules.specs.Shells.{Nested, all_shell_faces, nested, lump_labels}
use Rattle.rules.specs.Frame.{framed_all}
use Rattle.rules.specs.Body.{empty_body, body_records}
use Rattle.rules.specs.Sew.{Walked, walked, Fanned, fans_of, fanned, edged, Joined, through_joining, shells_of, lumps_clear, solid, rebuild, fitting, sewn}
use Rattle.theorems.specs.Sound.{Sound}
use Rattle.theorems.proofs.Loading.{loaded_sound, no_face_no_use}
use Rattle.theorems.proofs.Reading.{use_edge_below}
use Rattle.theorems.proofs.Ground.{walked_settled, settled_uses}
use Rattle.theorems.proofs.Reporting.{fanned_walks, no_names}
use Rattle.theorems.proofs.Unlabelled.{shared_twice, twice_shared, contact_twice}
use Rattle.theorems.specs.PrintShop.{uses_at, Pairs, ManyUsesAt, TwoFansAt, ManyFansAt, cannot_arise}
use Rattle.theorems.proofs.Refused.{Within, within_bind, within_need, within_cond, within_more, within_value, within_refusal, neither, Plain, plain_neither, neither_fault}
use Rattle.theorems.proofs.Refused.{loaded_plain, merged_plain, vertex_loops_plain, maximal_plain, shells_plain, nested_plain, fitting_plain}
use Rattle.theorems.proofs.PrintEndings.{walked_ordinary, walked_same, nil_of, names_apart, Two, found_two, two_found, none_clear, clear_none, walked_two, Passed, joined_passed}

-- EACH USE GETS ITS TWIN

-- the uses of the edges below e have their twins
record Twinned (us : List Use) (e : ℕ) (ts : List ℕ) : Type 0 where
  pub size : length ts ≡ length us
  pub twins : (h : ℕ) → h < length us → (use_at us h).edge < e → twin_of ts h < unset

module _ (answers : List Answer) (us : List Use) (few : length us ≤ unset) where
  use_inside : (e h : ℕ) → h ∈ uses_of_edge us e → h < length us
  use_inside e h m = let r = positions_in (on_edge e) 0 us no_use h m in omega (arith, r.1)

  use_there : (e h : ℕ) → h < length us → (use_at us h).edge ≡ e → h ∈ uses_of_edge us e
  use_there e h lt q = let z : h ≡ 0 + h = omega arith in Memᴰ.cast z (in_positions (on_edge e) 0 us no_use h lt (eq-eqb _ _ q))

  -- the uses of edge e become twins
  edge_paired : (e : ℕ) (ts pairs hs : List ℕ) → Twinned us e ts → ((h : ℕ) → h ∈ hs → h < length us)
      → ((h : ℕ) → h < length us → (use_at us h).edge ≡ e → h ∈ hs) → pair_uses PrintShop answers us e hs ts ≡ Ok pairs → Twinned us (suc e) pairs
  unfolding pair_uses pair_two
  edge_paired e ts pairs [] P inside there q = subst (Twinned us (suc e)) (ok_one q) (record {
    size = P.size;
    twins = λ h lt le. ⊎_elim (λ t. P.twins h lt (omega (arith, ltb-true (use_at us h).edge e t)))
        (λ t. absurd (Memᴰ.not-nil (there h lt (omega (arith, le, ltb-false (use_at us h).edge e t))))) (both_ways (ltb (use_at us h).edge e));
  })
  edge_paired e ts pairs (a ∷ []) P inside there q = absurd (refuse_ok q)
  edge_paired e ts pairs (a ∷ b ∷ []) P inside there q =
      let c = need_ok (not (same_sense (use_at us a).sense (use_at us b).sense)) EqualSenses e (Ok (twinned ts a b)) pairs q in
      let la : a < length us = inside a (Memᴰ.head refl) in
      let lb : b < length us = inside b (Memᴰ.tail (Memᴰ.head refl)) in
      let low : ℕ → ℕ → Type 0 = λ i x. x < unset in
      let old : (h : ℕ) → h < length us → (use_at us h).edge < suc e → (h ≡ a → ⊥) → (h ≡ b → ⊥) → twin_of ts h < unset = (λ h lt le na nb.
      ⊎_elim (λ t. P.twins h lt (ltb-true (use_at us h).edge e t))
      (λ t. absurd (neither a b h na nb (there h lt (omega (arith, le, ltb-false (use_at us h).edge e t))))) (both_ways (ltb (use_at us h).edge e))) in
      subst (Twinned us (suc e)) (ok_one c.1) (record {
        size = length-set (set ts a b) b a ∙ length-set ts a b ∙ P.size;
        twins = λ h lt le.
            set_each low (set ts a b) b a 0 (omega (arith, lb, P.size, length-set ts a b)) (omega (arith, la, few)) h
            (λ nb. set_each low ts a b 0 (omega (arith, la, P.size)) (omega (arith, lb, few)) h (λ na. old h lt le na nb));
      })
    where
      neither : (a b h : ℕ) → (h ≡ a → ⊥) → (h ≡ b → ⊥) → h ∈ (a ∷ b ∷ []) → ⊥
      neither a b h na nb m = ⊎_elim na (λ k. nb (Memᴰ.eq_of_singleton k)) (Memᴰ.cases_cons m)
  edge_paired e ts pairs (a ∷ b ∷ c ∷ more) P inside there q =
      absurd (refuse_ok (need_ok (eqb (length (a ∷ b ∷ c ∷ more) % 2) 0) OddUses e (refuse ManyUses e) pairs q).1)

  edges_paired : (n a : ℕ) (ts pairs : List ℕ) → Twinned us a ts → throughout (pair_edge PrintShop answers us) (from a n) ts ≡ Ok pairs → Twinned us (a + n) pairs
  unfolding throughout from
  edges_paired zero a ts pairs P q = let z : a ≡ a + 0 = omega arith in subst (λ e. Twinned us e pairs) z (subst (Twinned us a) (ok_one q) P)
  edges_paired (suc n) a ts pairs P q =
      let r = bind_ok (pair_edge PrintShop answers us a ts) (throughout (pair_edge PrintShop answers us) (from (suc a) n)) pairs q in
      let N : Twinned us (suc a) r.0 = edge_paired a ts r.0 (uses_of_edge us a) P (use_inside a) (use_there a) r.1 in
      let z : suc a + n ≡ a + suc n = omega arith in
      subst (λ e. Twinned us e pairs) z (edges_paired n (suc a) r.0 pairs N r.2)

-- so that no use is left without
all_twinned : (us : List Use) (edges : ℕ) (ts : List ℕ) → ((h : ℕ) → h < length us → (use_at us h).edge < edges) → Twinned us edges ts → has unset ts ≡ false
all_twinned us edges ts below P =
    ⊎_elim
    (λ t.
    let r = in_get_or 0 (has_in unset ts t) in
    absurd (omega (arith, r.2, P.twins r.0 (omega (arith, r.1, P.size)) (below r.0 (omega (arith, r.1, P.size))))))
    (λ t. t)
    (both_ways (has unset ts))

-- WHAT A REFUSAL TELLS

-- of a job that loads
record Told (j : Job) (r : Refusal) : Type 0 where
  pub never : cannot_arise r ≡ false
  pub many_uses : r.fault ≡ ManyUses → ManyUsesAt j r.place
  pub many_fans : r.fault ≡ ManyFans → ManyFansAt j r.place

-- the two faults are two
uses_fans : ManyUses ≡ ManyFans → ⊥
unfolding fault_number
uses_fans e = let z : 41 ≡ 42 = ap fault_number e in omega (arith, z)

-- a plain refusal is neither
plain_told : (j : Job) (r : Refusal) → Plain r → Told j r
plain_told j r p =
    let n = neither_fault r (plain_neither r p) in
    record {
      never = not-true (cannot_arise r) (and_both (not (cannot_arise r)) (neither r) p).0;
      many_uses = λ e. absurd (n.0 e);
      many_fans = λ e. absurd (n.1 e);
    }

told_more : {A : Type 0} (j : Job) (o : Outcome A) → Within Plain o → Within (Told j) o
told_more j o h = within_more Plain (Told j) (plain_told j) o h

-- PAIRING

module _ (j : Job) where
  abbrev us : List Use
  us = uses_of j

  -- 41 at edge e
  many_uses_told : (e : ℕ) → ManyUsesAt j e → Told j (record { fault = ManyUses; place = e })
  many_uses_told e m = record { never = refl; many_uses = λ q. m; many_fans = λ q. absurd (uses_fans q) }

  two_told : (e a b : ℕ) (ts : List ℕ) → Within (Told j) (pair_two us e a b ts)
  unfolding pair_two fault_number has
  two_told e a b ts = within_need (Told j) (not (same_sense (use_at us a).sense (use_at us b).sense)) EqualSenses e (Ok (twinned ts a b)) (plain_told j _ refl) tt

  -- where an edge is paired its uses pair
  uses_pair : (e : ℕ) (hs ts pairs : List ℕ) → pair_uses PrintShop j.answers us e hs ts ≡ Ok pairs → Pairs us hs
  unfolding pair_uses pair_two
  uses_pair e [] ts pairs q = tt
  uses_pair e (a ∷ []) ts pairs q = refuse_ok q
  uses_pair e (a ∷ b ∷ []) ts pairs q =
      not-true (same_sense (use_at us a).sense (use_at us b).sense)
      (need_ok (not (same_sense (use_at us a).sense (use_at us b).sense)) EqualSenses e (Ok (twinned ts a b)) pairs q).0
  uses_pair e (a ∷ b ∷ c ∷ more) ts pairs q = refuse_ok (need_ok (eqb (length (a ∷ b ∷ c ∷ more) % 2) 0) OddUses e (refuse ManyUses e) pairs q).1

  even_told : (e : ℕ) → e < length j.edges → 2 < uses_at j e → ((k : ℕ) → k < e → Pairs us (uses_of_edge us k))
      → Within (Told j) (need (eqb (uses_at j e % 2) 0) OddUses e (refuse {A = List ℕ} ManyUses e))
  unfolding need fault_number has
  even_told e lt many lower = go (eqb (uses_at j e % 2) 0) refl
    where
      go : (t : Bool) → eqb (uses_at j e % 2) 0 ≡ t → Within (Told j) (need t OddUses e (refuse {A = List ℕ} ManyUses e))
      go true q = many_uses_told e (record { edge = lt; many = many; even = eqb-true _ _ q; lower = lower })
      go false q = plain_told j _ refl

  uses_told : (e : ℕ) → e < length j.edges → ((k : ℕ) → k < e → Pairs us (uses_of_edge us k)) → (hs ts : List ℕ) → uses_of_edge us e ≡ hs
      → Within (Told j) (pair_uses PrintShop j.answers us e hs ts)
  unfolding pair_uses fault_number has
  uses_told e lt lower [] ts q = tt
  uses_told e lt lower (a ∷ []) ts q = plain_told j _ refl
  uses_told e lt lower (a ∷ b ∷ []) ts q = two_told e a b ts
  uses_told e lt lower (a ∷ b ∷ c ∷ more) ts q =
      let n : uses_at j e ≡ length (a ∷ b ∷ c ∷ more) = ap length q in
      subst (λ k. Within (Told j) (need (eqb (k % 2) 0) OddUses e (refuse {A = List ℕ} ManyUses e))) n (even_told e lt (omega (arith, n)) lower)

  edges_told : (n a : ℕ) (ts : List ℕ) → a + n ≡ length j.edges → ((k : ℕ) → k < a → Pairs us (uses_of_edge us k))
      → Within (Told j) (throughout (pair_edge PrintShop j.answers us) (from a n) ts)
  unfolding throughout from
  edges_told zero a ts size lower = tt
  edges_told (suc n) a ts size lower =
      within_bind (Told j) (pair_edge PrintShop j.answers us a ts) (throughout (pair_edge PrintShop j.answers us) (from (suc a) n))
      (uses_told a (omega (arith, size)) lower (uses_of_edge us a) ts refl)
      (λ pairs e. edges_told n (suc a) pairs (omega (arith, size))
      (λ k lt. ⊎_elim (λ t. lower k (ltb-true k a t))
      (λ t. let z : a ≡ k = omega (arith, lt, ltb-false k a t) in subst (λ k. Pairs us (uses_of_edge us k)) z (uses_pair a (uses_of_edge us a) ts pairs e))
      (both_ways (ltb k a))))

  pair_told : Sound j → Within (Told j) (pair PrintShop j.answers us (length j.edges))
  unfolding pair complete
  pair_told S =
      within_bind (Told j) (throughout (pair_edge PrintShop j.answers us) (below (length j.edges)) (replicate (length us) unset)) complete
      (edges_told (length j.edges) 0 (replicate (length us) unset) (omega arith) (λ k lt. absurd (omega (arith, lt))))
      (λ ts e.
      let start : Twinned us 0 (replicate (length us) unset) = record { size = length-replicate (length us) unset; twins = λ h lt le. absurd (omega (arith, le)) } in
      let done : Twinned us (0 + length j.edges) ts = edges_paired j.answers us (omega (arith, S.few)) (length j.edges) 0 (replicate (length us) unset) ts start e in
      let none : has unset ts ≡ false = all_twinned us (0 + length j.edges) ts (λ h lt. omega (arith, use_edge_below j S h lt)) done in
      within_value (Told j) (need_on NoTwin (index_of unset ts) (Ok ts) (ap not none)))

  walked_told : Sound j → Within (Told j) (walked print_shop j)
  unfolding walked
  walked_told S =
      within_bind (Told j) (pair PrintShop j.answers us (length j.edges)) _ (pair_told S)
      (λ ts e. within_bind (Told j) (merge_faces full_table j.answers j.faces us ts) _
      (told_more j (merge_faces full_table j.answers j.faces us ts) (merged_plain j.answers full_table j.faces us ts))
      (λ m d. within_bind (Told j) (vertex_loops j.answers j.points (merged_faces m) j.loops) _
      (told_more j (vertex_loops j.answers j.points (merged_faces m) j.loops) (vertex_loops_plain j.answers j.points (merged_faces m) j.loops))
      (λ ks c. tt)))

-- CONTACTS

few_touch : (us : List Use) (ts labels : List ℕ) (e : ℕ) → length (uses_of_edge us e) ≤ 2 → edge_touches us ts labels e ≡ false
unfolding edge_touches
few_touch us ts labels e h = rw (le-ltb 2 (length (uses_of_edge us e)) h) refl

-- 30 and 33: once the uses are paired by the profile, no labelling of the faces finds two pairs of one edge
edges_apart : (j : Job) (w : Walked) → walked print_shop j ≡ Ok w → (fault : Fault) (labels : List ℕ) → edges_clear fault w.uses w.twins labels (length j.edges) ≡ Ok tt
edges_apart j w q fault labels =
    ap (clear fault)
    (keep_nothing (edge_touches w.uses w.twins labels) (below (length j.edges))
    (λ e m. few_touch w.uses w.twins labels e
    (subst (λ (us : List Use). length (uses_of_edge us e) ≤ 2) (settled_uses print_shop j w (walked_settled print_shop j w q))
    (⊎_elim (λ z. omega (arith, z)) (λ z. omega (arith, z)) (walked_two j w q e (below_in (length j.edges) e m))))))

-- 31 and 32: once each point has one fan, no labelling finds two fans at a point
points_apart : (fault : Fault) (us : List Use) (starts labels names : List ℕ) → clear ManyFans (shared_points starts names) ≡ Ok tt → points_clear fault us starts labels names ≡ Ok tt
points_apart fault us starts labels names e =
    clear_none fault (contact_points us starts labels names)
    (λ y m. none_clear ManyFans (shared_points starts names) e y (twice_shared starts names y (contact_twice us starts labels names y m)))

-- so none of the four is refused
lumps_apart : (j : Job) (x : Joined) (ns : List Nested) → Passed j x → lumps_clear j x.fan ns ≡ Ok tt
unfolding lumps_clear fans_of
lumps_apart j x ns P =
    let w : Walked = P.walk in
    let labels : List ℕ = lump_labels w.merge.boundaries ns in
    ap (λ (f : Fanned). lumps_clear j f ns) P.fan
    ∙ bind_on _ (points_apart FansInLump w.uses (fans_of j w).starts labels (fans_of j w).names P.apart)
    ∙ edges_apart j w P.walks PairsInLump labels

-- 42

-- a point that is shared is that of two fans, and the other way round
shared_fans : (j : Job) (w : Walked) (p : ℕ) → p ∈ shared_points (fans_of j w).starts (fans_of j w).names → TwoFansAt (fans_of j w) p
shared_fans j w p m =
    let f : Fanned = fans_of j w in
    let t : Two f.starts f.names p = found_two f.starts f.names p (names_apart j w) (shared_twice f.starts f.names p m) in
    record { one = t.one; other = t.other; fans = t.fans; different = t.different; here = t.here }

fans_shared : (j : Job) (w : Walked) (p : ℕ) → TwoFansAt (fans_of j w) p → p ∈ shared_points (fans_of j w).starts (fans_of j w).names
fans_shared j w p T =
    let f : Fanned = fans_of j w in
    twice_shared f.starts f.names p (two_found f.starts f.names p T.one T.other T.fans.0 T.fans.1 T.different (sym T.here.0) (sym T.here.1))

-- the least point with more than one fan
many_fans_at : (j : Job) (w : Walked) (p : ℕ) (ps : List ℕ) → walked print_shop j ≡ Ok w → shared_points (fans_of j w).starts (fans_of j w).names ≡ p ∷ ps
    → ManyFansAt j (least (p ∷ ps) p)
many_fans_at j w p ps e s =
    let f : Fanned = fans_of j w in
    let q : ℕ = least (p ∷ ps) p in
    let m : q ∈ shared_points f.starts f.names = subst (λ l. q ∈ l) (sym s) (least_in p ps p) in
    record {
      walk = w;
      walks = walked_ordinary j w e;
      two = walked_two j w e;
      many = shared_fans j w q m;
      lower = λ k lt T. omega (arith, lt, least_low (p ∷ ps) p k (subst (λ l. k ∈ l) s (fans_shared j w k T)));
    }

module _ (j : Job) (S : Sound j) where
  fanned_told : Within (Told j) (fanned print_shop j)
  unfolding fanned
  fanned_told =
      within_bind (Told j) (walked print_shop j) _ (walked_told j S)
      (λ w e. within_bind (Told j) (edges_clear PairsInBoundary w.uses w.twins w.merge.boundaries (length j.edges)) _
      (within_value (Told j) (edges_apart j w e PairsInBoundary w.merge.boundaries)) (λ u d. tt))

  -- 42 is refused at the least point with more than one fan
  shared_told : (f : Fanned) → fanned print_shop j ≡ Ok f → Within (Told j) (clear ManyFans (shared_points f.starts f.names))
  shared_told f e =
      let r = fanned_walks print_shop j f e in
      subst (λ (f : Fanned). Within (Told j) (clear ManyFans (shared_points f.starts f.names))) (sym r.2)
      (go r.0 r.1 (shared_points (fans_of j r.0).starts (fans_of j r.0).names) refl)
    where
      go : (w : Walked) → walked print_shop j ≡ Ok w → (l : List ℕ) → shared_points (fans_of j w).starts (fans_of j w).names ≡ l → Within (Told j) (clear ManyFans l)
      go w q [] z = tt
      go w q (p ∷ ps) z = record {
        never = refl;
        many_uses = λ k. absurd (uses_fans (sym k));
        many_fans = λ k. many_fans_at j w p ps q z;
      }

  edged_told : Within (Told j) (edged print_shop j)
  unfolding edged
  edged_told =
      within_bind (Told j) (fanned print_shop j) _ fanned_told
      (λ f e. within_bind (Told j) (clear ManyFans (shared_points f.starts f.names)) _ (shared_told f e)
      (λ u d. within_bind (Told j) (points_clear FansInBoundary f.walk.uses f.starts f.walk.merge.boundaries f.names) _
      (within_value (Told j) (points_apart FansInBoundary f.walk.uses f.starts f.walk.merge.boundaries f.names d)) (λ v c. tt)))

  joined_told : Within (Told j) (through_joining print_shop j)
  unfolding through_joining
  joined_told =
      within_bind (Told j) (edged print_shop j) _ edged_told
      (λ x e. within_bind (Told j) (maximal_edges j.answers x.fan.starts x.fan.names (length x.fan.names) x.joining) _
      (told_more j (maximal_edges j.answers x.fan.starts x.fan.names (length x.fan.names) x.joining)
      (maximal_plain j.answers x.fan.starts x.fan.names (length x.fan.names) x.joining)) (λ s d. tt))

  solid_told : Within (Told j) (solid print_shop j)
  unfolding solid
  solid_told =
      within_bind (Told j) (through_joining print_shop j) _ joined_told
      (λ x e. within_bind (Told j) (shells_of j x.fan.walk) _
      (told_more j (shells_of j x.fan.walk) (shells_plain j.answers j.proven (all_shell_faces x.fan.walk.merge.boundaries x.fan.walk.merge.groups)))
      (λ ss d. within_bind (Told j) (nested j.answers ss) _ (told_more j (nested j.answers ss) (nested_plain j.answers ss))
      (λ ns c. within_bind (Told j) (lumps_clear j x.fan ns) _ (within_value (Told j) (lumps_apart j x ns (joined_passed j x e))) (λ u b. tt))))

  rest_told : (room : ℕ) → Within (Told j) (rebuild print_shop j >>= λ b. fitting room (framed_all (body_records b)))
  unfolding rebuild
  rest_told room =
      within_bind (Told j) (rebuild print_shop j) _
      (within_cond (Told j) (eqb (length j.faces) 0) (Ok empty_body) (solid print_shop j) tt solid_told)
      (λ b e. told_more j (fitting room (framed_all (body_records b))) (fitting_plain room (framed_all (body_records b))))

-- THE WHOLE

-- what a refusal tells of a job that loads
refused_told : (job : List ℕ) (room : ℕ) (r : Refusal) → sewn print_shop job room ≡ Err r → (j : Job) → loaded job ≡ Ok j → Told j r
unfolding sewn
refused_told job room r e j l =
    within_refusal (Told j) (sym (bind_on (λ j. rebuild print_shop j >>= λ b. fitting room (framed_all (body_records b))) l) ∙ e)
    (rest_told j (loaded_sound job j l) room)

-- 12, 13, 20 to 23 of kind 7, and 30 to 33 cannot arise
pub never_refused : (job : List ℕ) (room : ℕ) (r : Refusal) → sewn print_shop job room ≡ Err r → cannot_arise r ≡ false
unfolding sewn
never_refused job room r e = go (loaded job) refl
  where
    one_refusal : {q r : Refusal} → ◌≡◌ {A = Outcome (List ℕ)} (Err q) (Err r) → q ≡ r
    one_refusal e = cc

    go : (o : Outcome Job) → loaded job ≡ o → cannot_arise r ≡ false
    go (Ok j) l = (refused_told job room r e j l).never
    go (Err q) l =
        let same : q ≡ r = one_refusal (sym (bind_stop (λ j. rebuild print_shop j >>= λ b. fitting room (framed_all (body_records b))) l) ∙ e) in
        subst (λ x. cannot_arise x ≡ false) same
        (not-true (cannot_arise q) (and_both (not (cannot_arise q)) _ (within_refusal Plain l (loaded_plain job))).0)

-- WHERE 41 AND 42 ARISE

-- what is refused up to the edges is refused by sewing
module _ (job : List ℕ) (room : ℕ) (j : Job) (l : loaded job ≡ Ok j) (r : Refusal) where
  refused_solid : (length j.faces ≡ 0 → ⊥) → solid print_shop j ≡ Err r → sewn print_shop job room ≡ Err r
  unfolding sewn rebuild
  refused_solid some e =
      bind_on _ l ∙ ap (λ t. cond t (Ok empty_body) (solid print_shop j) >>= λ b. fitting room (framed_all (body_records b))) (ne_eqb (length j.faces) 0 some) ∙ bind_stop _ e

  refused_edged : (length j.faces ≡ 0 → ⊥) → edged print_shop j ≡ Err r → sewn print_shop job room ≡ Err r
  unfolding solid through_joining
  refused_edged some e = refused_solid some (bind_stop _ (bind_stop _ e))

  refused_pair : (length j.faces ≡ 0 → ⊥) → pair PrintShop j.answers (uses_of j) (length j.edges) ≡ Err r → sewn print_shop job room ≡ Err r
  unfolding edged fanned walked
  refused_pair some e = refused_edged some (bind_stop _ (bind_stop _ (bind_stop _ e)))

module _ (j : Job) (e : ℕ) (m : ManyUsesAt j e) where
  abbrev all_uses : List Use
  all_uses = uses_of j

  -- uses that pair are paired
  pair_on : (k : ℕ) (hs ts : List ℕ) → Pairs all_uses hs → (pairs : List ℕ) × (pair_uses PrintShop j.answers all_uses k hs ts ≡ Ok pairs)
  unfolding pair_uses pair_two
  pair_on k [] ts p = (ts, refl)
  pair_on k (a ∷ []) ts p = absurd p
  pair_on k (a ∷ b ∷ []) ts p = (twinned ts a b, need_on EqualSenses k (Ok (twinned ts a b)) (ap not p))
  pair_on k (a ∷ b ∷ c ∷ more) ts p = absurd p

  pair_many : (hs ts : List ℕ) → 2 < length hs → length hs % 2 ≡ 0 → pair_uses PrintShop j.answers all_uses e hs ts ≡ refuse ManyUses e
  unfolding pair_uses
  pair_many [] ts lt z = absurd (omega (arith, lt))
  pair_many (a ∷ []) ts lt z = absurd (omega (arith, lt))
  pair_many (a ∷ b ∷ []) ts lt z = absurd (omega (arith, lt))
  pair_many (a ∷ b ∷ c ∷ more) ts lt z = need_on OddUses e (refuse ManyUses e) (eq-eqb _ _ z)

  -- from edge a on, up to edge e
  edges_many : (n a : ℕ) (ts : List ℕ) → a ≤ e → e < a + n → throughout (pair_edge PrintShop j.answers all_uses) (from a n) ts ≡ refuse ManyUses e
  unfolding from
  edges_many zero a ts le lt = absurd (omega (arith, le, lt))
  edges_many (suc n) a ts le lt =
      ⊎_elim
      (λ t.
      let r = pair_on a (uses_of_edge all_uses a) ts (m.lower a (ltb-true a e t)) in
      through_on (pair_edge PrintShop j.answers all_uses) a (from (suc a) n) ts r.0 r.1 ∙ edges_many n (suc a) r.0 (omega (arith, ltb-true a e t)) (omega (arith, lt)))
      (λ t.
      let z : e ≡ a = omega (arith, le, ltb-false a e t) in
      let q : pair_edge PrintShop j.answers all_uses e ts ≡ refuse ManyUses e = pair_many (uses_of_edge all_uses e) ts m.many m.even in
      through_stop (pair_edge PrintShop j.answers all_uses) a (from (suc a) n) ts _ (subst (λ k. pair_edge PrintShop j.answers all_uses k ts ≡ refuse ManyUses e) z q))
      (both_ways (ltb a e))

  pair_many_uses : pair PrintShop j.answers all_uses (length j.edges) ≡ refuse ManyUses e
  unfolding pair
  pair_many_uses = bind_stop complete (edges_many (length j.edges) 0 (replicate (length all_uses) unset) zero-le (omega (arith, m.edge)))

  -- an edge with uses is one of a job with faces
  faces_of_uses : (job : List ℕ) → loaded job ≡ Ok j → length j.faces ≡ 0 → ⊥
  unfolding positions
  faces_of_uses job l none =
      let few : uses_at j e ≡ 0 = ap (λ us. length (uses_of_edge us e)) (nil_of (uses_of j) (no_face_no_use job j l none)) in
      omega (arith, few, m.many)

-- 41 is refused exactly at the lowest edge with more than two uses
pub many_uses : (job : List ℕ) (j : Job) → loaded job ≡ Ok j → (room e : ℕ) → (sewn print_shop job room ≡ refuse ManyUses e) ↔ ManyUsesAt j e
many_uses job j l room e = (
  λ q. (refused_told job room (record { fault = ManyUses; place = e }) q j l).many_uses refl,
  λ m. refused_pair job room j l (record { fault = ManyUses; place = e }) (faces_of_uses j e m job l) (pair_many_uses j e m),
)

module _ (j : Job) (p : ℕ) (m : ManyFansAt j p) where
  abbrev w : Walked
  w = m.walk

  walks_by_profile : walked print_shop j ≡ Ok w
  walks_by_profile = walked_same j (λ e lt. ⊎_elim (λ z. omega (arith, z)) (λ z. omega (arith, z)) (m.two e lt)) ∙ m.walks

  fans_by_profile : fanned print_shop j ≡ Ok (fans_of j w)
  unfolding fanned
  fans_by_profile = bind_on _ walks_by_profile ∙ bind_on _ (edges_apart j w walks_by_profile PairsInBoundary w.merge.boundaries)

  lowest_shared : (l : List ℕ) → shared_points (fans_of j w).starts (fans_of j w).names ≡ l → clear ManyFans l ≡ refuse ManyFans p
  lowest_shared [] e = absurd (Memᴰ.not-nil (subst (λ l. p ∈ l) e (fans_shared j w p m.many)))
  lowest_shared (x ∷ l) e =
      ap (refuse ManyFans)
      (least_is x l x p (subst (λ l. p ∈ l) e (fans_shared j w p m.many))
      (λ y i. ⊎_elim (λ t. absurd (m.lower y (ltb-true y p t) (shared_fans j w y (subst (λ l. y ∈ l) (sym e) i)))) (λ t. ltb-false y p t) (both_ways (ltb y p))))

  edged_many_fans : edged print_shop j ≡ refuse ManyFans p
  unfolding edged
  edged_many_fans = bind_on _ fans_by_profile ∙ bind_stop _ (lowest_shared (shared_points (fans_of j w).starts (fans_of j w).names) refl)

  faces_of_fans : (job : List ℕ) → loaded job ≡ Ok j → length j.faces ≡ 0 → ⊥
  faces_of_fans job l none =
      let few : length w.uses ≡ 0 = ap length (sym (settled_uses ordinary j w (walked_settled ordinary j w m.walks))) ∙ no_face_no_use job j l none in
      Memᴰ.not-nil (subst (λ l. m.many.one ∈ l) (no_names j w few) m.many.fans.0)

-- 42 is refused exactly at the lowest point with more than one fan
pub many_fans : (job : List ℕ) (j : Job) → loaded job ≡ Ok j → (room p : ℕ) → (sewn print_shop job room ≡ refuse ManyFans p) ↔ ManyFansAt j p
many_fans job j l room p = (
  λ q. (refused_told job room (record { fault = ManyFans; place = p }) q j l).many_fans refl,
  λ m. refused_edged job room j l (record { fault = ManyFans; place = p }) (faces_of_fans j p m job l) (edged_many_fans j p m),
)
