-- Pairing: where nothing is refused, each use has its twin.
use Rattle.std.specs.Prelude.{◌≡◌, refl, ◌⊎◌, true, not, get_or, set, replicate, eqb}
use Rattle.std.proofs.Math.Path.{sym, ap, subst}
use Rattle.std.proofs.Common.{◌∙◌, arith, length-set, get_or-set_same, get_or-set_other}
use Rattle.std.proofs.Math.Logic.{inl, inr, ⊎_elim}
use Rattle.std.proofs.Math.Bool.{false, true≢false}
use Rattle.std.proofs.lemmas.Bool.{false≢true}
use mathlib.Core.List.Memᴰ
use mathlib.Core.List.{List, [], ◌∷◌}
use Prim.Native.Nat.{ℕ, ◌-◌, ◌%◌, ◌≤◌, ◌<◌}
use Rattle.std.proofs.Math.ListN.{length}
use Rattle.std.proofs.lemmas.List.{length-replicate, get_or-replicate}
use borrow.Author.Tests.{eqb-true, not-true}
use Rattle.lists.specs.Lists.{below, ◌∈◌, Nodup, has, all, index_of}
use Rattle.lists.specs.Tests.{and_both, equal_or_not}
use Rattle.lists.specs.Membership.{has_in, has_out, get_or_in, full}
use Rattle.lists.specs.Runs.{below_nodup}
use Rattle.lists.specs.Members.{all_in, nodup_full, positions_in, positions_nodup}
use Rattle.rules.specs.declared.Sense.{Sense}
use Rattle.rules.specs.declared.Sense.TheVariants.{Same, Reversed}
use Rattle.rules.specs.declared.Use.{Use}
use Rattle.rules.specs.declared.Profile.{Profile}
use Rattle.rules.specs.declared.Profile.TheVariants.{AnyContact, PrintShop}
use Rattle.rules.specs.Outcome.{Ok, need, throughout, Outcome}
use Rattle.rules.proofs.OutcomeLaws.{refuse_ok, ok_one, bind_ok, need_ok, cond_ok}
use Rattle.rules.specs.Sense.{same_sense, is_same}
use Rattle.rules.specs.Job.{unset, Answer}
use Rattle.rules.specs.Questions.{ask_radial}
use Rattle.rules.specs.Read.{use_at, no_use}
use Rattle.rules.specs.Pair.{on_edge, uses_of_edge, twin_of, twinned, same_use, pair_two, each_once, take_predecessor}
use Rattle.rules.specs.Pair.{take_predecessors, last_of, pair_round, pair_even, pair_uses, pair_edge, complete, pair}
use Rattle.theorems.specs.Linked.{Twins}
use Rattle.rules.specs.declared.Fault.TheVariants.{SamePredecessor, NoTwin, EqualSenses, OddUses, NotRound}

-- the uses of an edge are uses, and of that edge
of_edge : (us : List Use) (e x : ℕ) → x ∈ uses_of_edge us e → (x < length us) × ((use_at us x).edge ≡ e)
of_edge us e x m =
    let r = positions_in (on_edge e) 0 us no_use x m in
    let q : x - 0 ≡ x = omega arith in
    (omega (arith, r.1), ap (λ k. (use_at us k).edge) (sym q) ∙ eqb-true _ e r.2)

last_of_in : (d y : ℕ) (hs : List ℕ) → y ∈ hs → last_of d hs ∈ hs
unfolding last_of
last_of_in d y [] i = absurd (Memᴰ.not-nil i)
last_of_in d y (x ∷ []) i = Memᴰ.head refl
last_of_in d y (x ∷ z ∷ zs) i = Memᴰ.tail (last_of_in x z (z ∷ zs) (Memᴰ.head refl))

last_of_again : (d : ℕ) (l : List ℕ) → last_of (last_of d l) l ≡ last_of d l
unfolding last_of
last_of_again d [] = refl
last_of_again d (x ∷ l) = refl

-- one sense is Same and the other is not
opposed : (s t : Sense) → is_same s ≡ true → is_same t ≡ false → same_sense s t ≡ false
opposed Same Same p q = q
opposed Same Reversed p q = refl
opposed Reversed Same p q = absurd (false≢true p)
opposed Reversed Reversed p q = absurd (false≢true p)

same_sense_swap : (s t : Sense) → same_sense s t ≡ same_sense t s
same_sense_swap Same Same = refl
same_sense_swap Same Reversed = refl
same_sense_swap Reversed Same = refl
same_sense_swap Reversed Reversed = refl

module _ (us : List Use) where
  abbrev edge : ℕ → ℕ
  edge h = (use_at us h).edge

  abbrev sense : ℕ → Sense
  sense h = (use_at us h).sense

  -- h has its twin
  abbrev HasTwin : List ℕ → ℕ → Type 0
  HasTwin ts h =
      (twin_of ts h < length us) × (twin_of ts (twin_of ts h) ≡ h) × (twin_of ts h ≡ h → ⊥) × (edge (twin_of ts h) ≡ edge h) × (same_sense (sense (twin_of ts h)) (sense h) ≡ false)

  -- so far: each use is unset or has its twin
  record Halfway (ts : List ℕ) : Type 0 where
    size : length ts ≡ length us
    each : (h : ℕ) → h < length us → (twin_of ts h ≡ unset) ⊎ HasTwin ts h

  -- what the pairing of edge e leaves: twins so far, and the uses of other edges as they were
  record Done (e : ℕ) (ts ts' : List ℕ) : Type 0 where
    half : Halfway ts'
    others : (i : ℕ) → i < length us → (edge i ≡ e → ⊥) → twin_of ts' i ≡ twin_of ts i

  nothing : (e : ℕ) (ts ts' : List ℕ) → Halfway ts → ◌≡◌ {A = Outcome (List ℕ)} (Ok ts) (Ok ts') → Done e ts ts'
  nothing e ts ts' w q = subst (Done e ts) (ok_one q) (record { half = w; others = λ i lt n. refl })

  -- ONE PAIR

  module _ (ts : List ℕ) (x y : ℕ) (lx : x < length us) (ly : y < length us) (n : x ≡ y → ⊥) (w : Halfway ts) where
    at_y : twin_of (twinned ts x y) y ≡ x
    at_y = let z = w.size in get_or-set_same (set ts x y) y x 0 (rw length-set (omega arith))

    at_x : twin_of (twinned ts x y) x ≡ y
    at_x = let z = w.size in get_or-set_other (set ts x y) y x x 0 n ∙ get_or-set_same ts x y 0 (omega arith)

    at_other : (i : ℕ) → (i ≡ x → ⊥) → (i ≡ y → ⊥) → twin_of (twinned ts x y) i ≡ twin_of ts i
    at_other i p q = get_or-set_other (set ts x y) y i x 0 q ∙ get_or-set_other ts x i y 0 p

    -- two uses of one edge in different senses, both unset, become twins
    pair_done : length us ≤ unset → (e : ℕ) → edge x ≡ e → edge y ≡ e → same_sense (sense x) (sense y) ≡ false → twin_of ts x ≡ unset → twin_of ts y ≡ unset → Done e ts (twinned ts x y)
    pair_done few e ex ey s ux uy = record {
      half = record {
        size = length-set (set ts x y) y x ∙ length-set ts x y ∙ w.size;
        each = λ h lt.
            ⊎_elim (λ v. is_x h v.0) (λ v. ⊎_elim (λ u. is_y h u.0) (λ u. other h lt v.0 u.0 (w.each h lt)) (equal_or_not h y)) (equal_or_not h x);
      };
      others = λ i lt q. at_other i (λ v. q (ap edge v ∙ ex)) (λ v. q (ap edge v ∙ ey));
    }
      where
        Goal : ℕ → Type 0
        Goal h = (twin_of (twinned ts x y) h ≡ unset) ⊎ HasTwin (twinned ts x y) h

        is_x : (h : ℕ) → h ≡ x → Goal h
        is_x h q = rw (q, at_x) (inr (ly, at_y, (λ z. n (sym z)), ey ∙ sym ex, same_sense_swap (sense y) (sense x) ∙ s))

        is_y : (h : ℕ) → h ≡ y → Goal h
        is_y h q = rw (q, at_y) (inr (lx, at_x, n, ex ∙ sym ey, s))

        other : (h : ℕ) → h < length us → (h ≡ x → ⊥) → (h ≡ y → ⊥) → (twin_of ts h ≡ unset) ⊎ HasTwin ts h → Goal h
        other h lt p q (inl u) = inl (at_other h p q ∙ u)
        other h lt p q (inr g) =
            let t : ℕ = twin_of ts h in
            let tx : t ≡ x → ⊥ = (λ v. let z = ap (twin_of ts) v in omega (arith, g.1, z)) in
            let ty : t ≡ y → ⊥ = (λ v. let z = ap (twin_of ts) v in omega (arith, g.1, z)) in
            rw (at_other h p q) (inr (g.0, at_other t tx ty ∙ g.1, g.2, g.3, g.4))

  -- ROUND AN EDGE

  module _ (few : length us ≤ unset) (e : ℕ) where
    -- the uses hs, preceded by p, are still to be gone through, and z is the last: what is not unset of them is z, that its successor took
    record Round (z p : ℕ) (hs ts : List ℕ) : Type 0 where
      half : Halfway ts
      previous : (p < length us) × (edge p ≡ e)
      members : (x : ℕ) → x ∈ hs → (x < length us) × (edge x ≡ e)
      apart : Nodup hs
      end : last_of p hs ≡ z
      again : p ∈ hs → p ≡ z
      free : (x : ℕ) → x ∈ hs → same_use us p ≡ false → twin_of ts p ≡ unset
      rest : (x : ℕ) → x ∈ hs → (twin_of ts x ≡ unset) ⊎ ((x ≡ z) × (same_use us x ≡ false))

    round_done : (z p : ℕ) (hs ts ts' : List ℕ) → Round z p hs ts → take_predecessors us e p hs ts ≡ Ok ts' → Done e ts ts'
    unfolding take_predecessors last_of take_predecessor
    round_done z p [] ts ts' r q = nothing e ts ts' r.half q
    round_done z p (h ∷ hs) ts ts' r q =
        let b = bind_ok (take_predecessor us e p h ts) (take_predecessors us e h hs) ts' q in
        let here = r.members h (Memᴰ.head refl) in
        let later : (x : ℕ) → x ∈ hs → (x < length us) × (edge x ≡ e) = λ x i. r.members x (Memᴰ.tail i) in
        let gone : h ∈ hs → h ≡ z = λ i. absurd (r.apart.0 i) in
        ⊎_elim
        (λ s.
        let c = need_ok (not (same_use us p)) SamePredecessor e (Ok (twinned ts h p)) b.0 s.1 in
        let rp : same_use us p ≡ false = not-true (same_use us p) c.0 in
        let n : h ≡ p → ⊥ = λ v. true≢false (sym s.0 ∙ ap (same_use us) v ∙ rp) in
        let uh : twin_of ts h ≡ unset = ⊎_elim (λ v. v) (λ v. absurd (true≢false (sym s.0 ∙ v.1))) (r.rest h (Memᴰ.head refl)) in
        let d : Done e ts (twinned ts h p) = pair_done ts h p here.0 r.previous.0 n r.half few e here.1 r.previous.1
        (opposed (sense h) (sense p) s.0 rp) uh (r.free h (Memᴰ.head refl) rp) in
        let next : Round z h hs (twinned ts h p) = record {
          half = d.half;
          previous = here;
          members = later;
          apart = r.apart.1;
          end = r.end;
          again = gone;
          free = λ x i v. absurd (true≢false (sym s.0 ∙ v));
          rest = λ x i. ⊎_elim
              (λ v. inr (v.0 ∙ r.again (Memᴰ.cast (sym v.0) (Memᴰ.tail i)), ap (same_use us) v.0 ∙ rp))
              (λ v. ⊎_elim (λ u. inl (at_other ts h p here.0 r.previous.0 n r.half x (λ k. r.apart.0 (Memᴰ.cast (sym k) i)) v.0 ∙ u)) (λ u. inr u)
              (r.rest x (Memᴰ.tail i)))
              (equal_or_not x p);
        } in
        let f = round_done z h hs (twinned ts h p) ts' next (subst (λ t. take_predecessors us e h hs t ≡ Ok ts') (sym (ok_one c.1)) b.2) in
        record { half = f.half; others = λ i lt v. f.others i lt v ∙ d.others i lt v })
        (λ s.
        round_done z h hs ts ts'
        (record {
          half = r.half;
          previous = here;
          members = later;
          apart = r.apart.1;
          end = r.end;
          again = gone;
          free = λ x i v. ⊎_elim (λ u. u) (λ u. absurd (r.apart.0 (Memᴰ.cast (u.0 ∙ sym r.end) (last_of_in h x hs i)))) (r.rest h (Memᴰ.head refl));
          rest = λ x i. r.rest x (Memᴰ.tail i);
        })
        (subst (λ t. take_predecessors us e h hs t ≡ Ok ts') (sym (ok_one s.1)) b.2))
        (cond_ok (same_use us h) (need (not (same_use us p)) SamePredecessor e (Ok (twinned ts h p))) (Ok ts) b.0 b.1)

    -- ONE EDGE

    -- where an even number is paired, it is paired round the edge
    even_round : (profile : Profile) (answers : List Answer) (uses ts ts' : List ℕ) → pair_even profile answers us e uses ts ≡ Ok ts' → pair_round answers us e uses ts ≡ Ok ts'
    even_round AnyContact answers uses ts ts' q = q
    even_round PrintShop answers uses ts ts' q = absurd (refuse_ok q)

    module _ (profile : Profile) (answers : List Answer) (ts ts' : List ℕ) (w : Halfway ts) where
      -- the radial order is the uses of the edge once each
      order_done : (uses order : List ℕ) → Nodup uses → ((x : ℕ) → x ∈ uses → (x < length us) × (edge x ≡ e) × (twin_of ts x ≡ unset)) → 1 ≤ length uses
          → each_once uses order ≡ true → take_predecessors us e (last_of 0 order) order ts ≡ Ok ts' → Done e ts ts'
      unfolding each_once
      order_done uses order nd inside some t q =
          let both = and_both (eqb (length order) (length uses)) (all (λ h. has h order) uses) t in
          let len : length order ≡ length uses = eqb-true (length order) (length uses) both.0 in
          let sub : (x : ℕ) → x ∈ uses → x ∈ order = λ x m. has_in x order (all_in (λ h. has h order) uses both.1 x m) in
          let of : (x : ℕ) → x ∈ order → (x < length us) × (edge x ≡ e) × (twin_of ts x ≡ unset) = λ x m. inside x (full uses order nd sub (omega arith) x m) in
          let z : ℕ = last_of 0 order in
          let zz = of z (last_of_in 0 (get_or order 0 0) order (get_or_in order 0 0 (omega arith))) in
          round_done z z order ts ts'
          (record {
            half = w;
            previous = (zz.0, zz.1);
            members = λ x m. ((of x m).0, (of x m).1);
            apart = nodup_full order uses nd sub (omega arith);
            end = last_of_again 0 order;
            again = λ m. refl;
            free = λ x m v. zz.2;
            rest = λ x m. inl (of x m).2;
          }) q

      uses_done : (uses : List ℕ) → Nodup uses → ((x : ℕ) → x ∈ uses → (x < length us) × (edge x ≡ e) × (twin_of ts x ≡ unset)) → pair_uses profile answers us e uses ts ≡ Ok ts' → Done e ts ts'
      unfolding pair_uses pair_two pair_round
      uses_done [] nd inside q = nothing e ts ts' w q
      uses_done (a ∷ []) nd inside q = absurd (refuse_ok q)
      uses_done (a ∷ b ∷ []) nd inside q =
          let c = need_ok (not (same_sense (sense a) (sense b))) EqualSenses e (Ok (twinned ts a b)) ts' q in
          let s = not-true (same_sense (sense a) (sense b)) c.0 in
          let x = inside a (Memᴰ.head refl) in
          let y = inside b (Memᴰ.tail (Memᴰ.head refl)) in
          subst (Done e ts) (ok_one c.1) (pair_done ts a b x.0 y.0 (λ v. nd.0 (Memᴰ.head v)) w few e x.1 y.1 s x.2 y.2)
      uses_done (a ∷ b ∷ c ∷ more) nd inside q =
          let uses : List ℕ = a ∷ b ∷ c ∷ more in
          let r = need_ok (eqb (length uses % 2) 0) OddUses e (pair_even profile answers us e uses ts) ts' q in
          let o = bind_ok (ask_radial answers e) _ ts' (even_round profile answers uses ts ts' r.1) in
          let k = need_ok (each_once uses o.0) NotRound e (take_predecessors us e (last_of 0 o.0) o.0 ts) ts' o.2 in
          order_done uses o.0 nd inside (omega arith) k.0 k.1

  -- EVERY EDGE

  edges_done : length us ≤ unset → (profile : Profile) (answers : List Answer) (l ts ts' : List ℕ) → Nodup l → Halfway ts → ((h : ℕ) → h < length us → edge h ∈ l → twin_of ts h ≡ unset)
      → throughout (pair_edge profile answers us) l ts ≡ Ok ts' → Halfway ts'
  unfolding throughout
  edges_done few profile answers [] ts ts' nd w fresh q = subst Halfway (ok_one q) w
  edges_done few profile answers (e ∷ l) ts ts' nd w fresh q =
      let r = bind_ok (pair_edge profile answers us e ts) (throughout (pair_edge profile answers us) l) ts' q in
      let d : Done e ts r.0 = uses_done few e profile answers ts r.0 w (uses_of_edge us e) (positions_nodup (on_edge e) 0 us)
      (λ x m. let o = of_edge us e x m in (o.0, o.1, fresh x o.0 (Memᴰ.head o.1))) r.1 in
      edges_done few profile answers l r.0 ts' nd.1 d.half
      (λ h lt m. d.others h lt (λ v. nd.0 (Memᴰ.cast (sym v) m)) ∙ fresh h lt (Memᴰ.tail m)) r.2

-- Pairing that refuses nothing gives each use its twin.
pub pairs_fully : (profile : Profile) (answers : List Answer) (us : List Use) (ts : List ℕ) (edges : ℕ) → length us ≤ unset → pair profile answers us edges ≡ Ok ts → Twins us ts
unfolding pair complete
pairs_fully profile answers us ts edges few q =
    let start : List ℕ = replicate (length us) unset in
    let r = bind_ok (throughout (pair_edge profile answers us) (below edges) start) complete ts q in
    let c = need_ok (not (has unset r.0)) NoTwin (index_of unset r.0) (Ok r.0) ts r.2 in
    let clear : (h : ℕ) → h < length us → twin_of start h ≡ unset = λ h lt. get_or-replicate (length us) h unset 0 lt in
    let w : Halfway us r.0 = edges_done us few profile answers (below edges) start r.0 (below_nodup edges)
    (record { size = length-replicate (length us) unset; each = λ h lt. inl (clear h lt) }) (λ h lt m. clear h lt) r.1 in
    let z = w.size in
    let found : (h : ℕ) → h < length us → HasTwin us r.0 h = λ h lt.
    ⊎_elim (λ v. absurd (has_out unset r.0 (not-true (has unset r.0) c.0) (Memᴰ.cast (sym v) (get_or_in r.0 h 0 (omega arith))))) (λ g. g) (w.each h lt) in
    subst (Twins us) (ok_one c.1) (record {
      size = w.size;
      below = λ h lt. (found h lt).0;
      twice = λ h lt. (found h lt).1;
      other = λ h lt. (found h lt).2;
      edge = λ h lt. (found h lt).3;
      sense = λ h lt. (found h lt).4;
    })
