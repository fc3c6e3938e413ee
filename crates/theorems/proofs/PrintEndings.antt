-- The print-shop profile: every job ends as in ordinary sewing, or with 41, or with 42; a job that is accepted has neither fault.
use Rattle.std.specs.Prelude.{ℕ, ◌%◌, ◌<◌, ◌≤◌, ◌≡◌, refl, ◌⊎◌, Bool, true, false, cond, List, [], ◌∷◌, length, replicate, eqb}
use Rattle.std.proofs.Common.{arith, sym, ap, ◌∙◌, subst, inl, inr, ⊎_elim, eqb-true}
use mathlib.Core.List.Memᴰ
use Rattle.lists.specs.Lists.{from, below, ◌∈◌, Nodup, has, times, positions}
use Rattle.lists.specs.Tests.{equal_or_not}
use Rattle.lists.specs.Runs.{below_in, in_below, below_nodup}
use Rattle.lists.specs.Membership.{times_nil, times_hit, times_miss, times_in}
use Rattle.lists.specs.Members.{keep_nodup, in_map, map_in}
use Rattle.rules.specs.declared.Face.{Face}
use Rattle.rules.specs.declared.Fault.{Fault}
use Rattle.rules.specs.declared.Fault.TheVariants.{OddUses, ManyUses, ManyFans, PairsInBoundary, FansInBoundary}
use Rattle.rules.specs.declared.Profile.TheVariants.{AnyContact, PrintShop}
use Rattle.rules.specs.declared.Use.{Use}
use Rattle.rules.specs.Outcome.{Outcome, Ok, Err, refuse, ◌>>=◌, need, throughout}
use Rattle.rules.proofs.OutcomeLaws.{refuse_ok, ok_one, need_ok, bind_ok, bind_on, bind_stop, bind_same}
use Rattle.rules.specs.Job.{unset, Answer, Job}
use Rattle.rules.specs.Load.{loaded}
use Rattle.rules.specs.Read.{uses_of}
use Rattle.rules.specs.Pair.{uses_of_edge, pair_round, pair_uses, pair_edge, complete, pair}
use Rattle.rules.specs.Rules.{full_table, ordinary, print_shop}
use Rattle.rules.specs.Merge.{Merged, merge_faces, merged_faces}
use Rattle.rules.specs.VertexLoops.{vertex_loops}
use Rattle.rules.specs.Fans.{names_fan, fan_point}
use Rattle.rules.specs.Contact.{clear, edges_clear, points_clear, shared_points}
use Rattle.rules.specs.Join.{maximal_edges}
use Rattle.rules.specs.Shells.{nested}
use Rattle.rules.specs.Frame.{framed_all}
use Rattle.rules.specs.Body.{Body, empty_body, body_records}
use Rattle.rules.specs.Sew.{Walked, walks_of, walked, Fanned, fans_of, fanned, unjoined, Joined, edged, through_joining}
use Rattle.rules.specs.Sew.{shells_of, lumps_clear, body_of, solid, rebuild, fitting, sewn}
use Rattle.theorems.specs.Fanning.{fan_labels}
use Rattle.theorems.specs.Sound.{Sound}
use Rattle.theorems.specs.Demand3.{Settled}
use Rattle.theorems.proofs.Loading.{loaded_sound, no_face_no_use}
use Rattle.theorems.proofs.Ground.{settled_walked, walked_settled, settled_uses}
use Rattle.theorems.proofs.Reporting.{sewn_body, rebuild_cases, fanned_walks, no_names}
use Rattle.theorems.proofs.Unlabelled.{points_of, in_times, shared_twice, twice_shared}
use Rattle.theorems.specs.PrintShop.{SameBut, uses_at, OneFan, FaultFree, TwoOrNone, Clean}

-- THE SAME ENDING BUT FOR 41 AND 42

but_after : {A B : Type 0} (o : Outcome A) (f g : A → Outcome B) → ((a : A) → SameBut (f a) (g a)) → SameBut (o >>= f) (o >>= g)
but_after (Ok a) f g h = h a
but_after (Err r) f g h = inl refl

but_bind : {A B : Type 0} (o p : Outcome A) (f g : A → Outcome B) → SameBut o p → ((a : A) → SameBut (f a) (g a)) → SameBut (o >>= f) (p >>= g)
but_bind o p f g (inl e) h = subst (λ x. SameBut (x >>= f) (p >>= g)) (sym e) (but_after p f g h)
but_bind o p f g (inr (inl r)) h = inr (inl (r.0, bind_stop f r.1))
but_bind o p f g (inr (inr r)) h = inr (inr (r.0, bind_stop f r.1))

but_through : {A S : Type 0} (step other : A → S → Outcome S) (xs : List A) (s : S) → ((x : A) (u : S) → SameBut (step x u) (other x u))
    → SameBut (throughout step xs s) (throughout other xs s)
unfolding throughout
but_through step other [] s h = inl refl
but_through step other (x ∷ xs) s h = but_bind (step x s) (other x s) (throughout step xs) (throughout other xs) (h x s) (λ u. but_through step other xs u h)

but_need : {A : Type 0} (t : Bool) (n : Fault) (p : ℕ) (a b : Outcome A) → SameBut a b → SameBut (need t n p a) (need t n p b)
unfolding need
but_need true n p a b h = h
but_need false n p a b h = inl refl

but_cond : {A : Type 0} (t : Bool) (x a b : Outcome A) → SameBut a b → SameBut (cond t x a) (cond t x b)
but_cond true x a b h = inl refl
but_cond false x a b h = h

uses_but : (answers : List Answer) (us : List Use) (e : ℕ) (hs ts : List ℕ) → SameBut (pair_uses PrintShop answers us e hs ts) (pair_uses AnyContact answers us e hs ts)
unfolding pair_uses
uses_but answers us e [] ts = inl refl
uses_but answers us e (a ∷ []) ts = inl refl
uses_but answers us e (a ∷ b ∷ []) ts = inl refl
uses_but answers us e (a ∷ b ∷ c ∷ more) ts =
    but_need (eqb (length (a ∷ b ∷ c ∷ more) % 2) 0) OddUses e (refuse ManyUses e) (pair_round answers us e (a ∷ b ∷ c ∷ more) ts) (inr (inl (e, refl)))

pair_but : (answers : List Answer) (us : List Use) (edges : ℕ) → SameBut (pair PrintShop answers us edges) (pair AnyContact answers us edges)
unfolding pair
pair_but answers us edges =
    but_bind (throughout (pair_edge PrintShop answers us) (below edges) (replicate (length us) unset))
    (throughout (pair_edge AnyContact answers us) (below edges) (replicate (length us) unset)) complete complete
    (but_through (pair_edge PrintShop answers us) (pair_edge AnyContact answers us) (below edges) (replicate (length us) unset)
    (λ e ts. uses_but answers us e (uses_of_edge us e) ts))
    (λ ts. inl refl)

walked_but : (j : Job) → SameBut (walked print_shop j) (walked ordinary j)
unfolding walked
walked_but j =
    but_bind (pair PrintShop j.answers (uses_of j) (length j.edges)) (pair AnyContact j.answers (uses_of j) (length j.edges)) _ _
    (pair_but j.answers (uses_of j) (length j.edges)) (λ ts. inl refl)

fanned_but : (j : Job) → SameBut (fanned print_shop j) (fanned ordinary j)
unfolding fanned
fanned_but j = but_bind (walked print_shop j) (walked ordinary j) _ _ (walked_but j) (λ w. inl refl)

-- the test of 42 passes, or refuses
clear_or : (places : List ℕ) → SameBut (clear ManyFans places) (Ok tt)
clear_or [] = inl refl
clear_or (p ∷ ps) = inr (inr (_, refl))

edged_but : (j : Job) → SameBut (edged print_shop j) (edged ordinary j)
unfolding edged
edged_but j =
    but_bind (fanned print_shop j) (fanned ordinary j) _ _ (fanned_but j)
    (λ f. but_bind (clear ManyFans (shared_points f.starts f.names)) (Ok tt) _ _ (clear_or (shared_points f.starts f.names)) (λ _. inl refl))

joined_but : (j : Job) → SameBut (through_joining print_shop j) (through_joining ordinary j)
unfolding through_joining
joined_but j = but_bind (edged print_shop j) (edged ordinary j) _ _ (edged_but j) (λ x. inl refl)

solid_but : (j : Job) → SameBut (solid print_shop j) (solid ordinary j)
unfolding solid
solid_but j = but_bind (through_joining print_shop j) (through_joining ordinary j) _ _ (joined_but j) (λ x. inl refl)

-- every job ends as in ordinary sewing, or with 41, or with 42
pub ends_but : (job : List ℕ) (room : ℕ) → SameBut (sewn print_shop job room) (sewn ordinary job room)
unfolding sewn rebuild
ends_but job room =
    but_after (loaded job) _ _
    (λ j. but_bind (cond (eqb (length j.faces) 0) (Ok empty_body) (solid print_shop j)) (cond (eqb (length j.faces) 0) (Ok empty_body) (solid ordinary j)) _ _
    (but_cond (eqb (length j.faces) 0) (Ok empty_body) (solid print_shop j) (solid ordinary j) (solid_but j)) (λ b. inl refl))

-- where the profile gives a value, ordinary sewing gives the same
same_value : {A : Type 0} (o p : Outcome A) (a : A) → SameBut o p → o ≡ Ok a → p ≡ Ok a
same_value o p a (inl s) e = sym s ∙ e
same_value o p a (inr (inl r)) e = absurd (refuse_ok (sym r.1 ∙ e))
same_value o p a (inr (inr r)) e = absurd (refuse_ok (sym r.1 ∙ e))

-- for an accepted job it writes the ordinary body
pub ordinary_body : (job : List ℕ) (room : ℕ) (bytes : List ℕ) → sewn print_shop job room ≡ Ok bytes → sewn ordinary job room ≡ Ok bytes
ordinary_body job room bytes e = same_value (sewn print_shop job room) (sewn ordinary job room) bytes (ends_but job room) e

-- the walks are those of ordinary sewing
pub walked_ordinary : (j : Job) (w : Walked) → walked print_shop j ≡ Ok w → walked ordinary j ≡ Ok w
walked_ordinary j w e = same_value (walked print_shop j) (walked ordinary j) w (walked_but j) e

-- FANS AT ONE POINT

pub names_apart : (j : Job) (w : Walked) → Nodup (fans_of j w).names
unfolding fans_of
names_apart j w = keep_nodup (names_fan j.edges w.uses w.merge.removed (fan_labels j w)) (below (length w.uses)) (below_nodup (length w.uses))

-- a point that stands once among those of later fans, or twice, is that of one of them, or of two
found_one : (starts names : List ℕ) (p : ℕ) → 1 ≤ times p (points_of starts names) → (a : ℕ) × (a ∈ names) × (p ≡ fan_point starts a)
found_one starts names p h = map_in (fan_point starts) names p (in_times p (points_of starts names) h)

-- two fans of a list stand at a point
pub record Two (starts names : List ℕ) (p : ℕ) : Type 0 where
  pub one : ℕ
  pub other : ℕ
  pub fans : (one ∈ names) × (other ∈ names)
  pub different : one ≡ other → ⊥
  pub here : (fan_point starts one ≡ p) × (fan_point starts other ≡ p)

pub found_two : (starts names : List ℕ) (p : ℕ) → Nodup names → 2 ≤ times p (points_of starts names) → Two starts names p
found_two starts [] p nd h = absurd (omega (arith, h, times_nil p))
found_two starts (f ∷ fs) p nd h =
    ⊎_elim
    (λ w. let r = found_one starts fs p (omega (arith, h, times_hit p (fan_point starts f) (points_of starts fs) w.0)) in
    record {
      one = f;
      other = r.0;
      fans = (Memᴰ.head refl, Memᴰ.tail r.1);
      different = λ e. nd.0 (Memᴰ.cast e r.1);
      here = (sym w.0, sym r.2);
    })
    (λ w. let r : Two starts fs p = found_two starts fs p nd.1 (omega (arith, h, times_miss p (fan_point starts f) (points_of starts fs) w.0)) in
    record {
      one = r.one;
      other = r.other;
      fans = (Memᴰ.tail r.fans.0, Memᴰ.tail r.fans.1);
      different = r.different;
      here = r.here;
    })
    (equal_or_not p (fan_point starts f))

-- and a point of two different fans stands twice
pub two_found : (starts names : List ℕ) (p a b : ℕ) → a ∈ names → b ∈ names → (a ≡ b → ⊥) → p ≡ fan_point starts a → p ≡ fan_point starts b
    → 2 ≤ times p (points_of starts names)
two_found starts [] p a b m n ne x y = absurd (Memᴰ.not-nil m)
two_found starts (f ∷ fs) p a b m n ne x y =
    ⊎_elim
    (λ i. ⊎_elim (λ k. absurd (ne (i ∙ sym k))) (λ k. hit b k y (x ∙ ap (fan_point starts) i)) (Memᴰ.cases_cons n))
    (λ i. ⊎_elim (λ k. hit a i x (y ∙ ap (fan_point starts) k)) (λ k. later (two_found starts fs p a b i k ne x y)) (Memᴰ.cases_cons n))
    (Memᴰ.cases_cons m)
  where
    hit : (c : ℕ) → c ∈ fs → p ≡ fan_point starts c → p ≡ fan_point starts f → 2 ≤ times p (points_of starts (f ∷ fs))
    hit c i q r = omega (arith, times_in (Memᴰ.cast q (in_map (fan_point starts) i)), times_hit p (fan_point starts f) (points_of starts fs) r)

    later : 2 ≤ times p (points_of starts fs) → 2 ≤ times p (points_of starts (f ∷ fs))
    later h =
        ⊎_elim (λ w. omega (arith, h, times_hit p (fan_point starts f) (points_of starts fs) w.0))
        (λ w. omega (arith, h, times_miss p (fan_point starts f) (points_of starts fs) w.0)) (equal_or_not p (fan_point starts f))

-- where each point has one fan at most, none has more
shared_none : (starts names : List ℕ) → Nodup names → ((a b : ℕ) → a ∈ names → b ∈ names → fan_point starts a ≡ fan_point starts b → a ≡ b)
    → (p : ℕ) → p ∈ shared_points starts names → ⊥
shared_none starts names nd one p m =
    let r : Two starts names p = found_two starts names p nd (shared_twice starts names p m) in
    r.different (one r.one r.other r.fans.0 r.fans.1 (r.here.0 ∙ sym r.here.1))

-- the test of 42 passes where no point has more than one fan, and there only
pub clear_none : (fault : Fault) (l : List ℕ) → ((p : ℕ) → p ∈ l → ⊥) → clear fault l ≡ Ok tt
clear_none fault [] none = refl
clear_none fault (x ∷ l) none = absurd (none x (Memᴰ.head refl))

pub none_clear : (fault : Fault) (l : List ℕ) → clear fault l ≡ Ok tt → (p : ℕ) → p ∈ l → ⊥
none_clear fault [] e p m = Memᴰ.not-nil m
none_clear fault (x ∷ l) e p m = refuse_ok e

none_shared : (starts names : List ℕ) → clear ManyFans (shared_points starts names) ≡ Ok tt
    → (a b : ℕ) → a ∈ names → b ∈ names → fan_point starts a ≡ fan_point starts b → a ≡ b
none_shared starts names e a b m n h =
    ⊎_elim (λ w. w.0)
    (λ w. absurd
    (none_clear ManyFans (shared_points starts names) e (fan_point starts a)
    (twice_shared starts names (fan_point starts a) (two_found starts names (fan_point starts a) a b m n w.0 refl h))))
    (equal_or_not a b)

-- NEITHER FAULT

-- with two uses at most an edge is paired alike
uses_same : (answers : List Answer) (us : List Use) (e : ℕ) (hs ts : List ℕ) → length hs ≤ 2 → pair_uses PrintShop answers us e hs ts ≡ pair_uses AnyContact answers us e hs ts
unfolding pair_uses
uses_same answers us e [] ts h = refl
uses_same answers us e (a ∷ []) ts h = refl
uses_same answers us e (a ∷ b ∷ []) ts h = refl
uses_same answers us e (a ∷ b ∷ c ∷ more) ts h = absurd (omega arith)

through_same : {A S : Type 0} (step other : A → S → Outcome S) (xs : List A) (s : S) → ((x : A) (u : S) → x ∈ xs → step x u ≡ other x u)
    → throughout step xs s ≡ throughout other xs s
unfolding throughout
through_same step other [] s h = refl
through_same step other (x ∷ xs) s h =
    ap (λ o. o >>= throughout step xs) (h x s (Memᴰ.head refl))
    ∙ bind_same (other x s) (throughout step xs) (throughout other xs) (λ u. through_same step other xs u (λ y v m. h y v (Memᴰ.tail m)))

pair_same : (answers : List Answer) (us : List Use) (edges : ℕ) → ((e : ℕ) → e < edges → length (uses_of_edge us e) ≤ 2)
    → pair PrintShop answers us edges ≡ pair AnyContact answers us edges
unfolding pair
pair_same answers us edges h =
    ap (λ o. o >>= complete)
    (through_same (pair_edge PrintShop answers us) (pair_edge AnyContact answers us) (below edges) (replicate (length us) unset)
    (λ e ts m. uses_same answers us e (uses_of_edge us e) ts (h e (below_in edges e m))))

pub walked_same : (j : Job) → ((e : ℕ) → e < length j.edges → uses_at j e ≤ 2) → walked print_shop j ≡ walked ordinary j
unfolding walked
walked_same j h =
    ap (λ o. o >>= λ ts. merge_faces full_table j.answers j.faces (uses_of j) ts >>= λ m.
    vertex_loops j.answers j.points (merged_faces m) j.loops >>= λ ks. Ok (walks_of (uses_of j) ts m ks))
    (pair_same j.answers (uses_of j) (length j.edges) h)

-- the fans of a job with neither fault pass the test of 42
fans_pass : (j : Job) (f : Fanned) → fanned ordinary j ≡ Ok f → ((w : Walked) → walked ordinary j ≡ Ok w → OneFan (fans_of j w))
    → clear ManyFans (shared_points f.starts f.names) ≡ Ok tt
fans_pass j f e one =
    let r = fanned_walks ordinary j f e in
    ap (λ (x : Fanned). clear ManyFans (shared_points x.starts x.names)) r.2
    ∙ clear_none ManyFans _ (shared_none (fans_of j r.0).starts (fans_of j r.0).names (names_apart j r.0) (one r.0 r.1))

module _ (j : Job) (two : (e : ℕ) → e < length j.edges → uses_at j e ≤ 2) (one : (w : Walked) → walked ordinary j ≡ Ok w → OneFan (fans_of j w)) where
  fanned_same : fanned print_shop j ≡ fanned ordinary j
  unfolding fanned
  fanned_same = ap (λ o. o >>= λ w. edges_clear PairsInBoundary w.uses w.twins w.merge.boundaries (length j.edges) >>= λ _. Ok (fans_of j w)) (walked_same j two)

  -- what follows the test of 42
  abbrev onward : Fanned → Outcome Joined
  onward f = points_clear FansInBoundary f.walk.uses f.starts f.walk.merge.boundaries f.names >>= λ _. Ok (record { fan = f; joining = unjoined j f })

  edged_same : edged print_shop j ≡ edged ordinary j
  unfolding edged
  edged_same = ap (λ o. o >>= λ f. clear ManyFans (shared_points f.starts f.names) >>= λ _. onward f) fanned_same ∙ go (fanned ordinary j) refl
    where
      go : (o : Outcome Fanned) → o ≡ fanned ordinary j → (o >>= λ f. clear ManyFans (shared_points f.starts f.names) >>= λ _. onward f) ≡ (o >>= onward)
      go (Ok f) e = bind_on (λ _. onward f) (fans_pass j f (sym e) one)
      go (Err r) e = refl

  solid_same : solid print_shop j ≡ solid ordinary j
  unfolding solid through_joining
  solid_same =
      ap (λ o. (o >>= λ x. maximal_edges j.answers x.fan.starts x.fan.names (length x.fan.names) x.joining >>= λ s. Ok (record { fan = x.fan; joining = s }))
      >>= λ x. shells_of j x.fan.walk >>= λ ss. nested j.answers ss >>= λ ns. lumps_clear j x.fan ns >>= λ _. Ok (body_of j x ns)) edged_same

-- a job with neither fault ends as it does in ordinary sewing
pub fault_free : (job : List ℕ) → FaultFree job → (room : ℕ) → sewn print_shop job room ≡ sewn ordinary job room
unfolding sewn rebuild
fault_free job free room = go (loaded job) refl
  where
    whole : Body → Outcome (List ℕ)
    whole b = fitting room (framed_all (body_records b))

    go : (o : Outcome Job) → o ≡ loaded job
        → (o >>= λ j. cond (eqb (length j.faces) 0) (Ok empty_body) (solid print_shop j) >>= whole)
        ≡ (o >>= λ j. cond (eqb (length j.faces) 0) (Ok empty_body) (solid ordinary j) >>= whole)
    go (Ok j) e =
        ap (λ o. cond (eqb (length j.faces) 0) (Ok empty_body) o >>= whole) (solid_same j (free.uses j (sym e)) (λ w. free.fans j w (sym e)))
    go (Err r) e = refl

-- WHAT IS ACCEPTED HAS NEITHER FAULT

-- an edge that is paired has two uses or none
uses_two : (answers : List Answer) (us : List Use) (e : ℕ) (hs ts pairs : List ℕ) → pair_uses PrintShop answers us e hs ts ≡ Ok pairs → (length hs ≡ 0) ⊎ (length hs ≡ 2)
unfolding pair_uses
uses_two answers us e [] ts pairs q = inl refl
uses_two answers us e (a ∷ []) ts pairs q = absurd (refuse_ok q)
uses_two answers us e (a ∷ b ∷ []) ts pairs q = inr refl
uses_two answers us e (a ∷ b ∷ c ∷ more) ts pairs q =
    absurd (refuse_ok (need_ok (eqb (length (a ∷ b ∷ c ∷ more) % 2) 0) OddUses e (refuse ManyUses e) pairs q).1)

-- every step of a list that is gone through gave a value
through_each : {A S : Type 0} (step : A → S → Outcome S) (xs : List A) (s t : S) → throughout step xs s ≡ Ok t → (x : A) → x ∈ xs → (u : S) × (v : S) × (step x u ≡ Ok v)
unfolding throughout
through_each step [] s t e x m = absurd (Memᴰ.not-nil m)
through_each step (y ∷ ys) s t e x m =
    let r = bind_ok (step y s) (throughout step ys) t e in
    ⊎_elim (λ q. (s, r.0, ap (λ z. step z s) q ∙ r.1)) (λ q. through_each step ys r.0 t r.2 x q) (Memᴰ.cases_cons m)

pub walked_two : (j : Job) (w : Walked) → walked print_shop j ≡ Ok w → (e : ℕ) → e < length j.edges → TwoOrNone j e
unfolding pair
walked_two j w q e lt =
    let s = walked_settled print_shop j w q in
    let b = bind_ok (throughout (pair_edge PrintShop j.answers (uses_of j)) (below (length j.edges)) (replicate (length (uses_of j)) unset)) complete w.twins s.pairs in
    let c = through_each (pair_edge PrintShop j.answers (uses_of j)) (below (length j.edges)) (replicate (length (uses_of j)) unset) b.0 b.1 e (in_below (length j.edges) e lt) in
    uses_two j.answers (uses_of j) e (uses_of_edge (uses_of j) e) c.0 c.1 c.2

-- what is known where joining was passed
pub record Passed (j : Job) (x : Joined) : Type 0 where
  pub walk : Walked
  pub walks : walked print_shop j ≡ Ok walk
  pub fan : x.fan ≡ fans_of j walk
  pub apart : clear ManyFans (shared_points (fans_of j walk).starts (fans_of j walk).names) ≡ Ok tt

edged_passed : (j : Job) (x : Joined) → edged print_shop j ≡ Ok x → Passed j x
unfolding edged
edged_passed j x e =
    let a = bind_ok (fanned print_shop j) _ x e in
    let f : Fanned = a.0 in
    let o = bind_ok (clear ManyFans (shared_points f.starts f.names)) _ x a.2 in
    let b = bind_ok (points_clear FansInBoundary f.walk.uses f.starts f.walk.merge.boundaries f.names) _ x o.2 in
    let c = fanned_walks print_shop j f a.1 in
    record {
      walk = c.0;
      walks = c.1;
      fan = ap (λ (y : Joined). y.fan) (sym (ok_one b.2)) ∙ c.2;
      apart = subst (λ (f : Fanned). clear ManyFans (shared_points f.starts f.names) ≡ Ok tt) c.2 o.1;
    }

pub joined_passed : (j : Job) (x : Joined) → through_joining print_shop j ≡ Ok x → Passed j x
unfolding through_joining
joined_passed j x e =
    let a = bind_ok (edged print_shop j) _ x e in
    let P : Passed j a.0 = edged_passed j a.0 a.1 in
    let m = bind_ok (maximal_edges j.answers a.0.fan.starts a.0.fan.names (length a.0.fan.names) a.0.joining) _ x a.2 in
    record { walk = P.walk; walks = P.walks; fan = ap (λ (y : Joined). y.fan) (sym (ok_one m.2)) ∙ P.fan; apart = P.apart }

-- the walks of a job are known, and it has neither fault
abbrev CleanWalks : Job → Type 0
CleanWalks j = (w : Walked) × (walked ordinary j ≡ Ok w) × Clean j w

-- a job that passes joining has walks and neither fault
joined_clean : (j : Job) (x : Joined) → through_joining print_shop j ≡ Ok x → CleanWalks j
joined_clean j x e =
    let P : Passed j x = joined_passed j x e in
    let one : OneFan (fans_of j P.walk) = none_shared (fans_of j P.walk).starts (fans_of j P.walk).names P.apart in
    (P.walk, walked_ordinary j P.walk P.walks, record { uses = walked_two j P.walk P.walks; fans = one })

pub nil_of : {A : Type 0} (l : List A) → length l ≡ 0 → l ≡ []
nil_of [] e = refl
nil_of (x ∷ l) e = absurd (omega arith)

-- without uses there is nothing to find fault with
empty_clean : (j : Job) (w : Walked) → length (uses_of j) ≡ 0 → length w.uses ≡ 0 → Clean j w
unfolding positions
empty_clean j w z y = record {
  uses = λ e lt. inl (ap (λ us. length (uses_of_edge us e)) (nil_of (uses_of j) z));
  fans = λ a b p q h. absurd (Memᴰ.not-nil (subst (λ l. a ∈ l) (no_names j w y) p));
}

-- WALKS OF NOTHING

-- without uses no edge has any to pair
none_through : (answers : List Answer) (es : List ℕ) → throughout (pair_edge AnyContact answers []) es [] ≡ Ok []
unfolding throughout pair_uses positions
none_through answers [] = refl
none_through answers (e ∷ es) = none_through answers es

none_paired : (answers : List Answer) (edges : ℕ) → pair AnyContact answers [] edges ≡ Ok []
unfolding pair complete has need
none_paired answers edges = bind_on complete (none_through answers (below edges))

-- no surface question is put
none_merged : (answers : List Answer) (fs : List Face) → (m : Merged) × (merge_faces full_table answers fs [] [] ≡ Ok m)
unfolding merge_faces throughout from
none_merged answers fs = (_, refl)

-- and no loop is held against another
no_member : {A : Type 0} (l : List A) → ((x : A) → x ∈ l → ⊥) → l ≡ []
no_member [] none = refl
no_member (x ∷ l) none = absurd (none x (Memᴰ.head refl))

-- so a job without uses and loops has walks
walks_of_none : (j : Job) → uses_of j ≡ [] → j.loops ≡ [] → (w : Walked) × (walked ordinary j ≡ Ok w)
unfolding walks_of throughout
walks_of_none j u l =
    let m = none_merged j.answers j.faces in
    let w : Walked = walks_of (uses_of j) [] m.0 [] in
    let S : Settled ordinary j w = record {
      pairs = ap (λ us. pair AnyContact j.answers us (length j.edges)) u ∙ none_paired j.answers (length j.edges);
      surfaces = ap (λ us. merge_faces full_table j.answers j.faces us []) u ∙ m.1;
      vertices = ap (vertex_loops j.answers j.points (merged_faces m.0)) l;
      walks = refl;
    } in
    (w, settled_walked ordinary j w S)

-- a job without faces has neither
no_face_clean : (job : List ℕ) (j : Job) → loaded job ≡ Ok j → length j.faces ≡ 0 → CleanWalks j
no_face_clean job j l none =
    let z : length (uses_of j) ≡ 0 = no_face_no_use job j l none in
    let S : Sound j = loaded_sound job j l in
    let r = walks_of_none j (nil_of (uses_of j) z) (no_member j.loops (λ x m. omega (arith, none, S.face x m))) in
    let same : length r.0.uses ≡ 0 = ap length (sym (settled_uses ordinary j r.0 (walked_settled ordinary j r.0 r.1))) ∙ z in
    (r.0, r.1, empty_clean j r.0 z same)

-- the walks of an accepted job are known, and it has neither fault
pub accepted_clean : (job : List ℕ) (room : ℕ) (bytes : List ℕ) → sewn print_shop job room ≡ Ok bytes → (j : Job) → loaded job ≡ Ok j → CleanWalks j
accepted_clean job room bytes e j l =
    let b = sewn_body print_shop job room bytes j l e in
    ⊎_elim (λ r. no_face_clean job j l (eqb-true (length j.faces) 0 r.0)) (λ r. joined_clean j r.1.joined r.1.joining) (rebuild_cases print_shop j b.0 b.1)
