-- The bytes of an accepted job: they begin with the Body record, whose fields are read back as written.
use Rattle.std.specs.Prelude.{ℕ, ◌+◌, ◌*◌, ◌/◌, ◌%◌, ◌<◌, ◌≡◌, refl, ◌⊎◌, Bool, true, false, not, length, get_or, eqb}
use Rattle.std.specs.Prelude.{leb}
use Rattle.std.proofs.Common.{arith, sym, ap, ◌∙◌, subst, inl, inr, ⊎_elim}
use mathlib.Core.List.{List, [], ◌∷◌, ◌++◌, map, flat_map}
use Rattle.std.proofs.lemmas.Bool.{not-false}
use Rattle.lists.specs.Lists.{from, below, keep, positions, sum_of}
use Rattle.lists.specs.Runs.{below_in, get_or_table}
use Rattle.lists.specs.Sums.{sum_map, sum_same}
use Rattle.lists.specs.Counts.{keep_nothing, sum_keep}
use Rattle.rules.specs.declared.Fault.{Fault}
use Rattle.rules.specs.declared.Use.{Use}
use Rattle.rules.specs.Outcome.{Ok, ◌>>=◌}
use Rattle.rules.proofs.OutcomeLaws.{ok_one, bind_ok, bind_on, need_ok, cond_ok}
use Rattle.rules.specs.Fields.{le16, le32, bytes32}
use Rattle.rules.specs.Frame.{Record, framed, framed_all}
use Rattle.rules.specs.Job.{Job}
use Rattle.rules.specs.Load.{loaded}
use Rattle.rules.specs.Read.{uses_of}
use Rattle.rules.specs.declared.Rules.{Rules}
use Rattle.rules.specs.declared.Profile.{Profile}
use Rattle.rules.specs.declared.Profile.TheVariants.{AnyContact, PrintShop}
use Rattle.rules.specs.Merge.{is_removed}
use Rattle.rules.specs.Walk.{passed_of, passed_counts}
use Rattle.rules.specs.Fans.{names_fan}
use Rattle.rules.specs.Contact.{edge_touches, contact_points, clear, edges_clear, points_clear, shared_points, one_fan_each}
use Rattle.rules.specs.Join.{Joining, maximal_edges}
use Rattle.rules.specs.Shells.{Shell, Nested, nested}
use Rattle.rules.specs.Body.{Totals, Body, empty_body, solid_body, body_kind, totals_record, body_records}
use Rattle.rules.specs.Sew.{Walked, walks_of, walked, Fanned, fans_of, fanned, unjoined, Joined, edged, through_joining}
use Rattle.rules.specs.Sew.{shells_of, lumps_clear, totals_of, body_of, solid, rebuild, fitting, sewn}
use Rattle.rules.specs.Stage.{kept_uses}
use Rattle.theorems.specs.Demand3.{passed_sum, Settled}
use Rattle.theorems.proofs.Ground.{settled_uses}
use Rattle.theorems.specs.Fanning.{fan_labels}
use Rattle.theorems.specs.Reporting.{Small, Begins, Solid}
use Rattle.rules.specs.declared.Fault.TheVariants.{PairsInBoundary, FansInBoundary, NoRoom}

-- FIELDS READ BACK

digits : (n a b c : ℕ) → a ≡ n / 256 → b ≡ a / 256 → c ≡ b / 256 → n < 4294967296
    → n % 256 + 256 * (a % 256) + 65536 * (b % 256) + 16777216 * (c % 256) ≡ n
digits n a b c p q r h =
    let z : c < 256 = omega arith in
    omega arith

second : (n : ℕ) → n / 65536 ≡ n / 256 / 256
second n = omega arith

third : (n : ℕ) → n / 16777216 ≡ n / 256 / 256 / 256
third n = omega arith

-- a number below 4,294,967,296 is read back from its four bytes
pub field_back : (n : ℕ) (s : List ℕ) → n < 4294967296 → le32 (bytes32 n ++ s) 0 ≡ n
unfolding le32 bytes32
field_back n s h = digits n (n / 256) (n / 65536) (n / 16777216) refl (second n) (third n ∙ ap (λ x. x / 256) (sym (second n))) h

pub read_back : (t : Totals) (rest : List Record) → Small t → Begins (framed_all (totals_record t ∷ rest)) t
unfolding flat_map framed bytes32 le16 le32
read_back t rest S = record {
  kind = refl;
  solid = field_back (body_kind t.solid) [] (small t.solid);
  uses = field_back t.uses [] (omega (arith, S.uses));
  removed = field_back t.removed [] (omega (arith, S.removed));
  passed = field_back t.passed [] (omega (arith, S.passed));
  joins = field_back t.joins [] (omega (arith, S.joins));
  rings = field_back t.rings [] (omega (arith, S.rings));
  face_joins = field_back t.face_joins [] (omega (arith, S.face_joins));
}
  where
    small : (b : Bool) → body_kind b < 4294967296
    small true = omega arith
    small false = omega arith

-- THE BODY OF AN ACCEPTED JOB

-- the bytes are a body's
pub sewn_body : (rules : Rules) (job : List ℕ) (room : ℕ) (bytes : List ℕ) (j : Job) → loaded job ≡ Ok j → sewn rules job room ≡ Ok bytes
    → (b : Body) × (rebuild rules j ≡ Ok b) × (bytes ≡ framed_all (body_records b))
unfolding sewn
sewn_body rules job room bytes j l e =
    let a = bind_ok (rebuild rules j) (λ b. fitting room (framed_all (body_records b))) bytes (sym (bind_on (λ j. rebuild rules j >>= λ b. fitting room (framed_all (body_records b))) l) ∙ e) in
    let n = need_ok (leb (length (framed_all (body_records a.0))) room) NoRoom (length (framed_all (body_records a.0))) (Ok (framed_all (body_records a.0))) bytes a.2 in
    (a.0, a.1, sym (ok_one n.1))

-- a job without faces gives the Empty body; any other passes through joining, shells and nesting
pub rebuild_cases : (rules : Rules) (j : Job) (b : Body) → rebuild rules j ≡ Ok b
    → ((eqb (length j.faces) 0 ≡ true) × (b ≡ empty_body)) ⊎ ((eqb (length j.faces) 0 ≡ false) × Solid rules j b)
unfolding rebuild solid
rebuild_cases rules j b e =
    ⊎_elim
    (λ r. inl (r.0, sym (ok_one r.1)))
    (λ r.
    let a = bind_ok (through_joining rules j) _ b r.1 in
    let x : Joined = a.0 in
    let c = bind_ok (shells_of j x.fan.walk) _ b a.2 in
    let d = bind_ok (nested j.answers c.0) _ b c.2 in
    let f = bind_ok (lumps_clear j x.fan d.0) _ b d.2 in
    inr (r.0, record { joined = x; oriented = c.0; nests = d.0; joining = a.1; shells = c.1; nesting = d.1; body = sym (ok_one f.2) }))
    (cond_ok (eqb (length j.faces) 0) (Ok empty_body) (solid rules j) b e)

-- the records begin with that of the totals
pub first_record : (b : Body) → (rest : List Record) × (body_records b ≡ totals_record b.totals ∷ rest)
unfolding body_records
first_record b = (_, refl)

pub body_totals : (j : Job) (x : Joined) (ns : List Nested) → (body_of j x ns).totals ≡ totals_of x.fan.walk x.joining
unfolding body_of solid_body
body_totals j x ns = refl

-- THROUGH JOINING

-- the fans are those of the walks
pub fanned_walks : (rules : Rules) (j : Job) (f : Fanned) → fanned rules j ≡ Ok f → (w : Walked) × (walked rules j ≡ Ok w) × (f ≡ fans_of j w)
unfolding fanned
fanned_walks rules j f e =
    let a = bind_ok (walked rules j) _ f e in
    let w : Walked = a.0 in
    let b = bind_ok (edges_clear PairsInBoundary w.uses w.twins w.merge.boundaries (length j.edges)) _ f a.2 in
    (w, a.1, sym (ok_one b.2))

-- the edges and loops are those of the fans of the walks
pub edged_walks : (rules : Rules) (j : Job) (x : Joined) → edged rules j ≡ Ok x
    → (w : Walked) × (walked rules j ≡ Ok w) × (x ≡ record { fan = fans_of j w; joining = unjoined j (fans_of j w) })
unfolding edged
edged_walks rules j x e =
    let a = bind_ok (fanned rules j) _ x e in
    let f : Fanned = a.0 in
    let o = bind_ok (one_fan_each rules.profile f.starts f.names) _ x a.2 in
    let b = bind_ok (points_clear FansInBoundary f.walk.uses f.starts f.walk.merge.boundaries f.names) _ x o.2 in
    let c = fanned_walks rules j f a.1 in
    (c.0, c.1, sym (ok_one b.2) ∙ ap (λ (z : Fanned). record { fan = z; joining = unjoined j z }) c.2)

-- with the walks w, edge joining starts from their fans, edges and loops
pub through_joined : (rules : Rules) (j : Job) (w : Walked) (x : Joined) → walked rules j ≡ Ok w → through_joining rules j ≡ Ok x
    → (s : Joining) × (x ≡ record { fan = fans_of j w; joining = s })
    × (maximal_edges j.answers (fans_of j w).starts (fans_of j w).names (length (fans_of j w).names) (unjoined j (fans_of j w)) ≡ Ok s)
unfolding through_joining
through_joined rules j w x q e =
    let a = bind_ok (edged rules j) _ x e in
    let c = edged_walks rules j a.0 a.1 in
    through a.0 (c.2 ∙ ap (λ (v : Walked). record { fan = fans_of j v; joining = unjoined j (fans_of j v) }) (ok_one (sym c.1 ∙ q))) a.2
  where
    through : (y : Joined) → y ≡ record { fan = fans_of j w; joining = unjoined j (fans_of j w) }
        → (maximal_edges j.answers y.fan.starts y.fan.names (length y.fan.names) y.joining >>= λ s. Ok (record { fan = y.fan; joining = s })) ≡ Ok x
        → (s : Joining) × (x ≡ record { fan = fans_of j w; joining = s })
        × (maximal_edges j.answers (fans_of j w).starts (fans_of j w).names (length (fans_of j w).names) (unjoined j (fans_of j w)) ≡ Ok s)
    through y p r =
        let F : Fanned = fans_of j w in
        let z = subst (λ (y : Joined). (maximal_edges j.answers y.fan.starts y.fan.names (length y.fan.names) y.joining >>= λ s. Ok (record { fan = y.fan; joining = s })) ≡ Ok x) p r in
        let m = bind_ok (maximal_edges j.answers F.starts F.names (length F.names) (unjoined j F)) (λ s. Ok (record { fan = F; joining = s })) x z in
        (m.0, sym (ok_one m.2), m.1)

-- joining is reached from the walks
pub joined_walks : (rules : Rules) (j : Job) (x : Joined) → through_joining rules j ≡ Ok x → (w : Walked) × (walked rules j ≡ Ok w)
unfolding through_joining
joined_walks rules j x e =
    let a = bind_ok (edged rules j) _ x e in
    let c = edged_walks rules j a.0 a.1 in
    (c.0, c.1)

-- the shells after joining are those of the walks
pub joined_shells : (rules : Rules) (j : Job) (w : Walked) (x : Joined) (ss : List Shell) → walked rules j ≡ Ok w → through_joining rules j ≡ Ok x
    → shells_of j x.fan.walk ≡ Ok ss → shells_of j w ≡ Ok ss
unfolding fans_of
joined_shells rules j w x ss q e f = ap (λ (y : Joined). shells_of j y.fan.walk) (sym (through_joined rules j w x q e).1) ∙ f

nil_of : {A : Type 0} (l : List A) → length l ≡ 0 → l ≡ []
nil_of [] e = refl
nil_of (x ∷ l) e = absurd (omega arith)

-- without uses there is no fan
pub no_names : (j : Job) (w : Walked) → length w.uses ≡ 0 → (fans_of j w).names ≡ []
unfolding fans_of keep from
no_names j w e = ap (λ n. keep (names_fan j.edges w.uses w.merge.removed (fan_labels j w)) (below n)) e

no_edge_touches : (fault : Fault) (us : List Use) (ts labels : List ℕ) (edges : ℕ) → us ≡ [] → edges_clear fault us ts labels edges ≡ Ok tt
unfolding edge_touches positions
no_edge_touches fault us ts labels edges e =
    ap (λ u. edges_clear fault u ts labels edges) e ∙ ap (clear fault) (keep_nothing (edge_touches [] ts labels) (below edges) (λ x m. refl))

-- without fans no point has more than one
no_fan_shared : (profile : Profile) (starts : List ℕ) → one_fan_each profile starts [] ≡ Ok tt
unfolding shared_points keep
no_fan_shared AnyContact starts = refl
no_fan_shared PrintShop starts = refl

-- without uses joining finds nothing to do
pub none_joined : (rules : Rules) (j : Job) (w : Walked) → length w.uses ≡ 0 → walked rules j ≡ Ok w
    → (through_joining rules j ≡ Ok (record { fan = fans_of j w; joining = unjoined j (fans_of j w) }))
    × (maximal_edges j.answers (fans_of j w).starts (fans_of j w).names (length (fans_of j w).names) (unjoined j (fans_of j w)) ≡ Ok (unjoined j (fans_of j w)))
unfolding through_joining edged fanned maximal_edges contact_points
none_joined rules j w e q =
    let F : Fanned = fans_of j w in
    let names : F.names ≡ [] = no_names j w e in
    let m : maximal_edges j.answers F.starts F.names (length F.names) (unjoined j F) ≡ Ok (unjoined j F) =
    ap (λ (l : List ℕ). maximal_edges j.answers F.starts F.names (length l) (unjoined j F)) names in
    let c : edges_clear PairsInBoundary w.uses w.twins w.merge.boundaries (length j.edges) ≡ Ok tt =
    no_edge_touches PairsInBoundary w.uses w.twins w.merge.boundaries (length j.edges) (nil_of w.uses e) in
    let f : fanned rules j ≡ Ok F = bind_on _ q ∙ bind_on _ c in
    let p : points_clear FansInBoundary F.walk.uses F.starts F.walk.merge.boundaries F.names ≡ Ok tt =
    ap (λ l. points_clear FansInBoundary F.walk.uses F.starts F.walk.merge.boundaries l) names in
    let o : one_fan_each rules.profile F.starts F.names ≡ Ok tt = ap (one_fan_each rules.profile F.starts) names ∙ no_fan_shared rules.profile F.starts in
    let d : edged rules j ≡ Ok (record { fan = F; joining = unjoined j F }) = bind_on _ f ∙ bind_on _ o ∙ bind_on _ p in
    (bind_on _ d ∙ bind_on _ m, m)

-- THE PASSED TOTAL

passed_none : (us : List Use) (ts : List ℕ) (rm : List Bool) (h : ℕ) → is_removed rm h ≡ true → passed_of us ts rm h ≡ 0
unfolding passed_of
passed_none us ts rm h e = rw e

-- the passed counts of all uses have the sum over the kept uses: removed ones have none
passed_sum_lem : (us : List Use) (ts : List ℕ) (rm : List Bool) → length rm ≡ length us
    → sum_of (λ k. k) (passed_counts us ts rm) ≡ sum_of (λ h. get_or (passed_counts us ts rm) h 0) (kept_uses rm)
unfolding passed_counts
passed_sum_lem us ts rm e =
    sum_map (λ k. k) (passed_of us ts rm) (below (length us))
    ∙ sym
    (sum_keep (λ h. not (is_removed rm h)) (λ h. get_or (map (passed_of us ts rm) (below (length us))) h 0) (below (length rm))
    (λ h m r.
    let lt = below_in (length rm) h m in
    get_or_table (passed_of us ts rm) (length us) h 0 (omega (arith, lt, e)) ∙ passed_none us ts rm h (not-false (is_removed rm h) r))
    ∙ ap (λ n. sum_of (λ h. get_or (map (passed_of us ts rm) (below (length us))) h 0) (below n)) e
    ∙ sum_same _ (passed_of us ts rm) (below (length us)) (λ h m. get_or_table (passed_of us ts rm) (length us) h 0 (below_in (length us) h m)))

pub passed_total : (rules : Rules) (j : Job) (w : Walked) → length w.merge.removed ≡ length w.uses → Settled rules j w → sum_of (λ k. k) w.passed ≡ passed_sum w
unfolding walks_of
passed_total rules j w e s =
    let us : uses_of j ≡ w.uses = settled_uses rules j w s in
    let p : passed_counts w.uses w.twins w.merge.removed ≡ w.passed =
    ap (λ (u : List Use). passed_counts u w.twins w.merge.removed) (sym us) ∙ sym (ap (λ (x : Walked). x.passed) s.walks) in
    subst (λ l. sum_of (λ k. k) l ≡ sum_of (λ h. get_or l h 0) (kept_uses w.merge.removed)) p (passed_sum_lem w.uses w.twins w.merge.removed e)
