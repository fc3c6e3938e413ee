-- A settled job: it reaches the walks, and what loading, pairing, merging and the walks give of it.
use Rattle.std.specs.Prelude.{ℕ, ◌<◌, ◌≤◌, ◌≡◌, refl, List, false, length}
use Rattle.std.proofs.Common.{arith, sym, ap, ◌∙◌, subst}
use Rattle.rules.specs.declared.Use.{Use}
use Rattle.rules.specs.Outcome.{Ok}
use Rattle.rules.proofs.OutcomeLaws.{ok_one, bind_ok, bind_on}
use Rattle.rules.specs.Job.{Job, ring, point_at}
use Rattle.rules.specs.Load.{loaded}
use Rattle.rules.specs.Read.{uses_of, use_at, edge_of_use, use_start, face_of_use, old_successor}
use Rattle.rules.specs.Groups.{label_of}
use Rattle.rules.specs.Pair.{pair, twin_of}
use Rattle.rules.specs.declared.Rules.{Rules}
use Rattle.rules.specs.Merge.{merge_faces, merged_faces, is_removed}
use Rattle.rules.specs.VertexLoops.{vertex_loops}
use Rattle.rules.specs.Sew.{Walked, walks_of, walked}
use Rattle.theorems.specs.Sound.{Sound}
use Rattle.theorems.specs.Linked.{Twins, Linked}
use Rattle.theorems.specs.Demand3.{WalksHold, Settled}
use Rattle.theorems.proofs.Loading.{loaded_sound}
use Rattle.theorems.proofs.Reading.{use_face_below, next_below, next_one_to_one, next_face_lem}
use Rattle.theorems.specs.Joints.{use_end}
use Rattle.theorems.proofs.Joints.{next_ring, next_starts}
use Rattle.theorems.proofs.Pairing.{pairs_fully}
use Rattle.theorems.specs.Merging.{merge_grouping}
use Rattle.theorems.proofs.Merging.{merge_groups, merged_fewer, linked, kept_apart}
use Rattle.theorems.proofs.Walks.{walks_hold}
use Rattle.theorems.specs.Ground.{Ground}

-- REACHING THE WALKS

pub settled_walked : (rules : Rules) (j : Job) (w : Walked) → Settled rules j w → walked rules j ≡ Ok w
unfolding walked
settled_walked rules j w s =
    bind_on _ s.pairs ∙ bind_on _ s.surfaces ∙ bind_on _ s.vertices ∙ ap Ok (sym s.walks)

pub walked_settled : (rules : Rules) (j : Job) (w : Walked) → walked rules j ≡ Ok w → Settled rules j w
unfolding walked walks_of
walked_settled rules j w e =
    let us = uses_of j in
    let a = bind_ok (pair rules.profile j.answers us (length j.edges)) _ w e in
    let b = bind_ok (merge_faces rules.table j.answers j.faces us a.0) _ w a.2 in
    let c = bind_ok (vertex_loops j.answers j.points (merged_faces b.0) j.loops) _ w b.2 in
    subst (Settled rules j) (ok_one c.2) (record { pairs = a.1; surfaces = b.1; vertices = c.1; walks = refl })

-- THE GROUND

-- the uses of a settled job
pub settled_uses : (rules : Rules) (j : Job) (w : Walked) → Settled rules j w → uses_of j ≡ w.uses
unfolding walks_of
settled_uses rules j w s = sym (ap (λ (x : Walked). x.uses) s.walks)

pub ground : (rules : Rules) (job : List ℕ) (j : Job) (w : Walked) → loaded job ≡ Ok j → Settled rules j w → Ground j w
ground rules job j w l s =
    let us : List Use = uses_of j in
    let S : Sound j = loaded_sound job j l in
    let T : Twins us w.twins = pairs_fully rules.profile j.answers us w.twins (length j.edges) (omega (arith, S.few)) s.pairs in
    let L : Linked us w.twins w.merge.removed w.merge.groups =
    linked rules.table j.answers j.faces us w.twins w.merge s.surfaces T (next_below j) (next_one_to_one j) (next_face_lem j) in
    let e : us ≡ w.uses = settled_uses rules j w s in
    record {
      few = subst (λ (u : List Use). length u ≤ 2048) e S.few;
      twins = subst (λ (u : List Use). Twins u w.twins) e T;
      linked = subst (λ (u : List Use). Linked u w.twins w.merge.removed w.merge.groups) e L;
      next_ring =
          subst (λ (u : List Use). (h : ℕ) → h < length u → ring (edge_of_use j.edges (use_at u (old_successor u h))) ≡ ring (edge_of_use j.edges (use_at u h))) e
          (next_ring j S);
      next_start =
          subst
          (λ (u : List Use). (h : ℕ) → h < length u → ring (edge_of_use j.edges (use_at u h)) ≡ false
          → point_at j.points (use_start j.edges (use_at u (old_successor u h))) ≡ point_at j.points (use_end j.edges (use_at u h))) e
          (next_starts j S);
      apart =
          subst (λ (u : List Use). (h : ℕ) → (h < length u) × (is_removed w.merge.removed h ≡ false)
          → label_of w.merge.groups (face_of_use u h) ≡ label_of w.merge.groups (face_of_use u (twin_of w.twins h)) → ⊥) e
          (λ h k. kept_apart rules.table j.answers j.faces us w.twins w.merge s.surfaces h k.0 k.1);
      walks = subst WalksHold (sym s.walks) (walks_hold us w.twins w.merge w.vertex_loops L);
      fewer =
          merged_fewer rules.table j.answers j.faces us w.twins (merge_grouping w.merge) (merge_groups rules.table j.answers j.faces us w.twins w.merge s.surfaces)
          (use_face_below j S) T.below;
    }
