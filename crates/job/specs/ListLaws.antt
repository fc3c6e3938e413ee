-- The entries of the job's lists, within and past their ends.
use Rattle.std.specs.Prelude.{ℕ, ◌+◌, ◌*◌, ◌<◌, ◌≤◌, ◌≡◌, ◌≢◌, List, true, false, eqb, map, get_or}
use Rattle.std.proofs.Common.{arith, eq-eqb, ap}
use Rattle.std.proofs.Math.ListN.{get_or-eq_default}
use Rattle.lists.specs.Lists.{below}
use Rattle.lists.specs.Runs.{length_table, get_or_table}
use Rattle.rules.specs.declared.Counts.{Counts}
use Rattle.rules.specs.Fields.{le32}
use Rattle.rules.specs.Job.{no_edge, edge_at, no_face, face_at}
use Rattle.rules.specs.declared.Kind.{Kind}
use Rattle.rules.specs.declared.Kind.TheVariants.{LoopRecord}
use Rattle.rules.specs.Kinds.{number_of}
use Rattle.job.specs.Apart.{other_kind}
use Rattle.job.specs.Lists.{point_in, points_in, edge_in, edge_place, edges_in, face_byte, face_in, faces_in}

-- past the end of a table
table_past : {A : Type 0} (f : ℕ → A) (n i : ℕ) (d : A) → n ≤ i → get_or (map f (below n)) i d ≡ d
table_past f n i d h = get_or-eq_default (map f (below n)) d (omega (arith, length_table f n))

pub points_at : (bytes : List ℕ) (c : Counts) (v : ℕ) → v < c.vertices → get_or (points_in bytes c) v 0 ≡ le32 bytes (16 + 10 * v)
unfolding points_in
points_at bytes c v h = get_or_table (point_in bytes) c.vertices v 0 h

pub points_past : (bytes : List ℕ) (c : Counts) (v : ℕ) → c.vertices ≤ v → get_or (points_in bytes c) v 0 ≡ 0
unfolding points_in
points_past bytes c v h = table_past (point_in bytes) c.vertices v 0 h

pub edges_at : (bytes : List ℕ) (c : Counts) (e : ℕ) → e < c.edges → edge_at (edges_in bytes c) e ≡ edge_in bytes (edge_place c e)
unfolding edges_in
edges_at bytes c e h = get_or_table (λ k. edge_in bytes (edge_place c k)) c.edges e no_edge h

pub edges_past : (bytes : List ℕ) (c : Counts) (e : ℕ) → c.edges ≤ e → edge_at (edges_in bytes c) e ≡ no_edge
unfolding edges_in
edges_past bytes c e h = table_past (λ k. edge_in bytes (edge_place c k)) c.edges e no_edge h

pub faces_at : (bytes ix : List ℕ) (c : Counts) (f : ℕ) → f < c.faces → face_at (faces_in bytes ix c) f ≡ face_in bytes (face_byte ix f)
unfolding faces_in
faces_at bytes ix c f h = get_or_table (λ k. face_in bytes (face_byte ix k)) c.faces f no_face h

pub faces_past : (bytes ix : List ℕ) (c : Counts) (f : ℕ) → c.faces ≤ f → face_at (faces_in bytes ix c) f ≡ no_face
unfolding faces_in
faces_past bytes ix c f h = table_past (λ k. face_in bytes (face_byte ix k)) c.faces f no_face h

-- a loop of edges, by its kind
pub of_loop : (k : Kind) → k ≡ LoopRecord → eqb (number_of k) 5 ≡ true
unfolding number_of
of_loop k e = eq-eqb (number_of k) 5 (ap number_of e)

pub of_no_loop : (k : Kind) → k ≢ LoopRecord → eqb (number_of k) 5 ≡ false
unfolding number_of
of_no_loop k n = other_kind k LoopRecord n
