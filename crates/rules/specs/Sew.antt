-- Sewing: the stages one after the other, from a job's bytes to the body's bytes or a refusal.
use Rattle.std.specs.Prelude.{ℕ, ◌≡◌, List, ◌++◌, true, cond, length, drop, eqb, leb}
use Rattle.lists.specs.Lists.{keep, sum_of}
use Rattle.rules.specs.declared.Use.{Use}
use Rattle.rules.specs.declared.KeptVertexLoop.{KeptVertexLoop}
use Rattle.rules.specs.Outcome.{Outcome, Ok, ◌>>=◌, need, Err}
use Rattle.rules.specs.Frame.{framed_all}
use Rattle.rules.specs.Job.{Job}
use Rattle.rules.specs.Load.{loaded}
use Rattle.rules.specs.Read.{uses_of}
use Rattle.rules.specs.Groups.{lowest_members}
use Rattle.rules.specs.Pair.{pair}
use Rattle.rules.specs.declared.Rules.{Rules}
use Rattle.rules.specs.Rules.{with_table, table_of}
use Rattle.rules.specs.Merge.{Merged, merge_faces, merged_faces}
use Rattle.rules.specs.VertexLoops.{vertex_loops}
use Rattle.rules.specs.Walk.{successors, passed_counts, Circuit, circuits, loops_of}
use Rattle.rules.specs.Fans.{fans, fan_names, start_points}
use Rattle.rules.specs.Contact.{edges_clear, points_clear, one_fan_each}
use Rattle.rules.specs.Edges.{edges_of, face_loops}
use Rattle.rules.specs.Join.{Joining, maximal_edges}
use Rattle.rules.specs.Shells.{Shell, all_shell_faces, shells, Nested, nested, lumps, lump_labels}
use Rattle.rules.specs.Body.{Totals, Body, empty_body, solid_body, body_records}
use Rattle.rules.specs.declared.Fault.TheVariants.{PairsInBoundary, FansInBoundary, FansInLump, PairsInLump, NoRoom}

-- THROUGH THE WALKS

-- what the stages through the walks give
pub record Walked : Type 0 where
  pub uses : List Use
  pub twins : List ℕ
  pub merge : Merged
  pub vertex_loops : List KeptVertexLoop
  pub successors : List ℕ
  pub passed : List ℕ
  pub circuits : List Circuit

-- the walks of merged faces
unfoldable pub walks_of : List Use → List ℕ → Merged → List KeptVertexLoop → Walked
walks_of us ts m ks =
    let ss = successors us ts m.removed in
    record {
      uses = us;
      twins = ts;
      merge = m;
      vertex_loops = ks;
      successors = ss;
      passed = passed_counts us ts m.removed;
      circuits = circuits m.removed ss;
    }

-- The stages: reading, pairing, merging, vertex loops, walks
unfoldable pub walked : Rules → Job → Outcome Walked
walked rules j =
    let us = uses_of j in
    pair rules.profile j.answers us (length j.edges) >>= λ ts.
    merge_faces rules.table j.answers j.faces us ts >>= λ m.
    vertex_loops j.answers j.points (merged_faces m) j.loops >>= λ ks.
    Ok (walks_of us ts m ks)

-- THROUGH JOINING

-- what the fans add: each use's fan, the fans by name, the point where each use starts
pub record Fanned : Type 0 where
  pub walk : Walked
  pub fans : List ℕ
  pub names : List ℕ
  pub starts : List ℕ

unfoldable pub fans_of : Job → Walked → Fanned
fans_of j w =
    let g = fans j.edges w.uses w.twins w.merge.removed w.successors in
    record {
      walk = w;
      fans = g;
      names = fan_names j.edges w.uses w.merge.removed g;
      starts = start_points j.points j.edges w.uses;
    }

-- The stages: contact test 30, then fans
unfoldable pub fanned : Rules → Job → Outcome Fanned
fanned rules j = walked rules j >>= λ w.
    edges_clear PairsInBoundary w.uses w.twins w.merge.boundaries (length j.edges) >>= λ _.
    Ok (fans_of j w)

-- the edges and loops before any change
unfoldable pub unjoined : Job → Fanned → Joining
unjoined j f =
    let w = f.walk in
    let numbers = merged_faces w.merge in
    record {
      edges = edges_of j.edges w.uses w.twins w.merge.removed numbers w.successors f.fans;
      loops = face_loops w.uses w.twins w.merge.removed numbers (loops_of w.circuits);
      joins = 0;
      rings = 0;
    }

-- fans, and edges and loops over them
pub record Joined : Type 0 where
  pub fan : Fanned
  pub joining : Joining

-- The stages: contact test 31, then edges. Two: before it 42, right after 30
unfoldable pub edged : Rules → Job → Outcome Joined
edged rules j = fanned rules j >>= λ f.
    one_fan_each rules.profile f.starts f.names >>= λ _.
    points_clear FansInBoundary f.walk.uses f.starts f.walk.merge.boundaries f.names >>= λ _.
    Ok (record { fan = f; joining = unjoined j f })

-- The stages: joining
unfoldable pub through_joining : Rules → Job → Outcome Joined
through_joining rules j = edged rules j >>= λ x.
    let f = x.fan in
    maximal_edges j.answers f.starts f.names (length f.names) x.joining >>= λ s.
    Ok (record { fan = f; joining = s })

-- SHELLS AND THE BODY

-- The stages: shells
abbrev pub shells_of : Job → Walked → Outcome (List Shell)
shells_of j w = shells j.answers j.proven (all_shell_faces w.merge.boundaries w.merge.groups)

-- Endings: contact tests 32, then 33, by lump
unfoldable pub lumps_clear : Job → Fanned → List Nested → Outcome (Unit {0})
lumps_clear j f ns =
    let w = f.walk in
    let labels = lump_labels w.merge.boundaries ns in
    points_clear FansInLump w.uses f.starts labels f.names >>= λ _.
    edges_clear PairsInLump w.uses w.twins labels (length j.edges)

-- Body records, 21: passed in total, summed over kept uses (a removed use has none)
abbrev pub totals_of : Walked → Joining → Totals
totals_of w s = record {
  solid = true;
  uses = length w.uses;
  removed = length (keep (λ gone. gone) w.merge.removed);
  passed = sum_of (λ k. k) w.passed;
  joins = s.joins;
  rings = s.rings;
  face_joins = w.merge.joins;
}

-- the body of what was joined and nested
unfoldable pub body_of : Job → Joined → List Nested → Body
body_of j x ns =
    let w = x.fan.walk in
    let s = x.joining in
    solid_body (totals_of w s) j.faces w.merge.groups x.fan.starts s.edges s.loops (lowest_members w.merge.groups) w.vertex_loops (lumps ns)

-- The stages, in the order of their refusals: the body of a job with faces
unfoldable pub solid : Rules → Job → Outcome Body
solid rules j =
    through_joining rules j >>= λ x.
    shells_of j x.fan.walk >>= λ ss.
    nested j.answers ss >>= λ ns.
    lumps_clear j x.fan ns >>= λ _.
    Ok (body_of j x ns)

-- the body of a job; one that selects no face gives an Empty body
unfoldable pub rebuild : Rules → Job → Outcome Body
rebuild rules j =
    let full = solid rules j in
    cond (eqb (length j.faces) 0) (Ok empty_body) full

-- THE WHOLE

-- Endings, 40: records exceed the output, with the bytes needed
abbrev pub fitting : ℕ → List ℕ → Outcome (List ℕ)
fitting room bytes = need (leb (length bytes) room) NoRoom (length bytes) (Ok bytes)

-- Endings: sewing a job into an output of so many bytes gives the bytes written, or the refusal
unfoldable pub sewn : Rules → List ℕ → ℕ → Outcome (List ℕ)
sewn rules job room = loaded job >>= λ j. rebuild rules j >>= λ b. fitting room (framed_all (body_records b))

-- Eleven: sewing with a table supplied with the call; 48 comes before all else
unfoldable pub sewn_with_table : List ℕ → List ℕ → ℕ → Outcome (List ℕ)
sewn_with_table table job room = table_of table >>= λ t. sewn (with_table t) job room

-- Endings: a refusal writes nothing; success fills the start, later bytes of the output stay
abbrev pub written : Outcome (List ℕ) → List ℕ → List ℕ
written (Ok bytes) out = bytes ++ drop (length bytes) out
written (Err refusal) out = out

-- Endings: success gives the number of bytes written, a refusal its number and one place
abbrev pub ended : Outcome (List ℕ) → Outcome ℕ
ended (Ok bytes) = Ok (length bytes)
ended (Err refusal) = Err refusal

-- Endings: an operation that found this outcome has this answer and leaves this output
abbrev pub Ends : Outcome (List ℕ) → List ℕ → List ℕ → Outcome ℕ → Type 0
Ends o before after answer = (answer ≡ ended o) × (after ≡ written o before)
