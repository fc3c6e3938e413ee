-- Demand 3 as a proposition about a job's bytes, over the definitions of the rules. The statement is `Demand3` at the end.
-- Nothing in it is bounded by a budget of the definitions: what "never" and "back" mean is said by numbers of any size.
use Rattle.std.specs.Prelude.{ℕ, suc, ◌+◌, ◌*◌, ◌<◌, ◌≡◌, Bool, true, false, ◌&&◌, not, length, get_or, eqb, pos, ◌+ℤ◌}
use mathlib.Core.List.{List, [], ◌∷◌, flat_map}
use Rattle.lists.specs.Lists.{below, ◌∈◌, times, some, keep, sum_of, iterate, orbit, Neighbours, neighbours}
use Rattle.rules.specs.declared.Item.{Item}
use Rattle.rules.specs.declared.EdgeData.{EdgeData}
use Rattle.rules.specs.Outcome.{Outcome, Ok, Err}
use Rattle.rules.specs.Fields.{le16, le32}
use Rattle.rules.specs.Job.{unset, Answer, Job}
use Rattle.rules.specs.Load.{loaded}
use Rattle.rules.specs.Read.{uses_of, face_of_use, old_successor}
use Rattle.rules.specs.Groups.{label_of}
use Rattle.rules.specs.Pair.{pair}
use Rattle.rules.specs.declared.Rules.{Rules}
use Rattle.rules.specs.Merge.{merge_faces, merged_faces, is_removed}
use Rattle.rules.specs.VertexLoops.{vertex_loops}
use Rattle.rules.specs.Walk.{turn, meets, passing, successor, Circuit, closes, circuit_uses, loops_of}
use Rattle.rules.specs.Fans.{fan_point}
use Rattle.rules.specs.Edges.{FaceLoop}
use Rattle.rules.specs.Join.{Joining, ends_at, corners_less_edges, item_end, is_place, place_in, Tried, unchanged, changed, at_corner, sweep}
use Rattle.rules.specs.Body.{body_kind}
use Rattle.rules.specs.Sew.{Walked, walks_of, Fanned, fans_of, unjoined, through_joining, sewn}
use Rattle.rules.specs.Stage.{kept_uses}

-- USES

-- h is a removed use; h is a kept use
abbrev pub RemovedUse : Walked → ℕ → Type 0
RemovedUse w h = (h < length w.uses) × (is_removed w.merge.removed h ≡ true)

abbrev pub KeptUse : Walked → ℕ → Type 0
KeptUse w h = (h < length w.uses) × (is_removed w.merge.removed h ≡ false)

-- the turn of h holds a kept use, however far on
abbrev pub HoldsKept : Walked → ℕ → Type 0
HoldsKept w h = (k : ℕ) × KeptUse w (turn w.uses w.twins h k)

-- PASSED COUNTS

-- the passed counts of the walk stage, summed over all kept uses
abbrev pub passed_sum : Walked → ℕ
passed_sum w = sum_of (λ h. get_or w.passed h 0) (kept_uses w.merge.removed)

-- the turn of h holds a kept use among its first uses, as many as there are uses
abbrev pub holds_kept : Walked → ℕ → Bool
holds_kept w h = some (λ k. not (is_removed w.merge.removed (turn w.uses w.twins h k))) (below (length w.uses))

-- the removed uses whose turn holds a kept use
unfoldable pub reached : Walked → List ℕ
reached w = keep (λ h. is_removed w.merge.removed h && holds_kept w h) (below (length w.uses))

-- the sum equals the number of removed uses whose turn holds a kept use; `reached` lists exactly these
pub record PassedCounted (w : Walked) : Type 0 where
  pub counted : passed_sum w ≡ length (reached w)
  pub all : (h : ℕ) → RemovedUse w h → HoldsKept w h → h ∈ reached w
  pub only : (h : ℕ) → h ∈ reached w → RemovedUse w h × HoldsKept w h

-- LOOPS

-- each kept use stands in exactly one loop, once there: over all loops it stands once
abbrev pub EachOnce : Walked → Type 0
EachOnce w = (h : ℕ) → KeptUse w h → sum_of (times h) (loops_of w.circuits) ≡ 1

-- the merged group of a use's face
abbrev pub group_of : Walked → ℕ → ℕ
group_of w h = label_of w.merge.groups (face_of_use w.uses h)

-- all uses of a loop lie in one merged face
abbrev pub OneFace : Walked → Type 0
OneFace w = (c : Circuit) → c ∈ w.circuits → (h k : ℕ) → h ∈ circuit_uses c → k ∈ circuit_uses c → group_of w h ≡ group_of w k

-- NO WALK BREAKS

-- passing over meets a kept use: in the turn of the old successor, after some removed uses; and this is what the walk stage has for h
pub record Meets (w : Walked) (h : ℕ) : Type 0 where
  pub passings : ℕ
  pub over : (i : ℕ) → i < passings → RemovedUse w (turn w.uses w.twins (old_successor w.uses h) i)
  pub kept : KeptUse w (turn w.uses w.twins (old_successor w.uses h) passings)
  pub met : passing w.uses w.twins w.merge.removed h ≡ meets (turn w.uses w.twins (old_successor w.uses h) passings) passings
  pub successor_is : successor w.successors h ≡ turn w.uses w.twins (old_successor w.uses h) passings
  pub passed_is : get_or w.passed h 0 ≡ passings

-- successors lead from s back to s
abbrev pub LeadsBack : Walked → ℕ → Type 0
LeadsBack w s = (k : ℕ) × (iterate (successor w.successors) (suc k) s ≡ s)

-- a loop runs from its start along successors until they lead back to its start
pub record Closes (w : Walked) (c : Circuit) : Type 0 where
  pub start : ℕ
  pub more : ℕ
  pub kept : KeptUse w start
  pub runs : c ≡ closes (orbit (successor w.successors) (suc more) start)
  pub back : iterate (successor w.successors) (suc more) start ≡ start

pub record NeverBreaks (w : Walked) : Type 0 where
  pub meets : (h : ℕ) → KeptUse w h → Meets w h
  pub returns : (s : ℕ) → KeptUse w s → LeadsBack w s
  pub closes : (c : Circuit) → c ∈ w.circuits → Closes w c

-- THE RUN OF EDGE JOINING

-- one change: edges and loops before it, the corner, edges and loops after it
pub record Change : Type 0 where
  pub before : Joining
  pub corner : ℕ
  pub after : Joining

-- the corner where a sweep makes its change, the first that is not left unchanged
abbrev pub corner_if : Outcome Tried → ℕ → List ℕ → List ℕ
corner_if (Ok unchanged) v later = later
corner_if (Ok (changed s)) v later = v ∷ []
corner_if (Err r) v later = []

unfoldable pub changed_corner : List Answer → List ℕ → Joining → List ℕ → List ℕ
changed_corner answers starts s [] = []
changed_corner answers starts s (v ∷ vs) = corner_if (at_corner answers (fan_point starts v) s v (ends_at s.edges v)) v (changed_corner answers starts s vs)

-- edge joining makes the changes of a list, one sweep for each, and then a sweep changes nothing
abbrev pub Run : List Answer → Fanned → Joining → List Change → Joining → Type 0
Run answers f s [] t = (sweep answers f.starts s f.names ≡ Ok unchanged) × (s ≡ t)
Run answers f s (c ∷ cs) t =
    (c.before ≡ s)
    × (changed_corner answers f.starts s f.names ≡ c.corner ∷ [])
    × (sweep answers f.starts s f.names ≡ Ok (changed c.after))
    × Run answers f c.after cs t

-- a change turns an edge into a ring where the two active edge ends at its corner are of one edge; else it is a join
abbrev pub ends_of : Change → List ℕ
ends_of c = ends_at c.before.edges c.corner

abbrev pub is_ring : Change → Bool
is_ring c = eqb (get_or (ends_of c) 0 0) (get_or (ends_of c) 1 0)

-- the number of edges turned into rings, and of joins
abbrev pub rings_of : List Change → ℕ
rings_of cs = length (keep is_ring cs)

abbrev pub joins_of : List Change → ℕ
joins_of cs = length (keep (λ c. not (is_ring c)) cs)

-- an active edge is a ring: 4,294,967,295 in both ends
abbrev pub is_active_ring : EdgeData → Bool
is_active_ring e = e.active && (eqb e.start unset && eqb e.end unset)

-- the active edges that are rings
abbrev pub active_rings : List EdgeData → List EdgeData
active_rings es = keep is_active_ring es

-- LOOP PLACES

-- Joining, the term "loop place" at corner v: an item ending there, with its next item
abbrev pub is_loop_place : List EdgeData → ℕ → Neighbours Item → Bool
is_loop_place es v p = eqb (item_end es p.here) v

-- the loop places at corner v of all loops
abbrev pub places_at : List EdgeData → ℕ → List FaceLoop → List (Neighbours Item)
places_at es v ls = flat_map (λ l. keep (is_loop_place es v) (neighbours l.items)) ls

-- the loops in which the join of edges a and b at corner v finds a place
abbrev pub found_in : List EdgeData → ℕ → ℕ → ℕ → List FaceLoop → List FaceLoop
found_in es v a b ls = keep (λ l. not (eqb (place_in es v a b l.items) (length l.items))) ls

-- the items of edge e in all loops
abbrev pub items_with : ℕ → List FaceLoop → List Item
items_with e ls = flat_map (λ l. keep (λ x. eqb x.edge e) l.items) ls

-- a join finds exactly two loop places: there are two at its corner, it finds one in two loops, and afterwards the new edge, numbered last, stands at two
pub record TwoPlaces (c : Change) : Type 0 where
  pub places : length (places_at c.before.edges c.corner c.before.loops) ≡ 2
  pub found : length (found_in c.before.edges c.corner (get_or (ends_of c) 0 0) (get_or (ends_of c) 1 0) c.before.loops) ≡ 2
  pub replaced : length (items_with (length c.before.edges) c.after.loops) ≡ 2
  -- of any item of a loop and its next, the test that finds the places of the join says just whether they are a loop place
  pub agrees : (l : FaceLoop) → l ∈ c.before.loops → (p : Neighbours Item) → p ∈ neighbours l.items
      → is_place c.before.edges c.corner (get_or (ends_of c) 0 0) (get_or (ends_of c) 1 0) p ≡ is_loop_place c.before.edges c.corner p

-- each join finds exactly two loop places
abbrev pub EachJoin : List Change → Type 0
EachJoin cs = (c : Change) → c ∈ cs → is_ring c ≡ false → TwoPlaces c

-- THE BODY

-- field i of the Body record, the first of the bytes written
abbrev pub body_field : List ℕ → ℕ → ℕ
body_field bytes i = le32 bytes (6 + 4 * i)

-- the body reports the sum of the passed counts, the number of joins and that number of rings, beside its kind, uses and removed uses
pub record Reports (j : Job) (w : Walked) (cs : List Change) (bytes : List ℕ) : Type 0 where
  pub kind : le16 bytes 4 ≡ 21
  pub solid : body_field bytes 0 ≡ body_kind (not (eqb (length j.faces) 0))
  pub uses : body_field bytes 1 ≡ length w.uses
  pub removed : body_field bytes 2 ≡ length (keep (is_removed w.merge.removed) (below (length w.uses)))
  pub passed : body_field bytes 3 ≡ passed_sum w
  pub joins : body_field bytes 4 ≡ joins_of cs
  pub rings : body_field bytes 5 ≡ rings_of cs

-- THE STATEMENT

-- the job pairs fully, its surface and vertex-loop questions are answered and decided, no normal vanishes; w is what the walk stage makes of it
pub record Settled (rules : Rules) (j : Job) (w : Walked) : Type 0 where
  pub pairs : pair rules.profile j.answers (uses_of j) (length j.edges) ≡ Ok w.twins
  pub surfaces : merge_faces rules.table j.answers j.faces (uses_of j) w.twins ≡ Ok w.merge
  pub vertices : vertex_loops j.answers j.points (merged_faces w.merge) j.loops ≡ Ok w.vertex_loops
  pub walks : w ≡ walks_of (uses_of j) w.twins w.merge w.vertex_loops

-- what holds of the walks
pub record WalksHold (w : Walked) : Type 0 where
  pub passed : PassedCounted w
  pub once : EachOnce w
  pub one_face : OneFace w
  pub unbroken : NeverBreaks w

-- what holds of edge joining and of the bytes written for an accepted job: its changes, and the edges and loops where they end
pub record JoiningHolds (rules : Rules) (j : Job) (w : Walked) (bytes : List ℕ) : Type 0 where
  pub changes : List Change
  pub ending : Joining
  pub joined : through_joining rules j ≡ Ok (record { fan = fans_of j w; joining = ending })
  pub run : Run j.answers (fans_of j w) (unjoined j (fans_of j w)) changes ending
  pub balance :
      corners_less_edges (unjoined j (fans_of j w)).edges (fans_of j w).names
      ≡ corners_less_edges ending.edges (fans_of j w).names +ℤ pos (rings_of changes)
  -- where joining ends there are more active rings than where it starts, by the number of edges turned into rings
  pub rings : length (active_rings ending.edges) ≡ length (active_rings (unjoined j (fans_of j w)).edges) + rings_of changes
  pub places : EachJoin changes
  pub reports : Reports j w changes bytes

-- demand 3, for the rules that sewing runs by
abbrev pub Demand3 : Rules → List ℕ → Type 0
Demand3 rules job =
    (j : Job) (w : Walked) → loaded job ≡ Ok j → Settled rules j w
    → WalksHold w × ((room : ℕ) (bytes : List ℕ) → sewn rules job room ≡ Ok bytes → JoiningHolds rules j w bytes)
