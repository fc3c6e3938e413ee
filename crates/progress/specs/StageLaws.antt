-- Each stage of the chain is that of `rules`, and the last is sewing.
use Rattle.std.specs.Prelude.{ℕ, ◌≡◌, Bool, true, false, length, eqb, Option, Some, None}
use Rattle.std.proofs.Math.Path.{refl, sym, ap}
use Rattle.std.proofs.Common.{◌∙◌}
use mathlib.Core.List.{List, flat_map}
use Rattle.std.proofs.Math.Bool.{cond}
use Rattle.lists.specs.Lists.{below, keep}
use Rattle.rules.specs.Outcome.{Outcome, Ok, ◌>>=◌}
use Rattle.rules.proofs.OutcomeLaws.{bind_then, bind_same}
use Rattle.rules.specs.Frame.{framed_all}
use Rattle.rules.specs.Job.{Job}
use Rattle.rules.specs.Load.{loaded}
use Rattle.rules.specs.Read.{uses_of}
use Rattle.rules.specs.Pair.{pair}
use Rattle.rules.specs.declared.Rules.{Rules}
use Rattle.rules.specs.Merge.{Merged, merge_faces, merged_faces}
use Rattle.rules.specs.VertexLoops.{vertex_loops}
use Rattle.rules.specs.Contact.{edges_clear, points_clear, one_fan_each}
use Rattle.rules.specs.Fans.{kept_with_ends}
use Rattle.rules.specs.Join.{maximal_edges}
use Rattle.rules.specs.Walk.{loops_of}
use Rattle.rules.specs.Shells.{Nested, nested, lumps}
use Rattle.rules.specs.Body.{Body, empty_body, body_records}
use Rattle.rules.specs.Sew.{Walked, walks_of, walked, Fanned, fans_of, fanned, Joined, unjoined, edged, through_joining, shells_of, lumps_clear, body_of, solid, rebuild, fitting, sewn}
use Rattle.rules.specs.Stage.{pair_stage, merge_stage, vertex_loop_stage, walk_stage, loop_stage, fan_stage, edge_stage, joining_stage, shell_stage, lump_stage, group_fields}
use Rattle.rules.specs.Stage.{kept_fields, kept_uses, walk_fields, loop_fields, fan_fields, joining_fields, shell_fields, lump_fields, stage_bytes}
use Rattle.progress.specs.Chain.{after_lumps, after_nesting, after_shells, after_joining, after_edges, after_fans, after_loops, after_walks}
use Rattle.progress.specs.Chain.{after_keeping, after_merging, after_pairing, after_reading, staged, sewn_from, sewn_by}
use Rattle.rules.specs.declared.Fault.TheVariants.{PairsInBoundary, FansInBoundary}
use Rattle.rules.specs.Operation.{stage_number, is_asked}
use Rattle.rules.specs.declared.Stage.{Stage}
use Rattle.rules.specs.declared.Stage.TheVariants.{Pair, Merge, VertexLoops, Walk, Loops, Fans, Edges, Joining as JoiningStage, Shells, Lumps}

-- THE STAGES UP TO A POINT, AND WHAT IS TO DO AFTER THEM

module _ (rules : Rules) (j : Job) (stage : Option Stage) (room : ℕ) where
  through_walks : is_asked Pair stage ≡ false → is_asked Merge stage ≡ false → after_reading rules stage j room (uses_of j) ≡ (walked rules j >>= after_keeping rules stage j room)
  unfolding walked after_reading after_pairing after_merging
  through_walks b d =
      bind_then (pair rules.profile j.answers (uses_of j) (length j.edges))
      (λ ts. merge_faces rules.table j.answers j.faces (uses_of j) ts >>= λ m. vertex_loops j.answers j.points (merged_faces m) j.loops >>= λ ks. Ok (walks_of (uses_of j) ts m ks))
      (after_keeping rules stage j room)
      (after_pairing rules stage j (uses_of j) room)
      (λ ts. rw b (bind_then (merge_faces rules.table j.answers j.faces (uses_of j) ts)
      (λ m. vertex_loops j.answers j.points (merged_faces m) j.loops >>= λ ks. Ok (walks_of (uses_of j) ts m ks))
      (after_keeping rules stage j room)
      (after_merging rules stage j (uses_of j) ts room)
      (λ m. rw d (bind_then (vertex_loops j.answers j.points (merged_faces m) j.loops)
      (λ ks. Ok (walks_of (uses_of j) ts m ks))
      (after_keeping rules stage j room)
      (λ ks. after_keeping rules stage j room (walks_of (uses_of j) ts m ks))
      (λ ks. refl)))))

  through_fans : is_asked VertexLoops stage ≡ false → is_asked Walk stage ≡ false → is_asked Loops stage ≡ false
      → (walked rules j >>= after_keeping rules stage j room) ≡ (fanned rules j >>= after_fans rules stage j room)
  unfolding fanned after_keeping after_walks after_loops
  through_fans a b d =
      bind_then (walked rules j)
      (λ w. edges_clear PairsInBoundary w.uses w.twins w.merge.boundaries (length j.edges) >>= λ _. Ok (fans_of j w))
      (after_fans rules stage j room)
      (after_keeping rules stage j room)
      (λ w. rw (a, b, d) (bind_then (edges_clear PairsInBoundary w.uses w.twins w.merge.boundaries (length j.edges))
      (λ _. Ok (fans_of j w))
      (after_fans rules stage j room)
      (λ _. after_fans rules stage j room (fans_of j w))
      (λ _. refl)))

  through_edges : is_asked Fans stage ≡ false → (fanned rules j >>= after_fans rules stage j room) ≡ (edged rules j >>= after_edges rules stage j room)
  unfolding edged after_fans
  through_edges a =
      bind_then (fanned rules j)
      (λ f. one_fan_each rules.profile f.starts f.names >>= λ _. apart f)
      (after_edges rules stage j room)
      (after_fans rules stage j room)
      (λ f. rw a (bind_then (one_fan_each rules.profile f.starts f.names)
      (λ _. apart f)
      (after_edges rules stage j room)
      (λ _. points_clear FansInBoundary f.walk.uses f.starts f.walk.merge.boundaries f.names >>= λ _. onward f)
      (λ _. bind_then (points_clear FansInBoundary f.walk.uses f.starts f.walk.merge.boundaries f.names)
      (λ _. Ok (record { fan = f; joining = unjoined j f }))
      (after_edges rules stage j room)
      (λ _. onward f)
      (λ _. refl))))
    where
      apart : Fanned → Outcome Joined
      apart f = points_clear FansInBoundary f.walk.uses f.starts f.walk.merge.boundaries f.names >>= λ _. Ok (record { fan = f; joining = unjoined j f })

      onward : Fanned → Outcome (List ℕ)
      onward f = after_edges rules stage j room (record { fan = f; joining = unjoined j f })

  through_join : is_asked Edges stage ≡ false → (edged rules j >>= after_edges rules stage j room) ≡ (through_joining rules j >>= after_joining stage j room)
  unfolding through_joining after_edges
  through_join a =
      bind_then (edged rules j)
      (λ x. maximal_edges j.answers x.fan.starts x.fan.names (length x.fan.names) x.joining >>= λ s. Ok (record { fan = x.fan; joining = s }))
      (after_joining stage j room)
      (after_edges rules stage j room)
      (λ x. rw a (bind_then (maximal_edges j.answers x.fan.starts x.fan.names (length x.fan.names) x.joining)
      (λ s. Ok (record { fan = x.fan; joining = s }))
      (after_joining stage j room)
      (λ s. after_joining stage j room (record { fan = x.fan; joining = s }))
      (λ s. refl)))

-- SINGLE STAGES

abbrev by_job : Rules → Option Stage → ℕ → Job → Outcome (List ℕ)
by_job rules stage room j = after_reading rules stage j room (uses_of j)

pub stage_pair : (rules : Rules) (job : List ℕ) (room : ℕ) → staged rules (Some Pair) job room ≡ pair_stage rules job room
unfolding staged pair_stage after_reading after_pairing is_asked stage_number
stage_pair rules job room =
    bind_same (loaded job) (by_job rules (Some Pair) room) (λ j. pair rules.profile j.answers (uses_of j) (length j.edges) >>= stage_bytes room)
    (λ j. bind_same (pair rules.profile j.answers (uses_of j) (length j.edges)) (after_pairing rules (Some Pair) j (uses_of j) room) (stage_bytes room) (λ ts. refl))

pub stage_merge : (rules : Rules) (job : List ℕ) (room : ℕ) → staged rules (Some Merge) job room ≡ merge_stage rules job room
unfolding staged merge_stage after_reading after_pairing after_merging is_asked stage_number
stage_merge rules job room =
    bind_same (loaded job) (by_job rules (Some Merge) room)
    (λ j. pair rules.profile j.answers (uses_of j) (length j.edges) >>= λ ts. merge_faces rules.table j.answers j.faces (uses_of j) ts >>= fields j)
    (λ j. bind_same (pair rules.profile j.answers (uses_of j) (length j.edges)) (after_pairing rules (Some Merge) j (uses_of j) room)
    (λ ts. merge_faces rules.table j.answers j.faces (uses_of j) ts >>= fields j)
    (λ ts. bind_same (merge_faces rules.table j.answers j.faces (uses_of j) ts) (after_merging rules (Some Merge) j (uses_of j) ts room) (fields j) (λ m. refl)))
  where
    fields : Job → Merged → Outcome (List ℕ)
    fields j m = stage_bytes room (flat_map (group_fields m) (below (length j.faces)))

module _ (rules : Rules) (job : List ℕ) (room : ℕ) where
  -- a stage after the walks
  from_walks : (stage : Option Stage) (fields : Walked → Outcome (List ℕ)) → is_asked Pair stage ≡ false → is_asked Merge stage ≡ false
      → ((j : Job) (w : Walked) → after_keeping rules stage j room w ≡ fields w) → staged rules stage job room ≡ (loaded job >>= λ j. walked rules j >>= fields)
  unfolding staged
  from_walks stage fields b d e =
      bind_same (loaded job) (by_job rules stage room) (λ j. walked rules j >>= fields)
      (λ j. through_walks rules j stage room b d ∙ bind_same (walked rules j) (after_keeping rules stage j room) fields (e j))

  pub stage_vertex_loops : staged rules (Some VertexLoops) job room ≡ vertex_loop_stage rules job room
  unfolding vertex_loop_stage after_keeping is_asked stage_number
  stage_vertex_loops = from_walks (Some VertexLoops) (λ w. stage_bytes room (flat_map kept_fields w.vertex_loops)) refl refl (λ j w. refl)

  pub stage_walk : staged rules (Some Walk) job room ≡ walk_stage rules job room
  unfolding walk_stage after_keeping after_walks is_asked stage_number
  stage_walk = from_walks (Some Walk) (λ w. stage_bytes room (flat_map (walk_fields w) (kept_uses w.merge.removed))) refl refl (λ j w. refl)

  pub stage_loops : staged rules (Some Loops) job room ≡ loop_stage rules job room
  unfolding loop_stage after_keeping after_walks is_asked stage_number
  stage_loops = from_walks (Some Loops) (λ w. stage_bytes room (flat_map (loop_fields w) (loops_of w.circuits))) refl refl (λ j w. refl)

  -- the fields of the fans of a job
  abbrev fans_out : Job → Fanned → Outcome (List ℕ)
  fans_out j f = stage_bytes room (flat_map (fan_fields f) (keep (kept_with_ends j.edges f.walk.uses f.walk.merge.removed) (below (length f.walk.uses))))

  pub stage_fans : staged rules (Some Fans) job room ≡ fan_stage rules job room
  unfolding staged fan_stage after_fans is_asked stage_number
  stage_fans =
      bind_same (loaded job) (by_job rules (Some Fans) room) (λ j. fanned rules j >>= fans_out j)
      (λ j. through_walks rules j (Some Fans) room refl refl ∙ through_fans rules j (Some Fans) room refl refl refl
      ∙ bind_same (fanned rules j) (after_fans rules (Some Fans) j room) (fans_out j) (λ f. refl))

  pub stage_edges : staged rules (Some Edges) job room ≡ edge_stage rules job room
  unfolding staged edge_stage after_edges is_asked stage_number
  stage_edges =
      bind_same (loaded job) (by_job rules (Some Edges) room) (λ j. edged rules j >>= λ x. stage_bytes room (joining_fields x.joining))
      (λ j. through_walks rules j (Some Edges) room refl refl ∙ through_fans rules j (Some Edges) room refl refl refl ∙ through_edges rules j (Some Edges) room refl
      ∙ bind_same (edged rules j) (after_edges rules (Some Edges) j room) (λ x. stage_bytes room (joining_fields x.joining)) (λ x. refl))

  -- a stage after joining
  from_joining : (stage : Option Stage) (fields : Job → Joined → Outcome (List ℕ)) → is_asked Pair stage ≡ false → is_asked Merge stage ≡ false
      → is_asked VertexLoops stage ≡ false → is_asked Walk stage ≡ false → is_asked Loops stage ≡ false → is_asked Fans stage ≡ false → is_asked Edges stage ≡ false
      → ((j : Job) (x : Joined) → after_joining stage j room x ≡ fields j x) → (j : Job) → by_job rules stage room j ≡ (through_joining rules j >>= fields j)
  from_joining stage fields b d e f g h i same j =
      through_walks rules j stage room b d ∙ through_fans rules j stage room e f g ∙ through_edges rules j stage room h ∙ through_join rules j stage room i
      ∙ bind_same (through_joining rules j) (after_joining stage j room) (fields j) (same j)

  pub stage_joining : staged rules (Some JoiningStage) job room ≡ joining_stage rules job room
  unfolding staged joining_stage after_joining is_asked stage_number
  stage_joining =
      bind_same (loaded job) (by_job rules (Some JoiningStage) room) (λ j. through_joining rules j >>= λ x. stage_bytes room (joining_fields x.joining))
      (from_joining (Some JoiningStage) (λ j x. stage_bytes room (joining_fields x.joining)) refl refl refl refl refl refl refl (λ j x. refl))

  abbrev shells_out : Job → Joined → Outcome (List ℕ)
  shells_out j x = shells_of j x.fan.walk >>= λ ss. stage_bytes room (flat_map shell_fields ss)

  pub stage_shells : staged rules (Some Shells) job room ≡ shell_stage rules job room
  unfolding staged shell_stage after_joining after_shells is_asked stage_number
  stage_shells =
      bind_same (loaded job) (by_job rules (Some Shells) room) (λ j. through_joining rules j >>= shells_out j)
      (from_joining (Some Shells) shells_out refl refl refl refl refl refl refl
      (λ j x. bind_same (shells_of j x.fan.walk) (after_shells (Some Shells) j x room) (λ ss. stage_bytes room (flat_map shell_fields ss)) (λ ss. refl)))

  abbrev nested_out : Job → Joined → (List Nested → Outcome (List ℕ)) → Outcome (List ℕ)
  nested_out j x last = shells_of j x.fan.walk >>= λ ss. nested j.answers ss >>= last

  pub stage_lumps : staged rules (Some Lumps) job room ≡ lump_stage rules job room
  unfolding staged lump_stage after_joining after_shells after_nesting is_asked stage_number
  stage_lumps =
      bind_same (loaded job) (by_job rules (Some Lumps) room) (λ j. through_joining rules j >>= λ x. nested_out j x (λ ns. stage_bytes room (lump_fields 0 (lumps ns))))
      (from_joining (Some Lumps) (λ j x. nested_out j x (λ ns. stage_bytes room (lump_fields 0 (lumps ns)))) refl refl refl refl refl refl refl
      (λ j x. bind_same (shells_of j x.fan.walk) (after_shells (Some Lumps) j x room) (λ ss. nested j.answers ss >>= λ ns. stage_bytes room (lump_fields 0 (lumps ns)))
      (λ ss. bind_same (nested j.answers ss) (after_nesting (Some Lumps) j x room) (λ ns. stage_bytes room (lump_fields 0 (lumps ns))) (λ ns. refl))))

  -- THE BODY

  solid_fits : (j : Job) → by_job rules None room j ≡ (solid rules j >>= λ b. fitting room (framed_all (body_records b)))
  unfolding solid after_joining after_shells after_nesting after_lumps is_asked stage_number
  solid_fits j =
      from_joining None (λ j x. nested_out j x (λ ns. lumps_clear j x.fan ns >>= λ _. fitting room (framed_all (body_records (body_of j x ns))))) refl refl refl refl refl refl refl (λ j x. refl) j
      ∙ bind_then (through_joining rules j)
      (λ x. shells_of j x.fan.walk >>= λ ss. nested j.answers ss >>= λ ns. lumps_clear j x.fan ns >>= λ _. Ok (body_of j x ns))
      whole
      (λ x. nested_out j x (λ ns. lumps_clear j x.fan ns >>= λ _. whole (body_of j x ns)))
      (λ x. bind_then (shells_of j x.fan.walk)
      (λ ss. nested j.answers ss >>= λ ns. lumps_clear j x.fan ns >>= λ _. Ok (body_of j x ns))
      whole
      (λ ss. nested j.answers ss >>= λ ns. lumps_clear j x.fan ns >>= λ _. whole (body_of j x ns))
      (λ ss. bind_then (nested j.answers ss)
      (λ ns. lumps_clear j x.fan ns >>= λ _. Ok (body_of j x ns))
      whole
      (λ ns. lumps_clear j x.fan ns >>= λ _. whole (body_of j x ns))
      (λ ns. bind_then (lumps_clear j x.fan ns) (λ _. Ok (body_of j x ns)) whole (λ _. whole (body_of j x ns)) (λ _. refl))))
    where
      whole : Body → Outcome (List ℕ)
      whole b = fitting room (framed_all (body_records b))

  pub stage_body : sewn_by rules job room ≡ sewn rules job room
  unfolding sewn_by sewn_from sewn rebuild is_asked stage_number
  stage_body =
      bind_same (loaded job)
      (λ j. cond (eqb (length j.faces) 0) (whole empty_body) (by_job rules None room j))
      (λ j. cond (eqb (length j.faces) 0) (Ok empty_body) (solid rules j) >>= whole)
      (λ j. ap (λ o. cond (eqb (length j.faces) 0) (whole empty_body) o) (solid_fits j) ∙ sym (either (eqb (length j.faces) 0) (solid rules j)))
    where
      whole : Body → Outcome (List ℕ)
      whole b = fitting room (framed_all (body_records b))

      either : (t : Bool) (o : Outcome Body) → (cond t (Ok empty_body) o >>= whole) ≡ cond t (whole empty_body) (o >>= whole)
      either true o = refl
      either false o = refl
