-- 41 and 42 arise only in the print-shop profile: whatever the joining table, no stage of other sewing is refused with them.
use Rattle.std.specs.Prelude.{ℕ, ◌%◌, ◌≡◌, refl, not, List, [], ◌∷◌, length, replicate, eqb, Option, Some, None}
use Rattle.lists.specs.Lists.{below, has, least, index_of}
use Rattle.rules.specs.declared.Fault.{Fault}
use Rattle.rules.specs.declared.Fault.TheVariants.{EqualSenses, OddUses, SamePredecessor, NoTwin, NotRound, PairsInBoundary, FansInBoundary, FansInLump, PairsInLump}
use Rattle.rules.specs.declared.Profile.TheVariants.{AnyContact}
use Rattle.rules.specs.declared.Refusal.{Refusal}
use Rattle.rules.specs.declared.Table.{Table}
use Rattle.rules.specs.declared.Use.{Use}
use Rattle.rules.specs.Outcome.{Outcome, Ok, Err, ◌>>=◌, fault_number, need, throughout}
use Rattle.rules.specs.Sense.{same_sense}
use Rattle.rules.specs.Job.{unset, Answer, Job}
use Rattle.rules.specs.Questions.{find, ordered, ask_radial}
use Rattle.rules.specs.Load.{loaded}
use Rattle.rules.specs.Read.{uses_of, use_at}
use Rattle.rules.specs.Pair.{uses_of_edge, twinned, same_use, pair_two, each_once, take_predecessor, take_predecessors, last_of, pair_round, pair_uses, pair_edge, complete, pair}
use Rattle.rules.specs.Rules.{with_table}
use Rattle.rules.specs.Merge.{merge_faces, merged_faces}
use Rattle.rules.specs.VertexLoops.{vertex_loops}
use Rattle.rules.specs.Contact.{contact_points, clear, edges_clear, points_clear}
use Rattle.rules.specs.Join.{maximal_edges}
use Rattle.rules.specs.Shells.{Nested, all_shell_faces, nested, lump_labels}
use Rattle.rules.specs.Frame.{framed_all}
use Rattle.rules.specs.Body.{empty_body, body_records}
use Rattle.rules.specs.Sew.{Walked, walked, Fanned, fanned, edged, through_joining, shells_of, lumps_clear, solid, rebuild, fitting, sewn}
use Rattle.theorems.specs.PrintShop.{AnotherFault}
use Rattle.theorems.proofs.Refused.{Within, within_bind, within_need, within_cond, within_through, within_more, within_refusal, Neither, plain_neither, neither_fault, Plain}
use Rattle.theorems.proofs.Refused.{loaded_plain, merged_plain, vertex_loops_plain, maximal_plain, shells_plain, nested_plain, fitting_plain}

-- a stage whose refusals are plain gives neither
plain_stage : {A : Type 0} (o : Outcome A) → Within Plain o → Within Neither o
plain_stage o h = within_more Plain Neither plain_neither o h

-- PAIRING

module _ (answers : List Answer) (us : List Use) where
  two_neither : (e a b : ℕ) (ts : List ℕ) → Within Neither (pair_two us e a b ts)
  unfolding pair_two fault_number has
  two_neither e a b ts = within_need Neither (not (same_sense (use_at us a).sense (use_at us b).sense)) EqualSenses e (Ok (twinned ts a b)) refl tt

  predecessor_neither : (e p h : ℕ) (ts : List ℕ) → Within Neither (take_predecessor us e p h ts)
  unfolding take_predecessor fault_number has
  predecessor_neither e p h ts =
      within_cond Neither (same_use us h) (need (not (same_use us p)) SamePredecessor e (Ok (twinned ts h p))) (Ok ts)
      (within_need Neither (not (same_use us p)) SamePredecessor e (Ok (twinned ts h p)) refl tt) tt

  predecessors_neither : (e p : ℕ) (hs ts : List ℕ) → Within Neither (take_predecessors us e p hs ts)
  unfolding take_predecessors
  predecessors_neither e p [] ts = tt
  predecessors_neither e p (h ∷ hs) ts =
      within_bind Neither (take_predecessor us e p h ts) (take_predecessors us e h hs) (predecessor_neither e p h ts) (λ later q. predecessors_neither e h hs later)

  ordered_neither : (o : Option (List ℕ)) → Within Neither (ordered o)
  unfolding ordered fault_number has
  ordered_neither None = refl
  ordered_neither (Some []) = refl
  ordered_neither (Some (h ∷ hs)) = tt

  round_neither : (e : ℕ) (hs ts : List ℕ) → Within Neither (pair_round answers us e hs ts)
  unfolding pair_round fault_number has
  round_neither e hs ts =
      within_bind Neither (ask_radial answers e) _ (ordered_neither (find answers 7 (e ∷ [])))
      (λ order q. within_need Neither (each_once hs order) NotRound e (take_predecessors us e (last_of 0 order) order ts) refl
      (predecessors_neither e (last_of 0 order) order ts))

  uses_neither : (e : ℕ) (hs ts : List ℕ) → Within Neither (pair_uses AnyContact answers us e hs ts)
  unfolding pair_uses fault_number has
  uses_neither e [] ts = tt
  uses_neither e (a ∷ []) ts = refl
  uses_neither e (a ∷ b ∷ []) ts = two_neither e a b ts
  uses_neither e (a ∷ b ∷ c ∷ more) ts =
      within_need Neither (eqb (length (a ∷ b ∷ c ∷ more) % 2) 0) OddUses e (pair_round answers us e (a ∷ b ∷ c ∷ more) ts) refl
      (round_neither e (a ∷ b ∷ c ∷ more) ts)

  pair_neither : (edges : ℕ) → Within Neither (pair AnyContact answers us edges)
  unfolding pair complete fault_number has
  pair_neither edges =
      within_bind Neither (throughout (pair_edge AnyContact answers us) (below edges) (replicate (length us) unset)) complete
      (within_through Neither (pair_edge AnyContact answers us) (below edges) (replicate (length us) unset) (λ e ts. uses_neither e (uses_of_edge us e) ts))
      (λ ts q. within_need Neither (not (has unset ts)) NoTwin (index_of unset ts) (Ok ts) refl tt)

-- CONTACTS

clear_neither : (fault : Fault) → ((place : ℕ) → Neither (record { fault = fault; place = place })) → (places : List ℕ) → Within Neither (clear fault places)
clear_neither fault h [] = tt
clear_neither fault h (p ∷ ps) = h (least (p ∷ ps) p)

lumps_neither : (j : Job) (f : Fanned) (ns : List Nested) → Within Neither (lumps_clear j f ns)
unfolding lumps_clear fault_number has
lumps_neither j f ns =
    let w : Walked = f.walk in
    let labels : List ℕ = lump_labels w.merge.boundaries ns in
    within_bind Neither (points_clear FansInLump w.uses f.starts labels f.names) _
    (clear_neither FansInLump (λ p. refl) (contact_points w.uses f.starts labels f.names))
    (λ u q. clear_neither PairsInLump (λ p. refl) _)

-- THE STAGES

module _ (t : Table) (j : Job) where
  abbrev us : List Use
  us = uses_of j

  walked_neither : Within Neither (walked (with_table t) j)
  unfolding walked
  walked_neither =
      within_bind Neither (pair AnyContact j.answers us (length j.edges)) _ (pair_neither j.answers us (length j.edges))
      (λ ts e. within_bind Neither (merge_faces t j.answers j.faces us ts) _
      (plain_stage (merge_faces t j.answers j.faces us ts) (merged_plain j.answers t j.faces us ts))
      (λ m d. within_bind Neither (vertex_loops j.answers j.points (merged_faces m) j.loops) _
      (plain_stage (vertex_loops j.answers j.points (merged_faces m) j.loops) (vertex_loops_plain j.answers j.points (merged_faces m) j.loops))
      (λ ks c. tt)))

  fanned_neither : Within Neither (fanned (with_table t) j)
  unfolding fanned fault_number has
  fanned_neither =
      within_bind Neither (walked (with_table t) j) _ walked_neither
      (λ w e. within_bind Neither (edges_clear PairsInBoundary w.uses w.twins w.merge.boundaries (length j.edges)) _
      (clear_neither PairsInBoundary (λ p. refl) _) (λ u d. tt))

  edged_neither : Within Neither (edged (with_table t) j)
  unfolding edged fault_number has
  edged_neither =
      within_bind Neither (fanned (with_table t) j) _ fanned_neither
      (λ f e. within_bind Neither (points_clear FansInBoundary f.walk.uses f.starts f.walk.merge.boundaries f.names) _
      (clear_neither FansInBoundary (λ p. refl) (contact_points f.walk.uses f.starts f.walk.merge.boundaries f.names)) (λ v c. tt))

  joined_neither : Within Neither (through_joining (with_table t) j)
  unfolding through_joining
  joined_neither =
      within_bind Neither (edged (with_table t) j) _ edged_neither
      (λ x e. within_bind Neither (maximal_edges j.answers x.fan.starts x.fan.names (length x.fan.names) x.joining) _
      (plain_stage (maximal_edges j.answers x.fan.starts x.fan.names (length x.fan.names) x.joining)
      (maximal_plain j.answers x.fan.starts x.fan.names (length x.fan.names) x.joining)) (λ s d. tt))

  solid_neither : Within Neither (solid (with_table t) j)
  unfolding solid
  solid_neither =
      within_bind Neither (through_joining (with_table t) j) _ joined_neither
      (λ x e. within_bind Neither (shells_of j x.fan.walk) _
      (plain_stage (shells_of j x.fan.walk) (shells_plain j.answers j.proven (all_shell_faces x.fan.walk.merge.boundaries x.fan.walk.merge.groups)))
      (λ ss d. within_bind Neither (nested j.answers ss) _ (plain_stage (nested j.answers ss) (nested_plain j.answers ss))
      (λ ns c. within_bind Neither (lumps_clear j x.fan ns) _ (lumps_neither j x.fan ns) (λ u b. tt))))

  rest_neither : (room : ℕ) → Within Neither (rebuild (with_table t) j >>= λ b. fitting room (framed_all (body_records b)))
  unfolding rebuild
  rest_neither room =
      within_bind Neither (rebuild (with_table t) j) _
      (within_cond Neither (eqb (length j.faces) 0) (Ok empty_body) (solid (with_table t) j) tt solid_neither)
      (λ b e. plain_stage (fitting room (framed_all (body_records b))) (fitting_plain room (framed_all (body_records b))))

-- 41 and 42 are not given
pub neither_refused : (job : List ℕ) (t : Table) (room : ℕ) (r : Refusal) → sewn (with_table t) job room ≡ Err r → AnotherFault r
unfolding sewn
neither_refused job t room r e =
    neither_fault r
    (within_refusal Neither e (within_bind Neither (loaded job) _ (plain_stage (loaded job) (loaded_plain job)) (λ j l. rest_neither t j room)))
