-- The body of a job with edges, loops and shells: its tables suffice.
use Rattle.std.specs.Prelude.{ℕ, ◌≤◌, List, Bool, length}
use Rattle.std.proofs.Common.{arith, sym, subst}
use Rattle.lists.specs.Membership.{in_get_or}
use Rattle.rules.specs.declared.Use.{Use}
use Rattle.rules.specs.declared.EdgeData.{EdgeData}
use Rattle.rules.specs.declared.KeptVertexLoop.{KeptVertexLoop}
use Rattle.rules.specs.declared.Rules.{Rules}
use Rattle.rules.specs.Job.{Job}
use Rattle.rules.specs.Join.{edge_data_at, no_edge_data}
use Rattle.theorems.specs.Linked.{RingOrFans, EndsAreFans}
use Rattle.merge_faces.specs.FaceTables.{FaceTables}
use Rattle.shells.specs.declared.ShellRow.{ShellRow}
use Rattle.shells.specs.Table.{Shelled}
use Rattle.shells.specs.ShellLaws.{shelled_few}
use Rattle.body.specs.Vertices.{EdgeOk, EndsOk}
use Rattle.rebuild.specs.Fanning.{Fanning, Drawing}
use Rattle.rebuild.specs.Tables.{boundaries_of, members_of}
use Rattle.rebuild.proofs.FansLaws.{FansSeen, names_below}

module _ {v : Fanning} {rules : Rules} {j : Job} {us : List Use} {ts : List ℕ} {m : FaceTables} {ks : List KeptVertexLoop} {rm : List Bool} {ss : List ℕ} {count total : ℕ} {fs ns ps : List ℕ}
    (F : FansSeen v rules j us ts m ks rm ss count total fs ns ps) where
  -- the ends of an edge are fans, which are uses, or none
  edge_ok : (size : ℕ) (e : EdgeData) → length us ≤ size → RingOrFans ns e → EdgeOk size e
  edge_ok size e h r = let low = names_below F in grind (arith, low)

  pub ends_ok : (size : ℕ) (es : List EdgeData) → length us ≤ size → EndsAreFans es v.fan.names → EndsOk size es
  ends_ok size es h E x i =
      let r = in_get_or no_edge_data i in
      subst (EdgeOk size) r.2 (edge_ok size (edge_data_at es r.0) h (subst (EndsAreFans es) (sym F.names) E r.0))

-- no more shells than selected faces
pub shells_few : (v : Drawing) → length (boundaries_of v) ≤ 256 → (rows : List ShellRow) → Shelled (boundaries_of v) (members_of v) rows → length rows ≤ 256
shells_few v few rows S = omega (arith, shelled_few (boundaries_of v) (members_of v) rows S, few)
