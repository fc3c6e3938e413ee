-- A job with its fans, and the tables that hold it.
use Rattle.std.specs.Prelude.{ℕ, ◌<◌, ◌≤◌, ◌≡◌, refl, List, Bool, length}
use Rattle.std.proofs.Common.{arith, sym, ap, subst, ◌∙◌}
use Rattle.lists.specs.Lists.{◌∈◌, Nodup, below}
use Rattle.lists.specs.Runs.{length_below}
use Rattle.lists.specs.Members.{keep_length}
use Rattle.rules.specs.declared.Use.{Use}
use Rattle.rules.specs.declared.KeptVertexLoop.{KeptVertexLoop}
use Rattle.rules.specs.declared.Rules.{Rules}
use Rattle.rules.specs.Job.{Job}
use Rattle.rules.specs.Fans.{names_fan}
use Rattle.rules.specs.Sew.{Walked, fans_of, Fanned}
use Rattle.theorems.specs.Fanning.{FansHold, fan_labels, fan_list}
use Rattle.theorems.proofs.Fanning.{fans_hold}
use Rattle.merge_faces.specs.FaceTables.{FaceTables}
use Rattle.progress.specs.Known.{Settled, Walking, walked_in}
use Rattle.progress.specs.KnownLaws.{Seen, seen, settled_permuted}
use Rattle.rebuild.specs.Fanning.{Fanning}

-- the walks of a job with fans
abbrev pub walking : Fanning → Walking
walking v = record { rules = v.rules; job = v.job; walked = v.fan.walk }

-- what the tables have of the fans of the definitions
pub record FansSeen (v : Fanning) (set : Rules) (j : Job) (us : List Use) (ts : List ℕ) (m : FaceTables) (ks : List KeptVertexLoop) (rm : List Bool) (ss : List ℕ) (count total : ℕ)
    (fs ns ps : List ℕ) : Type 0 where
  pub walks : Seen (walking v) set j us ts m ks rm ss count total
  pub fans : fs ≡ v.fan.fans
  pub names : ns ≡ v.fan.names
  pub starts : ps ≡ v.fan.starts
  pub fan : v.fan ≡ fans_of v.job v.fan.walk
  pub size : length ss ≡ length v.fan.walk.uses

pub fans_seen : {w : Walking} {rules : Rules} {j : Job} {us : List Use} {ts : List ℕ} {m : FaceTables} {kept : List KeptVertexLoop} {rm : List Bool} {ss : List ℕ} {gone total : ℕ}
    {fans names starts : List ℕ} {v : Fanning}
    → Settled rules j us ts m kept rm ss gone total → record { rules = rules; job = j; walked = walked_in us ts m rm kept } ≡ w
    → record { walk = w.walked; fans = fans; names = names; starts = starts } ≡ fans_of w.job w.walked
    → record { rules = w.rules; job = w.job; fan = record { walk = w.walked; fans = fans; names = names; starts = starts } } ≡ v
    → FansSeen v rules j us ts m kept rm ss gone total fans names starts
fans_seen {w} {rules} {j} {us} {ts} {m} {kept} {rm} {ss} {gone} {total} {fans} {names} {starts} S walks is e =
    subst (λ x. FansSeen x rules j us ts m kept rm ss gone total fans names starts) e (record {
      walks = seen S walks;
      fans = refl;
      names = refl;
      starts = refl;
      fan = is;
      size = (settled_permuted S).size ∙ ap length (seen S walks).uses;
    })

module _ {v : Fanning} {rules : Rules} {j : Job} {us : List Use} {ts : List ℕ} {m : FaceTables} {kept : List KeptVertexLoop} {rm : List Bool} {ss : List ℕ}
    {gone total : ℕ} {fans names starts : List ℕ}
    (F : FansSeen v rules j us ts m kept rm ss gone total fans names starts) where
  pub fanned_names : v.fan.names ≡ fan_list v.job v.fan.walk
  unfolding fans_of
  fanned_names = ap (λ (f : Fanned). f.names) F.fan

  pub fanned_hold : FansHold v.job v.fan.walk
  fanned_hold = fans_hold v.job v.fan.walk F.walks.ground

  pub names_once : Nodup names
  names_once = subst Nodup (sym (F.names ∙ fanned_names)) fanned_hold.nodup

  pub names_below : (n : ℕ) → n ∈ names → n < length us
  names_below n i = omega (arith, (fanned_hold.ended n (subst (λ l. n ∈ l) (F.names ∙ fanned_names) i)).0, ap length F.walks.uses)

  pub names_low : (n : ℕ) → n ∈ names → n < 2048
  names_low n i = omega (arith, names_below n i, ap length F.walks.uses, F.walks.ground.few)

-- there are no more fans than uses
pub names_few : (j : Job) (w : Walked) {fans names starts : List ℕ} → record { walk = w; fans = fans; names = names; starts = starts } ≡ fans_of j w
    → length w.uses ≤ 2048 → length names ≤ 2048
unfolding fans_of
names_few j w is few =
    omega (arith, few, ap (λ (f : Fanned). length f.names) is, keep_length (names_fan j.edges w.uses w.merge.removed (fan_labels j w)) (below (length w.uses)), length_below (length w.uses))
