use Rattle.std.specs.Prelude.{ℕ, ◌≤◌, length}
use Rattle.std.proofs.Common.{arith, sym, ap, subst, ◌∙◌}
use Rattle.rules.specs.Groups.{Lowest}
use Rattle.rules.specs.Join.{Joining}
use Rattle.rules.specs.Sew.{body_of}
use Rattle.loaded.proofs.OpenedLaws.{faces_are}
use Rattle.progress.specs.Parts.{part_long}
use Rattle.progress.specs.KnownLaws.{grouped_lowest}
use Rattle.rebuild.specs.Fanning.{Fanning, Drawing}
use Rattle.rebuild.proofs.FansLaws.{fans_seen}
use Rattle.rebuild.proofs.SolidLaws.{ends_ok}
use Rattle.rebuild.proofs.drawn.write_body.Goals as goal

pub whole_as_front-numbers : goal.whole_as_front-numbers
whole_as_front-numbers g c =
    (omega (arith, ap (λ (s : Joining). length s.edges) c.j.view_is, ap (λ (v : Drawing). length v.joined.joining.edges) c.d.view_is, c.requires.edges), omega (arith, c.requires.few))

pub whole_as_front-vertices : goal.whole_as_front-vertices
whole_as_front-vertices g c =
    let uses = ap length c.uses-n.ensures.0 ∙ ap (λ (v : Fanning). length v.fan.walk.uses) c.f.view_is ∙ ap (λ (v : Drawing). length v.joined.fan.walk.uses) c.d.view_is in
    (omega (arith, uses, c.requires.uses), omega (arith, c.requires.few))

pub invariant_of-solid : goal.invariant_of-solid
invariant_of-solid g c =
    let F = fans_seen c.w.invariant c.w.view_is c.f.invariant c.f.view_is in
    let G = c.w.invariant.keeps.grouped in
    record {
      few_faces = c.raw-raw.ensures.1.limited.faces;
      sized = record {
        few_groups = c.groups.ensures.1;
        few_members = c.members.ensures.1;
        lowest = subst Lowest (sym c.groups.ensures.0) (grouped_lowest G);
        own = rw (c.groups.ensures.0, c.members.ensures.0) G.tables.members;
        few_kept = F.walks.few_kept;
      };
    }

pub put_body-requires : goal.put_body-requires
put_body-requires g c =
    let same = ap (λ (s : Joining). length s.edges) c.j.view_is in
    let fit : length c.j.inside.edges.now ≤ g.row.USES = omega (arith, same, ap (λ (v : Drawing). length v.joined.joining.edges) c.d.view_is, c.requires.edges) in
    let F = fans_seen c.w.invariant c.w.view_is c.f.invariant c.f.view_is in
    let uses = ap length c.uses-n.ensures.0 ∙ ap (λ (v : Fanning). length v.fan.walk.uses) c.f.view_is in
    let few : length c.uses-n.result.now ≤ g.row.USES = omega (arith, uses, ap (λ (v : Drawing). length v.joined.fan.walk.uses) c.d.view_is, c.requires.uses) in (
      omega (arith, same, part_long {A = ℕ} 0 _ _ fit),
      ends_ok F _ _ (omega (arith, part_long {A = ℕ} 0 _ _ few, uses, ap length F.walks.uses)) c.d.invariant,
    )

pub returns : goal.returns
unfolding body_of
returns g c =
    let F = fans_seen c.w.invariant c.w.view_is c.f.invariant c.f.view_is in
    let W = F.walks in
    let uses = c.uses-n.ensures.0 ∙ ap (λ (v : Fanning). v.fan.walk.uses) c.f.view_is in
    let body = rw (
      uses,
      W.gone,
      W.passed,
      c.joins.ensures ∙ W.joins,
      faces_are c.raw-raw.ensures.1 (c.raw-raw.ensures.0 ∙ W.job),
      c.groups.ensures.0 ∙ W.groups,
      c.members.ensures.0 ∙ W.members,
      W.kept,
      F.starts,
    ) at c.put_body.ensures in
    rw (← c.d.view_is) (rw (← ap (λ (s : Joining). s.joins) c.j.view_is, ← ap (λ (s : Joining). s.rings) c.j.view_is) body)
