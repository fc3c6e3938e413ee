use Rattle.std.proofs.Common.{arith, sym, ap, ◌∙◌, ◌≤◌, length, length-take-le}
use Rattle.progress.specs.Parts.{cut_back, back_long}
use Rattle.progress.specs.KnownLaws.{paired_twins, settled_permuted}
use Rattle.rules.specs.Sew.{Walked}
use Rattle.rebuild.specs.Fanning.{Fanning}
use Rattle.rebuild.proofs.FansLaws.{fans_seen}
use Rattle.rebuild.proofs.LinedLaws.{lined}
use Rattle.rebuild.proofs.fanned.make_edges.Goals as goal

pub loops-loops-requires : goal.loops-loops-requires
loops-loops-requires c =
    let size = c.steps.ensures.2 ∙ ap (λ (v : Fanning). length v.fan.walk.uses) c.f.view_is in
    (omega (arith, c.requires.items_size, size), omega (arith, c.requires.stretches_size, size))

pub slice_bounds-loop_faces-end : goal.slice_bounds-loop_faces-end
slice_bounds-loop_faces-end c =
    let size = c.steps.ensures.2 ∙ ap (λ (v : Fanning). length v.fan.walk.uses) c.f.view_is in
    omega (arith, c.loops-loops.ensures.1, c.loops-loops.auto.stretches, c.requires.stretches_size, size)

pub slice_bounds-loop_faces-end-2 : goal.slice_bounds-loop_faces-end-2
slice_bounds-loop_faces-end-2 c =
    let size = c.steps.ensures.2 ∙ ap (λ (v : Fanning). length v.fan.walk.uses) c.f.view_is in
    sym (length-take-le _ _ (omega (arith, c.loops-loops.ensures.1, c.loops-loops.auto.stretches, c.requires.stretches_size, size)))

pub slice_bounds-loop_faces-end-3 : goal.slice_bounds-loop_faces-end-3
slice_bounds-loop_faces-end-3 c =
    let size = c.steps.ensures.2 ∙ ap (λ (v : Fanning). length v.fan.walk.uses) c.f.view_is in
    omega (arith, c.loops-loops.ensures.1, c.requires.faces_size, size)

pub slice_bounds-loop_faces-end-4 : goal.slice_bounds-loop_faces-end-4
slice_bounds-loop_faces-end-4 c =
    let size = c.steps.ensures.2 ∙ ap (λ (v : Fanning). length v.fan.walk.uses) c.f.view_is in
    sym (length-take-le _ _ (omega (arith, c.loops-loops.ensures.1, c.requires.faces_size, size)))

pub edges-edges-requires : goal.edges-edges-requires
edges-edges-requires c =
    let F = fans_seen c.w.invariant c.w.view_is c.f.invariant c.f.view_is in
    let uses = ap length F.walks.uses in
    let twins = (paired_twins c.w.invariant.keeps.grouped.paired).size in (
      omega (arith, twins, uses, F.walks.ground.few),
      omega (arith, (settled_permuted c.w.invariant).size, twins),
      omega (arith, c.requires.owns_size, twins, uses),
      omega (arith, c.requires.rows_size, twins, uses),
    )

pub returns : goal.returns
returns c =
    let F = fans_seen c.w.invariant c.w.view_is c.f.invariant c.f.view_is in
    let walk = ap (λ (v : Fanning). v.fan.walk) c.f.view_is in
    let uses = c.uses-uses.ensures.0 ∙ ap (λ (w : Walked). w.uses) walk ∙ sym F.walks.uses in
    let removed = c.steps.ensures.0 ∙ ap (λ (w : Walked). w.merge.removed) walk ∙ sym F.walks.removed in
    let succ = c.steps.ensures.1 ∙ ap (λ (w : Walked). w.successors) walk ∙ sym F.walks.succ in
    let made = rw (removed, succ) at c.loops-loops.ensures in
    let few : c.loops-loops.result ≤ length c.args.faces.now = omega (arith, made.1, c.requires.faces_size, F.size) in (
      lined c.w.invariant F c.args.rows.now c.args.owns.now c.args.items.now c.args.stretches.now c.args.faces.now c.requires
          c.loops-loops.new.ways c.loops-loops.new.stretches _ c.edges-edges.new.rows c.edges-edges.new.owns c.items.new.ways c.loops-loops.result c.edges-edges.result
          made.0 made.1 made.2
          (cut_back _ c.args.faces.now c.loop_faces.new.faces few c.loop_faces.auto.faces
          ∙ (rw (uses, c.numbers.ensures.0, length-take-le _ _ few) at c.loop_faces.ensures))
          (rw (uses, c.numbers-2.ensures.0) at c.edges-edges.ensures) (rw uses at c.items.ensures)
          c.edges-edges.auto.rows c.loops-loops.auto.ways c.loops-loops.auto.stretches
          (back_long _ c.args.faces.now c.loop_faces.new.faces few c.loop_faces.auto.faces),
      omega (arith, made.1, F.size),
    )
