use Rattle.rebuild.proofs.FansLaws.{fans_seen, names_once, names_low}
use Rattle.rebuild.proofs.LinedLaws.{joined_tables, joined_ended}
use Rattle.rebuild.proofs.fanned.on_edged.Goals as goal

pub maximal_edges-requires-clause-nodup : goal.maximal_edges-requires-clause-nodup
maximal_edges-requires-clause-nodup g c = names_once (fans_seen c.w.invariant c.w.view_is c.f.invariant c.f.view_is)

pub maximal_edges-requires-clause-fans : goal.maximal_edges-requires-clause-fans
maximal_edges-requires-clause-fans g c = names_low (fans_seen c.w.invariant c.w.view_is c.f.invariant c.f.view_is)

pub invariant_of-joining : goal.invariant_of-joining
invariant_of-joining g c = joined_tables _ c.args.rows.now _ c.args.count c.requires.0.tables c.maximal_edges.auto.items c.maximal_edges.auto.stretches c.maximal_edges.ensures.fitting c.in_ok-k.was

pub invariant_of-drawn : goal.invariant_of-drawn
invariant_of-drawn g c =
    let F = fans_seen c.w.invariant c.w.view_is c.f.invariant c.f.view_is in
    let run = rw (c.indexed.ensures.0) at c.maximal_edges.ensures.run in
    joined_ended F c.args.rows.now c.maximal_edges.new.rows c.args.count c.args.items.now c.maximal_edges.new.items c.args.stretches.now c.maximal_edges.new.stretches c.args.faces.now
    (run c.args.faces.now c.requires.0.tables.loops) c.in_ok-k.was c.requires.0.ended
