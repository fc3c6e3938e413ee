use Rattle.std.proofs.Common.{rules, ap, sym, ◌∙◌}
use Rattle.rules.specs.Job.{Loop}
use Rattle.rules.specs.Fields.{le32}
use Rattle.loaded.specs.Told.{vertex_of}
use Rattle.loaded.proofs.OpenedLaws.{loop_is, vertex_none, vertex_some}
use Rattle.loaded.proofs.Loaded.loop_vertex.Goals as goal

pub returns-then-eq : goal.returns-then-eq
returns-then-eq c =
    vertex_none _ _ _ (sym c.loop_kind.ensures ∙ search (rules))
    ∙ ap (λ (x : Loop). vertex_of x.content) (loop_is c.self.invariant c.self.view_is _ c.requires)

pub returns : goal.returns
returns c =
    vertex_some _ _ _ _ (λ e. search (rules, c.loop_kind.ensures ∙ e)) (c.word.ensures.0 ∙ ap (le32 _) c.loop_start.ensures.0)
    ∙ ap (λ (x : Loop). vertex_of x.content) (loop_is c.self.invariant c.self.view_is _ c.requires)
