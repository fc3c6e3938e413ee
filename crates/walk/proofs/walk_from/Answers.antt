use Rattle.walk.specs.LoopLaws.{walking_skips, walking_closes, walking_room, walking_starts}
use Rattle.std.proofs.Common.{rules, arith, sym, ◌∙◌}
use Rattle.walk.proofs.walk_from.Goals as goal
use Rattle.walk.proofs.walk_from.Goals.{then-is_set-via-then-is_set, then-is_set-via-else-is_set+then-is_set-2}

pub returns-then-is_set : goal.returns-then-is_set
returns-then-is_set c =
    walking_skips _ _ c.args.steps.now.permuted _ _ _ _ _ _ c.requires.0 c.requires.1
    (elim c.then-is_set.branch [ then-is_set-via-then-is_set w ↦ grind arith | then-is_set-via-else-is_set+then-is_set-2 w ↦ grind arith ])

pub walk_loop-end-requires : goal.walk_loop-end-requires
walk_loop-end-requires c = search (rules, walking_closes)

pub overflow_cast-end : goal.overflow_cast-end
overflow_cast-end c =
    omega (
      arith,
      walking_room _ _ c.args.steps.now.permuted _ _ _ _ _ _ c.requires.0 c.requires.1 (sym c.is_set.ensures ∙ c.if-is_set.false)
          (sym c.is_set-else-is_set.ensures ∙ c.if-is_set-2.false) _ _ _ c.walk_loop-end.ensures,
    )

pub returns : goal.returns
returns c =
    walking_starts _ _ c.args.steps.now.permuted _ _ _ _ _ _ c.requires.0 c.requires.1 (sym c.is_set.ensures ∙ c.if-is_set.false)
    (sym c.is_set-else-is_set.ensures ∙ c.if-is_set-2.false) _ _ _ c.walk_loop-end.ensures _ c.put_entry.ensures
