use Rattle.std.proofs.Common.{arith}
use Rattle.groups.specs.ParentLaws.{joined_less, joined_more, joined_same, separate_roots, one_root}
use Rattle.groups.proofs.join_in.Goals as goal

pub returns-then-ra-rb : goal.returns-then-ra-rb
returns-then-ra-rb c = (
  joined_less _ _ _ _ _ _ _ c.root_in-ra.ensures c.root_in-rb.ensures _ c.if-ra-rb.true c.put.ensures,
  separate_roots _ _ _ _ _ _ _ c.root_in-ra.ensures c.root_in-rb.ensures (λ e. omega arith),
)

pub returns-then-rb-ra : goal.returns-then-rb-ra
returns-then-rb-ra c = (
  joined_more _ _ _ _ _ _ _ c.root_in-ra.ensures c.root_in-rb.ensures _ c.if-rb-ra.true c.put-then-rb-ra.ensures,
  separate_roots _ _ _ _ _ _ _ c.root_in-ra.ensures c.root_in-rb.ensures (λ e. omega arith),
)

pub returns : goal.returns
returns c = (
  joined_same _ _ _ _ _ _ _ c.root_in-ra.ensures c.root_in-rb.ensures (omega arith),
  one_root _ _ _ _ _ _ _ c.root_in-ra.ensures c.root_in-rb.ensures (omega arith),
)
