use Rattle.contact.specs.ContactLaws.{LowestAt}
use Rattle.contact.specs.Buckets.{Bucketed}
use Rattle.contact.proofs.points_in.Given as goal

abbrev pub invariant-loop-k : goal.invariant-loop-k
invariant-loop-k g l =
    Bucketed g.row.HEADS l.own.starts.now l.own.names.now l.buckets.heads l.buckets.nexts l.k × LowestAt l.own.uses.now l.own.starts.now
    l.own.labels.now l.own.names.now l.k l.lowest
