use Rattle.body.proofs.put_totals.Goals.{in-None, in-Some}
use Rattle.body.proofs.put_totals.Goals as goal

pub returns : goal.returns
returns c = (
  elim c.match-totals.branch [
    | in-None w ↦ rw w.in-None.is (rw w.fields-is at c.put_record.ensures.0)
    | in-Some w ↦ rw w.in-Some.is (rw w.fields-is at c.put_record.ensures.0)
  ],
  c.put_record.ensures.1,
)
