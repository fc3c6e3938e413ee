-- What a record that is taken leaves of a load.
use Rattle.std.specs.Prelude.{◌≡◌, true, length}
use Rattle.rules.specs.Frame.{Frame}
use Rattle.rules.specs.Kinds.{kind_of, right_length}
use Rattle.rules.specs.Load.{Loading, counted, extended}
use Rattle.theorems.specs.Fit.{Taken}

-- what a record that loading takes has, and what is loaded after it
pub record RecordTaken (f : Frame) (s t : Loading) : Type 0 where
  pub whole : f.whole ≡ true
  pub sized : right_length (kind_of f.kind) f.size ≡ true
  pub taken : Taken (kind_of f.kind) f.fields s.counts s.job
  pub after : t ≡ record { counts = counted (kind_of f.kind) (length f.fields) s.counts; job = extended (kind_of f.kind) f.at f.fields s.job }
