-- Framing: each record is a 4-byte payload length, a 2-byte kind, then the payload in 4-byte fields.
use Rattle.std.specs.Prelude.{ℕ, zero, suc, ◌+◌, ◌*◌, ◌/◌, Bool, ◌&&◌, cond, length, drop, leb}
use mathlib.Core.List.{List, [], ◌∷◌, ◌++◌, flat_map}
use Rattle.rules.specs.Fields.{le16, le32, fields_in, bytes16, bytes32, field_bytes}

-- a record of the job: its first byte, whether header and payload are all there, its kind, its payload's length and fields
pub record Frame : Type 0 where
  pub at : ℕ
  pub whole : Bool
  pub kind : ℕ
  pub size : ℕ
  pub fields : List ℕ

-- Endings, 2: header and payload of the record at the front are not cut short
unfoldable pub whole_record : List ℕ → Bool
whole_record rest = leb 6 (length rest) && leb (6 + le32 rest 0) (length rest)

-- Job records: the record at the front of the bytes that stand at a position of the job
unfoldable pub frame_at : ℕ → List ℕ → Frame
frame_at at rest =
    let whole = whole_record rest in
    record {
      at = at;
      whole = whole;
      kind = le16 rest 4;
      size = le32 rest 0;
      fields = fields_in (cond whole (le32 rest 0 / 4) 0) (drop 6 rest);
    }

-- the bytes that the record at the front takes; a cut record takes all
unfoldable pub taking : List ℕ → ℕ
taking rest = cond (whole_record rest) (6 + le32 rest 0) (length rest)

-- the records of the bytes that stand at a position, at most so many
unfoldable pub frames_from : ℕ → ℕ → List ℕ → List Frame
frames_from zero at rest = []
frames_from (suc most) at [] = []
frames_from (suc most) at (b ∷ bs) =
    let rest = b ∷ bs in
    frame_at at rest ∷ frames_from most (at + taking rest) (drop (taking rest) rest)

-- Job records: the records of a job; each takes a byte at least, so there are at most as many as bytes
abbrev pub frames : List ℕ → List Frame
frames job = frames_from (length job) 0 job

-- a record to be written: kind and fields
pub record Record : Type 0 where
  pub kind : ℕ
  pub fields : List ℕ

-- Body records, same framing: the bytes of a record
unfoldable pub framed : Record → List ℕ
framed r = bytes32 (4 * length r.fields) ++ bytes16 r.kind ++ field_bytes r.fields

-- Body records, same framing: the bytes of records one after the other
abbrev pub framed_all : List Record → List ℕ
framed_all rs = flat_map framed rs

-- the records of the bytes from a place on
abbrev pub frames_of : ℕ → List ℕ → List Frame
frames_of at rest = frames_from (length rest) at rest
