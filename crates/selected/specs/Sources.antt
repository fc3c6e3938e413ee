-- The chains of faces by source face number, and what is found on them.
use Rattle.std.specs.Prelude.{ℕ, ◌+◌, ◌≤◌, ◌<◌, ◌≡◌, ◌%◌, List, Bool, length, get_or, set, replicate}
use Rattle.lists.specs.Lists.{some}
use Rattle.rules.specs.declared.Counts.{Counts}
use Rattle.rules.specs.declared.Face.{Face}
use Rattle.rules.specs.Fields.{le32}
use Rattle.rules.specs.Load.{same_source}
use Rattle.fields.specs.Chains.{chain, next_in, Falling}
use Rattle.job.specs.Lists.{face_byte, face_in, faces_in}
use Rattle.selected.specs.declared.Sources.{Sources}

-- the chain on which a face with this source face number stands
unfoldable pub bucket_of : ℕ → ℕ
bucket_of source = source % 256

-- empty chains
abbrev pub no_sources : Sources
no_sources = record { heads = replicate 256 0; nexts = replicate 256 0 }

-- one face more, k, in front of its chain; entries are bytes, and the 256th face, the last, is entered as none
unfoldable pub face_entered : List ℕ → Sources → ℕ → ℕ → Sources
face_entered bytes s k at =
    let b = bucket_of (le32 bytes (at + 22)) in
    record { heads = set s.heads b ((k + 1) % 256); nexts = set s.nexts k (get_or s.heads b 0) }

-- selected face k is that face of that body
abbrev pub is_face : List ℕ → List ℕ → Face → ℕ → Bool
is_face bytes ix f k = same_source f (face_in bytes (face_byte ix k))

-- a face is one of those on the chain from an entry on
abbrev pub found_from : List ℕ → List ℕ → Sources → Face → ℕ → Bool
found_from bytes ix s f entry = some (is_face bytes ix f) (chain (next_in s.nexts) entry)

-- chains fall, their heads are of faces that are loaded, and as long as another face can come they find what the definition finds, for every face
pub record Sourced (bytes ix : List ℕ) (s : Sources) (c : Counts) : Type 0 where
  pub buckets : length s.heads ≡ 256
  pub room : length s.nexts ≡ 256
  pub falling : Falling (next_in s.nexts)
  pub heads : (b : ℕ) → b < 256 → get_or s.heads b 0 ≤ c.faces
  pub finds : c.faces < 256 → (f : Face) → found_from bytes ix s f (get_or s.heads (bucket_of f.source) 0) ≡ some (same_source f) (faces_in bytes ix c)
