-- Fields: unsigned little-endian numbers of two and of four bytes. A byte past the end counts as 0.
use Rattle.std.specs.Prelude.{ℕ, zero, suc, ◌+◌, ◌*◌, ◌/◌, ◌%◌, get_or, drop}
use mathlib.Core.List.{List, [], ◌∷◌, flat_map}

-- Job records: the two-byte field at a position
unfoldable pub le16 : List ℕ → ℕ → ℕ
le16 s p = get_or s p 0 + 256 * get_or s (p + 1) 0

-- Job records: the four-byte field at a position
unfoldable pub le32 : List ℕ → ℕ → ℕ
le32 s p = get_or s p 0 + 256 * get_or s (p + 1) 0 + 65536 * get_or s (p + 2) 0 + 16777216 * get_or s (p + 3) 0

-- Job records: the n four-byte fields at the front
unfoldable pub fields_in : ℕ → List ℕ → List ℕ
fields_in zero s = []
fields_in (suc n) s = le32 s 0 ∷ fields_in n (drop 4 s)

-- field i of a payload
abbrev pub field : List ℕ → ℕ → ℕ
field fs i = get_or fs i 0

-- Body records, same framing: a number as two bytes
abbrev pub bytes16 : ℕ → List ℕ
bytes16 n = n % 256 ∷ n / 256 % 256 ∷ []

-- Body records, same framing: a number as four bytes
unfoldable pub bytes32 : ℕ → List ℕ
bytes32 n = n % 256 ∷ n / 256 % 256 ∷ n / 65536 % 256 ∷ n / 16777216 % 256 ∷ []

-- The stages: numbers as 4-byte little-endian fields, one after the other
abbrev pub field_bytes : List ℕ → List ℕ
field_bytes fs = flat_map bytes32 fs
