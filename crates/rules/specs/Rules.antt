-- What a caller may set: document 01's own rules are `ordinary`. Of document 02 the joining table of request Eleven, with refusal 48, and the
-- profile of request Two.
use Rattle.std.specs.Prelude.{ℕ, List, Bool, true, false, ◌&&◌, ◌||◌, length, get_or, eqb}
use Rattle.rules.specs.declared.Table.{Table}
use Rattle.rules.specs.declared.Profile.TheVariants.{AnyContact, PrintShop}
use Rattle.rules.specs.declared.Rules.{Rules}
use Rattle.rules.specs.declared.Fault.TheVariants.{WrongTable}
use Rattle.rules.specs.Outcome.{Outcome, Ok, need}

-- THE RULES

-- Merging: values 1 and 2 join when (value is 1) equals (stored senses are equal)
abbrev pub full_table : Table
full_table = record {
  agreeing = record { equal = true; different = false };
  opposed = record { equal = false; different = true };
}

-- document 01's rules, but for the table
abbrev pub with_table : Table → Rules
with_table t = record { table = t; profile = AnyContact }

-- the rules of document 01: all keep these but the operations with a table (Eleven) and sewing for a print shop (Two)
abbrev pub ordinary : Rules
ordinary = with_table full_table

-- Two: document 01's rules, but that boundaries must have two uses at each edge and one fan at each point
abbrev pub print_shop : Rules
print_shop = record { table = full_table; profile = PrintShop }

-- THE JOINING TABLE AS BYTES

-- Eleven: each entry is 0 or 1, and a 1 is permitted only where document 01's merging rule joins
abbrev pub permitted : Bool → ℕ → Bool
permitted joins byte = eqb byte 0 || (joins && eqb byte 1)

-- byte i of a table
abbrev pub byte_at : List ℕ → ℕ → ℕ
byte_at bytes i = get_or bytes i 0

-- Eleven: four bytes, rows by answer, columns equal then different
abbrev pub table_in : List ℕ → Table
table_in bytes = record {
  agreeing = record { equal = eqb (byte_at bytes 0) 1; different = eqb (byte_at bytes 1) 1 };
  opposed = record { equal = eqb (byte_at bytes 2) 1; different = eqb (byte_at bytes 3) 1 };
}

-- Eleven, 48: a table of other length or entry, length tested first, place 4 for length or the first faulty byte
unfoldable pub table_of : List ℕ → Outcome Table
table_of bytes =
    need (eqb (length bytes) 4) WrongTable 4
    (need (permitted full_table.agreeing.equal (byte_at bytes 0)) WrongTable 0
    (need (permitted full_table.agreeing.different (byte_at bytes 1)) WrongTable 1
    (need (permitted full_table.opposed.equal (byte_at bytes 2)) WrongTable 2
    (need (permitted full_table.opposed.different (byte_at bytes 3)) WrongTable 3
    (Ok (table_in bytes))))))
