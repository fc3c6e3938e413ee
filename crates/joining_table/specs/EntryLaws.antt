-- The table of some bytes, entry by entry.
use Rattle.std.specs.Prelude.{ℕ, ◌≡◌, refl, List, length, Bool, true, false, eqb}
use Rattle.std.proofs.Common.{ap, ◌∙◌, eq-eqb, ne_eqb}
use Rattle.rules.specs.declared.Fault.{Fault}
use Rattle.rules.specs.declared.Fault.TheVariants.{WrongTable}
use Rattle.rules.specs.declared.Table.{Table}
use Rattle.rules.specs.Outcome.{Outcome, Ok, refuse, need, ◌>>=◌}
use Rattle.rules.specs.Rules.{permitted, byte_at, table_of}
use Rattle.rules.proofs.OutcomeLaws.{need_on, need_stop}

-- a test with a value, and what is made of the value
need_then : {A B : Type 0} (t : Bool) (fault : Fault) (place : ℕ) (x : A) (f : A → Outcome B) → need t fault place (f x) ≡ (need t fault place (Ok x) >>= f)
unfolding need
need_then true fault place x f = refl
need_then false fault place x f = refl

-- entry i, where it may be a 1 or not
abbrev pub entry_of : Bool → List ℕ → ℕ → Outcome Bool
entry_of joins bytes i = need (permitted joins (byte_at bytes i)) WrongTable i (Ok (eqb (byte_at bytes i) 1))

module _ (bytes : List ℕ) where
  abbrev of_entries : Bool → Bool → Bool → Bool → Outcome Table
  of_entries a b c d = Ok (record { agreeing = record { equal = a; different = b }; opposed = record { equal = c; different = d } })

  abbrev one : ℕ → Bool
  one i = eqb (byte_at bytes i) 1

  -- four bytes are read one after the other
  pub table_entries : length bytes ≡ 4
      → table_of bytes ≡ (entry_of true bytes 0 >>= λ a. entry_of false bytes 1 >>= λ b. entry_of false bytes 2 >>= λ c. entry_of true bytes 3 >>= λ d. of_entries a b c d)
  unfolding table_of
  table_entries four =
      need_on WrongTable 4 _ (eq-eqb (length bytes) 4 four)
      ∙ ap (need (permitted true (byte_at bytes 0)) WrongTable 0)
      (ap (need (permitted false (byte_at bytes 1)) WrongTable 1)
      (ap (need (permitted false (byte_at bytes 2)) WrongTable 2)
      (need_then (permitted true (byte_at bytes 3)) WrongTable 3 (one 3) (λ d. of_entries (one 0) (one 1) (one 2) d))
      ∙ need_then (permitted false (byte_at bytes 2)) WrongTable 2 (one 2) (λ c. entry_of true bytes 3 >>= λ d. of_entries (one 0) (one 1) c d))
      ∙ need_then (permitted false (byte_at bytes 1)) WrongTable 1 (one 1) (λ b. entry_of false bytes 2 >>= λ c. entry_of true bytes 3 >>= λ d. of_entries (one 0) b c d))
      ∙ need_then (permitted true (byte_at bytes 0)) WrongTable 0 (one 0) (λ a. entry_of false bytes 1 >>= λ b. entry_of false bytes 2 >>= λ c. entry_of true bytes 3 >>= λ d. of_entries a b c d)

  -- other bytes are none
  pub table_length : (length bytes ≡ 4 → ⊥) → table_of bytes ≡ refuse WrongTable 4
  unfolding table_of
  table_length n = need_stop WrongTable 4 _ (ne_eqb (length bytes) 4 n)
