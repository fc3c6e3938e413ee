-- The stage that is found for a number has it, and is the operation that is packed by it.
use Rattle.std.specs.Prelude.{ℕ, ◌≡◌, List, [], ◌∷◌, Bool, true, false, cond, eqb, Option, Some}
use Rattle.std.proofs.Common.{refl, sym, ap, ◌∙◌, eqb-true, ne_eqb}
use Rattle.rules.specs.declared.Stage.{Stage}
use Rattle.rules.specs.Operation.{stage_number, numbered_among, all_stages, stage_of}
use Rattle.replay.specs.Operation.{packed_stage, packed_operation}

pub numbered_is : (l : List Stage) (n : ℕ) (s : Stage) → numbered_among l n ≡ Some s → stage_number s ≡ n
unfolding numbered_among
numbered_is [] n s e = cc
numbered_is (t ∷ more) n s e = go (eqb n (stage_number t)) refl e (numbered_is more n s)
  where
    go : (b : Bool) → eqb n (stage_number t) ≡ b → cond b (Some t) (numbered_among more n) ≡ Some s → (numbered_among more n ≡ Some s → stage_number s ≡ n) → stage_number s ≡ n
    go true test found later = let one : t ≡ s = cc in ap stage_number (sym one) ∙ sym (eqb-true n (stage_number t) test)
    go false test found later = later found

pub stage_found : (n : ℕ) (s : Stage) → stage_of n ≡ Some s → stage_number s ≡ n
unfolding stage_of
stage_found n s e = numbered_is all_stages n s e

-- a number of no other operation is a stage's, or none's
pub packed_other : (n : ℕ) (o : Option Stage) → (n ≡ 0 → ⊥) → (n ≡ 12 → ⊥) → (n ≡ 13 → ⊥) → (n ≡ 14 → ⊥) → (n ≡ 15 → ⊥) → (n ≡ 16 → ⊥) → stage_of n ≡ o
    → packed_stage n o ≡ packed_operation n
unfolding packed_operation
packed_other n o a b c d e f found = rw (ne_eqb n 0 a, ne_eqb n 12 b, ne_eqb n 13 c, ne_eqb n 14 d, ne_eqb n 15 e, ne_eqb n 16 f, found) refl
