-- The numbers below n that pass a test: the position of each.
use Rattle.std.specs.Prelude.{◌≡◌, Bool, true, List, ◌∷◌, ◌++◌, ℕ, suc, ◌-◌, ◌<◌, length, get_or}
use Rattle.std.proofs.Common.{sym, ap, ◌∙◌, arith, length-append}
use Rattle.std.proofs.Math.Seq.{get_or-append_seam}
use Rattle.lists.specs.Lists.{from, below, keep, index_of}
use Rattle.lists.specs.Runs.{below_nodup, from_first}
pub use Rattle.lists.specs.Prefixes.{keep_below_yes, keep_below_no}
use Rattle.lists.specs.Prefixes.{below_split}
use Rattle.lists.specs.Members.{keep_append, keep_yes, keep_nodup, index_of_at}

-- a number stands after those below it that pass
keep_split : (p : ℕ → Bool) (n m : ℕ) → m < n → p m ≡ true → keep p (below n) ≡ keep p (below m) ++ (m ∷ keep p (from (suc m) (n - m - 1)))
keep_split p n m h t =
    ap (keep p) (below_split m n (omega arith) ∙ ap (λ l. below m ++ l) (from_first m (n - m) (omega arith)))
    ∙ keep_append p (below m) (m ∷ from (suc m) (n - m - 1)) ∙ ap (λ l. keep p (below m) ++ l) (keep_yes p m (from (suc m) (n - m - 1)) t)

pub index_below : (p : ℕ → Bool) (n m : ℕ) → m < n → p m ≡ true → index_of m (keep p (below n)) ≡ length (keep p (below m))
index_below p n m h t =
    let inside : length (keep p (below m)) < length (keep p (below n)) =
    omega (arith, ap length (keep_split p n m h t), length-append (keep p (below m)) (m ∷ keep p (from (suc m) (n - m - 1)))) in
    ap (λ x. index_of x (keep p (below n))) (sym (here (keep p (from (suc m) (n - m - 1))) (keep_split p n m h t)))
    ∙ index_of_at (keep p (below n)) (length (keep p (below m))) (keep_nodup p (below n) (below_nodup n)) inside
  where
    here : (rest : List ℕ) → keep p (below n) ≡ keep p (below m) ++ (m ∷ rest) → get_or (keep p (below n)) (length (keep p (below m))) 0 ≡ m
    here rest e = ap (λ l. get_or l (length (keep p (below m))) 0) e ∙ get_or-append_seam (keep p (below m)) m rest 0
