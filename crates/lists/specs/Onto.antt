-- A function that takes the numbers below n onto themselves is one to one there.
use Rattle.std.specs.Prelude.{◌≡◌, List, map, ℕ, ◌<◌}
use Rattle.std.proofs.Common.{sym, ap, ◌∙◌, subst, arith}
use Rattle.lists.specs.Lists.{◌∈◌, Nodup, below, index_of}
use Rattle.lists.specs.Runs.{in_below, below_in, below_nodup, length_below, length_table, get_or_table}
use Rattle.lists.specs.Members.{nodup_full, in_map, index_of_at}

pub onto_one_to_one : (f : ℕ → ℕ) (n : ℕ) → ((y : ℕ) → y < n → (x : ℕ) × (x < n) × (f x ≡ y)) → (a b : ℕ) → a < n → b < n → f a ≡ f b → a ≡ b
onto_one_to_one f n onto a b ha hb e = sym (back a ha) ∙ ap (λ v. index_of v values) e ∙ back b hb
  where
    values : List ℕ
    values = map f (below n)

    reached : (y : ℕ) → y ∈ below n → y ∈ values
    reached y m = let r = onto y (below_in n y m) in subst (λ v. v ∈ values) r.2 (in_map f (in_below n r.0 r.1))

    apart : Nodup values
    apart = nodup_full values (below n) (below_nodup n) reached (omega (arith, length_table f n, length_below n))

    back : (c : ℕ) → c < n → index_of (f c) values ≡ c
    back c h = ap (λ v. index_of v values) (sym (get_or_table f n c 0 h)) ∙ index_of_at values c apart (omega (arith, length_table f n))
