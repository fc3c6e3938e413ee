-- An answer for each member of a list, and for members after them.
use Rattle.std.specs.Prelude.{◌≡◌, List, [], ◌∷◌, ◌++◌}
use Rattle.std.proofs.Common.{sym, ap, ◌∙◌}
use Rattle.rules.specs.declared.Refusal.{Refusal}
use Rattle.rules.specs.Outcome.{Outcome, Ok, Err, for_each}
use Rattle.rules.proofs.OutcomeLaws.{ok_one, bind_on, bind_stop, each_none, each_ok}

each_first : {A B : Type 0} (f : A → Outcome B) (x : A) (xs : List A) (y : B) (ys : List B) → f x ≡ Ok y → for_each f xs ≡ Ok ys → for_each f (x ∷ xs) ≡ Ok (y ∷ ys)
unfolding for_each
each_first f x xs y ys e h = bind_on _ e ∙ bind_on _ h

-- one more gives a value, or the refusal of all
pub each_more : {A B : Type 0} (f : A → Outcome B) (xs : List A) (x : A) (rs : List B) (r : B) → for_each f xs ≡ Ok rs → f x ≡ Ok r
    → for_each f (xs ++ (x ∷ [])) ≡ Ok (rs ++ (r ∷ []))
each_more f [] x rs r e h = each_first f x [] r [] h (each_none f) ∙ ap (λ l. Ok (l ++ (r ∷ []))) (ok_one (sym (each_none f) ∙ e))
each_more f (y ∷ xs) x rs r e h =
    let p = each_ok f y xs rs e in
    each_first f y (xs ++ (x ∷ [])) p.0 (p.1 ++ (r ∷ [])) p.2 (each_more f xs x p.1 r p.3 h) ∙ ap (λ l. Ok (l ++ (r ∷ []))) (sym p.4)

pub each_stop : {A B : Type 0} (f : A → Outcome B) (xs : List A) (x : A) (later : List A) (rs : List B) {r : Refusal} → for_each f xs ≡ Ok rs → f x ≡ Err r
    → for_each f (xs ++ (x ∷ later)) ≡ Err r
unfolding for_each
each_stop f [] x later rs e h = bind_stop _ h
each_stop f (y ∷ xs) x later rs e h =
    let q = each_ok f y xs rs e in
    bind_on _ q.2 ∙ bind_stop _ (each_stop f xs x later q.1 q.3 h)
