-- Laws of making shells: the lowest faces, and one shell more.
use Rattle.std.specs.Prelude.{ℕ, suc, ◌+◌, ◌-◌, ◌≤◌, ◌<◌, ◌≡◌, refl, List, [], ◌∷◌, ◌++◌, map, set, drop, replicate}
use Rattle.std.specs.List.{All}
use native.Mathlib.Omega.{arith}
use Rattle.std.proofs.Math.Path.{sym, ap}
use Rattle.std.proofs.Common.{◌∙◌, drop_of_length-le, drop-cons, eq-eqb, ne_eqb}
use Rattle.std.proofs.Math.Logic.{⊎_elim}
use Rattle.std.proofs.Math.ListN.{length, get_or, length-set, length-replicate}
use Rattle.std.proofs.Math.Seq.{get_or-set_same, get_or-set_other}
use Rattle.std.proofs.Math.Dec.{eqb}
use Rattle.std.proofs.lemmas.List.{length-map, map_push}
use Rattle.std.proofs.lemmas.List.Elements.{All-nil, All-push}
use Rattle.lists.specs.Lists.{from, below, keep, positions}
use Rattle.lists.specs.Tests.{equal_or_not}
use Rattle.lists.specs.Constants.{get_or_constant}
use Rattle.lists.specs.Runs.{from_first, length_below}
use Rattle.lists.specs.Members.{keep_yes, keep_append, keep_length, map_append}
use Rattle.lists.specs.Prefixes.{below_split, keep_below_yes, keep_below_no}
use Rattle.rules.specs.declared.Refusal.{Refusal}
use Rattle.rules.specs.Outcome.{Outcome, Ok, Err, ◌>>=◌, for_each}
use Rattle.rules.proofs.OutcomeLaws.{bind_on, bind_stop, bind_ok, bind_then, ok_one, each_none}
use Rattle.rules.specs.Job.{Answer}
use Rattle.rules.specs.Groups.{label_of, is_lowest, lowest_members}
use Rattle.rules.specs.Shells.{lowest_face, shell_faces, orient_shell, shells}
use Rattle.shells.specs.declared.ShellRow.{ShellRow}
use Rattle.shells.specs.Table.{shell_in, shells_in, LowestIn, Shelled}
use Rattle.shells.specs.Steps.{outer_by}
use Rattle.shells.specs.Each.{each_more, each_stop}

-- no more shells than selected faces
pub shelled_few : (boundaries members : List ℕ) (rows : List ShellRow) → Shelled boundaries members rows → length rows ≤ length boundaries
shelled_few boundaries members rows s =
    omega (arith, length-map rows (λ row. row.boundary), ap length s.labels, keep_length (is_lowest boundaries) (below (length boundaries)), length_below (length boundaries))

-- LOWEST FACES

-- the lowest of the merged faces from f on that each boundary has
pub record LowFrom (boundaries members lows : List ℕ) (f : ℕ) : Type 0 where
  pub within : f ≤ length members
  pub size : length lows ≡ 256
  pub lowest : (b : ℕ) → b < 256 → get_or lows b 0 ≡ lowest_face (positions (λ r. eqb (label_of boundaries r) b) f (drop f members))

module _ (boundaries members : List ℕ) where
  pub low_start : (lows : List ℕ) → lows ≡ replicate 256 0 → LowFrom boundaries members lows (length members)
  unfolding positions
  low_start lows e = record {
    within = omega arith;
    size = ap length e ∙ length-replicate {A = ℕ} 256 0;
    lowest = λ b h. ap (λ l. get_or l b 0) e ∙ get_or_constant {A = ℕ} 256 0 b
        ∙ sym (ap (λ l. lowest_face (positions (λ r. eqb (label_of boundaries r) b) (length members) l)) (drop_of_length-le members {i = length members} (omega arith)));
  }

  lowest_hit : (b f x : ℕ) (later : List ℕ) → label_of boundaries x ≡ b → lowest_face (positions (λ r. eqb (label_of boundaries r) b) f (x ∷ later)) ≡ f
  unfolding positions
  lowest_hit b f x later e = rw (eq-eqb (label_of boundaries x) b e)

  lowest_miss : (b f x : ℕ) (later : List ℕ) → (label_of boundaries x ≡ b → ⊥)
      → lowest_face (positions (λ r. eqb (label_of boundaries r) b) f (x ∷ later)) ≡ lowest_face (positions (λ r. eqb (label_of boundaries r) b) (suc f) later)
  unfolding positions
  lowest_miss b f x later n = rw (ne_eqb (label_of boundaries x) b n)

  -- merged face g, whose lowest member is m and whose boundary has label l
  pub low_step : (lows after : List ℕ) (f g m l : ℕ) → LowFrom boundaries members lows f → 0 < f → g ≡ f - 1 → m ≡ get_or members g 0 → l ≡ label_of boundaries m → after ≡ set lows l g
      → LowFrom boundaries members after g
  low_step lows after f g m l h some eg em el ea =
      let inside : g < length members = omega (arith, h.within) in
      let next : suc g ≡ f = omega arith in
      let label : label_of boundaries (get_or members g 0) ≡ l = ap (label_of boundaries) (sym em) ∙ sym el in
      let split : drop g members ≡ get_or members g 0 ∷ drop f members = drop-cons members g 0 inside ∙ ap (λ k. get_or members g 0 ∷ drop k members) next in
      let at : (b : ℕ) → ℕ = λ b. lowest_face (positions (λ r. eqb (label_of boundaries r) b) g (get_or members g 0 ∷ drop f members)) in
      record {
        within = omega arith;
        size = ap length ea ∙ length-set lows l g ∙ h.size;
        lowest = λ b lt. ap (λ s. get_or s b 0) ea
            ∙ ⊎_elim
            (λ w. ap (λ k. get_or (set lows l g) k 0) (sym w.0) ∙ get_or-set_same lows l g 0 (omega (arith, h.size, w.0)) ∙ sym (lowest_hit b g (get_or members g 0) (drop f members) (label ∙ w.0)))
            (λ w. get_or-set_other lows l b g 0 (λ e. w.0 (sym e)) ∙ h.lowest b lt
            ∙ ap (λ k. lowest_face (positions (λ r. eqb (label_of boundaries r) b) k (drop f members))) (sym next)
            ∙ sym (lowest_miss b g (get_or members g 0) (drop f members) (λ e. w.0 (sym label ∙ e))))
            (equal_or_not l b)
            ∙ ap (λ s. lowest_face (positions (λ r. eqb (label_of boundaries r) b) g s)) (sym split);
      }

-- ONE SHELL MORE

-- the shells of the boundaries whose lowest face is below b
pub record ShellsAt (answers : List Answer) (proven : ℕ) (boundaries members : List ℕ) (rows : List ShellRow) (b : ℕ) : Type 0 where
  pub labels : map (λ row. row.boundary) rows ≡ keep (is_lowest boundaries) (below b)
  pub lows : All (LowestIn boundaries members) rows
  pub made : for_each (orient_shell answers proven) (map (shell_faces boundaries members) (keep (is_lowest boundaries) (below b))) ≡ Ok (shells_in boundaries members rows)

pub shells_start : (answers : List Answer) (proven : ℕ) (boundaries members : List ℕ) → ShellsAt answers proven boundaries members [] 0
unfolding from keep
shells_start answers proven boundaries members = record {
  labels = refl;
  lows = All-nil (LowestIn boundaries members);
  made = each_none (orient_shell answers proven);
}

module _ (answers : List Answer) (proven : ℕ) (boundaries members : List ℕ) (rows : List ShellRow) (b : ℕ) (s : ShellsAt answers proven boundaries members rows b) where
  pub shells_same : (label_of boundaries b ≡ b → ⊥) → ShellsAt answers proven boundaries members rows (b + 1)
  shells_same n =
      let kept = keep_below_no (is_lowest boundaries) b (ne_eqb (label_of boundaries b) b n) in
      record {
        labels = s.labels ∙ sym kept;
        lows = s.lows;
        made = ap (λ l. for_each (orient_shell answers proven) (map (shell_faces boundaries members) l)) kept ∙ s.made;
      }

  -- the shell of the boundary with label b, as the code makes it
  module _ (own : label_of boundaries b ≡ b) (low : ℕ) (lowest : low ≡ lowest_face (shell_faces boundaries members b)) (row : Outcome ShellRow)
      (says : row ≡ (outer_by answers proven low >>= λ o. Ok (record { boundary = b; low = low; outer = o; home = 0 }))) where
    oriented : orient_shell answers proven (shell_faces boundaries members b) ≡ (row >>= λ x. Ok (shell_in boundaries members x))
    unfolding orient_shell outer_by
    oriented =
        ap (λ l. outer_by answers proven l >>= λ o. Ok (record { faces = shell_faces boundaries members b; outer = o })) (sym lowest)
        ∙ bind_then (outer_by answers proven low) (λ o. Ok (record { boundary = b; low = low; outer = o; home = 0 })) (λ x. Ok (shell_in boundaries members x)) _ (λ o. refl)
        ∙ ap (λ q. q >>= λ x. Ok (shell_in boundaries members x)) (sym says)

    pub shells_stop : b < length boundaries → {r : Refusal} → row ≡ Err r → Err r ≡ shells answers proven (map (shell_faces boundaries members) (lowest_members boundaries))
    shells_stop lt e =
        let q = is_lowest boundaries in
        let later = keep q (from (suc b) (length boundaries - b - 1)) in
        let split : lowest_members boundaries ≡ keep q (below b) ++ (b ∷ later) =
        ap (keep q) (below_split b (length boundaries) (omega arith) ∙ ap (λ l. below b ++ l) (from_first b (length boundaries - b) (omega arith)))
        ∙ keep_append q (below b) (b ∷ from (suc b) (length boundaries - b - 1))
        ∙ ap (λ l. keep q (below b) ++ l) (keep_yes q b (from (suc b) (length boundaries - b - 1)) (eq-eqb (label_of boundaries b) b own)) in
        let faces = shell_faces boundaries members in
        sym
        (ap (λ l. for_each (orient_shell answers proven) (map faces l)) split
        ∙ ap (for_each (orient_shell answers proven)) (map_append faces (keep q (below b)) (b ∷ later))
        ∙ each_stop (orient_shell answers proven) (map faces (keep q (below b))) (faces b) (map faces later) (shells_in boundaries members rows) s.made (oriented ∙ bind_stop _ e))

    pub shells_more : (made : ShellRow) → row ≡ Ok made → ShellsAt answers proven boundaries members (rows ++ (made ∷ [])) (b + 1)
    shells_more made e =
        let faces = shell_faces boundaries members in
        let kept = keep_below_yes (is_lowest boundaries) b (eq-eqb (label_of boundaries b) b own) in
        let outer = bind_ok (outer_by answers proven low) _ made (sym says ∙ e) in
        let is : made ≡ record { boundary = b; low = low; outer = outer.0; home = 0 } = sym (ok_one outer.2) in
        record {
          labels = map_push (λ x. x.boundary) rows made ∙ (λ i. s.labels i ++ ((is i).boundary ∷ [])) ∙ sym kept;
          lows = All-push (LowestIn boundaries members) rows made s.lows (rw is lowest);
          made = ap (λ l. for_each (orient_shell answers proven) (map faces l)) kept
              ∙ ap (for_each (orient_shell answers proven)) (map_append faces (keep (is_lowest boundaries) (below b)) (b ∷ []))
              ∙ each_more (orient_shell answers proven) (map faces (keep (is_lowest boundaries) (below b))) (faces b) (shells_in boundaries members rows)
              (shell_in boundaries members made) s.made (oriented ∙ bind_on _ e)
              ∙ ap Ok (sym (map_push (shell_in boundaries members) rows made));
        }
