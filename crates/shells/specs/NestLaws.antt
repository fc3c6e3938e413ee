-- Laws of nesting: the outer shell taken for a void, and the outer shells of all shells' lumps.
use Rattle.std.specs.Prelude.{ℕ, ◌+◌, ◌≤◌, ◌<◌, ◌≡◌, Bool, true, false, List, [], ◌∷◌, ◌++◌, map, length, set, take, drop, cond}
use Rattle.std.specs.List.{All}
use Rattle.std.proofs.Common.{refl, sym, ap, ◌∙◌}
use Rattle.std.proofs.lemmas.List.{drop_more, drop_all, map_push, take_more_set, take-append-drop, take_all, map-append}
use Rattle.std.proofs.lemmas.List.Elements.{All-head, All-tail, All-get_or, All-set}
use Rattle.std.proofs.Math.Seq.{map-set_same}
use Rattle.lists.specs.Lists.{keep}
use Rattle.lists.specs.Members.{keep_yes, keep_no}
use Rattle.rules.specs.declared.Refusal.{Refusal}
use Rattle.rules.specs.Outcome.{Outcome, Ok, Err, ◌>>=◌, for_each}
use Rattle.rules.proofs.OutcomeLaws.{bind_on, bind_stop, bind_then, each_none}
use Rattle.rules.specs.Job.{Answer}
use Rattle.rules.specs.Shells.{Shell, lowest_face, shell_inside, Taken, none, innermost, enclosing_shell, outers, Nested, nest, nested}
use Rattle.shells.specs.declared.ShellRow.{ShellRow}
use Rattle.shells.specs.Table.{no_row, row_at, shell_in, shells_in, nested_one, nested_in, LowestIn, Shelled}
use Rattle.shells.specs.Steps.{outers_in, taken_after, home_of}
use Rattle.shells.specs.Each.{each_more, each_stop}

-- OUTER SHELLS IN ORDER

-- what is left to do at shell k
abbrev pub EnclosingAt : List Answer → ℕ → List ShellRow → ℕ → Taken → Type 0
EnclosingAt answers void rows k taken = enclosing_shell answers void (outers_in rows) none ≡ enclosing_shell answers void (outers_in (drop k rows)) taken

module _ (answers : List Answer) (void : ℕ) (rows : List ShellRow) (k : ℕ) (taken : Taken) (left : EnclosingAt answers void rows k taken) where
  -- shell k is outer, or not
  pub enclosing_outer : k < length rows → (row_at rows k).outer ≡ true → enclosing_shell answers void (outers_in rows) none
      ≡ (taken_after answers void (row_at rows k).low taken >>= enclosing_shell answers void (outers_in (drop (k + 1) rows)))
  unfolding enclosing_shell outers_in taken_after
  enclosing_outer lt is =
      let row = row_at rows k in
      let rest = drop (k + 1) rows in
      left ∙ ap (λ l. enclosing_shell answers void (map (λ x. x.low) l) taken) (ap (keep (λ x. x.outer)) (drop_more rows k no_row lt) ∙ keep_yes (λ x. x.outer) row rest is)
      ∙ bind_then (shell_inside answers void row.low) (λ contains. cond contains (innermost answers taken row.low) (Ok taken)) (enclosing_shell answers void (outers_in rest)) _ (λ contains. refl)

  pub enclosing_void : k < length rows → (row_at rows k).outer ≡ false → EnclosingAt answers void rows (k + 1) taken
  unfolding outers_in
  enclosing_void lt is =
      left ∙ ap (λ l. enclosing_shell answers void (map (λ x. x.low) l) taken) (ap (keep (λ x. x.outer)) (drop_more rows k no_row lt) ∙ keep_no (λ x. x.outer) (row_at rows k) (drop (k + 1) rows) is)

  pub enclosing_end : length rows ≤ k → Ok taken ≡ enclosing_shell answers void (outers_in rows) none
  unfolding enclosing_shell outers_in keep
  enclosing_end le = sym (left ∙ ap (λ l. enclosing_shell answers void (outers_in l) taken) (drop_all k rows le))

-- ALL SHELLS

-- the outer ones of the shells, by their lowest faces
pub shelled_outers : (boundaries members : List ℕ) (rows : List ShellRow) → All (LowestIn boundaries members) rows → outers (shells_in boundaries members rows) ≡ outers_in rows
unfolding outers_in keep
shelled_outers boundaries members [] h = refl
shelled_outers boundaries members (row ∷ rows) h = go row.outer (shelled_outers boundaries members rows (All-tail (LowestIn boundaries members) row rows h))
  where
    rest : List Shell
    rest = keep (λ s. s.outer) (shells_in boundaries members rows)

    go : (b : Bool) → map (λ s. lowest_face s.faces) rest ≡ map (λ x. x.low) (keep (λ x. x.outer) rows)
        → map (λ s. lowest_face s.faces) (cond b (shell_in boundaries members row ∷ rest) rest) ≡ map (λ x. x.low) (cond b (row ∷ keep (λ x. x.outer) rows) (keep (λ x. x.outer) rows))
    go true e = λ i. sym (All-head (LowestIn boundaries members) row rows h) i ∷ e i
    go false e = e

-- the homes of the first k shells are stored; rows₀ is the table before
pub record NestAt (answers : List Answer) (boundaries members : List ℕ) (rows₀ rows : List ShellRow) (k : ℕ) : Type 0 where
  pub same : shells_in boundaries members rows ≡ shells_in boundaries members rows₀
  pub shelled : Shelled boundaries members rows
  pub made : for_each (nest answers (outers (shells_in boundaries members rows))) (map (shell_in boundaries members) (take k rows)) ≡ Ok (nested_in boundaries members (take k rows))

module _ (answers : List Answer) (boundaries members : List ℕ) where
  abbrev shell : ShellRow → Shell
  shell = shell_in boundaries members

  abbrev nested_row : ShellRow → Nested
  nested_row = nested_one boundaries members

  abbrev low : ShellRow → Type 0
  low = LowestIn boundaries members

  -- a shell nested among the outer ones of the rows
  abbrev nest_in : List ShellRow → Shell → Outcome Nested
  nest_in rows = nest answers (outers (map shell rows))

  pub nest_start : (rows : List ShellRow) → Shelled boundaries members rows → NestAt answers boundaries members rows rows 0
  nest_start rows s = record { same = refl; shelled = s; made = each_none (nest_in rows) }

  module _ (rows₀ rows : List ShellRow) (k : ℕ) (at : NestAt answers boundaries members rows₀ rows k) where
    module _ (lt : k < length rows) (found : Outcome ℕ) (says : found ≡ home_of answers (outers_in rows) (row_at rows k).low (row_at rows k).outer) where
      abbrev this : Shell
      this = shell (row_at rows k)

      one : nest_in rows this ≡ (found >>= λ o. Ok (record { shell = this; home = o }))
      unfolding nest home_of
      one =
          let lows = at.shelled.lows in
          (λ i. home_of answers (shelled_outers boundaries members rows lows i) (sym (All-get_or low rows k no_row lt lows) i) this.outer >>= λ o. Ok (record { shell = this; home = o }))
          ∙ ap (λ q. q >>= λ o. Ok (record { shell = this; home = o })) (sym says)

      pub nest_stop : {r : Refusal} → found ≡ Err r → Err r ≡ nested answers (map shell rows₀)
      nest_stop e =
          let split : map shell rows ≡ map shell (take k rows) ++ (this ∷ map shell (drop (k + 1) rows)) =
          ap (map shell) (sym (take-append-drop k rows) ∙ ap (λ l. take k rows ++ l) (drop_more rows k no_row lt)) ∙ map-append shell (take k rows) (row_at rows k ∷ drop (k + 1) rows) in
          sym
          (ap (nested answers) (sym at.same) ∙ ap (for_each (nest_in rows)) split
          ∙ each_stop (nest_in rows) (map shell (take k rows)) this (map shell (drop (k + 1) rows)) (map nested_row (take k rows)) at.made (one ∙ bind_stop _ e))

      pub nest_step : (home : ℕ) (row : ShellRow) → found ≡ Ok home → row ≡ record { boundary = (row_at rows k).boundary; low = (row_at rows k).low; outer = (row_at rows k).outer; home = home }
          → NestAt answers boundaries members rows₀ (set rows k row) (k + 1)
      nest_step home row e is =
          let same : map shell (set rows k row) ≡ map shell rows = map-set_same shell rows k row no_row (ap shell is) in
          let more = take_more_set rows k row lt in
          record {
            same = same ∙ at.same;
            shelled = record {
              labels = map-set_same (λ x. x.boundary) rows k row no_row (ap (λ x. x.boundary) is) ∙ at.shelled.labels;
              lows = All-set low rows k row (rw is (All-get_or low rows k no_row lt at.shelled.lows)) at.shelled.lows;
            };
            made = (λ i. for_each (nest answers (outers (same i))) (map shell (more i)))
                ∙ ap (for_each (nest_in rows)) (map_push shell (take k rows) row ∙ ap (λ s. map shell (take k rows) ++ (s ∷ [])) (ap shell is))
                ∙ each_more (nest_in rows) (map shell (take k rows)) this (map nested_row (take k rows)) (nested_row row) at.made (one ∙ bind_on _ e ∙ ap (λ x. Ok (nested_row x)) (sym is))
                ∙ ap Ok (sym (map_push nested_row (take k rows) row)) ∙ ap (λ l. Ok (map nested_row l)) (sym more);
          }

    pub nest_end : length rows ≤ k → Ok (map nested_row rows) ≡ nested answers (map shell rows₀)
    nest_end le =
        let all = take_all k rows le in
        sym (ap (nested answers) (sym at.same) ∙ ap (λ l. for_each (nest_in rows) (map shell l)) (sym all) ∙ at.made ∙ ap (λ l. Ok (map nested_row l)) all)
