-- The outer shells of lumps are named by merged faces, so labels by lump are below 256.
use Prim.Native.Nat.{ℕ, ◌≤◌, ◌<◌}
use Rattle.std.proofs.Math.Decide.{dec_lt}
use Rattle.std.proofs.Common.{arith, sym, ◌∙◌, ⊎_elim}
use Rattle.std.specs.Prelude.{◌≡◌, refl, Bool, true, false, length, get_or, eqb}
use Rattle.std.proofs.Math.Path.{subst}
use mathlib.Core.List.Memᴰ
use mathlib.Core.List.{List, [], ◌∷◌, map}
use Rattle.std.proofs.Math.Bool.{cond}
use Rattle.std.proofs.lemmas.List.{length-map}
use Rattle.std.proofs.Math.ListN.{get_or-eq_default}
use Rattle.lists.specs.Lists.{◌∈◌, keep, index_of}
use Rattle.lists.specs.Membership.{get_or_in}
use Rattle.lists.specs.Members.{keep_in, positions_in, map_in, get_or_map}
use Rattle.rules.specs.Outcome.{Outcome, Ok, ◌>>=◌, for_each}
use Rattle.rules.proofs.OutcomeLaws.{refuse_ok, ok_one, bind_ok, cond_ok, each_none, each_ok}
use Rattle.rules.specs.Job.{Answer}
use Rattle.rules.specs.Groups.{label_of, lowest_members}
use Rattle.rules.specs.Shells.{Shell, lowest_face, shell_faces, shell_inside, Taken, none, shell, innermost, enclosing_shell, or_refuse, outers, Nested, nest, nested, lump_labels}
use Rattle.contact.specs.Clear.{LowLabels}
use Rattle.shells.specs.declared.ShellRow.{ShellRow}
use Rattle.shells.specs.Table.{shell_in, shells_in}

-- the outer shells of the lumps of some shells
abbrev pub LowHomes : List Nested → Type 0
LowHomes ns = (n : Nested) → n ∈ ns → n.home < 256

-- LOWEST FACES

lowest_low : (boundaries members : List ℕ) (b : ℕ) → length members ≤ 256 → lowest_face (shell_faces boundaries members b) < 256
lowest_low boundaries members b few =
    elim (dec_lt 0 (length (shell_faces boundaries members b))) [
      | yes h ↦
          let r = positions_in (λ r. eqb (label_of boundaries r) b) 0 members 0 (lowest_face (shell_faces boundaries members b)) (get_or_in (shell_faces boundaries members b) 0 0 h) in
          omega (arith, r.1)
      | no h ↦ omega (arith, get_or-eq_default (shell_faces boundaries members b) 0 {n = 0} (omega arith))
    ]

-- NESTING

abbrev LowTaken : Taken → Type 0
LowTaken none = Unit {0}
LowTaken (shell o) = o < 256

module _ (answers : List Answer) where
  innermost_low : (taken : Taken) (later : ℕ) (u : Taken) → LowTaken taken → later < 256 → innermost answers taken later ≡ Ok u → LowTaken u
  innermost_low none later u h l e = subst LowTaken (ok_one e) l
  innermost_low (shell now) later u h l e =
      let r = bind_ok (shell_inside answers later now) (λ yes. Ok (shell (cond yes later now))) u e in
      subst LowTaken (ok_one r.2) (go r.0)
    where
      go : (b : Bool) → cond b later now < 256
      go true = l
      go false = h

  enclosing_low : (void : ℕ) (os : List ℕ) (taken t : Taken) → ((o : ℕ) → o ∈ os → o < 256) → LowTaken taken → enclosing_shell answers void os taken ≡ Ok t → LowTaken t
  unfolding enclosing_shell
  enclosing_low void [] taken t low h e = subst LowTaken (ok_one e) h
  enclosing_low void (o ∷ os) taken t low h e =
      let r = bind_ok (shell_inside answers void o) (λ contains. cond contains (innermost answers taken o) (Ok taken) >>= enclosing_shell answers void os) t e in
      let q = bind_ok (cond r.0 (innermost answers taken o) (Ok taken)) (enclosing_shell answers void os) t r.2 in
      enclosing_low void os q.0 t (λ x m. low x (Memᴰ.tail m))
      (⊎_elim
      (λ z. innermost_low taken o q.0 h (low o (Memᴰ.head refl)) z.1)
      (λ z. subst LowTaken (ok_one z.1) h)
      (cond_ok r.0 (innermost answers taken o) (Ok taken) q.0 q.1))
      q.2

  found_low : (taken : Taken) (void o : ℕ) → LowTaken taken → or_refuse taken void ≡ Ok o → o < 256
  found_low none void o h e = absurd (refuse_ok e)
  found_low (shell x) void o h e = subst (λ y. y < 256) (ok_one e) h

  nest_low : (os : List ℕ) (s : Shell) (n : Nested) → ((o : ℕ) → o ∈ os → o < 256) → lowest_face s.faces < 256 → nest answers os s ≡ Ok n → n.home < 256
  unfolding nest
  nest_low os s n low h e =
      let low_face : ℕ = lowest_face s.faces in
      let put : Outcome ℕ = enclosing_shell answers low_face os none >>= λ taken. or_refuse taken low_face in
      let r = bind_ok (cond s.outer (Ok low_face) put) (λ o. Ok (record { shell = s; home = o })) n e in
      subst (λ (x : Nested). x.home < 256) (ok_one r.2)
      (⊎_elim
      (λ z. subst (λ y. y < 256) (ok_one z.1) h)
      (λ z.
      let q = bind_ok (enclosing_shell answers low_face os none) (λ taken. or_refuse taken low_face) r.0 z.1 in
      found_low q.0 low_face r.0 (enclosing_low low_face os none q.0 low tt q.1) q.2)
      (cond_ok s.outer (Ok low_face) put r.0 r.1))

  each_low : (os : List ℕ) (ss : List Shell) (ns : List Nested) → ((o : ℕ) → o ∈ os → o < 256) → ((s : Shell) → s ∈ ss → lowest_face s.faces < 256)
      → for_each (nest answers os) ss ≡ Ok ns → (n : Nested) → n ∈ ns → n.home < 256
  each_low os [] ns low faces e n m = absurd (Memᴰ.not-nil (subst (λ l. n ∈ l) (sym (ok_one (sym (each_none (nest answers os)) ∙ e))) m))
  each_low os (s ∷ ss) ns low faces e n m =
      let r = each_ok (nest answers os) s ss ns e in
      ⊎_elim
      (λ z. subst (λ (x : Nested). x.home < 256) (sym z) (nest_low os s r.0 low (faces s (Memᴰ.head refl)) r.2))
      (λ z. each_low os ss r.1 low (λ x i. faces x (Memᴰ.tail i)) r.3 n z)
      (Memᴰ.cases_cons (subst (λ l. n ∈ l) r.4 m))

  -- after nesting
  pub homes_low : (boundaries members : List ℕ) (rows : List ShellRow) (ns : List Nested) → length members ≤ 256
      → Ok ns ≡ nested answers (shells_in boundaries members rows) → LowHomes ns
  homes_low boundaries members rows ns few e =
      each_low (outers shells) shells ns
      (λ o m.
      let r = map_in (λ (s : Shell). lowest_face s.faces) (keep (λ s. s.outer) shells) o m in
      subst (λ x. x < 256) (sym r.2) (faces r.0 (keep_in (λ (s : Shell). s.outer) shells r.0 r.1).0))
      faces (sym e)
    where
      shells : List Shell
      shells = shells_in boundaries members rows

      faces : (s : Shell) → s ∈ shells → lowest_face s.faces < 256
      faces s m =
          let r = map_in (shell_in boundaries members) rows s m in
          subst (λ (x : Shell). lowest_face x.faces < 256) (sym r.2) (lowest_low boundaries members r.0.boundary few)

-- LABELS

pub labels_low : (boundaries : List ℕ) (ns : List Nested) → LowHomes ns → LowLabels (lump_labels boundaries ns)
unfolding lump_labels
labels_low boundaries ns low f =
    elim (dec_lt f (length boundaries)) [
      | yes h ↦ subst (λ x. x < 256) (sym (get_or_map label boundaries f 0 0 h)) (home (index_of (get_or boundaries f 0) (lowest_members boundaries)))
      | no h ↦ omega (arith, get_or-eq_default (map label boundaries) 0 {n = f} (omega (arith, length-map boundaries label)))
    ]
  where
    homes : List ℕ
    homes = map (λ (x : Nested). x.home) ns

    label : ℕ → ℕ
    label b = get_or homes (index_of b (lowest_members boundaries)) 0

    home : (i : ℕ) → get_or homes i 0 < 256
    home i =
        elim (dec_lt i (length homes)) [
          | yes h ↦
              let a = map_in (λ (x : Nested). x.home) ns (get_or homes i 0) (get_or_in homes i 0 h) in
              subst (λ x. x < 256) (sym a.2) (low a.0 a.1)
          | no h ↦ omega (arith, get_or-eq_default homes 0 {n = i} (omega arith))
        ]
