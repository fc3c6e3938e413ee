-- Shells: outer or void, the outer shell that encloses each void, and lumps. Refusal 34.
use Rattle.std.specs.Prelude.{ℕ, List, [], ◌∷◌, map, Bool, true, ◌&&◌, not, cond, get_or, eqb}
use Rattle.lists.specs.Lists.{keep, positions, index_of}
use Rattle.rules.specs.Outcome.{Outcome, Ok, refuse, ◌>>=◌, for_each}
use Rattle.rules.specs.Job.{Answer}
use Rattle.rules.specs.Questions.{ask_yes}
use Rattle.rules.specs.Groups.{label_of, lowest_members}
use Rattle.rules.specs.declared.Fault.TheVariants.{NoOuterShell}

-- a shell: its merged faces ascending, and whether it is outer
pub record Shell : Type 0 where
  pub faces : List ℕ
  pub outer : Bool

-- the merged face that names a shell in questions and refusals
abbrev pub lowest_face : List ℕ → ℕ
lowest_face faces = get_or faces 0 0

-- Shells: the merged faces of the boundary with label b, from the lowest member of each merged face
abbrev pub shell_faces : List ℕ → List ℕ → ℕ → List ℕ
shell_faces boundaries members b = positions (λ r. eqb (label_of boundaries r) b) 0 members

-- Shells: boundaries by lowest face, each as its merged faces
abbrev pub all_shell_faces : List ℕ → List ℕ → List (List ℕ)
all_shell_faces boundaries groups = map (shell_faces boundaries (lowest_members groups)) (lowest_members boundaries)

-- Shells: outer if Head says so or by kind 12
unfoldable pub orient_shell : List Answer → ℕ → List ℕ → Outcome Shell
orient_shell answers proven faces =
    let put = ask_yes answers 12 (lowest_face faces ∷ []) in
    cond (eqb proven 1) (Ok true) put >>= λ yes.
    Ok (record { faces = faces; outer = yes })

-- Shells: asked in that order
abbrev pub shells : List Answer → ℕ → List (List ℕ) → Outcome (List Shell)
shells answers proven all = for_each (orient_shell answers proven) all

-- Job records, kind 13: the probe lies inside the container, each named by its lowest face
abbrev pub shell_inside : List Answer → ℕ → ℕ → Outcome Bool
shell_inside answers probe container = ask_yes answers 13 (probe ∷ container ∷ [])

-- the outer shell taken for a void so far, by its lowest face
pub data Taken : Type 0 where
  none : Taken
  shell : ℕ → Taken

-- Shells: take one containing it, replace it by a later containing one that lies inside it
abbrev pub innermost : List Answer → Taken → ℕ → Outcome Taken
innermost answers none later = Ok (shell later)
innermost answers (shell now) later = shell_inside answers later now >>= λ yes. Ok (shell (cond yes later now))

-- Shells: for each void, outer shells in order
unfoldable pub enclosing_shell : List Answer → ℕ → List ℕ → Taken → Outcome Taken
enclosing_shell answers void [] taken = Ok taken
enclosing_shell answers void (o ∷ os) taken =
    shell_inside answers void o >>= λ contains.
    let nearer = innermost answers taken o in
    cond contains nearer (Ok taken) >>= enclosing_shell answers void os

-- Endings, 34: a void without enclosing outer shell, at its lowest face
abbrev pub or_refuse : Taken → ℕ → Outcome ℕ
or_refuse none void = refuse NoOuterShell void
or_refuse (shell o) void = Ok o

-- the outer shells by their lowest faces
abbrev pub outers : List Shell → List ℕ
outers ss = map (λ s. lowest_face s.faces) (keep (λ s. s.outer) ss)

-- a shell with the outer shell of its lump, that by its lowest face
pub record Nested : Type 0 where
  pub shell : Shell
  pub home : ℕ

-- Shells: an outer shell is its own lump's; a void's is the one that encloses it
unfoldable pub nest : List Answer → List ℕ → Shell → Outcome Nested
nest answers os s =
    let low = lowest_face s.faces in
    let put = enclosing_shell answers low os none >>= λ taken. or_refuse taken low in
    cond s.outer (Ok low) put >>= λ o.
    Ok (record { shell = s; home = o })

-- nesting: every shell in order
abbrev pub nested : List Answer → List Shell → Outcome (List Nested)
nested answers ss = for_each (nest answers (outers ss)) ss

-- the voids whose outer shell is o, each as its merged faces
abbrev pub voids_of : List Nested → ℕ → List (List ℕ)
voids_of ns o = map (λ n. n.shell.faces) (keep (λ n. not n.shell.outer && eqb n.home o) ns)

-- an outer shell, its voids after it
abbrev pub lump_of : List Nested → Nested → List (List ℕ)
lump_of ns n = n.shell.faces ∷ voids_of ns n.home

-- Shells: the lumps by outer shell; each shell as its merged faces
unfoldable pub lumps : List Nested → List (List (List ℕ))
lumps ns = map (lump_of ns) (keep (λ n. n.shell.outer) ns)

-- the selected faces labelled by lump: by the outer shell of the shell that their boundary is
unfoldable pub lump_labels : List ℕ → List Nested → List ℕ
lump_labels boundaries ns = map (λ b. get_or (map (λ n. n.home) ns) (index_of b (lowest_members boundaries)) 0) boundaries
