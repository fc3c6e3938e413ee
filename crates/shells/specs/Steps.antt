-- What each function that makes shells or nests them answers.
use Rattle.std.specs.Prelude.{ℕ, ◌<◌, ◌≡◌, List, [], ◌∷◌, map, Bool, true, cond, get_or, eqb, Option, None, Some}
use Rattle.lists.specs.Lists.{keep}
use Rattle.rules.specs.Outcome.{Outcome, Ok, ◌>>=◌}
use Rattle.rules.specs.Job.{Answer}
use Rattle.rules.specs.Questions.{ask_yes}
use Rattle.rules.specs.Shells.{shell_faces, lowest_face, shell_inside, Taken, none, shell, innermost, enclosing_shell, or_refuse}
use Rattle.shells.specs.declared.ShellRow.{ShellRow}

-- the lowest merged face of each boundary, by the boundary's label
abbrev pub LowFaces : List ℕ → List ℕ → List ℕ → Type 0
LowFaces boundaries members lows = (b : ℕ) → b < 256 → get_or lows b 0 ≡ lowest_face (shell_faces boundaries members b)

-- outer by Head or by kind 12
unfoldable pub outer_by : List Answer → ℕ → ℕ → Outcome Bool
outer_by answers proven low =
    let put = ask_yes answers 12 (low ∷ []) in
    cond (eqb proven 1) (Ok true) put

-- the shell of the boundary with label b, from the lowest merged face of each, with no outer shell of its lump yet
abbrev pub shell_by : List Answer → ℕ → List ℕ → ℕ → Outcome ShellRow
shell_by answers proven lows b = outer_by answers proven (get_or lows b 0) >>= λ outer. Ok (record { boundary = b; low = get_or lows b 0; outer = outer; home = 0 })

-- the outer shells by their lowest faces
unfoldable pub outers_in : List ShellRow → List ℕ
outers_in rows = map (λ row. row.low) (keep (λ row. row.outer) rows)

-- the outer shell taken for a void so far
abbrev pub taken_of : Option ℕ → Taken
taken_of None = none
taken_of (Some o) = shell o

-- the outer shell taken after an outer shell
unfoldable pub taken_after : List Answer → ℕ → ℕ → Taken → Outcome Taken
taken_after answers void o taken =
    shell_inside answers void o >>= λ contains.
    let nearer = innermost answers taken o in
    cond contains nearer (Ok taken)

-- the outer shell of a shell's lump
unfoldable pub home_of : List Answer → List ℕ → ℕ → Bool → Outcome ℕ
home_of answers os low outer =
    let put = enclosing_shell answers low os none >>= λ taken. or_refuse taken low in
    cond outer (Ok low) put
