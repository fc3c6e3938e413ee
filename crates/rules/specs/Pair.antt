-- Pairing: the twin of every use. Refusals 10, 11, 12, 13, 23; of document 02's request Two 41.
use Rattle.std.specs.Prelude.{ℕ, ◌%◌, List, [], ◌∷◌, Bool, ◌&&◌, not, cond, length, get_or, set, replicate, eqb}
use Rattle.lists.specs.Lists.{below, has, all, positions, index_of}
use Rattle.rules.specs.declared.Use.{Use}
use Rattle.rules.specs.declared.Profile.{Profile}
use Rattle.rules.specs.declared.Profile.TheVariants.{AnyContact, PrintShop}
use Rattle.rules.specs.Outcome.{Outcome, Ok, refuse, ◌>>=◌, need, throughout}
use Rattle.rules.specs.Sense.{same_sense, is_same}
use Rattle.rules.specs.Job.{unset, Answer}
use Rattle.rules.specs.Questions.{ask_radial}
use Rattle.rules.specs.Read.{use_at}
use Rattle.rules.specs.declared.Fault.TheVariants.{EqualSenses, OddUses, SamePredecessor, NoTwin, NotRound, ManyUses}

-- a use is of edge e
abbrev pub on_edge : ℕ → Use → Bool
on_edge e u = eqb u.edge e

-- the uses of an edge, ascending
abbrev pub uses_of_edge : List Use → ℕ → List ℕ
uses_of_edge us e = positions (on_edge e) 0 us

-- the twin of a use
abbrev pub twin_of : List ℕ → ℕ → ℕ
twin_of ts h = get_or ts h 0

-- a and b become twins
abbrev pub twinned : List ℕ → ℕ → ℕ → List ℕ
twinned ts a b = set (set ts a b) b a

-- use h is Same
abbrev pub same_use : List Use → ℕ → Bool
same_use us h = is_same (use_at us h).sense

-- Pairing: two opposite uses are twins; 10 where their senses are equal
unfoldable pub pair_two : List Use → ℕ → ℕ → ℕ → List ℕ → Outcome (List ℕ)
pair_two us e a b ts = need (not (same_sense (use_at us a).sense (use_at us b).sense)) EqualSenses e (Ok (twinned ts a b))

-- Endings, 23: the radial list is each use of the edge once
unfoldable pub each_once : List ℕ → List ℕ → Bool
each_once uses order = eqb (length order) (length uses) && all (λ h. has h order) uses

-- Pairing: a Same use takes its predecessor p; 12 where that is Same too
unfoldable pub take_predecessor : List Use → ℕ → ℕ → ℕ → List ℕ → Outcome (List ℕ)
take_predecessor us e p h ts =
    cond (same_use us h)
    (need (not (same_use us p)) SamePredecessor e (Ok (twinned ts h p)))
    (Ok ts)

-- the uses round the edge, in order, the first of them preceded by p
unfoldable pub take_predecessors : List Use → ℕ → ℕ → List ℕ → List ℕ → Outcome (List ℕ)
take_predecessors us e p [] ts = Ok ts
take_predecessors us e p (h ∷ hs) ts = take_predecessor us e p h ts >>= take_predecessors us e h hs

-- the last of a list
unfoldable pub last_of : ℕ → List ℕ → ℕ
last_of x [] = x
last_of x (y ∷ ys) = last_of y ys

-- Pairing: for four or more, each Same use takes its predecessor in the radial order, cyclically; 20, 21, 23, 12
unfoldable pub pair_round : List Answer → List Use → ℕ → List ℕ → List ℕ → Outcome (List ℕ)
pair_round answers us e uses ts = ask_radial answers e >>= λ order.
    need (each_once uses order) NotRound e (take_predecessors us e (last_of 0 order) order ts)

-- an even number of uses, four or more; Two, 41: in the print-shop profile an edge with more than two uses is refused
abbrev pub pair_even : Profile → List Answer → List Use → ℕ → List ℕ → List ℕ → Outcome (List ℕ)
pair_even AnyContact answers us e uses ts = pair_round answers us e uses ts
pair_even PrintShop answers us e uses ts = refuse ManyUses e

-- Pairing, by the number of uses of the edge: none, one (11), two, an odd number (11), four or more; Two: 41 is tested right after 11 for that edge
unfoldable pub pair_uses : Profile → List Answer → List Use → ℕ → List ℕ → List ℕ → Outcome (List ℕ)
pair_uses profile answers us e [] ts = Ok ts
pair_uses profile answers us e (a ∷ []) ts = refuse OddUses e
pair_uses profile answers us e (a ∷ b ∷ []) ts = pair_two us e a b ts
pair_uses profile answers us e (a ∷ b ∷ c ∷ more) ts =
    let uses = a ∷ b ∷ c ∷ more in
    let even = pair_even profile answers us e uses ts in
    need (eqb (length uses % 2) 0) OddUses e even

-- Pairing: one edge
abbrev pub pair_edge : Profile → List Answer → List Use → ℕ → List ℕ → Outcome (List ℕ)
pair_edge profile answers us e ts = pair_uses profile answers us e (uses_of_edge us e) ts

-- Endings, 13: after all edges, the lowest use without twin
unfoldable pub complete : List ℕ → Outcome (List ℕ)
complete ts = need (not (has unset ts)) NoTwin (index_of unset ts) (Ok ts)

-- Pairing: edges ascending, all twins unset at first
unfoldable pub pair : Profile → List Answer → List Use → ℕ → Outcome (List ℕ)
pair profile answers us edges = throughout (pair_edge profile answers us) (below edges) (replicate (length us) unset) >>= complete
