-- Joining: corners with exactly two active edge ends are taken away, one change at a time.
use Rattle.std.specs.Prelude.{ℕ, zero, suc, List, [], ◌∷◌, ◌++◌, map, Bool, true, false, ◌||◌, ◌&&◌, not, cond, length, get_or, set, take, drop, eqb, ltb, ℤ}
use Rattle.std.proofs.Math.IntN.{sub_ℕ}
use Rattle.lists.specs.Lists.{Neighbours, neighbours, keep, position, positions, same}
use Rattle.rules.specs.declared.Sense.{Sense}
use Rattle.rules.specs.declared.Sense.TheVariants.{Same, Reversed}
use Rattle.rules.specs.declared.Item.{Item}
use Rattle.rules.specs.declared.EdgeData.{EdgeData}
use Rattle.rules.specs.Outcome.{Outcome, Ok, ◌>>=◌}
use Rattle.rules.specs.Sense.{reverse}
use Rattle.rules.specs.Job.{unset, Answer}
use Rattle.rules.specs.Questions.{ask_yes, ask_same}
use Rattle.rules.specs.Fans.{fan_point}
use Rattle.rules.specs.Edges.{FaceLoop}

-- the edges ever made and the loops, and how many joins and rings made them so
pub record Joining : Type 0 where
  pub edges : List EdgeData
  pub loops : List FaceLoop
  pub joins : ℕ
  pub rings : ℕ

abbrev pub no_edge_data : EdgeData
no_edge_data = record { curve = 0; sense = Same; start = unset; end = unset; faces = 0 ∷ 0 ∷ []; active = false }

-- edge e of the result
abbrev pub edge_data_at : List EdgeData → ℕ → EdgeData
edge_data_at es e = get_or es e no_edge_data

-- CORNERS

-- one edge number, where a test holds
abbrev pub one_if : Bool → ℕ → List ℕ → List ℕ
one_if true e rest = e ∷ rest
one_if false e rest = rest

-- Joining: the active edge ends at a fan, edges counted from i; an edge with both ends there stands twice
unfoldable pub ends_from : ℕ → List EdgeData → ℕ → List ℕ
ends_from i [] v = []
ends_from i (e ∷ es) v =
    let later = ends_from (suc i) es v in
    one_if (e.active && eqb e.start v) i (one_if (e.active && eqb e.end v) i later)

abbrev pub ends_at : List EdgeData → ℕ → List ℕ
ends_at es v = ends_from 0 es v

-- Joining, the term "corner": a fan at which some active edge starts or ends
abbrev pub is_corner : List EdgeData → ℕ → Bool
is_corner es v = ltb 0 (length (ends_at es v))

-- the corners among the fans, ascending
abbrev pub corners : List EdgeData → List ℕ → List ℕ
corners es names = keep (is_corner es) names

-- Joining: edges are active until a join takes them, rings too
abbrev pub active_edges : List EdgeData → List ℕ
active_edges es = positions (λ e. e.active) 0 es

-- Joining, the term "corners less edges": the number of corners less that of active edges, which may be below zero
abbrev pub corners_less_edges : List EdgeData → List ℕ → ℤ
corners_less_edges es names = sub_ℕ (length (corners es names)) (length (active_edges es))

-- Joining: a corner with exactly two active edge ends
abbrev pub two_ends : List EdgeData → ℕ → Bool
two_ends es v = eqb (length (ends_at es v)) 2

-- LOOP PLACES

-- where a sense of an edge starts, and where it ends
abbrev pub start_fan : Sense → EdgeData → ℕ
start_fan Same e = e.start
start_fan Reversed e = e.end

abbrev pub end_fan : Sense → EdgeData → ℕ
end_fan Same e = e.end
end_fan Reversed e = e.start

-- where an item starts, and where it ends
abbrev pub item_start : List EdgeData → Item → ℕ
item_start es x = start_fan x.sense (edge_data_at es x.edge)

abbrev pub item_end : List EdgeData → Item → ℕ
item_end es x = end_fan x.sense (edge_data_at es x.edge)

-- two items are of edges a and b, in either order
abbrev pub of_both : ℕ → ℕ → Neighbours Item → Bool
of_both a b p = (eqb p.here.edge a && eqb p.next.edge b) || (eqb p.here.edge b && eqb p.next.edge a)

-- Joining, the term "loop place" of the join of edges a and b at corner v: an item ending at the corner with its next item
unfoldable pub is_place : List EdgeData → ℕ → ℕ → ℕ → Neighbours Item → Bool
is_place es v a b p = of_both a b p && (eqb (item_end es p.here) v && eqb (item_start es p.next) v)

-- the first loop place of a loop, or the number of its items where it has none
abbrev pub place_in : List EdgeData → ℕ → ℕ → ℕ → List Item → ℕ
place_in es v a b xs = position (is_place es v a b) (neighbours xs)

-- Joining: the items from position i on turn to the front
abbrev pub turned : ℕ → List Item → List Item
turned i xs = drop i xs ++ take i xs

-- Joining: two items at the front become one, Same if edge a led
unfoldable pub one_for_two : ℕ → ℕ → List Item → List Item
one_for_two a new [] = []
one_for_two a new (x ∷ xs) = record { edge = new; sense = cond (eqb x.edge a) Same Reversed } ∷ drop 1 xs

-- Joining: a loop with a place of the join has it replaced; any other stays
unfoldable pub replaced_in : List EdgeData → ℕ → ℕ → ℕ → ℕ → FaceLoop → FaceLoop
replaced_in es v a b new l =
    let i = place_in es v a b l.items in
    record { face = l.face; items = cond (ltb i (length l.items)) (one_for_two a new (turned i l.items)) l.items }

-- Joining: at each place the two items become one
abbrev pub replaced_all : List EdgeData → ℕ → ℕ → ℕ → ℕ → List FaceLoop → List FaceLoop
replaced_all es v a b new ls = map (replaced_in es v a b new) ls

-- THE TWO CHANGES

-- the end of an edge that is not at corner v
abbrev pub far_end : ℕ → EdgeData → ℕ
far_end v e = cond (eqb e.start v) e.end e.start

-- Joining: the new edge takes the first's curve, its far end, the second's far end, and the first's sense if the first ended there, else the reverse
unfoldable pub joined_edge : ℕ → EdgeData → EdgeData → EdgeData
joined_edge v a b = record {
  curve = a.curve;
  sense = cond (eqb a.end v) a.sense (reverse a.sense);
  start = far_end v a;
  end = far_end v b;
  faces = a.faces;
  active = true;
}

-- an edge taken by a join
abbrev pub retired : EdgeData → EdgeData
retired e = record { curve = e.curve; sense = e.sense; start = e.start; end = e.end; faces = e.faces; active = false }

-- an edge turned into a ring
abbrev pub ring_of : EdgeData → EdgeData
ring_of e = record { curve = e.curve; sense = e.sense; start = unset; end = unset; faces = e.faces; active = e.active }

-- Joining: the edges after the join of a and b at corner v; the new edge is numbered last
unfoldable pub join_edges : ℕ → ℕ → ℕ → List EdgeData → List EdgeData
join_edges v a b es =
    let first = edge_data_at es a in
    let second = edge_data_at es b in
    set (set es a (retired first)) b (retired second) ++ (joined_edge v first second ∷ [])

-- Joining: the join of edges a and b at corner v
unfoldable pub join_at : Joining → ℕ → ℕ → ℕ → Joining
join_at s v a b = record {
  edges = join_edges v a b s.edges;
  loops = replaced_all s.edges v a b (length s.edges) s.loops;
  joins = suc s.joins;
  rings = s.rings;
}

-- Joining: one edge with both ends at a corner becomes a ring
unfoldable pub ring_at : Joining → ℕ → Joining
ring_at s a = record {
  edges = set s.edges a (ring_of (edge_data_at s.edges a));
  loops = s.loops;
  joins = s.joins;
  rings = suc s.rings;
}

-- QUESTIONS AT A CORNER

-- Job records, kind 11: curve, lower face, higher face, point
abbrev pub singular : List Answer → EdgeData → ℕ → Outcome Bool
singular answers e point = ask_yes answers 11 (e.curve ∷ (e.faces ++ (point ∷ [])))

-- a question that is put where a test holds; else the answer is no
abbrev pub only_if : Bool → Outcome Bool → Outcome Bool
only_if true question = question
only_if false question = Ok false

-- Joining: one edge becomes a ring unless singular
abbrev pub not_singular : List Answer → EdgeData → ℕ → Outcome Bool
not_singular answers e point = singular answers e point >>= λ yes. Ok (not yes)

-- Joining: two edges need equal face pairs, then same curve, then not singular for the first
unfoldable pub may_join : List Answer → EdgeData → EdgeData → ℕ → Outcome Bool
may_join answers a b point =
    let same_curve = ask_same answers 10 a.curve b.curve in
    let smooth = not_singular answers a point in
    only_if (same a.faces b.faces) same_curve >>= λ yes.
    only_if yes smooth

-- what a corner does: nothing, or a change
pub data Tried : Type 0 where
  unchanged : Tried
  changed : Joining → Tried

-- a change where the question is answered yes
abbrev pub changed_if : Outcome Bool → Joining → Outcome Tried
changed_if question s = question >>= λ yes. Ok (cond yes (changed s) unchanged)

-- Joining: corner v, at its point, with its active edge ends; lower edge first
unfoldable pub at_corner : List Answer → ℕ → Joining → ℕ → List ℕ → Outcome Tried
at_corner answers point s v [] = Ok unchanged
at_corner answers point s v (a ∷ []) = Ok unchanged
at_corner answers point s v (a ∷ b ∷ []) =
    let first = edge_data_at s.edges a in
    let second = edge_data_at s.edges b in
    let ring = changed_if (not_singular answers first point) (ring_at s a) in
    let join = changed_if (may_join answers first second point) (join_at s v a b) in
    cond (eqb a b) ring join
at_corner answers point s v (a ∷ b ∷ c ∷ more) = Ok unchanged

-- SWEEPS

-- Joining: the sweep stops at its first change
abbrev pub or_else : Tried → Outcome Tried → Outcome Tried
or_else unchanged later = later
or_else (changed s) later = Ok (changed s)

-- Joining: the sweep over the fans, ascending
unfoldable pub sweep : List Answer → List ℕ → Joining → List ℕ → Outcome Tried
sweep answers starts s [] = Ok unchanged
sweep answers starts s (v ∷ vs) =
    at_corner answers (fan_point starts v) s v (ends_at s.edges v) >>= λ t.
    let later = sweep answers starts s vs in
    or_else t later

-- Joining: after a change it begins afresh
abbrev pub after_sweep : Tried → Joining → (Joining → Outcome Joining) → Outcome Joining
after_sweep unchanged s again = Ok s
after_sweep (changed next) s again = again next

-- Joining: at most so many changes; each takes a corner away, so that there are at most as many as fans
unfoldable pub maximal_edges : List Answer → List ℕ → List ℕ → ℕ → Joining → Outcome Joining
maximal_edges answers starts names zero s = Ok s
maximal_edges answers starts names (suc most) s =
    sweep answers starts s names >>= λ t. after_sweep t s (maximal_edges answers starts names most)
