-- Laws of the rows that are written: edges, items and loops, the merged faces of a boundary, shells, lumps.
use Rattle.std.specs.Prelude.{ℕ, suc, ◌+◌, ◌*◌, ◌<◌, ◌≤◌, ◌≡◌, refl, Bool, true, false, ◌&&◌, not, cond, map, length, get_or, take, eqb}
use Rattle.std.specs.Int.{from_bool}
use Rattle.std.proofs.Common.{arith, sym, ap, ◌∙◌, append-nil, append_assoc, length-append, take_all}
use Rattle.std.proofs.lemmas.List.{length-map, map_more, map_push}
use mathlib.Core.List.{List, [], ◌∷◌, ◌++◌, flat_map}
use Rattle.lists.specs.Lists.{keep}
use Rattle.lists.specs.Members.{keep_yes, keep_no, keep_append}
use Rattle.lists.specs.Rows.{flat_map_map, flat_map_keep}
use Rattle.rules.specs.declared.EdgeData.{EdgeData}
use Rattle.rules.specs.Sense.{sense_number}
use Rattle.rules.specs.Fields.{bytes32, field_bytes}
use Rattle.rules.specs.Edges.{FaceLoop}
use Rattle.rules.specs.Join.{Joining}
use Rattle.rules.specs.Shells.{Nested, voids_of, lump_of, lumps}
use Rattle.rules.specs.Body.{body_kind, item_fields}
use Rattle.rules.specs.Stage.{edge_fields, face_loop_fields, joining_fields, lump_shell_fields, lump_fields}
use Rattle.fields.specs.Wrote.{Wrote}
use Rattle.edges.specs.Table.{item_in}
use Rattle.shells.specs.declared.ShellRow.{ShellRow}
use Rattle.shells.specs.declared.table.Shells.{Shells}
use Rattle.shells.specs.Table.{no_row, row_at, is_void, nested_row, nested_of}
use Rattle.stages_out.specs.Writing.{flat_map_flat_map, wrote_both, wrote_same, wrote_nothing}

-- EDGES

pub flag_kind : (b : Bool) → from_bool b ≡ body_kind b
flag_kind true = refl
flag_kind false = refl

two_are : (l : List ℕ) → length l ≡ 2 → get_or l 0 0 ∷ get_or l 1 0 ∷ [] ≡ l
two_are [] e = absurd (omega arith)
two_are (a ∷ []) e = absurd (omega arith)
two_are (a ∷ b ∷ []) e = refl
two_are (a ∷ b ∷ c ∷ l) e = absurd (omega arith)

-- the fields of an edge one by one
pub edge_fields_lem : (e : EdgeData) (sense active : ℕ) → length e.faces ≡ 2 → sense ≡ sense_number e.sense → active ≡ from_bool e.active
    → e.curve ∷ sense ∷ e.start ∷ e.end ∷ get_or e.faces 0 0 ∷ get_or e.faces 1 0 ∷ active ∷ [] ≡ edge_fields e
edge_fields_lem e sense active pair es ea t = (e.curve ∷ es t ∷ e.start ∷ e.end ∷ two_are e.faces pair t) ++ ((ea ∙ flag_kind e.active) t ∷ [])

-- LOOPS

pub loop_wrote : (face : ℕ) (part before mid after : List ℕ) (at p q : ℕ) → Wrote before at (field_bytes (face ∷ length part ∷ [])) mid p
    → Wrote mid p (field_bytes (flat_map item_fields (map item_in part))) after q → Wrote before at (field_bytes (face_loop_fields (record { face = face; items = map item_in part }))) after q
loop_wrote face part before mid after at p q u w =
    let xs = flat_map item_fields (map item_in part) in
    wrote_same (face ∷ length part ∷ xs) (face ∷ length (map item_in part) ∷ xs) before after at q (λ t. face ∷ sym (length-map part item_in) t ∷ xs)
    (wrote_both (face ∷ length part ∷ []) xs before mid after at p q u w)

-- what is seen of the edges and loops, and how many joins and rings made them so
pub joining_wrote : {edges : List EdgeData} {loops : List FaceLoop} {joins rings : ℕ} {s : Joining} → record { edges = edges; loops = loops; joins = joins; rings = rings } ≡ s
    → (before one two after : List ℕ) (p q next : ℕ)
    → Wrote before 0 (field_bytes (joins ∷ rings ∷ length edges ∷ [])) one p → Wrote one p (field_bytes (flat_map edge_fields edges)) two q
    → Wrote two q (field_bytes (flat_map face_loop_fields s.loops)) after next → Wrote before 0 (field_bytes (joining_fields s)) after next
joining_wrote {edges} {loops} {joins} {rings} {s} e before one two after p q next a b c =
    let fs = flat_map edge_fields edges ++ flat_map face_loop_fields s.loops in
    wrote_same (joins ∷ rings ∷ length edges ∷ fs) (joining_fields s) before after 0 next
    (λ t. (e t).joins ∷ (e t).rings ∷ length (e t).edges ∷ (flat_map edge_fields (e t).edges ++ flat_map face_loop_fields s.loops))
    (wrote_both (joins ∷ rings ∷ length edges ∷ []) fs before one after 0 p next a
    (wrote_both (flat_map edge_fields edges) (flat_map face_loop_fields s.loops) one two after p q next b c))

-- SHELLS

pub shell_wrote : (number n : ℕ) (fs before mid after : List ℕ) (at p q : ℕ) → n ≡ length fs → Wrote before at (field_bytes (number ∷ n ∷ [])) mid p → Wrote mid p (field_bytes fs) after q
    → Wrote before at (field_bytes (lump_shell_fields number fs)) after q
shell_wrote number n fs before mid after at p q e u w =
    wrote_same (number ∷ n ∷ fs) (lump_shell_fields number fs) before after at q (λ t. number ∷ e t ∷ fs) (wrote_both (number ∷ n ∷ []) fs before mid after at p q u w)

-- LUMPS

-- a shell in the lump with this number
abbrev pub row_bytes : Shells → ℕ → ShellRow → List ℕ
row_bytes s number row = field_bytes (lump_shell_fields number (nested_row s row).shell.faces)

-- the voids of the lump with this home and number, by the rows of the shells
pub void_rows : (s : Shells) (home number : ℕ) → flat_map (row_bytes s number) (keep (is_void home) s.rows.now) ≡ field_bytes (flat_map (lump_shell_fields number) (voids_of (nested_of s) home))
void_rows s home number =
    let ns = nested_of s in
    let void : Nested → Bool = λ x. not x.shell.outer && eqb x.home home in
    let faces : Nested → List ℕ = λ x. x.shell.faces in
    let row : Nested → List ℕ = λ x. field_bytes (lump_shell_fields number x.shell.faces) in
    flat_map_keep (row_bytes s number) (is_void home) s.rows.now
    ∙ sym
    (flat_map_flat_map bytes32 (lump_shell_fields number) (map faces (keep void ns)) ∙ flat_map_map (λ fs. field_bytes (lump_shell_fields number fs)) faces (keep void ns)
    ∙ flat_map_keep row void ns ∙ flat_map_map (λ x. cond (void x) (row x) []) (nested_row s) s.rows.now)

pub lump_wrote : (number : ℕ) (ns : List Nested) (n : Nested) (before mid after : List ℕ) (at p q : ℕ) → Wrote before at (field_bytes (lump_shell_fields number n.shell.faces)) mid p
    → Wrote mid p (field_bytes (flat_map (lump_shell_fields number) (voids_of ns n.home))) after q → Wrote before at (field_bytes (flat_map (lump_shell_fields number) (lump_of ns n))) after q
unfolding flat_map
lump_wrote number ns n before mid after at p q u w = wrote_both (lump_shell_fields number n.shell.faces) (flat_map (lump_shell_fields number) (voids_of ns n.home)) before mid after at p q u w

-- one lump more
lumps_more : (a : ℕ) (l : List (List (List ℕ))) (x : List (List ℕ)) → lump_fields a (l ++ (x ∷ [])) ≡ lump_fields a l ++ flat_map (lump_shell_fields (a + length l)) x
unfolding lump_fields
lumps_more a [] x = let z : a ≡ a + 0 = omega arith in append-nil (flat_map (lump_shell_fields a) x) ∙ ap (λ n. flat_map (lump_shell_fields n) x) z
lumps_more a (y ∷ l) x =
    let z : suc a + length l ≡ a + suc (length l) = omega arith in
    let row = flat_map (lump_shell_fields a) y in
    ap (λ r. row ++ r) (lumps_more (suc a) l x) ∙ sym (append_assoc row (lump_fields (suc a) l) (flat_map (lump_shell_fields (suc a + length l)) x))
    ∙ ap (λ n. (row ++ lump_fields (suc a) l) ++ flat_map (lump_shell_fields n) x) z

module _ (t : Shells) where
  abbrev rows : List ShellRow
  rows = t.rows.now

  abbrev one : ShellRow → Nested
  one = nested_row t

  -- the lumps of the outer ones of the first k shells
  abbrev pub first_lumps : ℕ → List (List (List ℕ))
  first_lumps k = map (lump_of (map one rows)) (keep (λ x. x.shell.outer) (map one (take k rows)))

  -- the lumps of the first k shells are written
  pub record Lumped (before after : List ℕ) (p number k : ℕ) : Type 0 where
    pub count : number ≡ length (first_lumps k)
    pub few : number ≤ k
    pub wrote : Wrote before 0 (field_bytes (lump_fields 0 (first_lumps k))) after p
    pub small : p ≤ 265224 * k

  pub lumped_start : (before : List ℕ) → Lumped before before 0 0 0
  unfolding keep lump_fields
  lumped_start before = record { count = refl; few = omega arith; wrote = wrote_nothing before 0; small = omega arith }

  module _ (before mid : List ℕ) (p number k : ℕ) (s : Lumped before mid p number k) (lt : k < length rows) where
    next : keep (λ x. x.shell.outer) (map one (take (k + 1) rows)) ≡ keep (λ x. x.shell.outer) (map one (take k rows)) ++ keep (λ x. x.shell.outer) (one (row_at rows k) ∷ [])
    next = ap (keep (λ x. x.shell.outer)) (map_more one rows k no_row lt) ∙ keep_append (λ x. x.shell.outer) (map one (take k rows)) (one (row_at rows k) ∷ [])

    pub lumped_outer : (after : List ℕ) (q : ℕ) → (row_at rows k).outer ≡ true → Wrote mid p (field_bytes (flat_map (lump_shell_fields number) (lump_of (map one rows) (one (row_at rows k))))) after q
        → q ≤ p + 265224 → Lumped before after q (number + 1) (k + 1)
    unfolding keep
    lumped_outer after q outer w most =
        let lump = lump_of (map one rows) in
        let kept = keep (λ x. x.shell.outer) (map one (take k rows)) in
        let more : first_lumps (k + 1) ≡ first_lumps k ++ (lump (one (row_at rows k)) ∷ []) =
        ap (map lump) (next ∙ ap (λ l. kept ++ l) (keep_yes (λ x. x.shell.outer) (one (row_at rows k)) [] outer)) ∙ map_push lump kept (one (row_at rows k)) in
        let z : 0 + length (first_lumps k) ≡ number = omega (arith, s.count) in
        let fields : lump_fields 0 (first_lumps k) ++ flat_map (lump_shell_fields number) (lump (one (row_at rows k))) ≡ lump_fields 0 (first_lumps (k + 1)) =
        ap (λ n. lump_fields 0 (first_lumps k) ++ flat_map (lump_shell_fields n) (lump (one (row_at rows k)))) (sym z)
        ∙ sym (ap (lump_fields 0) more ∙ lumps_more 0 (first_lumps k) (lump (one (row_at rows k)))) in
        let few = s.few in
        let small = s.small in
        record {
          count = omega (arith, s.count, ap length more, length-append (first_lumps k) (lump (one (row_at rows k)) ∷ []));
          few = omega arith;
          wrote = wrote_same _ _ before after 0 q fields (wrote_both _ _ before mid after 0 p q s.wrote w);
          small = omega arith;
        }

    pub lumped_void : (row_at rows k).outer ≡ false → Lumped before mid p number (k + 1)
    unfolding keep
    lumped_void inner =
        let kept = keep (λ x. x.shell.outer) (map one (take k rows)) in
        let same : first_lumps (k + 1) ≡ first_lumps k =
        ap (map (lump_of (map one rows))) (next ∙ ap (λ l. kept ++ l) (keep_no (λ x. x.shell.outer) (one (row_at rows k)) [] inner) ∙ append-nil kept) in
        let few = s.few in
        let small = s.small in
        record {
          count = s.count ∙ ap length (sym same);
          few = omega arith;
          wrote = wrote_same _ _ before mid 0 p (ap (lump_fields 0) (sym same)) s.wrote;
          small = omega arith;
        }

  pub lumped_all : (before after : List ℕ) (p number k : ℕ) → Lumped before after p number k → length rows ≤ k
      → Wrote before 0 (field_bytes (lump_fields 0 (lumps (nested_of t)))) after p
  unfolding lumps
  lumped_all before after p number k s le =
      wrote_same (lump_fields 0 (first_lumps k)) _ before after 0 p (ap (λ l. lump_fields 0 (map (lump_of (map one rows)) (keep (λ x. x.shell.outer) (map one l)))) (take_all k rows le)) s.wrote
