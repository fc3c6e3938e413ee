-- Chains of faces: none at first, a walk along one, one face more, and other records that change nothing.
use Rattle.std.specs.Prelude.{ℕ, suc, ◌+◌, ◌-◌, ◌≤◌, ◌<◌, ◌≡◌, ◌≢◌, ◌%◌, refl, List, [], ◌∷◌, ◌++◌, false, ◌||◌, eqb, get_or, set, map, replicate}
use Rattle.std.proofs.Common.{add-one, arith, sym, ap, ◌∙◌, mod-lt, ne_eqb}
use Rattle.std.proofs.Math.Decide.{ℕ_discrete}
use Rattle.std.proofs.Math.Bool.{or-false}
use Rattle.std.proofs.Math.Nat.{mod-eq_of_lt}
use Rattle.std.proofs.lemmas.Bool.{and_right}
use Rattle.std.proofs.lemmas.List.{length-replicate}
use Rattle.std.proofs.Math.ListN.{length-set}
use Rattle.std.proofs.Math.Seq.{get_or-set_same, get_or-set_other}
use Rattle.lists.specs.Lists.{below, some}
use Rattle.lists.specs.Constants.{get_or_constant}
use Rattle.lists.specs.Members.{some_same}
use Rattle.lists.specs.Runs.{from_none}
use Rattle.lists.specs.Appended.{some_snoc}
use Rattle.lists.specs.Tests.{or_comm}
use Rattle.rules.specs.declared.Counts.{Counts}
use Rattle.rules.specs.declared.Face.{Face}
use Rattle.rules.specs.Fields.{le32}
use Rattle.rules.specs.Load.{same_source}
use Rattle.fields.specs.Chains.{chain, next_in, Falling, chain_end, chain_on, chain_more, chain_below, chain_same}
use Rattle.job.specs.Lists.{face_byte, face_in, faces_in}
use Rattle.selected.specs.declared.Sources.{Sources}
use Rattle.selected.specs.Sources.{bucket_of, no_sources, face_entered, is_face, found_from, Sourced}

pub bucket_below : (source : ℕ) → bucket_of source < 256
unfolding bucket_of
bucket_below source = mod-lt source (omega arith)

-- NONE

pub sourced_none : (bytes ix : List ℕ) (c : Counts) → c.faces ≡ 0 → Sourced bytes ix no_sources c
unfolding some faces_in
sourced_none bytes ix c none = record {
  buckets = length-replicate {A = ℕ} 256 0;
  room = length-replicate {A = ℕ} 256 0;
  falling = λ k. omega (arith, blank k);
  heads = λ b h. omega (arith, blank b);
  finds = λ room f. ap (found_from bytes ix no_sources f) (blank (bucket_of f.source)) ∙ nothing f ∙ sym (no_faces f);
}
  where
    blank : (i : ℕ) → get_or {A = ℕ} (replicate 256 0) i 0 ≡ 0
    blank i = get_or_constant {A = ℕ} 256 0 i

    nothing : (f : Face) → found_from bytes ix no_sources f 0 ≡ false
    nothing f = ap (some (is_face bytes ix f)) (chain_end (next_in (replicate 256 0)))

    no_faces : (f : Face) → some (same_source f) (faces_in bytes ix c) ≡ false
    no_faces f =
        ap (λ n. some (same_source f) (map (λ k. face_in bytes (face_byte ix k)) (below n))) none
        ∙ ap (λ l. some (same_source f) (map (λ k. face_in bytes (face_byte ix k)) l)) (from_none 0)

-- A WALK

module _ {bytes ix : List ℕ} {s : Sources} {c : Counts} (S : Sourced bytes ix s c) (f : Face) where
  -- it begins at the head of the face's bucket
  pub walk_start : c.faces < 256 → found_from bytes ix s f (get_or s.heads (f.source % 256) 0) ≡ some (same_source f) (faces_in bytes ix c)
  unfolding bucket_of
  walk_start room = S.finds room f

  -- one face looked at, then those after it, which stand lower on its chain
  pub walk_more : (entry : ℕ) → 0 < entry
      → (found_from bytes ix s f entry ≡ (same_source f (face_in bytes (face_byte ix (entry - 1))) || found_from bytes ix s f (get_or s.nexts (entry - 1) 0)))
      × (get_or s.nexts (entry - 1) 0 < entry)
  unfolding some
  walk_more entry h = (ap (some (is_face bytes ix f)) (chain_more (next_in s.nexts) S.falling entry h), omega (arith, S.falling (entry - 1)))

  -- the end of the chain
  pub walk_end : found_from bytes ix s f 0 ≡ false
  unfolding some
  walk_end = ap (some (is_face bytes ix f)) (chain_end (next_in s.nexts))

-- TWO TABLES THAT AGREE

-- a walk meets only faces below its entry
pub found_same : (bytes ix iy : List ℕ) (s t : Sources) (f : Face) (entry : ℕ) → Falling (next_in s.nexts) → ((k : ℕ) → k < entry → next_in s.nexts k ≡ next_in t.nexts k)
    → ((k : ℕ) → k < entry → face_byte iy k ≡ face_byte ix k) → found_from bytes iy t f entry ≡ found_from bytes ix s f entry
found_same bytes ix iy s t f entry falls nexts places =
    ap (some (is_face bytes iy f)) (sym (chain_same (next_in s.nexts) (next_in t.nexts) falls entry nexts))
    ∙ some_same (is_face bytes iy f) (is_face bytes ix f) (chain (next_in s.nexts) entry)
    (λ k m. ap (λ p. same_source f (face_in bytes p)) (places k (chain_below (next_in s.nexts) falls entry k m)))

-- a record that is no face
pub sourced_same : (bytes ix iy : List ℕ) (s : Sources) (c d : Counts) → Sourced bytes ix s c → d.faces ≡ c.faces
    → ((k : ℕ) → k < c.faces → face_byte iy k ≡ face_byte ix k) → faces_in bytes iy d ≡ faces_in bytes ix c → Sourced bytes iy s d
sourced_same bytes ix iy s c d S count places faces = record {
  buckets = S.buckets;
  room = S.room;
  falling = S.falling;
  heads = λ b h. omega (arith, S.heads b h, count);
  finds = λ room f.
      let head : get_or s.heads (bucket_of f.source) 0 ≤ c.faces = S.heads (bucket_of f.source) (bucket_below f.source) in
      found_same bytes ix iy s s f (get_or s.heads (bucket_of f.source) 0) S.falling (λ k h. refl) (λ k h. places k (omega (arith, h, head)))
      ∙ S.finds (omega (arith, room, count)) f ∙ ap (some (same_source f)) (sym faces);
}

-- ONE FACE MORE

module _ (bytes ix iy : List ℕ) (s : Sources) (c d : Counts) (at : ℕ) (S : Sourced bytes ix s c) (low : c.faces < 256) (count : d.faces ≡ c.faces + 1)
    (places : (k : ℕ) → k < c.faces → face_byte iy k ≡ face_byte ix k) (here : face_byte iy c.faces ≡ at)
    (faces : faces_in bytes iy d ≡ faces_in bytes ix c ++ (face_in bytes at ∷ []))
  where
    abbrev k : ℕ
    k = c.faces

    abbrev b : ℕ
    b = bucket_of (le32 bytes (at + 22))

    abbrev head : ℕ
    head = get_or s.heads b 0

    abbrev t : Sources
    t = record { heads = set s.heads b ((c.faces + 1) % 256); nexts = set s.nexts c.faces (get_or s.heads b 0) }

    -- one head and one entry change
    head_new : get_or t.heads b 0 ≡ (k + 1) % 256
    head_new = get_or-set_same s.heads b ((k + 1) % 256) 0 (omega (arith, bucket_below (le32 bytes (at + 22)), S.buckets))

    head_old : (j : ℕ) → j ≢ b → get_or t.heads j 0 ≡ get_or s.heads j 0
    head_old j n = get_or-set_other s.heads b j ((k + 1) % 256) 0 n

    next_new : next_in t.nexts k ≡ head
    next_new = get_or-set_same s.nexts k head 0 (omega (arith, S.room, low))

    next_old : (j : ℕ) → j ≢ k → next_in t.nexts j ≡ next_in s.nexts j
    next_old j n = get_or-set_other s.nexts k j head 0 n

    falls : Falling (next_in t.nexts)
    falls j = elim (ℕ_discrete j k) [
      | yes e ↦ rw e (omega (arith, next_new, S.heads b (bucket_below (le32 bytes (at + 22)))))
      | no n ↦ omega (arith, next_old j n, S.falling j)
    ]

    -- walks that begin below it go as before
    before : (f : Face) (entry : ℕ) → entry ≤ k → found_from bytes iy t f entry ≡ found_from bytes ix s f entry
    before f entry h =
        found_same bytes ix iy s t f entry S.falling
        (λ j l. sym (next_old j (λ e. omega arith))) (λ j l. places j (omega arith))

    -- among the faces it comes last
    among : (f : Face) → some (same_source f) (faces_in bytes iy d) ≡ (some (same_source f) (faces_in bytes ix c) || same_source f (face_in bytes at))
    among f = ap (some (same_source f)) faces ∙ some_snoc (same_source f) (faces_in bytes ix c) (face_in bytes at)

    -- a face with its bucket: it is the first on the chain
    own_bucket : d.faces < 256 → (f : Face) → bucket_of f.source ≡ b → found_from bytes iy t f (get_or t.heads (bucket_of f.source) 0) ≡ some (same_source f) (faces_in bytes iy d)
    unfolding some
    own_bucket room f e =
        let low' : head ≤ k = S.heads b (bucket_below (le32 bytes (at + 22))) in
        let start : get_or t.heads (bucket_of f.source) 0 ≡ suc k = ap (λ n. get_or t.heads n 0) e ∙ head_new ∙ mod-eq_of_lt (omega (arith, room, count)) ∙ add-one k in
        ap (found_from bytes iy t f) start
        ∙ ap (some (is_face bytes iy f)) (chain_on (next_in t.nexts) falls k)
        ∙ (λ i. same_source f (face_in bytes (here i)) || found_from bytes iy t f (next_new i))
        ∙ ap (λ v. same_source f (face_in bytes at) || v) (before f head low' ∙ ap (λ n. found_from bytes ix s f (get_or s.heads n 0)) (sym e) ∙ S.finds low f)
        ∙ or_comm (same_source f (face_in bytes at)) (some (same_source f) (faces_in bytes ix c))
        ∙ sym (among f)

    -- a face of another bucket has another number
    another : (f : Face) → bucket_of f.source ≢ b → same_source f (face_in bytes at) ≡ false
    unfolding face_in
    another f n = and_right (eqb f.body (le32 bytes (at + 18))) _ (ne_eqb f.source (le32 bytes (at + 22)) (λ e. n (ap bucket_of e)))

    other_bucket : (f : Face) → bucket_of f.source ≢ b → found_from bytes iy t f (get_or t.heads (bucket_of f.source) 0) ≡ some (same_source f) (faces_in bytes iy d)
    other_bucket f n =
        ap (found_from bytes iy t f) (head_old (bucket_of f.source) n)
        ∙ before f (get_or s.heads (bucket_of f.source) 0) (S.heads (bucket_of f.source) (bucket_below f.source)) ∙ S.finds low f
        ∙ sym (or-false (some (same_source f) (faces_in bytes ix c)))
        ∙ ap (λ v. some (same_source f) (faces_in bytes ix c) || v) (sym (another f n)) ∙ sym (among f)

    pub sourced_enter : Sourced bytes iy (face_entered bytes s c.faces at) d
    unfolding face_entered
    sourced_enter = record {
      buckets = length-set s.heads b ((k + 1) % 256) ∙ S.buckets;
      room = length-set s.nexts k head ∙ S.room;
      falling = falls;
      heads = λ j h.
          elim (ℕ_discrete j b) [
            | yes e ↦ rw e (omega (arith, head_new, count, low))
            | no n ↦ omega (arith, head_old j n, S.heads j h, count)
          ];
      finds = λ room f. elim (ℕ_discrete (bucket_of f.source) b) [ yes e ↦ own_bucket room f e | no n ↦ other_bucket f n ];
    }
