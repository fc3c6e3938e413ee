-- Laws of tables of parents: each number alone, halving a path, joining two groups, and labels put in the parents' place.
use Rattle.std.specs.Prelude.{ℕ, zero, suc, ◌≤◌, ◌<◌, min, max, ◌≡◌, refl, ◌⊎◌, true, false, not, List, map, length, get_or, set}
use Rattle.std.proofs.Common.{eq-or-lt_of_le, le_refl, not-suc-le-zero, arith, sym, ap, ◌∙◌, subst, inl, inr, ⊎_elim, length-set, ext_get_or, eq-eqb, ne_eqb}
use Rattle.std.proofs.Math.Decide.{dec_lt, ℕ_discrete}
use Rattle.std.proofs.lemmas.List.{get_or_past}
use Rattle.std.proofs.Math.Seq.{set_out}
use Rattle.lists.specs.Lists.{below}
use Rattle.lists.specs.Runs.{length_below, get_or_below, length_table, get_or_table}
use Rattle.lists.specs.Tables.{set_each}
use Rattle.rules.specs.Groups.{alone, label_of, joined}
use Rattle.rules.proofs.GroupLaws.{length_joined, joined_at, joined_same as joined_none}
use Rattle.groups.specs.Parents.{Ordered, Stands, Rooted, JoinedIn, SeparateIn}

within : (l : List ℕ) (i : ℕ) → (i < length l) ⊎ (length l ≤ i)
within l i = elim (dec_lt i (length l)) [ yes h ↦ inl h | no h ↦ inr (omega arith) ]

-- after a store that may lie past the end
set_any : (P : ℕ → ℕ → Type 0) (l : List ℕ) (i v j : ℕ) → (i < length l → P i v) → P j (get_or l j 0) → P j (get_or (set l i v) j 0)
set_any P l i v j here there =
    ⊎_elim (λ h. set_each P l i v 0 h (here h) j (λ n. there)) (λ h. rw (set_out l i v h) there) (within l i)

-- EACH ALONE

-- the first i numbers are their own parents
abbrev pub Numbered : List ℕ → ℕ → Type 0
Numbered p i = (j : ℕ) → j < i → get_or p j 0 ≡ j

own : (n i : ℕ) → label_of (alone n) i ≤ i
own n i =
    ⊎_elim
    (λ h. let e = get_or_below n i 0 (omega (arith, length_below n)) in omega arith)
    (λ h. let e = get_or_past (alone n) i 0 h in omega arith)
    (within (alone n) i)

alone_stands : (n : ℕ) → Stands (alone n) (alone n)
alone_stands n = record {
  size = refl;
  ordered = record { low = own n };
  up = λ i. ⊎_elim
      (λ h. ap (label_of (alone n)) (get_or_below n i 0 (omega (arith, length_below n))))
      (λ h. let e = get_or_past (alone n) i 0 h in let z = own n 0 in ap (label_of (alone n)) e ∙ omega arith)
      (within (alone n) i);
  top = λ i e. e;
}

pub numbered_all : (p : List ℕ) (n i : ℕ) → length p ≡ n → Numbered p i → i ≡ n → (p ≡ alone n) × Stands p (alone n)
numbered_all p n i e h f =
    let is : p ≡ alone n = ext_get_or 0 p (alone n) (e ∙ sym (length_below n)) (λ j l. h j (omega arith) ∙ sym (get_or_below n j 0 (omega arith))) in
    (is, subst (λ q. Stands q (alone n)) (sym is) (alone_stands n))

-- LABELS

-- a label is its own label
label_own : {p ls : List ℕ} → Stands p ls → (i : ℕ) → label_of ls (label_of ls i) ≡ label_of ls i
label_own {p} {ls} s i = go (suc i) i (le_refl (suc i))
  where
    go : (k i : ℕ) → i < k → label_of ls (label_of ls i) ≡ label_of ls i
    go zero i l = absurd (not-suc-le-zero l)
    go (suc k) i l =
        ⊎_elim
        (λ e. ap (label_of ls) (s.top i e))
        (λ q. let u = s.up i in ap (label_of ls) (sym u) ∙ go k (get_or p i 0) (omega arith) ∙ u)
        (eq-or-lt_of_le (s.ordered.low i))

-- HALVING

-- on the way from a number to its root: i, whose parent is up
pub record Climbing (before : List ℕ) (start : ℕ) (now : List ℕ) (i up : ℕ) : Type 0 where
  pub ordered : Ordered now
  pub size : length now ≡ length before
  pub parent : up ≡ get_or now i 0
  pub small : up < 4294967296
  pub stands : (ls : List ℕ) → Stands before ls → (label_of ls i ≡ label_of ls start) × Stands now ls

ordered_lower : (p : List ℕ) (i v : ℕ) → Ordered p → v ≤ i → Ordered (set p i v)
ordered_lower p i v o h = record { low = λ j. set_any (λ k x. x ≤ k) p i v j (λ r. h) (o.low j) }

halved : (p ls : List ℕ) (i up far : ℕ) → Stands p ls → up ≡ get_or p i 0 → far ≡ get_or p up 0 → Stands (set p i far) ls
halved p ls i up far s e f =
    let hu = s.ordered.low i in
    let hf = s.ordered.low up in
    let same : label_of ls far ≡ label_of ls i = ap (label_of ls) f ∙ s.up up ∙ ap (label_of ls) e ∙ s.up i in
    record {
      size = s.size ∙ sym (length-set p i far);
      ordered = ordered_lower p i far s.ordered (omega arith);
      up = λ j. set_any (λ k x. label_of ls x ≡ label_of ls k) p i far j (λ r. same) (s.up j);
      top = λ j. set_any (λ k x. x ≡ k → label_of ls k ≡ k) p i far j (λ r q. s.top i (omega arith)) (s.top j);
    }

pub climb_step : (p₀ p q : List ℕ) (start i up far above : ℕ) → Climbing p₀ start p i up → far ≡ get_or p up 0 → q ≡ set p i far → above ≡ get_or q far 0
    → above < 4294967296 → Climbing p₀ start q far above
climb_step p₀ p q start i up far above c f e g h =
    let hu = c.ordered.low i in
    let hf = c.ordered.low up in
    let par = c.parent in
    record {
      ordered = subst Ordered (sym e) (ordered_lower p i far c.ordered (omega arith));
      size = ap length e ∙ length-set p i far ∙ c.size;
      parent = g;
      small = h;
      stands = λ ls s.
          let r = c.stands ls s in
          let t = r.1 in
          (ap (label_of ls) f ∙ t.up up ∙ ap (label_of ls) c.parent ∙ t.up i ∙ r.0, subst (λ l. Stands l ls) (sym e) (halved p ls i up far t c.parent f));
    }

-- JOINING

-- one number that is its own label gets a lower one as its parent
stored : (q ls ms : List ℕ) (hi lo : ℕ) → Stands q ls → lo < hi → label_of ls hi ≡ hi → label_of ls lo ≡ lo → length ms ≡ length ls
    → ((i : ℕ) → label_of ls i ≡ hi → label_of ms i ≡ lo) → ((i : ℕ) → (label_of ls i ≡ hi → ⊥) → label_of ms i ≡ label_of ls i) → Stands (set q hi lo) ms
stored q ls ms hi lo s l own_hi own_lo sized gone stays =
    let inside : hi < length q = ⊎_elim (λ h. omega (arith, s.size)) (λ h. let e = get_or_past ls hi 0 h in absurd (omega arith)) (within ls hi) in
    let same : (i j : ℕ) → label_of ls i ≡ label_of ls j → label_of ms i ≡ label_of ms j =
    λ i j e. elim (ℕ_discrete (label_of ls i) hi) [
      | yes h ↦ gone i h ∙ sym (gone j (sym e ∙ h))
      | no h ↦ stays i h ∙ e ∙ sym (stays j (λ k. h (e ∙ k)))
    ] in
    record {
      size = sized ∙ s.size ∙ sym (length-set q hi lo);
      ordered = ordered_lower q hi lo s.ordered (omega arith);
      up = λ j. set_each (λ k x. label_of ms x ≡ label_of ms k) q hi lo 0 inside
          (stays lo (λ e. absurd (omega arith)) ∙ own_lo ∙ sym (gone hi own_hi)) j (λ n. same (get_or q j 0) j (s.up j));
      top = λ j. set_each (λ k x. x ≡ k → label_of ms k ≡ k) q hi lo 0 inside
          (λ e. absurd (omega arith)) j (λ n e. let t = s.top j e in stays j (λ k. n (sym t ∙ k)) ∙ t);
    }

module _ (g : List ℕ) (a b : ℕ) where
  -- labels after joining, for every number
  joined_gone : (hi lo i : ℕ) → hi ≡ max (label_of g a) (label_of g b) → lo ≡ min (label_of g a) (label_of g b) → lo < hi → label_of g i ≡ hi → label_of (joined g a b) i ≡ lo
  joined_gone hi lo i p q l e =
      ⊎_elim
      (λ h. ⊎_elim (λ w. w.1 ∙ sym q) (λ w. let x = w.0 in let y = w.1 in absurd (omega arith)) (joined_at g a b i h))
      (λ h. let z = get_or_past g i 0 h in absurd (omega arith))
      (within g i)

  joined_stays : (hi lo i : ℕ) → hi ≡ max (label_of g a) (label_of g b) → lo ≡ min (label_of g a) (label_of g b) → (label_of g i ≡ hi → ⊥) → label_of (joined g a b) i ≡ label_of g i
  joined_stays hi lo i p q n =
      ⊎_elim
      (λ h. ⊎_elim (λ w. let v = w.1 in ⊎_elim (λ x. omega arith) (λ x. omega arith) w.0) (λ w. w.2) (joined_at g a b i h))
      (λ h. get_or_past (joined g a b) i 0 (omega (arith, length_joined g a b)) ∙ sym (get_or_past g i 0 h))
      (within g i)

module _ (p m q : List ℕ) (a b ra rb : ℕ) (x : Rooted p m a ra) (y : Rooted m q b rb) where
  size : length q ≡ length p
  size = y.size ∙ x.size

  joined_by : (hi lo : ℕ) (r : List ℕ) → r ≡ set q hi lo → lo < hi → ((hi ≡ ra) × (lo ≡ rb)) ⊎ ((hi ≡ rb) × (lo ≡ ra)) → JoinedIn p r a b
  joined_by hi lo r e l w = record {
    ordered = subst Ordered (sym e) (ordered_lower q hi lo y.ordered (omega arith));
    size = ap length e ∙ length-set q hi lo ∙ size;
    stands = λ ls s.
        let u = x.stands ls s in
        let v = y.stands ls u.1 in
        let ea : ra ≡ label_of ls a = u.0 in
        let eb : rb ≡ label_of ls b = v.0 in
        let top : hi ≡ max (label_of ls a) (label_of ls b) = ⊎_elim (λ k. let i = k.0 in let j = k.1 in omega arith) (λ k. let i = k.0 in let j = k.1 in omega arith) w in
        let low : lo ≡ min (label_of ls a) (label_of ls b) = ⊎_elim (λ k. let i = k.0 in let j = k.1 in omega arith) (λ k. let i = k.0 in let j = k.1 in omega arith) w in
        let own_a : label_of ls ra ≡ ra = ap (label_of ls) ea ∙ label_own s a ∙ sym ea in
        let own_b : label_of ls rb ≡ rb = ap (label_of ls) eb ∙ label_own s b ∙ sym eb in
        let own_hi : label_of ls hi ≡ hi = ⊎_elim (λ k. ap (label_of ls) k.0 ∙ own_a ∙ sym k.0) (λ k. ap (label_of ls) k.0 ∙ own_b ∙ sym k.0) w in
        let own_lo : label_of ls lo ≡ lo = ⊎_elim (λ k. ap (label_of ls) k.1 ∙ own_b ∙ sym k.1) (λ k. ap (label_of ls) k.1 ∙ own_a ∙ sym k.1) w in
        subst (λ t. Stands t (joined ls a b)) (sym e)
        (stored q ls (joined ls a b) hi lo v.1 l own_hi own_lo (length_joined ls a b) (λ i. joined_gone ls a b hi lo i top low l) (λ i. joined_stays ls a b hi lo i top low));
  }

  -- the three ways that two roots may lie
  pub joined_less : (r : List ℕ) → ra < rb → r ≡ set q rb ra → JoinedIn p r a b
  joined_less r l e = joined_by rb ra r e l (inr (refl, refl))

  pub joined_more : (r : List ℕ) → rb < ra → r ≡ set q ra rb → JoinedIn p r a b
  joined_more r l e = joined_by ra rb r e l (inl (refl, refl))

  pub joined_same : ra ≡ rb → JoinedIn p q a b
  joined_same e = record {
    ordered = y.ordered;
    size = size;
    stands = λ ls s.
        let u = x.stands ls s in
        let v = y.stands ls u.1 in
        subst (Stands q) (sym (joined_none ls a b (sym u.0 ∙ e ∙ v.0))) v.1;
  }

  -- two roots that differ were of separate groups, equal ones of one
  pub separate_roots : (ra ≡ rb → ⊥) → SeparateIn p a b true
  separate_roots n ls s =
      let u = x.stands ls s in
      let v = y.stands ls u.1 in
      sym (ap not (ne_eqb (label_of ls a) (label_of ls b) (λ e. n (u.0 ∙ e ∙ sym v.0))))

  pub one_root : ra ≡ rb → SeparateIn p a b false
  one_root e ls s =
      let u = x.stands ls s in
      let v = y.stands ls u.1 in
      sym (ap not (eq-eqb (label_of ls a) (label_of ls b) (sym u.0 ∙ e ∙ v.0)))

-- SETTLING

-- the first i entries are labels, the others are still parents
pub record Settled (before ls now : List ℕ) (i : ℕ) : Type 0 where
  pub labels : (j : ℕ) → j < i → get_or now j 0 ≡ label_of ls j
  pub parents : (j : ℕ) → i ≤ j → get_or now j 0 ≡ get_or before j 0

pub settled_all : (p₀ ls p : List ℕ) (i : ℕ) → Stands p₀ ls → length p ≡ length p₀ → Settled p₀ ls p i → length p₀ ≤ i → p ≡ ls
settled_all p₀ ls p i s e h l = ext_get_or 0 p ls (e ∙ sym s.size) (λ j k. h.labels j (omega arith))

-- EACH LABEL BY ITS ROOT

-- the first i of n labels are stored
pub record Labelling (before : List ℕ) (n i : ℕ) (parents labels : List ℕ) : Type 0 where
  pub ordered : Ordered parents
  pub size : length labels ≡ n
  pub stands : (ls : List ℕ) → Stands before ls → Stands parents ls × ((j : ℕ) → j < i → get_or labels j 0 ≡ label_of ls j)

pub labelling_end : (p₀ : List ℕ) (n i : ℕ) (p labels ls : List ℕ) → Labelling p₀ n i p labels → n ≤ i → Stands p₀ ls → labels ≡ map (label_of ls) (below n)
labelling_end p₀ n i p labels ls l h s =
    ext_get_or 0 labels (map (label_of ls) (below n)) (l.size ∙ sym (length_table (label_of ls) n))
    (λ j m. (l.stands ls s).1 j (omega (arith, l.size)) ∙ sym (get_or_table (label_of ls) n j 0 (omega (arith, l.size))))
