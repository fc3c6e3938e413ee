-- Stretches: the members of a list from a place to another, and what a list with one stretch rewritten has.
use Rattle.std.specs.Prelude.{◌≡◌, List, ◌++◌, map, ℕ, ◌+◌, ◌-◌, ◌≤◌, ◌<◌, length, get_or, set, take, drop}
use Rattle.std.proofs.Common.{sym, ap, ◌∙◌, arith, length-append, length-take, length-drop, take-append-drop, take_at, drop_at, length-take-le, get_or-take, get_or-drop}
use Rattle.std.proofs.lemmas.List.{take-append-le, drop-append-le, take-map, drop-map}
use borrow.Rule.Slice.PartMut.{post_of, put_mid, set_mid_at}

-- the members from place a up to place e
abbrev pub stretch : {A : Type 0} → List A → ℕ → ℕ → List A
stretch l a e = take (e - a) (drop a l)

pub length_stretch : {A : Type 0} (l : List A) (a e : ℕ) → e ≤ length l → length (stretch l a e) ≡ e - a
length_stretch l a e h = length-take (e - a) (drop a l) ∙ simp length-drop (omega arith)

pub get_or_stretch : {A : Type 0} (l : List A) (a e i : ℕ) (d : A) → i < e - a → get_or (stretch l a e) i d ≡ get_or l (a + i) d
get_or_stretch l a e i d h = get_or-take (e - a) (drop a l) i d h ∙ get_or-drop a l i d

-- a stretch of the images
pub stretch_map : {A B : Type 0} (f : A → B) (l : List A) (a e : ℕ) → stretch (map f l) a e ≡ map f (stretch l a e)
stretch_map f l a e = ap (take (e - a)) (drop-map f a l) ∙ take-map f (e - a) (drop a l)

-- what is read in a stretch, by its place in the list
pub part_get : {A : Type 0} (l : List A) (a e p : ℕ) (d : A) → a ≤ p → p < e → get_or (stretch l a e) (p - a) d ≡ get_or l p d
part_get l a e p d low high = let z : a + (p - a) ≡ p = omega arith in get_or_stretch l a e (p - a) d (omega arith) ∙ ap (λ i. get_or l i d) z

-- ONE STRETCH REWRITTEN

-- a store in a lent stretch is a store in the list
pub part_set : {A : Type 0} (l part : List A) (a e p : ℕ) (x : A) → a ≤ p → p < e → e ≤ length l → part ≡ set (stretch l a e) (p - a) x → put_mid a (e - a) l part ≡ set l p x
part_set l part a e p x low high inside h =
    let z : a + (p - a) ≡ p = omega arith in
    ap (put_mid a (e - a) l) h ∙ set_mid_at a (e - a) (p - a) l x (omega (arith, length_stretch l a e inside)) ∙ ap (λ i. set l i x) z

-- a stretch within the first part of a list
stretch_front : {A : Type 0} (f r : List A) (b g : ℕ) → b ≤ g → g ≤ length f → stretch (f ++ r) b g ≡ stretch f b g
stretch_front f r b g o h = ap (take (g - b)) (drop-append-le b f r (omega arith)) ∙ take-append-le (g - b) (drop b f) r (simp length-drop (omega arith))

module _ {A : Type 0} (a e : ℕ) (l r : List A) (order : a ≤ e) (inside : e ≤ length l) (size : length r ≡ e - a) where
  -- a part that came back is there to be lent again
  pub own_part : stretch (put_mid a (e - a) l r) a e ≡ r
  own_part = ap (take (e - a)) (drop_at (take a l) (r ++ post_of a (e - a) l) a (length-take-le a l (omega arith))) ∙ take_at r (post_of a (e - a) l) (e - a) size

  pub length_put : length (put_mid a (e - a) l r) ≡ length l
  length_put =
      omega
      (arith, length-append (take a l) (r ++ post_of a (e - a) l), length-append r (post_of a (e - a) l), length-take-le a l (omega arith), length-drop (e - a) (drop a l), length-drop a l)

  -- what lies before the part
  pub before_part : (b g : ℕ) → b ≤ g → g ≤ a → stretch (put_mid a (e - a) l r) b g ≡ stretch l b g
  before_part b g o h =
      let n : length (take a l) ≡ a = length-take-le a l (omega arith) in
      stretch_front (take a l) (r ++ post_of a (e - a) l) b g o (omega arith)
      ∙ sym (ap (λ z. stretch z b g) (sym (take-append-drop a l)) ∙ stretch_front (take a l) (drop a l) b g o (omega arith))
