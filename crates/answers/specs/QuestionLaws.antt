-- Laws of questions: equal by kind and key, and the question of a record that is a right answer.
use denote.Enum.Bare.{sameb, same_true, true_same}
use Rattle.std.specs.Prelude.{ℕ, zero, suc, ◌<◌, ◌≡◌, refl, List, [], ◌∷◌, Bool, true, false, ◌&&◌, cond, length, get_or, take, eqb, leb}
use Rattle.std.proofs.Common.{arith, sym, ap, ◌∙◌, ⊎_elim, length-take-le, eqb-true, eq-eqb, true≢false}
use Rattle.lists.specs.Lists.{same}
use Rattle.lists.specs.Tests.{both_ways, and_both, both_and}
use Rattle.lists.specs.SameLists.{same_self, same_is}
use Rattle.rules.specs.declared.Kind.{Kind}
use Rattle.rules.specs.contracts.Kind.{the_type as Kind_type}
use Rattle.rules.specs.Kinds.{number_of}
use Rattle.rules.specs.Questions.{unordered}
use Rattle.rules.proofs.KindLaws.{one_kind}
use Rattle.answers.specs.declared.Question.{Question}
use Rattle.answers.specs.Question.{key_of, Padded, Shaped, about_none, about_one, about_two, about_either, about_four, one_question}

-- EQUAL QUESTIONS

module _ (b c d : ℕ) where
  first : (w a : ℕ) → (w < 1 → a ≡ 0) → a ≡ get_or (take w (a ∷ b ∷ c ∷ d ∷ [])) 0 0
  first zero a h = h (omega arith)
  first (suc w) a h = refl

  second : (w a : ℕ) → (w < 2 → b ≡ 0) → b ≡ get_or (take w (a ∷ b ∷ c ∷ d ∷ [])) 1 0
  second zero a h = h (omega arith)
  second (suc zero) a h = h (omega arith)
  second (suc (suc w)) a h = refl

  third : (w a : ℕ) → (w < 3 → c ≡ 0) → c ≡ get_or (take w (a ∷ b ∷ c ∷ d ∷ [])) 2 0
  third zero a h = h (omega arith)
  third (suc zero) a h = h (omega arith)
  third (suc (suc zero)) a h = h (omega arith)
  third (suc (suc (suc w))) a h = refl

  fourth : (w a : ℕ) → (w < 4 → d ≡ 0) → d ≡ get_or (take w (a ∷ b ∷ c ∷ d ∷ [])) 3 0
  fourth zero a h = h (omega arith)
  fourth (suc zero) a h = h (omega arith)
  fourth (suc (suc zero)) a h = h (omega arith)
  fourth (suc (suc (suc zero))) a h = h (omega arith)
  fourth (suc (suc (suc (suc w)))) a h = refl

-- what a question is, of its kind and key
abbrev from_key : Question → List ℕ → Question
from_key q l = record { kind = q.kind; words = length l; a = get_or l 0 0; b = get_or l 1 0; c = get_or l 2 0; d = get_or l 3 0 }

is_from_key : (q : Question) → Padded q → q ≡ from_key q (key_of q)
is_from_key q p =
    let w : q.words ≡ length (key_of q) = sym (length-take-le q.words (q.a ∷ q.b ∷ q.c ∷ q.d ∷ []) p.words) in
    let e1 = first q.b q.c q.d q.words q.a p.no_a in
    let e2 = second q.b q.c q.d q.words q.a p.no_b in
    let e3 = third q.b q.c q.d q.words q.a p.no_c in
    let e4 = fourth q.b q.c q.d q.words q.a p.no_d in
    λ i. record { kind = q.kind; words = w i; a = e1 i; b = e2 i; c = e3 i; d = e4 i }

-- questions of one kind with one key are equal
pub same_question : (q r : Question) → Padded q → Padded r → q.kind ≡ r.kind → key_of q ≡ key_of r → q ≡ r
same_question q r p s k e =
    is_from_key q p
    ∙ (λ i. record { kind = k i; words = length (e i); a = get_or (e i) 0 0; b = get_or (e i) 1 0; c = get_or (e i) 2 0; d = get_or (e i) 3 0 })
    ∙ sym (is_from_key r s)

pub one_question_lem : (q r : Question) → Padded q → Padded r → one_question q r ≡ true → q ≡ r
one_question_lem q r p s e =
    let w = and_both (eqb (number_of q.kind) (number_of r.kind)) (same (key_of q) (key_of r)) e in
    same_question q r p s (one_kind q.kind r.kind (eqb-true (number_of q.kind) (number_of r.kind) w.0)) (same_is (key_of q) (key_of r) w.1)

pub one_equal : (q r : Question) → q ≡ r → one_question q r ≡ true
one_equal q r e =
    both_and (eqb (number_of q.kind) (number_of r.kind)) (same (key_of q) (key_of r))
    (eq-eqb (number_of q.kind) (number_of r.kind) (ap (λ x. number_of x.kind) e)) (ap (λ x. same (key_of q) (key_of x)) (sym e) ∙ same_self (key_of q))

one_differ : (q r : Question) → Padded q → Padded r → (q ≡ r → ⊥) → one_question q r ≡ false
one_differ q r p s n = ⊎_elim (λ t. absurd (n (one_question_lem q r p s t))) (λ f. f) (both_ways (one_question q r))

-- `==` of questions, field by field
abbrev pub equal : Question → Question → Bool
equal q r = sameb Kind_type q.kind r.kind && (eqb q.words r.words && (eqb q.a r.a && (eqb q.b r.b && (eqb q.c r.c && eqb q.d r.d))))

equal_is : (q r : Question) → equal q r ≡ true → q ≡ r
equal_is q r e =
    let k = and_both (sameb Kind_type q.kind r.kind) _ e in
    let w = and_both (eqb q.words r.words) _ k.1 in
    let x = and_both (eqb q.a r.a) _ w.1 in
    let y = and_both (eqb q.b r.b) _ x.1 in
    let z = and_both (eqb q.c r.c) (eqb q.d r.d) y.1 in
    λ i. record {
      kind = same_true Kind_type tt q.kind r.kind k.0 i;
      words = eqb-true q.words r.words w.0 i;
      a = eqb-true q.a r.a x.0 i;
      b = eqb-true q.b r.b y.0 i;
      c = eqb-true q.c r.c z.0 i;
      d = eqb-true q.d r.d z.1 i;
    }

equal_self : (q r : Question) → q ≡ r → equal q r ≡ true
equal_self q r e =
    let self : equal q q ≡ true = rw (true_same Kind_type q.kind q.kind refl, eq-eqb q.words q.words refl, eq-eqb q.a q.a refl, eq-eqb q.b q.b refl, eq-eqb q.c q.c refl, eq-eqb q.d q.d refl) in
    ap (equal q) (sym e) ∙ self

-- it is the test of the definitions
pub equal_one : (q r : Question) → Padded q → Padded r → equal q r ≡ one_question q r
equal_one q r p s =
    ⊎_elim
    (λ t. t ∙ sym (one_equal q r (equal_is q r t)))
    (λ f. f ∙ sym (one_differ q r p s (λ e. true≢false (sym (equal_self q r e) ∙ f))))
    (both_ways (equal q r))

-- ABOUT ONE, TWO, FOUR NUMBERS

pub padded_none : (k : Kind) → Padded (about_none k)
padded_none k = record { words = omega arith; no_a = λ h. refl; no_b = λ h. refl; no_c = λ h. refl; no_d = λ h. refl }

pub padded_one : (k : Kind) (a : ℕ) → Padded (about_one k a)
padded_one k a = record { words = omega arith; no_a = λ h. absurd (omega arith); no_b = λ h. refl; no_c = λ h. refl; no_d = λ h. refl }

pub padded_two : (k : Kind) (a b : ℕ) → Padded (about_two k a b)
padded_two k a b = record { words = omega arith; no_a = λ h. absurd (omega arith); no_b = λ h. absurd (omega arith); no_c = λ h. refl; no_d = λ h. refl }

pub padded_four : (k : Kind) (a b c d : ℕ) → Padded (about_four k a b c d)
padded_four k a b c d = record {
  words = omega arith;
  no_a = λ h. absurd (omega arith);
  no_b = λ h. absurd (omega arith);
  no_c = λ h. absurd (omega arith);
  no_d = λ h. absurd (omega arith);
}

-- what holds of both questions holds of the one chosen
either : (P : Question → Type 0) (t : Bool) (q r : Question) → P q → P r → P (cond t q r)
either P true q r p s = p
either P false q r p s = s

pub shaped_none : (k : Kind) → Shaped (about_none k)
shaped_none k = record { a = omega arith; b = omega arith; c = omega arith; d = omega arith; padded = padded_none k }

pub shaped_one : (k : Kind) (a : ℕ) → a < 4294967296 → Shaped (about_one k a)
shaped_one k a ha = record { a = ha; b = omega arith; c = omega arith; d = omega arith; padded = padded_one k a }

pub shaped_two : (k : Kind) (a b : ℕ) → a < 4294967296 → b < 4294967296 → Shaped (about_two k a b)
shaped_two k a b ha hb = record { a = ha; b = hb; c = omega arith; d = omega arith; padded = padded_two k a b }

pub shaped_either : (k : Kind) (a b : ℕ) → a < 4294967296 → b < 4294967296 → Shaped (about_either k a b)
shaped_either k a b ha hb = either Shaped (leb a b) (about_two k a b) (about_two k b a) (shaped_two k a b ha hb) (shaped_two k b a hb ha)

pub shaped_four : (k : Kind) (a b c d : ℕ) → a < 4294967296 → b < 4294967296 → c < 4294967296 → d < 4294967296 → Shaped (about_four k a b c d)
shaped_four k a b c d ha hb hc hd = record { a = ha; b = hb; c = hc; d = hd; padded = padded_four k a b c d }

pub ruleset shaped = (shaped_none, shaped_one, shaped_two, shaped_either, shaped_four)

pub padded_either : (k : Kind) (a b : ℕ) → Padded (about_either k a b)
padded_either k a b = either Padded (leb a b) (about_two k a b) (about_two k b a) (padded_two k a b) (padded_two k b a)

pub either_kind : (k : Kind) (a b : ℕ) → (about_either k a b).kind ≡ k
either_kind k a b = either (λ q. q.kind ≡ k) (leb a b) (about_two k a b) (about_two k b a) refl refl

pub either_words : (k : Kind) (a b : ℕ) → (about_either k a b).words ≡ 2
either_words k a b = either (λ q. q.words ≡ 2) (leb a b) (about_two k a b) (about_two k b a) refl refl

-- the key of a question without order
pub either_key : (k : Kind) (a b : ℕ) → key_of (about_either k a b) ≡ unordered a b
either_key k a b = go (leb a b)
  where
    go : (t : Bool) → key_of (cond t (about_two k a b) (about_two k b a)) ≡ cond t (a ∷ b ∷ []) (b ∷ a ∷ [])
    go true = refl
    go false = refl
