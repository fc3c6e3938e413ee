-- Kinds by number.
use Rattle.std.specs.Prelude.{ℕ, zero, suc, ◌≡◌, refl}
use Rattle.std.proofs.Common.{sym, ap, ◌∙◌}
use Rattle.rules.specs.declared.Kind.{Kind}
use Rattle.rules.specs.declared.Kind.TheVariants.{Unknown, Head, Vertex, EdgeRecord, FaceRecord, LoopRecord, VertexLoop, Radial, Surface, Points, Curves, Singular, Orientation, Inside}
use Rattle.rules.specs.Kinds.{kind_of, number_of}

-- the kind of a kind's number
kind_is : (k : Kind) → kind_of (number_of k) ≡ k
unfolding kind_of number_of
kind_is Unknown = refl
kind_is Head = refl
kind_is Vertex = refl
kind_is EdgeRecord = refl
kind_is FaceRecord = refl
kind_is LoopRecord = refl
kind_is VertexLoop = refl
kind_is Radial = refl
kind_is Surface = refl
kind_is Points = refl
kind_is Curves = refl
kind_is Singular = refl
kind_is Orientation = refl
kind_is Inside = refl

-- so kinds are told apart by their numbers
pub one_kind : (k l : Kind) → number_of k ≡ number_of l → k ≡ l
one_kind k l e = sym (kind_is k) ∙ ap kind_of e ∙ kind_is l

-- a number that is none of 1 to 13 is no kind
pub no_kind : (k : ℕ) → (k ≡ 1 → ⊥) → (k ≡ 2 → ⊥) → (k ≡ 3 → ⊥) → (k ≡ 4 → ⊥) → (k ≡ 5 → ⊥) → (k ≡ 6 → ⊥) → (k ≡ 7 → ⊥) → (k ≡ 8 → ⊥) → (k ≡ 9 → ⊥)
    → (k ≡ 10 → ⊥) → (k ≡ 11 → ⊥) → (k ≡ 12 → ⊥) → (k ≡ 13 → ⊥) → kind_of k ≡ Unknown
unfolding kind_of
no_kind zero a b c d e f g h i j l m n = refl
no_kind (suc zero) a b c d e f g h i j l m n = absurd (a refl)
no_kind (suc (suc zero)) a b c d e f g h i j l m n = absurd (b refl)
no_kind (suc (suc (suc zero))) a b c d e f g h i j l m n = absurd (c refl)
no_kind (suc (suc (suc (suc zero)))) a b c d e f g h i j l m n = absurd (d refl)
no_kind (suc (suc (suc (suc (suc zero))))) a b c d e f g h i j l m n = absurd (e refl)
no_kind (suc (suc (suc (suc (suc (suc zero)))))) a b c d e f g h i j l m n = absurd (f refl)
no_kind (suc (suc (suc (suc (suc (suc (suc zero))))))) a b c d e f g h i j l m n = absurd (g refl)
no_kind (suc (suc (suc (suc (suc (suc (suc (suc zero)))))))) a b c d e f g h i j l m n = absurd (h refl)
no_kind (suc (suc (suc (suc (suc (suc (suc (suc (suc zero))))))))) a b c d e f g h i j l m n = absurd (i refl)
no_kind (suc (suc (suc (suc (suc (suc (suc (suc (suc (suc zero)))))))))) a b c d e f g h i j l m n = absurd (j refl)
no_kind (suc (suc (suc (suc (suc (suc (suc (suc (suc (suc (suc zero))))))))))) a b c d e f g h i j l m n = absurd (l refl)
no_kind (suc (suc (suc (suc (suc (suc (suc (suc (suc (suc (suc (suc zero)))))))))))) a b c d e f g h i j l m n = absurd (m refl)
no_kind (suc (suc (suc (suc (suc (suc (suc (suc (suc (suc (suc (suc (suc zero))))))))))))) a b c d e f g h i j l m n = absurd (n refl)
no_kind (suc (suc (suc (suc (suc (suc (suc (suc (suc (suc (suc (suc (suc (suc k)))))))))))))) a b c d e f g h i j l m n = refl
